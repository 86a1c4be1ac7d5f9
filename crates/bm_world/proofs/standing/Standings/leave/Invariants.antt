use Rattle.std.proofs.Common.{◌≡◌, ◌-◌, ◌^◌, drop, length, vec_len}
use Rattle.bm_world.specs.Standings.{left_by}
use Rattle.bm_world.proofs.standing.Standings.leave.Given as goal

abbrev pub invariant-loop-place : goal.invariant-loop-place
invariant-loop-place l = record {
  size : length l.self.standings.items ≡ 2 ^ 16;
  before : l.self.before.items ≡ l.initial.self.before.items;
  so_far : left_by l.units.items l.initial.self.standings.items ≡ left_by (drop l.place l.units.items) l.self.standings.items;
}

abbrev pub decreases-loop-place : goal.decreases-loop-place
decreases-loop-place l = vec_len l.units - l.place
