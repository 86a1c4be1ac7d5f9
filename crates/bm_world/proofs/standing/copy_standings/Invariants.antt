use Rattle.std.proofs.Common.{◌≡◌, ◌-◌, ◌^◌, drop, length, vec_len}
use Rattle.bm_world.specs.Standings.{copied}
use Rattle.bm_world.proofs.standing.copy_standings.Given as goal

abbrev pub invariant-loop-place : goal.invariant-loop-place
invariant-loop-place l = record {
  size : length l.to.items ≡ 2 ^ 16;
  so_far : copied l.units.items l.from.items l.initial.to.items ≡ copied (drop l.place l.units.items) l.from.items l.to.items;
}

abbrev pub decreases-loop-place : goal.decreases-loop-place
decreases-loop-place l = vec_len l.units - l.place
