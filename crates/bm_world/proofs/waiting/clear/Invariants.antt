use Rattle.std.proofs.Common.{◌≡◌, ◌-◌, drop, length, vec_len}
use Rattle.bm_post.specs.Rights.{numbers}
use Rattle.bm_world.specs.WaitingState.{cleared}
use Rattle.bm_world.proofs.waiting.clear.Given as goal

abbrev pub invariant-loop-place : goal.invariant-loop-place
invariant-loop-place l = record {
  size : length l.waits.items ≡ 65536;
  so_far : cleared (numbers l.units.items) l.initial.waits.items ≡ cleared (numbers (drop l.place l.units.items)) l.waits.items;
}

abbrev pub decreases-loop-place : goal.decreases-loop-place
decreases-loop-place l = vec_len l.units - l.place
