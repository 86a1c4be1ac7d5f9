use Rattle.std.proofs.Common.{◌≡◌, ◌≤◌, None, replicate, vec_capacity}
use Rattle.bm_world.proofs.waiting.fill.Given as goal

abbrev pub invariant-loop-number : goal.invariant-loop-number
invariant-loop-number l = record {
  items : l.waits.items ≡ replicate l._number None;
  room : 65536 ≤ vec_capacity l.waits;
}
