use Rattle.std.proofs.Common.{◌≡◌, ◌≤◌, [], replicate, vec_capacity}
use Rattle.bm_post.proofs.plain.fill_inboxes.Given as goal

abbrev pub invariant-loop-place : goal.invariant-loop-place
invariant-loop-place l = record {
  items : l.inboxes.items ≡ replicate l._place [];
  room : 88 ≤ vec_capacity l.inboxes;
}
