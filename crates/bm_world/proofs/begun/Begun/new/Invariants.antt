use Rattle.std.proofs.Common.{◌≡◌, ◌≤◌, replicate, vec_len, vec_capacity}
use Rattle.bm_world.proofs.begun.Begun.new.Given as goal

abbrev pub invariant-loop-place : goal.invariant-loop-place
invariant-loop-place l = record { counts : l.counts.items ≡ replicate l._place 0; number : vec_len l.counts ≡ l._place; room : 65536 ≤ vec_capacity l.counts }
