use Rattle.std.proofs.Common.{◌≡◌, ◌≤◌, None, replicate, vec_len, vec_capacity}
use Rattle.bm_world.proofs.slots.Slots.new.Given as goal

abbrev pub invariant-loop-place : goal.invariant-loop-place
invariant-loop-place l = record { slots : l.slots.items ≡ replicate l._place None; number : vec_len l.slots ≡ l._place; room : 65536 ≤ vec_capacity l.slots }
