use Rattle.std.proofs.Common.{◌≡◌, ◌≤◌, replicate, vec_len, vec_capacity}
use Rattle.bm_world.specs.declared.standing.Standing.TheVariants.{Nothing}
use Rattle.bm_world.proofs.standing.nothing.Given as goal

abbrev pub invariant-loop-place : goal.invariant-loop-place
invariant-loop-place l = record { standings : l.standings.items ≡ replicate l._place Nothing; number : vec_len l.standings ≡ l._place; room : 65536 ≤ vec_capacity l.standings }
