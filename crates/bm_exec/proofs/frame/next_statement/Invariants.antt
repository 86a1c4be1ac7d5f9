use Rattle.std.proofs.Common.{◌≤◌, reverse}
use Rattle.arrayvec.specs.ArrayVec.{array_vec_len}
use Rattle.bm_exec.specs.Steps.{weight, Passed}
use Rattle.bm_exec.proofs.frame.next_statement.Given as goal

abbrev pub invariant-loop-top : goal.invariant-loop-top
invariant-loop-top l = record {
  passed : Passed (reverse l.initial.blocks.items) (reverse l.blocks.items);
  fits : array_vec_len l.blocks ≤ 16;
}

abbrev pub decreases-loop-top : goal.decreases-loop-top
decreases-loop-top l = weight (reverse l.blocks.items)
