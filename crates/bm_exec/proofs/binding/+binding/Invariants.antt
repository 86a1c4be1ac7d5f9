use Rattle.std.proofs.Common.{◌≡◌, ℕ, List, true, take}
use Rattle.bm_exec.specs.Seen.{names_of, has_name}
use Rattle.bm_exec.proofs.Bound.{binds_list}
use Rattle.bm_exec.proofs.binding.+binding.Given as goal

abbrev pub invariant-add_block-loop-statement : goal.invariant-add_block-loop-statement
invariant-add_block-loop-statement l = record {
  bound : binds_list (has_name l.table) (take l.statement-index l.statement-items) ≡ true;
  names : (x : List ℕ) → has_name l.initial.table x ≡ true → has_name l.table x ≡ true;
  held : names_of l.table ≡ names_of l.initial.table;
}
