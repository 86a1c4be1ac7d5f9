use Rattle.std.proofs.Common.{◌≡◌, ℕ, ◌<◌, get_or, false}
use Rattle.bm_check.specs.declared.name_state.NameState.TheVariants.{Unbound}
use Rattle.bm_check.specs.NameStates.{owns}
use Rattle.bm_check.proofs.table.NameTable.owns_some.Given as goal

abbrev pub invariant-loop-state : goal.invariant-loop-state
invariant-loop-state l = (k : ℕ) → k < l.state-index → owns (get_or l.state-items k Unbound) ≡ false
