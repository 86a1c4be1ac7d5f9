use Rattle.std.proofs.Common.{◌≡◌, ℕ, ◌<◌, get_or}
use Rattle.bm_exec.specs.declared.holding.Holding.TheVariants.{Nothing}
use Rattle.bm_exec.proofs.names.clear_all.Given as goal

abbrev pub invariant-loop-holding : goal.invariant-loop-holding
invariant-loop-holding l = (k : ℕ) → k < l.holding-index → get_or l.holdings k Nothing ≡ Nothing
