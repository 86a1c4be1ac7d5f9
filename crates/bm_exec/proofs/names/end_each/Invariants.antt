use Rattle.std.proofs.Common.{◌≡◌, ◌<◌, ◌≤◌, ℕ, get_or}
use Rattle.bm_exec.specs.Softened.{without_soft}
use Rattle.bm_exec.specs.declared.holding.Holding.TheVariants.{Nothing}
use Rattle.bm_exec.proofs.names.end_each.Given as goal

abbrev pub invariant-loop-holding : goal.invariant-loop-holding
invariant-loop-holding l = record {
  done : (k : ℕ) → k < l.holding-index → get_or l.holdings k Nothing ≡ without_soft (get_or l.initial.holdings k Nothing);
  left : (k : ℕ) → l.holding-index ≤ k → get_or l.holdings k Nothing ≡ get_or l.initial.holdings k Nothing;
}
