use Rattle.std.proofs.Common.{◌≡◌, length}
use Rattle.bm_run.specs.Openings.{AreFilled}
use Rattle.bm_run.proofs.opening.open_each.Given as goal

abbrev pub invariant-loop-processor : goal.invariant-loop-processor
invariant-loop-processor l = record {
  filled : AreFilled l.scenario l.classes l.kept.items l.pool;
  many : length l.kept.items ≡ l.processor;
}
