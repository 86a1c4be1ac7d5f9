use Rattle.std.proofs.Common.{drop}
use Rattle.bm_law_scenario.specs.Works.{WorkEach}
use Rattle.bm_work.specs.Works.{Works}
use Rattle.bm_exec_levels.specs.Settled.{Settled}
use Rattle.bm_exec_levels.proofs.Toward.{Toward}
use Rattle.bm_exec_levels.proofs.once.work_each.Given as goal

abbrev pub invariant-loop-class : goal.invariant-loop-class
invariant-loop-class g l = record {
  works : Works g.R.Recorder.log g.H.Host.face g.H.Host.pending g.H.Desk.stays g.H.Host.held (λ h. g.H.W.Knows.known (g.H.Desk.shared h)) l.class-index l.class-index (λ k. Toward (WorkEach (drop l.class-index l.classes)) (WorkEach l.classes)) l.initial.host l.host;
  at_rest : Settled g.R.Recorder.log g.R.Recorder.counts g.H.Host.sound g.H.Host.tests g.H.Host.face g.H.Host.held l.host;
}
