use Rattle.bm_exec_levels.specs.Settled.{Settled}
use Rattle.bm_exec_levels.proofs.GoingAfter.{Going, left_on}
use Rattle.bm_exec_levels.proofs.behind.until_down.Given as goal

abbrev pub invariant-loop-class : goal.invariant-loop-class
invariant-loop-class g l = record {
  going : Going g.R.Recorder.log g.H.Host.face g.H.Host.pending g.H.Desk.stays g.H.Host.held (λ h. g.H.W.Knows.known (g.H.Desk.shared h)) l.classes l.initial.host l.host;
  at_rest : Settled g.R.Recorder.log g.R.Recorder.counts g.H.Host.sound g.H.Host.tests g.H.Host.face g.H.Host.held l.host;
}

abbrev pub decreases-loop-class : goal.decreases-loop-class
decreases-loop-class g l = left_on g.H.Host.pending g.H.Host.held l.classes l.host
