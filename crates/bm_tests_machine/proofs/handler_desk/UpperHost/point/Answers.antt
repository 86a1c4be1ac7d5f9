use Rattle.bm_cache.proofs.Moments.{came-none}
use Rattle.bm_tests_machine.proofs.handler_desk.UpperHost.point.Goals as goal

pub returns-clause-came : goal.returns-clause-came
returns-clause-came g c = came-none g.R.Recorder.log _ _ _
