use Rattle.bm_run.specs.Closers.{told_log}
use Rattle.bm_run.proofs.closers.ClosersCrew.step.Given as goal

abbrev pub ghosts-step_own : goal.ghosts-step_own
ghosts-step_own a = record { since = told_log a.kept.caches.recorder.told; start = a.side }
