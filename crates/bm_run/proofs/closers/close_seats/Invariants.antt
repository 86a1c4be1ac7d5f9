use Rattle.bm_run.specs.Closers.{told_log}
use Rattle.bm_run.proofs.closers.close_seats.Given as goal

abbrev pub ghosts-begin_own : goal.ghosts-begin_own
ghosts-begin_own a = record { since = told_log a.kept.caches.recorder.told; start = a.side }
