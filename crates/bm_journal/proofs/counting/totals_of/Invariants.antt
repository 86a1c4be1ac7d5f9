use Rattle.std.proofs.Common.{◌≡◌, drop, replicate}
use Rattle.bm_journal.specs.Counting.{adds_logs}
use Rattle.bm_journal.proofs.counting.totals_of.Given as goal

-- what is counted so far, and then the other logs
abbrev pub invariant-loop-log : goal.invariant-loop-log
invariant-loop-log l = adds_logs (drop l.log-index l.log-items) l.counters.values ≡ adds_logs l.log-items (replicate 19 0)
