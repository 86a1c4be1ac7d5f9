use Rattle.std.proofs.Common.{◌≡◌, ◌++◌, drop}
use Rattle.bm_journal.specs.JournalText.{log_lines}
use Rattle.bm_journal.proofs.text.put_log_lines.Given as goal

-- what stands there and what is still to come
abbrev pub invariant-loop-processor : goal.invariant-loop-processor
invariant-loop-processor l = l.out.items ++ log_lines l.processor (drop l.processor l.logs) ≡ l.fn.out.items ++ log_lines 0 l.logs
