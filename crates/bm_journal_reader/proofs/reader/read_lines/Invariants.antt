use Rattle.std.proofs.Common.{◌+◌, ◌≤◌, length}
use Rattle.bm_journal_reader.specs.Faults.{Kept}
use Rattle.bm_journal_reader.proofs.reader.read_lines.Given as goal

abbrev pub invariant-loop-first : goal.invariant-loop-first
invariant-loop-first l = Kept l.bytes l.rest l.line l.draft × (l.line + length l.rest ≤ length l.bytes + 1)

abbrev pub decreases-loop-first : goal.decreases-loop-first
decreases-loop-first l = length l.rest
