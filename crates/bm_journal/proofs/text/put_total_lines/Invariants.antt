use Rattle.std.proofs.Common.{◌≡◌, ◌++◌, drop}
use Rattle.bm_journal.specs.JournalText.{total_lines}
use Rattle.bm_journal.proofs.text.put_total_lines.Given as goal

-- what stands there and what is still to come
abbrev pub invariant-loop-place : goal.invariant-loop-place
invariant-loop-place l = l.out.items ++ total_lines (drop l.place l.totals) (drop l.place l.values) ≡ l.fn.out.items ++ total_lines l.totals l.values
