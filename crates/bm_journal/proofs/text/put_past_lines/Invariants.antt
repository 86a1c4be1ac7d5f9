use Rattle.std.proofs.Common.{◌≡◌, ◌++◌, drop}
use Rattle.bm_journal.specs.JournalText.{past_lines}
use Rattle.bm_journal.proofs.text.put_past_lines.Given as goal

-- what stands there and what is still to come
abbrev pub invariant-loop-position : goal.invariant-loop-position
invariant-loop-position l = l.out.items ++ past_lines l.maps l.position (drop l.position l.pasts) ≡ l.fn.out.items ++ past_lines l.maps 0 l.pasts
