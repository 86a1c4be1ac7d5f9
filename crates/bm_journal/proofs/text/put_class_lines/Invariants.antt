use Rattle.std.proofs.Common.{◌≡◌, ◌++◌, drop}
use Rattle.bm_journal.specs.JournalText.{class_lines}
use Rattle.bm_journal.proofs.text.put_class_lines.Given as goal

-- what stands there and what is still to come
abbrev pub invariant-loop-class : goal.invariant-loop-class
invariant-loop-class l = l.out.items ++ class_lines (drop l.class-index l.classes) ≡ l.fn.out.items ++ class_lines l.classes
