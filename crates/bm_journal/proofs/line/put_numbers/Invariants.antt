use Rattle.std.proofs.Common.{◌≡◌, ◌++◌, drop}
use Rattle.bm_journal.specs.Line.{spaced}
use Rattle.bm_journal.specs.EntryText.{numbers}
use Rattle.bm_journal.proofs.line.put_numbers.Given as goal

-- what stands there and what is still to come
abbrev pub invariant-loop-item : goal.invariant-loop-item
invariant-loop-item l = l.out.items ++ spaced (numbers (drop l.item-index l.items)) ≡ l.fn.out.items ++ spaced (numbers l.items)
