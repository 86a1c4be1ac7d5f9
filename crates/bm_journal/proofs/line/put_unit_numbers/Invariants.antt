use Rattle.std.proofs.Common.{◌≡◌, ◌++◌, drop}
use Rattle.bm_journal.specs.Line.{spaced}
use Rattle.bm_journal.specs.EntryText.{numbers}
use Rattle.bm_journal.proofs.line.put_unit_numbers.Given as goal

-- what stands there and what is still to come
abbrev pub invariant-loop-unit : goal.invariant-loop-unit
invariant-loop-unit l = l.out.items ++ spaced (numbers (drop l.unit-index l.units)) ≡ l.fn.out.items ++ spaced (numbers l.units)
