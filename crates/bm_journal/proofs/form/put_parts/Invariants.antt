use Rattle.std.proofs.Common.{◌≡◌, ◌++◌, drop}
use Rattle.bm_journal.specs.Line.{spaced}
use Rattle.bm_journal.specs.Form.{parts_words}
use Rattle.bm_journal.proofs.form.put_parts.Given as goal

-- what stands there and what is still to come
abbrev pub invariant-loop-part : goal.invariant-loop-part
invariant-loop-part l = l.out.items ++ spaced (parts_words (drop l.part-index l.parts)) ≡ l.fn.out.items ++ spaced (parts_words l.parts)
