use Rattle.std.proofs.Common.{◌∙◌, ◌+◌, ◌++◌, ap, drop}
use Rattle.bm_journal.specs.Line.{spaced}
use Rattle.bm_journal.specs.Form.{parts_words}
use Rattle.bm_journal.proofs.Printing.{next_part}
use Rattle.bm_journal.proofs.form.put_parts.Goals as goal

pub loop-part-preserved : goal.loop-part-preserved
loop-part-preserved c =
    ap (λ l. l ++ spaced (parts_words (drop (c.loop-part.part-index + 1) c.args.parts.now))) c.in_ok-put_part.ensures
    ∙ next_part c.loop-part.out.items _ c.args.parts.now c.loop-part.part-index c.part-item.result c.loop-part-test.true c.part-item.is c.loop-part.invariant
