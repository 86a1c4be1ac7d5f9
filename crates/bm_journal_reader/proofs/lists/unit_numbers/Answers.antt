use Rattle.std.proofs.Common.{◌^◌, Some, sym, ap, ◌∙◌}
use Rattle.bm_law_text.specs.Parts.{numbers}
use Rattle.bm_journal_reader.proofs.NumbersRead.{numbers-more, numbers-none}
use Rattle.bm_journal_reader.proofs.lists.unit_numbers.Goals as goal

pub loop-word-init : goal.loop-word-init
unfolding numbers
loop-word-init c = ap Some (sym c.new-units.ensures.items)

pub returns-in_default : goal.returns-in_default
returns-in_default c = numbers-none (2 ^ 16) c.args.words.now c.loop-word.word-index _ c.loop-word-test.true (sym c.short.ensures ∙ c.in_default.is)

pub loop-word-preserved : goal.loop-word-preserved
loop-word-preserved c =
    numbers-more (2 ^ 16) c.args.words.now c.loop-word.word-index _ c.loop-word.units.items c.in-Some.unit c.loop-word-test.true c.loop-word.invariant (sym c.short.ensures ∙ c.in-Some.is)
    ∙ ap Some (sym c.in_ok-push.ensures.items)
