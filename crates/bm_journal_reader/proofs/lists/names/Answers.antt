use Rattle.std.proofs.Common.{Some, sym, ap, ◌∙◌, arith}
use Rattle.bm_law_text.specs.Parts.{name, names}
use Rattle.bm_journal_reader.proofs.NumbersRead.{each-more, each-none, each-all}
use Rattle.bm_journal_reader.proofs.lists.names.Goals as goal

pub loop-word-init : goal.loop-word-init
unfolding names
loop-word-init c = ap Some (sym c.new-names.ensures.items)

pub returns-in_default : goal.returns-in_default
unfolding names
returns-in_default c = each-none name c.args.words.now c.loop-word.word-index _ c.loop-word-test.true (sym c.name.ensures ∙ c.in_default.is)

pub loop-word-preserved : goal.loop-word-preserved
unfolding names
loop-word-preserved c =
    each-more name c.args.words.now c.loop-word.word-index _ c.loop-word.names.items c.in-Some.name c.loop-word-test.true c.loop-word.invariant (sym c.name.ensures ∙ c.in-Some.is)
    ∙ ap Some (sym c.in_ok-push.ensures.items)

pub returns : goal.returns
unfolding names
returns c = each-all name c.args.words.now c.loop-word.word-index c.loop-word.names.items (omega arith) c.loop-word.invariant
