use Rattle.std.proofs.Common.{take, drop, sym, ap, ◌∙◌, ◌+◌}
use Rattle.bm_journal.specs.WellFormed.{all_differ}
use Rattle.std.specs.List.{list_any}
use Rattle.std.specs.Str.{bytes_eq}
use Rattle.bm_journal_reader.specs.Pieces.{texts}
use Rattle.bm_journal_reader.proofs.OwnersPut.{differ-over, texts-cut, put-no, differ-kept}
use Rattle.bm_journal_reader.proofs.draft.differ.Goals as goal

pub returns-then-not-differs : goal.returns-then-not-differs
returns-then-not-differs c =
    let i = c.loop-word.word-index in
    let ws = c.args.words.now in
    let no = put-no _ _ _ _ c.if-not-differs.true c.in_ok-differs.ensures in
    ap all_differ (texts-cut ws i _ c.loop-word-test.true) ∙ differ-over (texts (take i ws)) (texts (drop (i + 1) ws)) _ (ap (list_any (bytes_eq _)) (sym c.loop-word.invariant.0) ∙ no)

pub loop-word-preserved : goal.loop-word-preserved
loop-word-preserved c = differ-kept c.args.words.now c.loop-word.word-index _ c.loop-word.owners _ c.in_ok-differs.differs c.loop-word-test.true c.loop-word.invariant c.if-not-differs.false c.in_ok-differs.ensures
