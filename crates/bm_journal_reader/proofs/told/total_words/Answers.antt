use Rattle.std.proofs.Common.{arith, sym}
use Rattle.std.proofs.lemmas.Bool.{ltb-true, ltb-false}
use Rattle.bm_journal_reader.proofs.Shapes.{total_words_other}
use Rattle.bm_journal_reader.proofs.told.total_words.Goals.{in_default-via-then-words-lt2, in_default-via-else-words-lt2+else-words-lt3}
use Rattle.bm_journal_reader.proofs.told.total_words.Goals as goal

pub returns-in_default : goal.returns-in_default
returns-in_default c =
    sym (total_words_other c.args.words.now (elim c.in_default.branch
    [ in_default-via-then-words-lt2 w ↦ λ e. omega (arith, ltb-true) | in_default-via-else-words-lt2+else-words-lt3 w ↦ λ e. omega (arith, ltb-false) ]))
