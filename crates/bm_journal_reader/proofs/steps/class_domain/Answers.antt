use Rattle.std.proofs.Common.{arith, sym}
use Rattle.std.proofs.lemmas.Bool.{ltb-true, ltb-false}
use Rattle.bm_journal_reader.proofs.Shapes.{class_domain_other}
use Rattle.bm_journal_reader.proofs.steps.class_domain.Goals.{in_default-via-then-words-lt3, in_default-via-else-words-lt3+else-words-lt4}
use Rattle.bm_journal_reader.proofs.steps.class_domain.Goals as goal

pub returns-in_default : goal.returns-in_default
returns-in_default c =
    sym (class_domain_other c.args.kind c.args.words.now (elim c.in_default.branch
    [ in_default-via-then-words-lt3 w ↦ λ e. omega (arith, ltb-true) | in_default-via-else-words-lt3+else-words-lt4 w ↦ λ e. omega (arith, ltb-false) ]))
