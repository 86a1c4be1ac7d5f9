use Rattle.std.proofs.Common.{arith, sym}
use Rattle.std.proofs.lemmas.Bool.{ltb-true, ltb-false}
use Rattle.bm_journal_reader.proofs.Shapes.{pushed_other}
use Rattle.bm_journal_reader.proofs.named.pushed.Goals.{in_default-via-then-words-lt5, in_default-via-else-words-lt5+else-words-lt6+then-words-lt7, in_default-via-else-words-lt5+else-words-lt6+else-words-lt7+else-words-lt8}
use Rattle.bm_journal_reader.proofs.named.pushed.Goals as goal

pub returns-in_default : goal.returns-in_default
returns-in_default c =
    sym (elim c.in_default.branch [
      | in_default-via-then-words-lt5 w ↦ pushed_other c.args.kind c.args.words.now (λ e. omega (arith, ltb-true)) (λ e. omega (arith, ltb-true))
      | in_default-via-else-words-lt5+else-words-lt6+then-words-lt7 w ↦ pushed_other c.args.kind c.args.words.now (λ e. omega (arith, ltb-true, ltb-false)) (λ e. omega (arith, ltb-true, ltb-false))
      | in_default-via-else-words-lt5+else-words-lt6+else-words-lt7+else-words-lt8 w ↦ pushed_other c.args.kind c.args.words.now (λ e. omega (arith, ltb-false)) (λ e. omega (arith, ltb-false))
    ])
