use Rattle.std.proofs.Common.{arith, sym}
use Rattle.std.proofs.lemmas.Bool.{ltb-true, ltb-false}
use Rattle.bm_journal_reader.proofs.Shapes.{found_other}
use Rattle.bm_journal_reader.proofs.named.found.Goals.{in_default-via-then-words-lt4, in_default-via-else-words-lt4+else-words-lt5+else-words-lt6}
use Rattle.bm_journal_reader.proofs.named.found.Goals as goal

pub returns-in_default : goal.returns-in_default
returns-in_default c =
    sym (elim c.in_default.branch [
      | in_default-via-then-words-lt4 w ↦ found_other c.args.kind c.args.words.now (λ e. omega (arith, ltb-true)) (λ e. omega (arith, ltb-true))
      | in_default-via-else-words-lt4+else-words-lt5+else-words-lt6 w ↦ found_other c.args.kind c.args.words.now (λ e. omega (arith, ltb-false)) (λ e. omega (arith, ltb-false))
    ])
