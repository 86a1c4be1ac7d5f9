use Rattle.std.proofs.Common.{rules, refl, []}
use Rattle.bm_lang.specs.Grammar.{Word}
use Rattle.bm_lang.proofs.Steps.{reading, read_shift, read_nothing, word_taken}
use Rattle.bm_lang.proofs.expect.word.Goals as goal

pub returns-in_err-_place : goal.returns-in_err-_place
returns-in_err-_place c = λ names. search (rules, reading)

pub returns : goal.returns
returns c = λ names. read_shift names names names (Word c.args.word) [] [] [] _ _ _ _ _ _ _ _ c.in_ok-_place.ensures (word_taken names c.args.word) refl tt (read_nothing _ _ _ _ refl) (λ f. f)
