use Rattle.std.proofs.Common.{[], ◌∷◌, refl}
use Rattle.bm_lang.specs.declared.keyword.Keyword.TheVariants as word
use Rattle.bm_lang.specs.Known.{knowing}
use Rattle.bm_lang.specs.Grammar.{OpenBrace, Turns, TurnNumbers, CloseBrace, is_word}
use Rattle.bm_lang.specs.Spelling.{reserved}
use Rattle.bm_lang.proofs.Steps.{failed, fails_first, fails_shift, fails_behind, both, absent, may_passed, read_shift}
use Rattle.bm_lang.proofs.lines.turns.Goals as goal

pub returns-in_err-open-in-Some : goal.returns-in_err-open-in-Some
returns-in_err-open-in-Some c = λ types maps scripts. failed _ _ _ _ _ _ _ _ _ c.from_residual.ensures.1 (fails_shift _ _ _ _ (knowing c.args.processors types maps scripts) _ Turns (OpenBrace ∷ TurnNumbers ∷ CloseBrace ∷ []) [] c.in-Some.ensures refl (fails_first _ _ _ _ _ (c.in_err-open-in-Some.ensures _)))

pub returns-in_err-turns-in-Some : goal.returns-in_err-turns-in-Some
returns-in_err-turns-in-Some c = λ types maps scripts. failed _ _ _ _ _ _ _ _ _ c.from_residual-in_err-turns-in-Some.ensures.1 (fails_shift _ _ _ _ (knowing c.args.processors types maps scripts) _ Turns (OpenBrace ∷ TurnNumbers ∷ CloseBrace ∷ []) [] c.in-Some.ensures refl (fails_behind _ _ (c.in_ok-open-in-Some.ensures _) (fails_first _ _ _ _ _ (c.in_err-turns-in-Some.ensures types maps scripts))))

pub returns-in_err-close-in-Some : goal.returns-in_err-close-in-Some
returns-in_err-close-in-Some c = λ types maps scripts. failed _ _ _ _ _ _ _ _ _ c.from_residual-in_err-close-in-Some.ensures.1 (fails_shift _ _ _ _ (knowing c.args.processors types maps scripts) _ Turns (OpenBrace ∷ TurnNumbers ∷ CloseBrace ∷ []) [] c.in-Some.ensures refl (fails_behind _ _ (c.in_ok-open-in-Some.ensures _) (fails_behind _ _ (c.in_ok-turns-in-Some.ensures types maps scripts) (c.in_err-close-in-Some.ensures _))))

pub returns-in_ok-close-in-Some : goal.returns-in_ok-close-in-Some
returns-in_ok-close-in-Some c = λ types maps scripts. rw c.new.ensures (read_shift (knowing c.args.processors types maps scripts) _ _ Turns (OpenBrace ∷ TurnNumbers ∷ CloseBrace ∷ []) [] [] _ (reserved word.Turns) _ _ _ _ _ _ c.in-Some.ensures refl refl tt (both (c.in_ok-open-in-Some.ensures _) (both (c.in_ok-turns-in-Some.ensures types maps scripts) (c.in_ok-close-in-Some.ensures _))) (λ u. u.1.0))

pub returns-in-None : goal.returns-in-None
returns-in-None c = λ types maps scripts. absent _ Turns (is_word word.Turns) _ _ (λ t h. may_passed _ _ h) c.in-None.ensures
