use Rattle.std.proofs.Common.{true, [], ◌∷◌, refl, arith}
use Rattle.std.specs.Prelude.{map}
use Rattle.std.proofs.lemmas.List.{append-nil}
use Rattle.std.specs.List.{flat_map}
use Rattle.bm_lang.specs.declared.keyword.Keyword.TheVariants as word
use Rattle.bm_lang.specs.Tokens as token
use Rattle.bm_lang.specs.Grammar.{Ats, Processor, Level, ScriptOf, AnyNumber, is_word}
use Rattle.bm_lang.specs.Spelling.{on, script_form, spell_at}
use Rattle.bm_lang.specs.Fine.{FineAt}
use Rattle.bm_lang.proofs.Pushes.{flat_map-push, All-push}
use Rattle.bm_lang.proofs.Steps.{failed, fails_front, fails_shift, fails_going, as_read, more, going, absent, may_passed, read_shift, read_nothing, shorter}
use Rattle.bm_lang.proofs.lines.ats.Goals as goal

pub returns-in_err-at : goal.returns-in_err-at
returns-in_err-at c = λ types maps. failed _ _ _ _ _ _ _ _ _ c.from_residual.ensures.1 (fails_going _ (c.loop-place.invariant types maps) (fails_shift _ _ _ _ _ _ Ats (Processor ∷ AnyNumber ∷ Level ∷ ScriptOf true ∷ Ats ∷ []) [] c.in-Some.ensures refl (fails_front _ _ (Processor ∷ AnyNumber ∷ Level ∷ ScriptOf true ∷ []) (Ats ∷ []) _ (c.in_err-at.ensures.read types maps))))

pub loop-place-smaller : goal.loop-place-smaller
loop-place-smaller c = shorter _ _ _ _ _ _ _ _ _ _ c.in-Some.ensures (c.in_ok-at.ensures.read [] [])

pub loop-place-preserved : goal.loop-place-preserved
loop-place-preserved c = λ types maps. rw (c.in_ok-push.ensures.items, flat_map-push) (going (c.loop-place.invariant types maps) (read_shift _ _ _ Ats (Processor ∷ AnyNumber ∷ Level ∷ ScriptOf true ∷ Ats ∷ []) [] (Ats ∷ []) _ (on c.in_ok-at.at.line (token.Reserved word.At)) _ _ _ _ _ _ c.in-Some.ensures refl refl c.in_ok-at.ensures.begun (more (Ats ∷ []) (c.in_ok-at.ensures.read types maps)) (λ u. u)) (λ f u. All-push (FineAt c.args.processors (map script_form c.args.scripts.items.now)) c.loop-place.ats.items c.in_ok-at.at f u))

pub loop-place-init : goal.loop-place-init
loop-place-init c = λ types maps. rw c.new-ats.ensures.items (as_read (read_nothing _ _ _ _ refl) refl (λ u k d lt. absurd (omega arith)))

pub returns : goal.returns
returns c = λ types maps. as_read (going (c.loop-place.invariant types maps) (absent _ Ats (is_word word.At) _ _ (λ t h. may_passed _ _ h) c.in_default.ensures) (λ f u. f)) (append-nil (flat_map (spell_at (map script_form c.args.scripts.items.now)) c.loop-place.ats.items)) (λ f. f)
