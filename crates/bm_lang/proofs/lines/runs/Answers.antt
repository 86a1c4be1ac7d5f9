use Rattle.std.proofs.Common.{false, [], ◌∷◌, refl, arith}
use Rattle.std.specs.Prelude.{map}
use Rattle.std.proofs.lemmas.List.{append-nil}
use Rattle.std.specs.List.{flat_map}
use Rattle.bm_lang.specs.declared.keyword.Keyword.TheVariants as word
use Rattle.bm_lang.specs.Tokens as token
use Rattle.bm_lang.specs.Grammar.{Runs, Processor, ScriptOf, is_word}
use Rattle.bm_lang.specs.Spelling.{on, script_form, spell_run}
use Rattle.bm_lang.specs.Fine.{FineRun}
use Rattle.bm_lang.proofs.Pushes.{flat_map-push, All-push}
use Rattle.bm_lang.proofs.Steps.{failed, fails_front, fails_shift, fails_going, as_read, more, going, absent, may_passed, read_shift, read_nothing, shorter}
use Rattle.bm_lang.proofs.lines.runs.Goals as goal

pub returns-in_err-run : goal.returns-in_err-run
returns-in_err-run c = λ types maps. failed _ _ _ _ _ _ _ _ _ c.from_residual.ensures.1 (fails_going _ (c.loop-place.invariant types maps) (fails_shift _ _ _ _ _ _ Runs (Processor ∷ ScriptOf false ∷ Runs ∷ []) [] c.in-Some.ensures refl (fails_front _ _ (Processor ∷ ScriptOf false ∷ []) (Runs ∷ []) _ (c.in_err-run.ensures.read types maps))))

pub loop-place-smaller : goal.loop-place-smaller
loop-place-smaller c = shorter _ _ _ _ _ _ _ _ _ _ c.in-Some.ensures (c.in_ok-run.ensures.read [] [])

pub loop-place-preserved : goal.loop-place-preserved
loop-place-preserved c = λ types maps. rw (c.in_ok-push.ensures.items, flat_map-push) (going (c.loop-place.invariant types maps) (read_shift _ _ _ Runs (Processor ∷ ScriptOf false ∷ Runs ∷ []) [] (Runs ∷ []) _ (on c.in_ok-run.run'.line (token.Reserved word.Run)) _ _ _ _ _ _ c.in-Some.ensures refl refl c.in_ok-run.ensures.begun (more (Runs ∷ []) (c.in_ok-run.ensures.read types maps)) (λ u. u)) (λ f u. All-push (FineRun c.args.processors (map script_form c.args.scripts.items.now)) c.loop-place.runs.items c.in_ok-run.run' f u))

pub loop-place-init : goal.loop-place-init
loop-place-init c = λ types maps. rw c.new-runs.ensures.items (as_read (read_nothing _ _ _ _ refl) refl (λ u k d lt. absurd (omega arith)))

pub returns : goal.returns
returns c = λ types maps. as_read (going (c.loop-place.invariant types maps) (absent _ Runs (is_word word.Run) _ _ (λ t h. may_passed _ _ h) c.in_default.ensures) (λ f u. f)) (append-nil (flat_map (spell_run (map script_form c.args.scripts.items.now)) c.loop-place.runs.items)) (λ f. f)
