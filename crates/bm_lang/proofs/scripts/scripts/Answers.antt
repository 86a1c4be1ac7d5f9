use Rattle.std.proofs.Common.{[], ◌∷◌, refl}
use Rattle.std.specs.Prelude.{map}
use Rattle.std.proofs.lemmas.List.{append-nil}
use Rattle.std.specs.List.{flat_map}
use Rattle.bm_lang.specs.declared.keyword.Keyword.TheVariants as word
use Rattle.bm_lang.specs.Tokens as token
use Rattle.bm_lang.specs.Grammar.{Scripts, ScriptName, is_word}
use Rattle.bm_lang.specs.Spelling.{on, type_form, map_form, spell_script}
use Rattle.bm_lang.proofs.Pushes.{map-push, flat_map-push, scripts-push}
use Rattle.bm_lang.proofs.Steps.{failed, fails_first, fails_shift, fails_going, as_read, more, going, absent, may_passed, read_shift, read_nothing, shorter}
use Rattle.bm_lang.proofs.Lookups.{unplaced_script}
use Rattle.bm_lang.proofs.scripts.scripts.Goals as goal

pub returns-in_err-script-clause-read : goal.returns-in_err-script-clause-read
returns-in_err-script-clause-read c = λ p. let h = rw c.deref.ensures.value at (c.in_err-script.ensures.read p) in failed _ _ _ _ _ _ _ _ _ c.from_residual.ensures.1 (fails_going _ (c.loop-place.invariant.read p) (fails_shift _ _ _ _ _ _ Scripts (ScriptName ∷ Scripts ∷ []) [] c.in-Some.ensures refl (fails_first _ _ _ _ _ h)))

pub loop-place-smaller : goal.loop-place-smaller
loop-place-smaller c = shorter _ _ _ _ _ _ _ _ _ _ c.in-Some.ensures (c.in_ok-script.ensures.read 0)

pub put-requires : goal.put-requires
put-requires c = let f = rw c.deref.ensures.value at (c.in_ok-script.ensures.read 0) in rw c.as_bytes.ensures.value (unplaced_script c.loop-place.scripts.items c.loop-place.names c.in_ok-script.script.name c.loop-place.invariant.same f.fine.0)

pub loop-place-preserved : goal.loop-place-preserved
loop-place-preserved c = record { read = λ p. let h = rw c.deref.ensures.value at (c.in_ok-script.ensures.read p) in rw (c.in_ok-push.ensures.items, map-push, flat_map-push) (going (c.loop-place.invariant.read p) (read_shift _ _ _ Scripts (ScriptName ∷ Scripts ∷ []) [] (Scripts ∷ []) _ (on c.in_ok-script.script.line (token.Reserved word.Script)) _ _ _ _ _ _ c.in-Some.ensures refl refl c.in_ok-script.ensures.begun (more (Scripts ∷ []) h) (λ u. u)) (λ f u. scripts-push (map type_form c.args.types.items.now) (map map_form c.args.maps.items.now) [] c.loop-place.scripts.items c.in_ok-script.script f (u.0, u.1, tt))); same = rw (c.in_ok-put.ensures, c.in_ok-push.ensures.items, map-push, c.as_bytes.ensures.value, c.loop-place.invariant.same) refl }

pub loop-place-init : goal.loop-place-init
loop-place-init c = record { read = λ p. rw c.new-scripts.ensures.items (read_nothing _ _ _ _ refl); same = rw c.new-scripts.ensures.items c.new-names.ensures }

pub returns-clause-same : goal.returns-clause-same
returns-clause-same c = c.loop-place.invariant.same

pub returns-clause-read : goal.returns-clause-read
returns-clause-read c = λ p. as_read (going (c.loop-place.invariant.read p) (absent _ Scripts (is_word word.Script) _ _ (λ t h. may_passed _ _ h) c.in_default.ensures) (λ f u. f)) (append-nil (flat_map (spell_script (map type_form c.args.types.items.now) (map map_form c.args.maps.items.now)) c.loop-place.scripts.items)) (λ f. f)
