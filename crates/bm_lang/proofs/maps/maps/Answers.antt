use Rattle.std.proofs.Common.{[], ◌∷◌, refl, ap}
use Rattle.std.specs.Prelude.{map}
use Rattle.std.proofs.lemmas.List.{append-nil}
use Rattle.std.specs.List.{flat_map}
use Rattle.bm_lang.specs.Tokens as token
use Rattle.bm_lang.specs.Known.{knowing}
use Rattle.bm_lang.specs.Grammar.{Maps, MapName}
use Rattle.bm_lang.specs.Spelling.{on, type_form, map_form, spell_map, map_word}
use Rattle.bm_lang.specs.Reads.{begins_map}
use Rattle.bm_lang.proofs.Pushes.{map-push, flat_map-push, maps-push}
use Rattle.bm_lang.proofs.Steps.{failed, fails_first, fails_shift, fails_going, as_read, more, going, absent, read_shift, read_nothing, map_passed, map_known, shorter}
use Rattle.bm_lang.proofs.Lookups.{unplaced_map}
use Rattle.bm_lang.proofs.maps.maps.Goals as goal

pub returns-in_err-map-clause-read : goal.returns-in_err-map-clause-read
returns-in_err-map-clause-read c = λ p. let h = rw c.deref.ensures.value at (c.in_err-map.ensures.read p) in failed _ _ _ _ _ _ _ _ _ c.from_residual.ensures.1 (fails_going _ (c.loop-kind.invariant.read p) (fails_shift _ _ _ _ _ _ Maps (MapName c.in-Some.kind ∷ Maps ∷ []) [] c.in-Some.ensures (rw map_known refl) (fails_first _ _ _ _ _ h)))

pub loop-kind-smaller : goal.loop-kind-smaller
loop-kind-smaller c = shorter _ _ _ _ _ _ _ _ _ _ c.in-Some.ensures (c.in_ok-map.ensures.read 0)

pub put-requires : goal.put-requires
put-requires c = let f = rw c.deref.ensures.value at (c.in_ok-map.ensures.read 0) in rw c.as_bytes.ensures.value (unplaced_map c.loop-kind.maps.items c.loop-kind.names c.in_ok-map.map.name c.loop-kind.invariant.same f.fine.0)

pub loop-kind-preserved : goal.loop-kind-preserved
loop-kind-preserved c = record { read = λ p. let h = rw c.deref.ensures.value at (c.in_ok-map.ensures.read p) in rw (c.in_ok-push.ensures.items, map-push, flat_map-push) (going (c.loop-kind.invariant.read p) (read_shift _ _ _ Maps (MapName c.in-Some.kind ∷ Maps ∷ []) [] (Maps ∷ []) _ (on c.in_ok-map.map.line (token.Reserved (map_word c.in_ok-map.map.kind))) _ _ _ _ _ _ c.in-Some.ensures (rw map_known refl) (ap (λ k. token.Reserved (map_word k)) c.in_ok-map.ensures.begun.1) c.in_ok-map.ensures.begun.0 (more (Maps ∷ []) h) (λ u. u)) (λ f u. maps-push (map type_form c.args.types.items.now) [] c.loop-kind.maps.items c.in_ok-map.map f (u.0, u.1, tt))); same = rw (c.in_ok-put.ensures, c.in_ok-push.ensures.items, map-push, c.as_bytes.ensures.value, c.loop-kind.invariant.same) refl }

pub loop-kind-init : goal.loop-kind-init
loop-kind-init c = record { read = λ p. rw c.new-maps.ensures.items (read_nothing _ _ _ _ refl); same = rw c.new-maps.ensures.items c.new-names.ensures }

pub returns-clause-same : goal.returns-clause-same
returns-clause-same c = c.loop-kind.invariant.same

pub returns-clause-read : goal.returns-clause-read
returns-clause-read c = λ p. as_read (going (c.loop-kind.invariant.read p) (absent _ Maps begins_map _ _ (map_passed (knowing p (map type_form c.args.types.items.now) (map map_form c.loop-kind.maps.items) [])) c.in_default.ensures) (λ f u. f)) (append-nil (flat_map (spell_map (map type_form c.args.types.items.now)) c.loop-kind.maps.items)) (λ f. f)
