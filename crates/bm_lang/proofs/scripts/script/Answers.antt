use Rattle.std.proofs.Common.{◌≡◌, true, false, [], ◌∷◌, refl, sym, ap, ◌∙◌, rules}
use Rattle.std.specs.Prelude.{map, is_some}
use Rattle.std.specs.Str.{bytes_eq}
use Rattle.bm_lang.specs.declared.fault.BadKind.TheVariants as kind
use Rattle.bm_lang.specs.Names.{script_named}
use Rattle.bm_lang.specs.Known.{knowing}
use Rattle.bm_lang.specs.Grammar.{ScriptName, KindOfScript}
use Rattle.bm_lang.specs.Spelling.{name, type_form, map_form, script_form}
use Rattle.bm_lang.proofs.Lookups.{is_form}
use Rattle.bm_lang.proofs.Steps.{reading, failed, fails_here, fails_shift, fails_going, going, read_shift}
use Rattle.bm_lang.proofs.scripts.script.Goals as goal

pub returns-in_err-name-clause-read : goal.returns-in_err-name-clause-read
returns-in_err-name-clause-read c = λ p. search (rules, reading)

pub returns-then-is_some-clause-read : goal.returns-then-is_some-clause-read
returns-then-is_some-clause-read c = λ p. let e : is_some (script_named (map script_form c.args.scripts.items.now) c.in_ok-name.name) ≡ true = is_form script_form (λ x. bytes_eq x.name c.in_ok-name.name) c.args.scripts.items.now ∙ ap is_some (sym c.script_place.ensures) ∙ sym c.is_some.ensures ∙ c.if-is_some.true in fails_here _ _ _ (knowing p (map type_form c.args.types.items.now) (map map_form c.args.maps.items.now) (map script_form c.args.scripts.items.now)) ScriptName [] kind.Duplicate _ c.in_ok-name.ensures (rw e refl) c.fault.ensures

pub returns-in_err-kind-clause-read : goal.returns-in_err-kind-clause-read
returns-in_err-kind-clause-read c = λ p. let e : is_some (script_named (map script_form c.args.scripts.items.now) c.in_ok-name.name) ≡ false = is_form script_form (λ x. bytes_eq x.name c.in_ok-name.name) c.args.scripts.items.now ∙ ap is_some (sym c.script_place.ensures) ∙ sym c.is_some.ensures ∙ c.if-is_some.false in failed _ _ _ _ _ _ _ _ _ c.from_residual-in_err-kind.ensures.1 (fails_shift _ _ _ _ (knowing p (map type_form c.args.types.items.now) (map map_form c.args.maps.items.now) (map script_form c.args.scripts.items.now)) (knowing p (map type_form c.args.types.items.now) (map map_form c.args.maps.items.now) (map script_form c.args.scripts.items.now)) ScriptName (KindOfScript c.in_ok-name.name ∷ []) [] c.in_ok-name.ensures (rw e refl) (c.in_err-kind.ensures p (map type_form c.args.types.items.now) (map map_form c.args.maps.items.now) (map script_form c.args.scripts.items.now) c.in_ok-name.name))

pub returns-in_err-body-clause-read : goal.returns-in_err-body-clause-read
returns-in_err-body-clause-read c = λ p. let e : is_some (script_named (map script_form c.args.scripts.items.now) c.in_ok-name.name) ≡ false = is_form script_form (λ x. bytes_eq x.name c.in_ok-name.name) c.args.scripts.items.now ∙ ap is_some (sym c.script_place.ensures) ∙ sym c.is_some.ensures ∙ c.if-is_some.false in failed _ _ _ _ _ _ _ _ _ c.from_residual-in_err-body.ensures.1 (fails_shift _ _ _ _ (knowing p (map type_form c.args.types.items.now) (map map_form c.args.maps.items.now) (map script_form c.args.scripts.items.now)) (knowing p (map type_form c.args.types.items.now) (map map_form c.args.maps.items.now) (map script_form c.args.scripts.items.now)) ScriptName (KindOfScript c.in_ok-name.name ∷ []) [] c.in_ok-name.ensures (rw e refl) (fails_going _ (c.in_ok-kind.ensures p (map type_form c.args.types.items.now) (map map_form c.args.maps.items.now) (map script_form c.args.scripts.items.now) c.in_ok-name.name) (c.in_err-body.ensures p _)))

pub returns-clause-read : goal.returns-clause-read
returns-clause-read c = λ p. let e : is_some (script_named (map script_form c.args.scripts.items.now) c.in_ok-name.name) ≡ false = is_form script_form (λ x. bytes_eq x.name c.in_ok-name.name) c.args.scripts.items.now ∙ ap is_some (sym c.script_place.ensures) ∙ sym c.is_some.ensures ∙ c.if-is_some.false in read_shift (knowing p (map type_form c.args.types.items.now) (map map_form c.args.maps.items.now) (map script_form c.args.scripts.items.now)) (knowing p (map type_form c.args.types.items.now) (map map_form c.args.maps.items.now) (map script_form c.args.scripts.items.now)) _ ScriptName (KindOfScript c.in_ok-name.name ∷ []) [] [] _ (name c.in_ok-name.name) _ _ _ _ _ _ c.in_ok-name.ensures (rw e refl) refl tt (going (c.in_ok-kind.ensures p (map type_form c.args.types.items.now) (map map_form c.args.maps.items.now) (map script_form c.args.scripts.items.now) c.in_ok-name.name) (c.in_ok-body.ensures p _) (λ u f. f)) (λ f. (e, f))
