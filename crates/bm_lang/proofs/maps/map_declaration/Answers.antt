use Rattle.std.proofs.Common.{◌≡◌, true, false, [], ◌∷◌, ◌++◌, refl, sym, ap, ◌∙◌, rules}
use Rattle.std.specs.Prelude.{map, is_some}
use Rattle.std.specs.Str.{bytes_eq}
use Rattle.bm_lang.specs.declared.fault.BadKind.TheVariants as kind
use Rattle.bm_lang.specs.Names.{map_named}
use Rattle.bm_lang.specs.Known.{knowing}
use Rattle.bm_lang.specs.Grammar.{MapName, MapType}
use Rattle.bm_lang.specs.Spelling.{name, type_form, map_form}
use Rattle.bm_lang.proofs.Lookups.{is_form}
use Rattle.bm_lang.proofs.Steps.{reading, failed, fails_here, fails_shift, read_shift}
use Rattle.bm_lang.proofs.maps.map_declaration.Goals as goal

pub returns-in_err-name-clause-read : goal.returns-in_err-name-clause-read
returns-in_err-name-clause-read c = λ p. search (rules, reading)

pub returns-then-is_some-clause-read : goal.returns-then-is_some-clause-read
returns-then-is_some-clause-read c = λ p. let e : is_some (map_named (map map_form c.args.maps.items.now) c.in_ok-name.name) ≡ true = is_form map_form (λ x. bytes_eq x.name c.in_ok-name.name) c.args.maps.items.now ∙ ap is_some (sym c.map_place.ensures) ∙ sym c.is_some.ensures ∙ c.if-is_some.true in fails_here _ _ _ (knowing p (map type_form c.args.types.items.now) (map map_form c.args.maps.items.now) []) (MapName c.args.kind) [] kind.Duplicate _ c.in_ok-name.ensures (rw e refl) c.fault.ensures

pub returns-in_err-type_id-clause-read : goal.returns-in_err-type_id-clause-read
returns-in_err-type_id-clause-read c = λ p. let e : is_some (map_named (map map_form c.args.maps.items.now) c.in_ok-name.name) ≡ false = is_form map_form (λ x. bytes_eq x.name c.in_ok-name.name) c.args.maps.items.now ∙ ap is_some (sym c.map_place.ensures) ∙ sym c.is_some.ensures ∙ c.if-is_some.false in failed _ _ _ _ _ _ _ _ _ c.from_residual-in_err-type_id.ensures.1 (fails_shift _ _ _ _ (knowing p (map type_form c.args.types.items.now) (map map_form c.args.maps.items.now) []) (knowing p (map type_form c.args.types.items.now) ((map map_form c.args.maps.items.now) ++ record { name = c.in_ok-name.name; kind = c.args.kind } ∷ []) []) (MapName c.args.kind) (MapType c.args.kind ∷ []) [] c.in_ok-name.ensures (rw e refl) (c.in_err-type_id.ensures p _))

pub returns-clause-read : goal.returns-clause-read
returns-clause-read c = λ p. let e : is_some (map_named (map map_form c.args.maps.items.now) c.in_ok-name.name) ≡ false = is_form map_form (λ x. bytes_eq x.name c.in_ok-name.name) c.args.maps.items.now ∙ ap is_some (sym c.map_place.ensures) ∙ sym c.is_some.ensures ∙ c.if-is_some.false in read_shift (knowing p (map type_form c.args.types.items.now) (map map_form c.args.maps.items.now) []) _ _ (MapName c.args.kind) (MapType c.args.kind ∷ []) [] [] _ (name c.in_ok-name.name) _ _ _ _ _ _ c.in_ok-name.ensures (rw e refl) refl tt (c.in_ok-type_id.ensures p _) (λ u. (e, u))
