use Rattle.std.proofs.Common.{◌≡◌, true, false, [], refl, sym, ap, ◌∙◌, rules}
use Rattle.std.specs.Prelude.{map}
use Rattle.std.specs.Str.{bytes_eq}
use Rattle.bm_lang.specs.declared.fault.BadKind.TheVariants as kind
use Rattle.bm_lang.specs.Names.{holds}
use Rattle.bm_lang.specs.Known.{knowing}
use Rattle.bm_lang.specs.Grammar.{MapType}
use Rattle.bm_lang.specs.Spelling.{type_form}
use Rattle.bm_lang.proofs.Lookups.{found_form, none_form, read_form, same_bytes}
use Rattle.bm_lang.proofs.Steps.{reading, fails_here, as_read, one}
use Rattle.bm_lang.proofs.maps.map_type.Goals as goal

pub returns-in_err-name : goal.returns-in_err-name
returns-in_err-name c = λ p maps. search (rules, reading)

pub returns-in_default : goal.returns-in_default
returns-in_default c = λ p maps. fails_here _ _ _ (knowing p (map type_form c.args.types.items.now) maps []) (MapType c.args.kind) [] kind.Unknown _ c.in_ok-name.ensures (rw (none_form type_form (λ x. bytes_eq x.name c.in_ok-name.name) c.args.types.items.now (sym c.type_place.ensures ∙ c.in_default.is)) refl) c.fault.ensures

pub returns-then-not-holds : goal.returns-then-not-holds
returns-then-not-holds c = λ p maps. let f = found_form type_form (λ x. bytes_eq x.name c.in_ok-name.name) c.args.types.items.now _ (sym c.type_place.ensures ∙ c.in-Some.is) in let r = read_form type_form c.args.types.items.now _ c.index-types-found.result f.0 c.index-types-found.is f.1.at ∙ ap type_form c.index-types-found.is in let e : holds c.args.kind f.0.node ≡ false = ap (λ x. holds c.args.kind x.node) r ∙ sym c.holds.ensures ∙ c.if-not-holds.true in fails_here _ _ _ (knowing p (map type_form c.args.types.items.now) maps []) (MapType c.args.kind) [] kind.Wrong _ c.in_ok-name.ensures (rw (f.1.first, e) refl) c.fault-then-not-holds.ensures

pub returns : goal.returns
returns c = λ p maps. let f = found_form type_form (λ x. bytes_eq x.name c.in_ok-name.name) c.args.types.items.now _ (sym c.type_place.ensures ∙ c.in-Some.is) in let r = read_form type_form c.args.types.items.now _ c.index-types-found.result f.0 c.index-types-found.is f.1.at ∙ ap type_form c.index-types-found.is in let e : holds c.args.kind f.0.node ≡ true = ap (λ x. holds c.args.kind x.node) r ∙ sym c.holds.ensures ∙ c.if-not-holds.false in as_read (one _ _ (MapType c.args.kind) _ _ _ _ c.in_ok-name.ensures (rw (f.1.first, e) refl) (rw f.1.at e)) (rw (f.1.at, same_bytes f.0.name c.in_ok-name.name f.1.fits) refl) (λ u. u)
