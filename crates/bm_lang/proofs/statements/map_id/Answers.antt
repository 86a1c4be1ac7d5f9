use Rattle.std.proofs.Common.{◌≡◌, true, false, [], refl, sym, ap, ◌∙◌, rules}
use Rattle.std.specs.Prelude.{map}
use Rattle.std.specs.Str.{bytes_eq}
use Rattle.bm_lang.specs.declared.fault.BadKind.TheVariants as kind
use Rattle.bm_lang.specs.Names.{fits}
use Rattle.bm_lang.specs.Known.{knowing}
use Rattle.bm_lang.specs.Grammar.{MapOf}
use Rattle.bm_lang.specs.Spelling.{map_form}
use Rattle.bm_lang.proofs.Lookups.{found_form, none_form, read_form, same_bytes}
use Rattle.bm_lang.proofs.Steps.{reading, fails_here, as_read, one}
use Rattle.bm_lang.proofs.statements.map_id.Goals as goal

pub returns-in_err-name : goal.returns-in_err-name
returns-in_err-name c = λ p types scripts. search (rules, reading)

pub returns-in_default : goal.returns-in_default
returns-in_default c = λ p types scripts. fails_here _ _ _ (knowing p types (map map_form c.args.maps.items.now) scripts) (MapOf c.args.need) [] kind.Unknown _ c.in_ok-name.ensures (rw (none_form map_form (λ x. bytes_eq x.name c.in_ok-name.name) c.args.maps.items.now (sym c.map_place.ensures ∙ c.in_default.is)) refl) c.fault.ensures

pub returns-then-not-fits : goal.returns-then-not-fits
returns-then-not-fits c = λ p types scripts. let f = found_form map_form (λ x. bytes_eq x.name c.in_ok-name.name) c.args.maps.items.now _ (sym c.map_place.ensures ∙ c.in-Some.is) in let r = read_form map_form c.args.maps.items.now _ c.index-maps-found.result f.0 c.index-maps-found.is f.1.at ∙ ap map_form c.index-maps-found.is in let e : fits c.args.need f.0.kind ≡ false = ap (λ x. fits c.args.need x.kind) r ∙ sym c.fits.ensures ∙ c.if-not-fits.true in fails_here _ _ _ (knowing p types (map map_form c.args.maps.items.now) scripts) (MapOf c.args.need) [] kind.Unknown _ c.in_ok-name.ensures (rw (f.1.first, e) refl) c.fault-then-not-fits.ensures

pub returns : goal.returns
returns c = λ p types scripts. let f = found_form map_form (λ x. bytes_eq x.name c.in_ok-name.name) c.args.maps.items.now _ (sym c.map_place.ensures ∙ c.in-Some.is) in let r = read_form map_form c.args.maps.items.now _ c.index-maps-found.result f.0 c.index-maps-found.is f.1.at ∙ ap map_form c.index-maps-found.is in let e : fits c.args.need f.0.kind ≡ true = ap (λ x. fits c.args.need x.kind) r ∙ sym c.fits.ensures ∙ c.if-not-fits.false in as_read (one _ _ (MapOf c.args.need) _ _ _ _ c.in_ok-name.ensures (rw (f.1.first, e) refl) (rw f.1.at e)) (rw (f.1.at, same_bytes f.0.name c.in_ok-name.name f.1.fits) refl) (λ u. u)
