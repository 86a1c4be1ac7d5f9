use Rattle.std.proofs.Common.{◌≡◌, true, false, [], refl, sym, ap, ◌∙◌, rules}
use Rattle.std.specs.Prelude.{map}
use Rattle.std.specs.Str.{bytes_eq}
use Rattle.bm_lang.specs.declared.fault.BadKind.TheVariants as kind
use Rattle.bm_lang.specs.Names.{runs_as}
use Rattle.bm_lang.specs.Known.{knowing}
use Rattle.bm_lang.specs.Grammar.{ScriptOf}
use Rattle.bm_lang.specs.Spelling.{script_form}
use Rattle.bm_lang.proofs.Lookups.{found_form, none_form, read_form, same_bytes}
use Rattle.bm_lang.proofs.Steps.{reading, fails_here, as_read, one}
use Rattle.bm_lang.proofs.lines.script_id.Goals as goal

pub returns-in_err-name : goal.returns-in_err-name
returns-in_err-name c = λ p types maps. search (rules, reading)

pub returns-in_default : goal.returns-in_default
returns-in_default c = λ p types maps. fails_here _ _ _ (knowing p types maps (map script_form c.args.scripts.items.now)) (ScriptOf c.args.handler) [] kind.Unknown _ c.in_ok-name.ensures (rw (none_form script_form (λ x. bytes_eq x.name c.in_ok-name.name) c.args.scripts.items.now (sym c.script_place.ensures ∙ c.in_default.is)) refl) c.fault.ensures

pub returns-then-not-runs_as : goal.returns-then-not-runs_as
returns-then-not-runs_as c = λ p types maps. let f = found_form script_form (λ x. bytes_eq x.name c.in_ok-name.name) c.args.scripts.items.now _ (sym c.script_place.ensures ∙ c.in-Some.is) in let r = read_form script_form c.args.scripts.items.now _ c.index-scripts-found.result f.0 c.index-scripts-found.is f.1.at ∙ ap script_form c.index-scripts-found.is in let e : runs_as c.args.handler f.0.kind ≡ false = ap (λ x. runs_as c.args.handler x.kind) r ∙ sym c.runs_as.ensures ∙ c.if-not-runs_as.true in fails_here _ _ _ (knowing p types maps (map script_form c.args.scripts.items.now)) (ScriptOf c.args.handler) [] kind.Wrong _ c.in_ok-name.ensures (rw (f.1.first, e) refl) c.fault-then-not-runs_as.ensures

pub returns : goal.returns
returns c = λ p types maps. let f = found_form script_form (λ x. bytes_eq x.name c.in_ok-name.name) c.args.scripts.items.now _ (sym c.script_place.ensures ∙ c.in-Some.is) in let r = read_form script_form c.args.scripts.items.now _ c.index-scripts-found.result f.0 c.index-scripts-found.is f.1.at ∙ ap script_form c.index-scripts-found.is in let e : runs_as c.args.handler f.0.kind ≡ true = ap (λ x. runs_as c.args.handler x.kind) r ∙ sym c.runs_as.ensures ∙ c.if-not-runs_as.false in as_read (one _ _ (ScriptOf c.args.handler) _ _ _ _ c.in_ok-name.ensures (rw (f.1.first, e) refl) (rw f.1.at e)) (rw (f.1.at, same_bytes f.0.name c.in_ok-name.name f.1.fits) refl) (λ u. u)
