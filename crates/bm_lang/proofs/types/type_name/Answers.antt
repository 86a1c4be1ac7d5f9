use Rattle.std.proofs.Common.{◌≡◌, true, false, [], refl, sym, ap, ◌∙◌, rules}
use Rattle.std.specs.Prelude.{map, is_some}
use Rattle.std.specs.Str.{bytes_eq}
use Rattle.bm_lang.specs.declared.fault.BadKind.TheVariants as kind
use Rattle.bm_lang.specs.Names.{type_named}
use Rattle.bm_lang.specs.Grammar.{TypeName}
use Rattle.bm_lang.specs.Spelling.{type_form}
use Rattle.bm_lang.proofs.Lookups.{is_form}
use Rattle.bm_lang.proofs.Steps.{reading, fails_here, one}
use Rattle.bm_lang.proofs.types.type_name.Goals as goal

pub returns-in_err-name : goal.returns-in_err-name
returns-in_err-name c = λ p. search (rules, reading)

pub returns-then-is_some : goal.returns-then-is_some
returns-then-is_some c = λ p. let e : is_some (type_named (map type_form c.args.types.items.now) c.in_ok-name.name) ≡ true = is_form type_form (λ t. bytes_eq t.name c.in_ok-name.name) c.args.types.items.now ∙ ap is_some (sym c.type_place.ensures) ∙ sym c.is_some.ensures ∙ c.if-is_some.true in fails_here _ _ _ _ TypeName [] kind.Duplicate _ c.in_ok-name.ensures (rw e refl) c.fault.ensures

pub returns : goal.returns
returns c = λ p. let e : is_some (type_named (map type_form c.args.types.items.now) c.in_ok-name.name) ≡ false = is_form type_form (λ t. bytes_eq t.name c.in_ok-name.name) c.args.types.items.now ∙ ap is_some (sym c.type_place.ensures) ∙ sym c.is_some.ensures ∙ c.if-is_some.false in one _ _ TypeName _ _ _ _ c.in_ok-name.ensures (rw e refl) e
