use Rattle.std.proofs.Common.{◌≡◌, true, false, [], refl, sym, ◌∙◌, rules}
use Rattle.bm_lang.specs.declared.fault.BadKind.TheVariants as kind
use Rattle.bm_lang.specs.Names.{has_key, has_size}
use Rattle.bm_lang.specs.Grammar.{TypeEnd}
use Rattle.bm_lang.specs.Spelling.{type_form}
use Rattle.bm_lang.proofs.Steps.{reading, fails_here, one}
use Rattle.bm_lang.proofs.types.type_end.Goals as goal

pub returns-in_err-place : goal.returns-in_err-place
returns-in_err-place c = λ p types. search (rules, reading)

pub returns-then-not-has_key : goal.returns-then-not-has_key
returns-then-not-has_key c = λ p types. let e : has_key (type_form c.args.declaration.now) ≡ false = sym c.has_key.ensures ∙ c.if-not-has_key.true in fails_here _ _ _ _ TypeEnd [] kind.Wrong _ c.in_ok-place.ensures (rw e refl) c.fault.ensures

pub returns-then-not-has_size : goal.returns-then-not-has_size
returns-then-not-has_size c = λ p types. let k : has_key (type_form c.args.declaration.now) ≡ true = sym c.has_key.ensures ∙ c.if-not-has_key.false in let e : has_size (type_form c.args.declaration.now) ≡ false = sym c.has_size.ensures ∙ c.if-not-has_size.true in fails_here _ _ _ _ TypeEnd [] kind.TypeSize _ c.in_ok-place.ensures (rw (k, e) refl) c.fault-then-not-has_size.ensures

pub returns : goal.returns
returns c = λ p types. let k : has_key (type_form c.args.declaration.now) ≡ true = sym c.has_key.ensures ∙ c.if-not-has_key.false in let e : has_size (type_form c.args.declaration.now) ≡ true = sym c.has_size.ensures ∙ c.if-not-has_size.false in one _ _ TypeEnd _ _ _ _ c.in_ok-place.ensures (rw (k, e) refl) (k, e)
