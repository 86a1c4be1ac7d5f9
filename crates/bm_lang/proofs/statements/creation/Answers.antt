use Rattle.std.proofs.Common.{◌≡◌, [], ◌∷◌, length, refl, sym, ap, ◌∙◌}
use Rattle.std.specs.Prelude.{map, length}
use Rattle.std.specs.Str.{bytes_eq}
use Rattle.bm_lang.specs.declared.fault.BadKind.TheVariants as kind
use Rattle.bm_lang.specs.Known.{knowing}
use Rattle.bm_lang.specs.Grammar.{Values, NewType}
use Rattle.bm_lang.specs.Spelling.{name, type_form}
use Rattle.bm_lang.proofs.Lookups.{found_form, none_form, read_form, same_bytes}
use Rattle.bm_lang.proofs.Steps.{failed, fails_first, fails_here, fails_shift, fails_behind, both, as_read, read_shift}
use Rattle.bm_lang.proofs.Steps.{no_new_type}
use Rattle.bm_lang.proofs.statements.creation.Goals as goal

pub returns-in_err-name : goal.returns-in_err-name
returns-in_err-name c = λ p maps scripts. failed _ _ _ _ _ _ _ _ _ c.from_residual.ensures.1 (fails_first _ _ _ _ _ (c.in_err-name.ensures _))

pub returns-in_err-type_name : goal.returns-in_err-type_name
returns-in_err-type_name c = λ p maps scripts. failed _ _ _ _ _ _ _ _ _ c.from_residual-in_err-type_name.ensures.1 (fails_behind _ _ (c.in_ok-name.ensures _) (no_new_type _ _ _ _ (knowing p (map type_form c.args.types.items.now) maps scripts) [] c.in_err-type_name.ensures))

pub returns-in_default : goal.returns-in_default
returns-in_default c = λ p maps scripts. fails_behind _ _ (c.in_ok-name.ensures _) (fails_here _ _ _ (knowing p (map type_form c.args.types.items.now) maps scripts) NewType [] kind.Unknown _ c.in_ok-type_name.ensures (rw (none_form type_form (λ x. bytes_eq x.name c.in_ok-type_name.type_name) c.args.types.items.now (sym c.type_place.ensures ∙ c.in_default.is)) refl) c.fault.ensures)

pub returns-in_err-values : goal.returns-in_err-values
returns-in_err-values c = λ p maps scripts. let f = found_form type_form (λ x. bytes_eq x.name c.in_ok-type_name.type_name) c.args.types.items.now _ (sym c.type_place.ensures ∙ c.in-Some.is) in let r = read_form type_form c.args.types.items.now _ c.index-types-found.result f.0 c.index-types-found.is f.1.at ∙ ap type_form c.index-types-found.is in let n : length f.0.fields ≡ length c.as_slice-count.result.now = ap (λ x. length x.fields) r ∙ ap length (sym c.as_slice-count.ensures) in failed _ _ _ _ _ _ _ _ _ c.from_residual-in_err-values.ensures.1 (fails_behind _ _ (c.in_ok-name.ensures _) (fails_shift _ _ _ _ (knowing p (map type_form c.args.types.items.now) maps scripts) (knowing p (map type_form c.args.types.items.now) maps scripts) NewType (Values (length c.as_slice-count.result.now) ∷ []) [] c.in_ok-type_name.ensures (rw (f.1.first, n) refl) (c.in_err-values.ensures _)))

pub returns : goal.returns
returns c = λ p maps scripts. let f = found_form type_form (λ x. bytes_eq x.name c.in_ok-type_name.type_name) c.args.types.items.now _ (sym c.type_place.ensures ∙ c.in-Some.is) in let r = read_form type_form c.args.types.items.now _ c.index-types-found.result f.0 c.index-types-found.is f.1.at ∙ ap type_form c.index-types-found.is in let n : length f.0.fields ≡ length c.as_slice-count.result.now = ap (λ x. length x.fields) r ∙ ap length (sym c.as_slice-count.ensures) in as_read (both (c.in_ok-name.ensures _) (read_shift (knowing p (map type_form c.args.types.items.now) maps scripts) (knowing p (map type_form c.args.types.items.now) maps scripts) _ NewType (Values (length c.as_slice-count.result.now) ∷ []) [] [] _ (name c.in_ok-type_name.type_name) _ _ _ _ _ _ c.in_ok-type_name.ensures (rw (f.1.first, n) refl) refl tt (c.in_ok-values.ensures _) (λ u. u))) (rw (f.1.at, same_bytes f.0.name c.in_ok-type_name.type_name f.1.fits) refl) (λ u. rw f.1.at (u.1 ∙ sym n))
