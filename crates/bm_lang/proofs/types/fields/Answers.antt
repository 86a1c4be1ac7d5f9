use Rattle.std.proofs.Common.{◌≡◌, true, false, [], ◌∷◌, refl, sym, ap, ◌∙◌, arith}
use Rattle.std.specs.Prelude.{map, is_some}
use Rattle.std.specs.Str.{bytes_eq}
use Rattle.std.proofs.lemmas.List.{append-nil}
use Rattle.bm_lang.specs.declared.fault.BadKind.TheVariants as kind
use Rattle.bm_lang.specs.Names.{has_name}
use Rattle.bm_lang.specs.Known.{drafting, form}
use Rattle.bm_lang.specs.Grammar.{Fields, is_name}
use Rattle.bm_lang.specs.Spelling.{name}
use Rattle.bm_lang.proofs.Pushes.{map-push, fresh-push}
use Rattle.bm_lang.proofs.Steps.{fails_here, fails_going, as_read, going, absent, read_shift, read_nothing, name_passed}
use Rattle.bm_lang.proofs.Lookups.{any_place, not_some}
use Rattle.std.specs.Prelude.{position}
use Rattle.bm_lang.proofs.types.fields.Goals as goal

pub returns-then-is_some : goal.returns-then-is_some
returns-then-is_some c = let q = rw (c.as_bytes.ensures.value, c.loop-field.invariant.same) at c.place.ensures in λ p types n c' d. let e : has_name c.loop-field.fields.items c.in-Some.field ≡ true = any_place c.in-Some.field c.loop-field.fields.items ∙ ap is_some (sym q) ∙ sym c.is_some.ensures ∙ c.if-is_some.true in fails_going _ (c.loop-field.invariant.read p types n c' d) (fails_here _ _ _ (drafting p types (form n c' d c.loop-field.fields.items 0)) Fields [] kind.Duplicate _ c.in-Some.ensures (rw e refl) c.fault.ensures)

pub put-requires : goal.put-requires
put-requires c = ap (λ b. position (λ n. bytes_eq n b) c.loop-field.names) (c.as_bytes-in-Some.ensures.value ∙ sym c.as_bytes.ensures.value) ∙ sym c.place.ensures ∙ not_some c.place.result (sym c.is_some.ensures ∙ c.if-is_some.false)

pub loop-field-smaller : goal.loop-field-smaller
loop-field-smaller c = rw c.in-Some.ensures (omega arith)

pub loop-field-preserved : goal.loop-field-preserved
loop-field-preserved c = let q = rw (c.as_bytes.ensures.value, c.loop-field.invariant.same) at c.place.ensures in record { read = λ p types n c' d. let e : has_name c.loop-field.fields.items c.in-Some.field ≡ false = any_place c.in-Some.field c.loop-field.fields.items ∙ ap is_some (sym q) ∙ sym c.is_some.ensures ∙ c.if-is_some.false in rw (c.in_ok-push.ensures.items, map-push) (going (c.loop-field.invariant.read p types n c' d) (read_shift _ _ _ Fields (Fields ∷ []) [] (Fields ∷ []) _ (name c.in-Some.field) [] _ _ _ _ _ c.in-Some.ensures (rw e refl) refl tt (read_nothing _ _ _ _ refl) (λ u. u)) (λ f u. fresh-push [] c.loop-field.fields.items c.in-Some.field f e)); same = rw (c.in_ok-put.ensures, c.in_ok-push.ensures.items, c.as_bytes-in-Some.ensures.value, c.loop-field.invariant.same) refl }

pub loop-field-init : goal.loop-field-init
loop-field-init c = record { read = λ p types n c' d. rw c.new-fields.ensures.items (read_nothing _ _ _ _ refl); same = rw c.new-fields.ensures.items c.new-names.ensures }

pub returns : goal.returns
returns c = λ p types n c' d. as_read (going (c.loop-field.invariant.read p types n c' d) (absent _ Fields is_name _ _ (λ t h. name_passed t _ h) c.in_default.ensures) (λ f u. f)) (append-nil (map name c.loop-field.fields.items)) (λ f. f)
