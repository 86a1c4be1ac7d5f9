use Rattle.std.proofs.Common.{◌≡◌, ◌∙◌, Bool, false, true, Some, ap, arith, length, slice_get, sym}
use Rattle.std.specs.List.{list_any}
use Rattle.std.specs.Str.{bytes_eq}
use Rattle.bm_lang.specs.declared.scenario.TypeDeclaration.{TypeDeclaration}
use Rattle.bm_exec.proofs.Fields.{declared-is, found-at, found-none, not-there}
use Rattle.bm_exec.proofs.Results.{get-is}
use Rattle.bm_exec.proofs.Tables.{same_word}
use Rattle.bm_exec.proofs.running.field_of.Goals as goal

true-false : (b : Bool) → b ≡ true → b ≡ false → ⊥
true-false b t f = cc

pub unreachable-requires : goal.unreachable-requires
unreachable-requires c = not-there c.args.types.now.declared.now _ c.requires.field.declared c.in_default.ensures.lookup.3 c.requires.field.found

pub unreachable-requires-in_default-place_of : goal.unreachable-requires-in_default-place_of
unreachable-requires-in_default-place_of c =
    let types = c.args.types.now.declared.now in
    let has = c.requires.field in
    let d : TypeDeclaration = c.in-Some.declared.now in
    let found : d ≡ has.declared = declared-is types _ d has.declared (get-is types _ d c.in-Some.ensures.lookup.3.0 (c.in-Some.ensures.lookup.3.1 _)) has.found in
    let none = found-none (bytes_eq c.args.field.now) c.as_slice.result.now (sym c.in_default-place_of.ensures.place) in
    true-false _ has.named (ap (λ (k : TypeDeclaration). list_any (bytes_eq c.args.field.now) k.fields) (sym found) ∙ (ap (list_any (bytes_eq c.args.field.now)) (sym c.as_slice.ensures) ∙ none))

pub overflow_cast-result : goal.overflow_cast-result
overflow_cast-result c =
    let types = c.args.types.now.declared.now in
    let d : TypeDeclaration = c.in-Some.declared.now in
    let few = c.requires.few d (get-is types _ d c.in-Some.ensures.lookup.3.0 (c.in-Some.ensures.lookup.3.1 _)) in
    let same = ap length c.as_slice.ensures in
    omega (arith, c.in-Some-place_of.ensures.inside, same, few)

pub returns : goal.returns
returns c =
    let types = c.args.types.now.declared.now in
    let d : TypeDeclaration = c.in-Some.declared.now in
    let at = found-at (bytes_eq c.args.field.now) c.as_slice.result.now c.in-Some-place_of.place (sym c.in-Some-place_of.ensures.place) in
    let named = ap (λ fields. slice_get fields c.in-Some-place_of.place) (sym c.as_slice.ensures) ∙ (at.1 ∙ ap Some (sym (same_word c.args.field.now at.0 at.2))) in
    record { declared = d; found = get-is types _ d c.in-Some.ensures.lookup.3.0 (c.in-Some.ensures.lookup.3.1 _); named = named }
