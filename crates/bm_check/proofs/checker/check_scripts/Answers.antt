use Rattle.std.proofs.Common.{◌≡◌, ℕ, zero, suc, ◌<◌, List, [], ◌∷◌, length, Some, slice_get, sym, ◌∙◌, ap, subst, arith, below_more}
use Rattle.std.proofs.lemmas.Option.{slice_get-get_or}
use Rattle.bm_lang.specs.declared.scenario.Script.{Script}
use Rattle.bm_check.specs.Scripts.{Accepted}
use Rattle.bm_check.proofs.checker.check_scripts.Goals as goal

within : (xs : List Script) (i : ℕ) (s : Script) → slice_get xs i ≡ Some s → i < length xs
within [] i s h = cc
within (x ∷ xs) zero s h = omega arith
within (x ∷ xs) (suc i) s h = let lt : i < length xs = within xs i s h in omega arith

same_script : (x y : Script) → Some x ≡ Some y → x ≡ y
same_script x y h = cc

pub returns-in-Broken : goal.returns-in-Broken
returns-in-Broken c = record {
  broken = c.script-item.result;
  here = rw (← c.as_slice-script-items.ensures) (slice_get-get_or c.as_slice-script-items.result.now c.loop-place.place c.script-item.result c.loop-place-test.true ∙ ap (λ (s : Script). Some s) (sym c.script-item.is));
  first_rule = rw c.in-Broken.is at c.in-Err.ensures;
  before = λ i s lt h. c.loop-place.invariant i lt s (rw c.as_slice-script-items.ensures h);
}

pub loop-place-preserved : goal.loop-place-preserved
loop-place-preserved c =
    let item = slice_get-get_or c.as_slice-script-items.result.now c.loop-place.place c.script-item.result c.loop-place-test.true ∙ ap (λ (s : Script). Some s) (sym c.script-item.is) in
    below_more _ _ c.loop-place.invariant (λ s h. subst (λ (x : Script). Accepted c.args.scenario.now x) (same_script c.script-item.result s (sym item ∙ h)) c.in_default.ensures)

pub returns : goal.returns
returns c = λ i s h.
    let h2 : slice_get c.as_slice-script-items.result.now i ≡ Some s = rw c.as_slice-script-items.ensures h in
    let lt : i < length c.as_slice-script-items.result.now = within c.as_slice-script-items.result.now i s h2 in
    c.loop-place.invariant i (omega arith) s h2
