use Rattle.std.proofs.Common.{◌≢◌, ◌≤◌, ◌<◌, ◌+◌, ◌∙◌, ◌≡◌, ℕ, suc, subst, sym, arith, refl, inl, inr}
use Rattle.std.proofs.lemmas.Bool.{cases_eq}
use Rattle.bm_closing.specs.Crews.{StepsBelow}
use Rattle.bm_closing.proofs.crew.barrier.Goals as goal

pub loop-processor-init : goal.loop-processor-init
loop-processor-init g c = record {
  count = refl;
  may = λ p le lt. c.requires.may p lt;
  has = λ p lt. absurd (omega (arith, lt));
  steps = refl;
}

pub loop-processor-preserved : goal.loop-processor-preserved
loop-processor-preserved g c =
    let i = c.loop-processor.processor in
    let v = c.loop-processor.invariant in
    let w = c.in_ok-step.ensures in
    record {
      count = w.count ∙ v.count;
      may = λ p le lt. w.others.may_still p (later i p le) (v.may p (omega (arith, le)) (subst (λ n. p < n) w.count lt));
      has = λ p lt. elim (cases_eq p i) [
        | inl same ↦ subst (λ q. g.C.Crew.has c.args.phase c.step.new.self q) (sym same) w.has
        | inr ne ↦ w.others.has_still p ne (v.has p (before i p lt ne))
      ];
      steps = subst (λ n. StepsBelow (g.C.Crew.goes c.args.phase) n c.args.crew.now c.step.new.self) (next i) (_, v.steps, w.goes);
    }
  where
    next : (i : ℕ) → suc i ≡ i + 1
    next i = omega arith

    later : (i p : ℕ) → i + 1 ≤ p → p ≢ i
    later i p le e = omega (arith, le, e)

    before : (i p : ℕ) → p < i + 1 → p ≢ i → p < i
    before i p lt ne = omega (arith, lt, ne)

pub returns-clause-has : goal.returns-clause-has
returns-clause-has g c p lt =
    let v = c.loop-processor.invariant in
    let e = v.count in
    v.has p (omega (arith, lt, e))

pub returns-clause-steps : goal.returns-clause-steps
returns-clause-steps g c =
    let a = c.loop-processor-test.false in
    let b = c.loop-processor.auto.processor-end in
    let e = c.processors-processor-end.ensures in
    subst (λ n. StepsBelow (g.C.Crew.goes c.args.phase) n c.args.crew.now c.loop-processor.crew) (omega (arith, a, b, e)) c.loop-processor.invariant.steps
