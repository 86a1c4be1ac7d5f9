use Rattle.std.proofs.Common.{◌≡◌, ◌∙◌, ◌<◌, ◌≤◌, ◌-◌, ◌^◌, ℕ, min, None, Some, List, get_or, refl, sym, subst, arith}
use Rattle.std.specs.List.{position}
use Rattle.bm_lang.specs.declared.scenario.AtLine.{AtLine}
use Rattle.bm_due.specs.Due.{is_foremost}
use Rattle.bm_due.specs.Plan.{due_of}
use Rattle.bm_due.proofs.Plans.{early-any, idle-after, idle-due, none-after, none-due, over-after, over-due, place-is, taken-above, taken-after, taken-due}
use Rattle.bm_due.proofs.planned.Planned.take_due.Goals as goal
use Rattle.bm_due.proofs.planned.Planned.take_due.Goals.{then-self-via-then-self, then-self-via-else-self+then-step-self}

at-most : {a b : ℕ} → a ≡ b → a ≤ 3 → b ≤ 3
at-most e h = omega arith

own : (step : ℕ) → step < 2 ^ 64 → step ≡ min step (2 ^ 64 - 1)
own step h = omega arith

pub returns-then-self-clause-greatest : goal.returns-then-self-clause-greatest
returns-then-self-clause-greatest c n e =
    elim c.then-self.branch [
      | then-self-via-then-self w ↦ (rw (over-due _ n c.args.level _ _ c.self.view_is w.if-self.true) refl, over-after _ n c.args.level _ _ c.self.view_is w.if-self.true)
      | then-self-via-else-self+then-step-self w ↦
          let h = early-any n c.args.step c.args.level _ _ c.self.invariant (at-most w.number.ensures.same w.number.ensures.bound) (subst (λ k. c.args.step < get_or c.self.inside.least k 0) w.number.ensures.same w.if-step-self.true) e in
          (rw (idle-due _ n c.args.level _ _ c.self.view_is h) refl, idle-after _ n c.args.level _ _ c.self.view_is h)
    ]

pub returns-then-self-clause-due : goal.returns-then-self-clause-due
returns-then-self-clause-due c = (returns-then-self-clause-greatest c c.args.step (own c.args.step c.ranges.step.fits)).0

pub returns-then-self-clause-left : goal.returns-then-self-clause-left
returns-then-self-clause-left c = (returns-then-self-clause-greatest c c.args.step (own c.args.step c.ranges.step.fits)).1

pub returns-in_err-place-clause-greatest : goal.returns-in_err-place-clause-greatest
returns-in_err-place-clause-greatest c n e =
    let f : None ≡ position (is_foremost n c.args.level c.self.inside.left.items) c.self.inside.left.items =
    subst (λ (xs : List AtLine). None ≡ position (is_foremost n c.args.level xs) xs) c.as_slice.ensures.value (sym c.in_err-place.was ∙ c.foremost.ensures n e) in
    (rw (c.from_residual.ensures, none-due _ n c.args.level _ _ c.self.view_is f) refl, none-after _ n c.args.level _ _ c.self.view_is f)

pub returns-in_err-place-clause-due : goal.returns-in_err-place-clause-due
returns-in_err-place-clause-due c = (returns-in_err-place-clause-greatest c c.args.step (own c.args.step c.ranges.step.fits)).0

pub returns-in_err-place-clause-left : goal.returns-in_err-place-clause-left
returns-in_err-place-clause-left c = (returns-in_err-place-clause-greatest c c.args.step (own c.args.step c.ranges.step.fits)).1

pub returns-clause-greatest : goal.returns-clause-greatest
returns-clause-greatest c n e =
    let f : Some c.in_ok-place.place ≡ position (is_foremost n c.args.level c.self.inside.left.items) c.self.inside.left.items =
    subst (λ (xs : List AtLine). Some c.in_ok-place.place ≡ position (is_foremost n c.args.level xs) xs) c.as_slice.ensures.value (sym c.in_ok-place.was ∙ c.foremost.ensures n e) in
    let d : due_of n c.args.level c.args.self.now ≡ Some c.remove-line.result =
    taken-due _ _ _ c.self.inside.left.items _ c.in_ok-place.place c.remove-line.result c.self.view_is c.if-self.false f c.remove-line.ensures.value in
    (rw d (rw c.level_of.ensures refl), rw c.remove-line.ensures.items (taken-after _ n c.args.level c.self.inside.left.items _ c.in_ok-place.place c.self.view_is c.if-self.false f))

pub returns-clause-due : goal.returns-clause-due
returns-clause-due c = (returns-clause-greatest c c.args.step (own c.args.step c.ranges.step.fits)).0

pub returns-clause-left : goal.returns-clause-left
returns-clause-left c = (returns-clause-greatest c c.args.step (own c.args.step c.ranges.step.fits)).1

pub returns-clause-above : goal.returns-clause-above
returns-clause-above c =
    let f : Some c.in_ok-place.place ≡ position (is_foremost c.args.step c.args.level c.self.inside.left.items) c.self.inside.left.items =
    subst (λ (xs : List AtLine). Some c.in_ok-place.place ≡ position (is_foremost c.args.step c.args.level xs) xs) c.as_slice.ensures.value (sym c.in_ok-place.was ∙ c.foremost.ensures c.args.step (own c.args.step c.ranges.step.fits)) in
    rw c.level_of.ensures (taken-above c.args.step c.args.level c.self.inside.left.items c.in_ok-place.place c.remove-line.result f c.remove-line.ensures.value)

pub remove-line-requires : goal.remove-line-requires
remove-line-requires c =
    let f : Some c.in_ok-place.place ≡ position (is_foremost c.args.step c.args.level c.as_slice.result.now) c.as_slice.result.now =
    sym c.in_ok-place.was ∙ c.foremost.ensures c.args.step (own c.args.step c.ranges.step.fits) in
    subst (λ k. c.in_ok-place.place < k) c.as_slice.ensures.len (place-is _ c.as_slice.result.now c.in_ok-place.place f).1
