use Rattle.std.specs.Prelude.{is_none}
use Rattle.std.proofs.Common.{◌≡◌, ◌∙◌, Option, None, Some, IsSome, true, false, slice_get, ap, arith, inl, inr, refl, subst, sym}
use Rattle.std.proofs.lemmas.Bool.{cases_eq}
use Rattle.std.proofs.lemmas.Option.{get_or_from_slice_get, slice_get-get_or, slice_get_within}
use Rattle.bm_journal.specs.Recording.{Kept as Recorded}
use Rattle.bm_exec_levels.specs.declared.kept.Kept.{Kept}
use Rattle.bm_run.proofs.all_turns.some_failed.Goals as goal

is-some : {A : Type 0} (o : Option A) → is_none o ≡ false → IsSome o
is-some None h = absurd cc
is-some (Some x) h = refl

is-none : {A : Type 0} (o : Option A) → is_none o ≡ true → o ≡ None
is-none None h = refl
is-none (Some x) h = absurd cc

pub returns-then-failed-clause-failed : goal.returns-then-failed-clause-failed
returns-then-failed-clause-failed c e =
    let kept = c.args.kept.now in
    let i = c.loop-own.own-index in
    let own : Kept = c.own-item.result in
    record {
      processor = i;
      own = own;
      own_is = slice_get-get_or kept i own c.loop-own-test.true ∙ ap Some (sym c.own-item.is);
      failed = is-none own.caches.recorder.told (ap (λ (r : Recorded). is_none r.told) (sym c.recorder.ensures) ∙ (sym c.failed.ensures ∙ c.if-failed.true));
    }

pub loop-own-preserved : goal.loop-own-preserved
loop-own-preserved c p own lt f =
    let kept = c.args.kept.now in
    let i = c.loop-own.own-index in
    let here : Kept = c.own-item.result in
    let tells : IsSome here.caches.recorder.told = is-some here.caches.recorder.told (ap (λ (r : Recorded). is_none r.told) (sym c.recorder.ensures) ∙ (sym c.failed.ensures ∙ c.if-failed.false)) in
    elim (cases_eq p i) [
      | inl same ↦
          let found : slice_get kept i ≡ Some own = ap (slice_get kept) (sym same) ∙ f in
          let is : here ≡ own = c.own-item.is ∙ get_or_from_slice_get kept i own here found in
          subst (λ (k : Kept). IsSome k.caches.recorder.told) is tells
      | inr other ↦ c.loop-own.invariant p own (omega (arith, lt, other)) f
    ]

pub returns-clause-told : goal.returns-clause-told
returns-clause-told c e p own f =
    let kept = c.args.kept.now in
    let last = c.loop-own-test.false in
    let lt = slice_get_within kept p own f in
    c.loop-own.invariant p own (omega (arith, lt, last)) f
