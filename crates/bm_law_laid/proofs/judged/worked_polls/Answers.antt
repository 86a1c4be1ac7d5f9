use Rattle.std.specs.Prelude.{◌≡◌, ◌⊎◌, ◌<◌, ◌≤◌, ◌%◌, Some, None}
use Rattle.std.proofs.Common.{arith, inl, inr, lit≤, refl}
use Rattle.std.proofs.lemmas.Bool.Decides.{eqb_tells}
use Rattle.bm_law_laid.proofs.judged.worked_polls.Goals as goal

-- a word that is odd and stays doesn't pass
one-waits : (1 % 2 ≡ 0) ⊎ (1 < 1) → ⊥
one-waits (inl e) = absurd (cc)
one-waits (inr h) = omega (arith, h)

pub returns-clause-both_stages : goal.returns-clause-both_stages
returns-clause-both_stages c = (tt, (tt, (tt, (tt, (tt, (tt, (tt, (tt, (tt, (tt, (tt, (tt, (tt, (tt, (tt, (tt, (tt, (tt, (tt, (tt, (record { class = 10; stamp = 2; waits = refl; below = lit≤ tt }, (tt, (inl (record { waits = λ k h. absurd (cc); idle = λ k. inr (lit≤ tt) }), (tt, (tt, (tt, (tt, (record { class = 10; stamp = 2; waits = refl; below = lit≤ tt }, (tt, (inl (record { waits = λ k h. absurd (cc); idle = λ k. inr (lit≤ tt) }), (tt, (tt, (tt, (tt, (tt, (tt, (tt, (tt, (tt, (tt, (tt, (tt, (tt, (tt, (tt, (tt, (tt, (tt, (tt, (tt, (tt, (tt, (tt, (tt, (tt, (record { class = 10; stamp = 4; waits = refl; below = lit≤ tt }, (tt, (inl (record { waits = λ k h. absurd (cc); idle = λ k. inr (lit≤ tt) }), (tt, tt)))))))))))))))))))))))))))))))))))))))))))))))))))))))))))

pub returns-clause-at_once : goal.returns-clause-at_once
returns-clause-at_once c = (tt, (tt, (tt, (tt, (tt, (tt, (tt, (tt, (tt, (tt, (tt, (tt, (tt, (tt, (tt, (tt, (tt, (record { class = 10; stamp = 2; waits = refl; below = lit≤ tt }, (tt, (inl (record { waits = λ k h. absurd (cc); idle = λ k. inr (lit≤ tt) }), (tt, tt)))))))))))))))))))))

pub returns-clause-waits : goal.returns-clause-waits
returns-clause-waits c = (tt, (tt, (tt, (tt, (tt, (tt, (tt, (tt, (tt, (tt, (tt, (tt, (tt, (tt, (tt, (tt, (tt, (tt, (tt, (tt, (record { class = 10; stamp = 2; waits = refl; below = lit≤ tt }, (inl (record { waits = λ k h. one-waits h.1.0; idle = λ k. absurd (k refl) }), (tt, (tt, (tt, (inl (record { waits = λ k h. absurd (cc); idle = λ k. inr (lit≤ tt) }), (tt, (tt, (tt, (tt, tt))))))))))))))))))))))))))))))

below-stamp : (0 % 2 ≡ 1) ⊎ (2 ≤ 0) → ⊥
below-stamp (inl e) = absurd (cc)
below-stamp (inr h) = omega (arith, h)

pub returns-clause-only_looks : goal.returns-clause-only_looks
returns-clause-only_looks c f = elim (f.1.1.1.1.1.1.1.1.1.1.1.1.1.1.1.1.1.0) [
  | inl r ↦ below-stamp (r.idle (λ e. absurd (cc)))
  | inr b ↦ absurd b
]

pub returns-clause-never_ends : goal.returns-clause-never_ends
returns-clause-never_ends c f = elim (f.1.1.1.1.1.1.1.1.1.1.1.1.1.1.1.1.1.1.0) [
  | inl r ↦ r.waits refl (inl refl, tt)
  | inr b ↦ absurd b
]

pub returns-clause-from_stamp : goal.returns-clause-from_stamp
returns-clause-from_stamp c f =
    let a = f.1.1.1.1.1.1.1.1.1.1.1.1.1.1.1.1.1.1.1.1.0 in
    elim (eqb_tells a.class 10) [
      | inl y ↦ (let w = a.waits in let z : 2 ≡ a.stamp = (let v : Some 2 ≡ Some a.stamp = rw y.0 at w in cc) in let b = a.below in omega (arith, z, b))
      | inr y ↦ (let w = a.waits in let v : None ≡ Some a.stamp = rw y.0 at w in absurd (cc))
    ]

pub returns-clause-no_stamp : goal.returns-clause-no_stamp
returns-clause-no_stamp c f = f.1.1.1.0
