use Rattle.std.specs.Prelude.{◌≡◌, ◌<◌, ℕ, zero, suc, [], None, get_or}
use Rattle.std.proofs.Common.{arith, inl, inr, lit<, refl, subst, sym}
use Rattle.std.proofs.lemmas.Bool.Decides.{eqb_tells}
use Rattle.bm_law_laid.specs.OrderOf.{AllBelow, IsOrderOf}
use Rattle.bm_law_order.specs.Lives.{LivesFit, first_lives, lives_after}
use Rattle.bm_law_order.specs.Orders.{AllFit, over, part_of}
use Rattle.bm_law_places.proofs.Logs.{below-none}
use Rattle.bm_law_seals.specs.Answered.{AreAnswered}
use Rattle.bm_law_seals.specs.WorkedReferences.{logs_of, two_references}
use Rattle.bm_law_seals.proofs.LivesWhole.{whole-lives}
use Rattle.bm_law_seals.proofs.worked.worked_references.Goals as goal

-- ---- the order that is so

fits : AllFit lives_after LivesFit two_references first_lives
fits = (
  record { none = refl; next_is = refl },
  (
    record { held = record { maker = 0; count = 1 }; holds = refl; count = refl; now_is = refl },
    (
      record { references = 2; has = record { held = record { maker = 0; count = 2 }; holds = refl; count = refl; now_is = refl }; none = refl },
      (
        (record { unit = 3; life = 1; under = refl; has = record { held = record { maker = 0; count = 2 }; holds = refl; count = refl; now_is = refl } }, lit< tt),
        (
          record { references = 1; has = record { held = record { maker = 0; count = 1 }; holds = refl; count = refl; now_is = refl }; none = refl },
          (
            record { unit = 3; life = 1; under = refl; has = record { held = record { maker = 0; count = 1 }; holds = refl; count = refl; now_is = refl } },
            (
              record { life = 1; under = refl },
              tt,
            ),
          ),
        ),
      ),
    ),
  ),
)

below : AllBelow 2 two_references
below = (lit< tt, (lit< tt, (lit< tt, (lit< tt, (lit< tt, (lit< tt, (lit< tt, tt)))))))

is-order : IsOrderOf (logs_of two_references) two_references
is-order = record { below = below; parts = parts }
  where
    parts : (p : ℕ) → p < 2 → part_of p two_references ≡ get_or (logs_of two_references) p []
    parts zero lt = refl
    parts (suc zero) lt = refl
    parts (suc (suc p)) lt = absurd (omega (arith, lt))

answered : (p : ℕ) → AreAnswered (part_of p two_references)
answered zero = (tt, (tt, ((refl, tt), (tt, tt))))
answered (suc zero) = ((refl, tt), ((refl, tt), (tt, tt)))
answered (suc (suc p)) = subst AreAnswered (sym (below-none 2 (suc (suc p)) two_references below (omega arith))) tt

none-lives : (u : ℕ) → (over lives_after two_references first_lives).holds u ≡ None
none-lives u = elim (eqb_tells u 3) [ inl y ↦ rw y.0 refl | inr y ↦ rw y.0 refl ]

none-dropped : (p l : ℕ) → (over lives_after two_references first_lives).dropping p l ≡ None
none-dropped p l = elim (eqb_tells l 0) [
  | inr z ↦ elim (eqb_tells p 1) [
    | inl y ↦ rw (y.0, z.0) (elim (eqb_tells p 0) [ inl x ↦ rw x.0 refl | inr x ↦ rw x.0 refl ])
    | inr y ↦ rw (y.0, z.0) (elim (eqb_tells p 0) [ inl x ↦ rw x.0 refl | inr x ↦ rw x.0 refl ])
  ]
  | inl z ↦ elim (eqb_tells p 1) [
    | inl y ↦ rw (y.0, z.0) refl
    | inr y ↦ rw (y.0, z.0) (elim (eqb_tells p 0) [ inl x ↦ rw x.0 refl | inr x ↦ rw x.0 refl ])
  ]
]

pub returns-clause-fits : goal.returns-clause-fits
returns-clause-fits c = fits

pub returns-clause-whole : goal.returns-clause-whole
returns-clause-whole c = whole-lives (logs_of two_references) two_references is-order fits answered none-lives none-dropped

-- ---- the orders that aren't

pub returns-clause-held : goal.returns-clause-held
returns-clause-held c = λ h. (let e = h.each_ended 3 in absurd (omega (arith, e)))

pub returns-clause-both : goal.returns-clause-both
returns-clause-both c = λ h. (let e = (h.ended 3).1 in absurd (omega (arith, e)))

pub returns-clause-dropper : goal.returns-clause-dropper
returns-clause-dropper c = λ h. (let e = h.homes.1.0.0.1 in absurd (cc))
