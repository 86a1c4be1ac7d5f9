-- Both ways of counting how often a number stands in a list count the same.
use Rattle.std.proofs.Common.{◌≡◌, ℕ, List, [], ◌∷◌, refl, sym, ◌∙◌, arith, inl, inr}
use Rattle.std.proofs.lemmas.Bool.Decides.{eqb_tells}
use Rattle.bm_law.specs.Stands.{times}
use Rattle.bm_law_lives.specs.Together as together

counted : (u : ℕ) (xs : List ℕ) → together.times u xs ≡ times u xs
counted u [] = refl
counted u (x ∷ xs) =
    elim (eqb_tells u x) [
      | inl y ↦ rw y.0 (omega (arith, counted u xs))
      | inr y ↦ rw y.0 (omega (arith, counted u xs))
    ]

pub as-counted : (u : ℕ) (v w : List ℕ) → times u v ≡ times u w → together.times u v ≡ together.times u w
as-counted u v w h = counted u v ∙ h ∙ sym (counted u w)

pub as-told : (u : ℕ) (v w : List ℕ) → together.times u v ≡ together.times u w → times u v ≡ times u w
as-told u v w h = sym (counted u v) ∙ h ∙ counted u w
