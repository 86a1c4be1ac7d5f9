-- Places that are the same one.
use Rattle.std.specs.Prelude.{◌≡◌, ◌≢◌, ◌⊎◌, ◌&&◌, Bool, true, false, eqb}
use Rattle.std.proofs.Common.{refl, sym, ◌∙◌, ap, inl, inr, eq-eqb, eqb-true}
use Rattle.std.proofs.lemmas.Bool.{and_parts, cases_Bool, false≢true}
use Rattle.bm_law_places.specs.Place.{Place, Stock, Inbox, Cache, Hand, Living, Ending}

abbrev pub same_place : Place → Place → Bool
same_place Stock Stock = true
same_place (Inbox p c) (Inbox q k) = eqb p q && eqb c k
same_place (Cache p c) (Cache q k) = eqb p q && eqb c k
same_place (Hand p l) (Hand q k) = eqb p q && eqb l k
same_place Living Living = true
same_place (Ending p l) (Ending q k) = eqb p q && eqb l k
same_place _ _ = false

same-is : (x y : Place) → same_place x y ≡ true → x ≡ y
same-is Stock Stock h = refl
same-is (Inbox p c) (Inbox q k) h = let both = and_parts (eqb p q) (eqb c k) h in ap (λ n. Inbox n c) (eqb-true p q both.0) ∙ ap (Inbox q) (eqb-true c k both.1)
same-is (Cache p c) (Cache q k) h = let both = and_parts (eqb p q) (eqb c k) h in ap (λ n. Cache n c) (eqb-true p q both.0) ∙ ap (Cache q) (eqb-true c k both.1)
same-is (Hand p l) (Hand q k) h = let both = and_parts (eqb p q) (eqb l k) h in ap (λ n. Hand n l) (eqb-true p q both.0) ∙ ap (Hand q) (eqb-true l k both.1)
same-is Living Living h = refl
same-is (Ending p l) (Ending q k) h = let both = and_parts (eqb p q) (eqb l k) h in ap (λ n. Ending n l) (eqb-true p q both.0) ∙ ap (Ending q) (eqb-true l k both.1)
same-is x y h = absurd (false≢true h)

pub same-self : (x : Place) → same_place x x ≡ true
same-self Stock = refl
same-self (Inbox p c) = rw (eq-eqb p p refl, eq-eqb c c refl) refl
same-self (Cache p c) = rw (eq-eqb p p refl, eq-eqb c c refl) refl
same-self (Hand p l) = rw (eq-eqb p p refl, eq-eqb l l refl) refl
same-self Living = refl
same-self (Ending p l) = rw (eq-eqb p p refl, eq-eqb l l refl) refl

-- two places are the same one or not, and the test tells which
pub place_tells : (x y : Place) → ((same_place x y ≡ true) × (x ≡ y)) ⊎ ((same_place x y ≡ false) × (x ≢ y))
place_tells x y =
    elim (cases_Bool (same_place x y)) [
      | inl q ↦ inl (q, same-is x y q)
      | inr q ↦ inr (q, λ e. false≢true (sym q ∙ (ap (same_place x) (sym e) ∙ same-self x)))
    ]
