-- Worked logs with parcels.
use Rattle.std.proofs.Common.{◌≡◌, ℕ, inl, inr, List, [], ◌∷◌, refl, arith}
use Rattle.std.proofs.lemmas.Bool.Decides.{eqb_tells}
use Rattle.bm_law_scenario.specs.Parcels.{ParcelLaw}
use Rattle.bm_law_scenario.specs.WrongDeferred.{inbox_forgotten, not_received, other_received, received, received_twice, sends, swept_from_inbox}

pub received-fits : ParcelLaw 0 received
received-fits = (tt, (tt, (tt, (tt, (tt, (refl, (refl, (refl, (refl, λ c. elim (eqb_tells c 10) [ inl y ↦ rw y.1 refl | inr y ↦ rw y.0 refl ])))))))))

pub swept-fits : ParcelLaw 0 swept_from_inbox
swept-fits = (tt, (tt, (tt, (tt, (tt, (refl, (refl, λ c. elim (eqb_tells c 10) [ inl y ↦ rw y.1 refl | inr y ↦ rw y.0 refl ])))))))

some-none : {u : ℕ} {v : List ℕ} → u ∷ v ≡ [] → ⊥
some-none e = cc

none-some : {u : ℕ} {v : List ℕ} → [] ≡ u ∷ v → ⊥
none-some e = cc

one-unit : {u v : ℕ} → u ∷ [] ≡ v ∷ [] → u ≡ v
one-unit e = cc

other : ◌≡◌ {A = ℕ} 512 256 → ⊥
other e = omega (arith, e)

pub forgotten-wrong : ParcelLaw 0 inbox_forgotten → ⊥
forgotten-wrong h = none-some h.1.1.1.1.1.1.0

left : {b : List (List ℕ)} {x : List ℕ} → x ∷ b ≡ [] → ⊥
left e = cc

pub not_swept-wrong : ParcelLaw 0 sends → ⊥
not_swept-wrong h = left (h.1.1.1.1.1.1 10)

pub not_received-wrong : ParcelLaw 0 not_received → ⊥
not_received-wrong h = none-some h.1.1.1.1.1.1.0

pub other_received-wrong : ParcelLaw 0 other_received → ⊥
other_received-wrong h = other (one-unit h.1.1.1.1.1.1.0)

pub received_twice-wrong : ParcelLaw 0 received_twice → ⊥
received_twice-wrong h = some-none h.1.1.1.1.1.1.1.0

not-self : ◌≡◌ {A = ℕ} 0 1 → ⊥
not-self e = cc

pub elsewhere-wrong : ParcelLaw 1 received → ⊥
elsewhere-wrong h = not-self h.1.1.1.1.1.0
