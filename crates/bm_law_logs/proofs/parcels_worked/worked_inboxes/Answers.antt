use Rattle.std.proofs.Common.{◌≡◌, ℕ, List, [], ◌∷◌, refl, ap, arith, inl, inr}
use Rattle.std.proofs.lemmas.Bool.Decides.{eqb_tells}
use Rattle.std.proofs.Math.Path.{fun_ext}
use Rattle.bm_law_order.specs.Parcels.{IsParcel}
use Rattle.bm_law.specs.Inboxes.{Inboxes}
use Rattle.bm_law_logs.proofs.parcels_worked.worked_inboxes.Goals as goal

-- a parcel of one unit for processor 0
one-parcel : (u : ℕ) → IsParcel 1 0 (u ∷ [])
one-parcel u = record { there = omega arith; some = omega arith }

pub returns-clause-received : goal.returns-clause-received
returns-clause-received c = record { fit = (one-parcel 256, (refl, (refl, tt))); left = fun_ext (λ k. elim (eqb_tells k 10) [ inl y ↦ rw y.0 refl | inr y ↦ rw y.0 refl ]) }

pub returns-clause-older : goal.returns-clause-older
returns-clause-older c = record { fit = (one-parcel 256, (one-parcel 512, (refl, tt))); left = fun_ext (λ k. elim (eqb_tells k 10) [ inl y ↦ rw y.0 refl | inr y ↦ rw y.0 refl ]) }

pub returns-clause-nobody : goal.returns-clause-nobody
returns-clause-nobody c boxes h = (let to = h.fit.0.there in omega (arith, to))

pub returns-clause-kept : goal.returns-clause-kept
returns-clause-kept c h = none (ap (λ (boxes : Inboxes). boxes 10) h.left)
  where
    none : {parcel : List ℕ} {parcels : List (List ℕ)} → parcel ∷ parcels ≡ [] → ⊥
    none e = cc
