-- A unit that was gained alone.
use Rattle.std.proofs.Common.{◌≡◌, ◌<◌, ◌∷◌, [], ℕ, zero, suc, true, eqb, eq-eqb, get_or, refl, sym, subst, arith}
use Rattle.bm_grace.specs.Rights.{Rights}
use Rattle.bm_page.specs.UnitState.{UnitState}
use Rattle.bm_post.specs.Rights.{Gains, Holds}

-- a unit that was gained alone is a parcel of its own
pub one-held : (n : ℕ) (before now : Rights) (u : UnitState) → Gains (n ∷ []) before now → u.number ≡ n → Holds now (u ∷ [])
one-held n before now u gains same =
    let here : eqb n n ≡ true = eq-eqb n n refl in
    let mine : now.mine n ≡ true = gains.are n (rw here (omega arith)) in
    record { each = each (subst (λ (x : ℕ). now.mine x ≡ true) (sym same) mine); once = λ m. rw same (gains.once m) }
  where
    each : now.mine u.number ≡ true → (k : ℕ) (d : UnitState) → k < 1 → now.mine (get_or (u ∷ []) k d).number ≡ true
    each mine zero d lt = mine
    each mine (suc k) d lt = absurd (omega (arith, lt))
