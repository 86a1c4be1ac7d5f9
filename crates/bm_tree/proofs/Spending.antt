-- One row after the other is spent.
use Rattle.std.proofs.Common.{◌≡◌, ℕ, List, [], ◌∷◌, refl, sym, subst}
use Rattle.bm_tree.specs.Row.{Row, IsFirst}
use Rattle.bm_tree.specs.Spending.{CanSpendAll, SpendsAll}

module _ {S T : Type 0} where
  pub first_can : (can : S → ℕ → T → Type 0) (spends : S → ℕ → T → S → Type 0) (old new : List (Row T)) (p : ℕ × T) (s : S) → IsFirst old new p → CanSpendAll can spends old s → can s p.0 p.1
  first_can can spends old new p s i c = let all = subst (λ (rs : List (Row T)). CanSpendAll can spends rs s) i.1 c in all.0

  pub rest_can : (can : S → ℕ → T → Type 0) (spends : S → ℕ → T → S → Type 0) (old new : List (Row T)) (p : ℕ × T) (s t : S) → IsFirst old new p → CanSpendAll can spends old s → spends s p.0 p.1 t → CanSpendAll can spends new t
  rest_can can spends old new p s t i c done = let all = subst (λ (rs : List (Row T)). CanSpendAll can spends rs s) i.1 c in all.1 t done

  pub first_spent : (spends : S → ℕ → T → S → Type 0) (old new : List (Row T)) (p : ℕ × T) (s m t : S) → IsFirst old new p → spends s p.0 p.1 m → SpendsAll spends new m t → SpendsAll spends old s t
  first_spent spends old new p s m t i done rest = subst (λ (rs : List (Row T)). SpendsAll spends rs s t) (sym i.1) (m, (done, rest))

  pub none_spent : (spends : S → ℕ → T → S → Type 0) (rows : List (Row T)) (s : S) → rows ≡ [] → SpendsAll spends rows s s
  none_spent spends rows s e = subst (λ (rs : List (Row T)). SpendsAll spends rs s s) (sym e) refl

  -- who can always spend can spend all rows
  pub all_can : (can : S → ℕ → T → Type 0) (spends : S → ℕ → T → S → Type 0) (rows : List (Row T)) (s : S) → ((t : S) (key : ℕ) (item : T) → can t key item) → CanSpendAll can spends rows s
  all_can can spends [] s always = tt
  all_can can spends (r ∷ rs) s always = (always s r.key r.item, λ t done. all_can can spends rs t always)
