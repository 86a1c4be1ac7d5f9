-- One item after the other is spent.
use Rattle.std.proofs.Common.{◌≡◌, ℕ, List, [], ◌∷◌, refl, sym, subst}
use Rattle.bm_tree.specs.Row.{Row}
use Rattle.bm_tree.specs.Spending.{CanSpendAll, SpendsAll}
use Rattle.bm_graph.specs.Sound.{items_of, KeysHeld}
use Rattle.bm_graph.specs.declared.item.Item.{Item}
use Rattle.bm_graph.specs.Spending.{CanSpendItems, SpendsItems}

module _ {S T : Type 0} where
  pub first_can : (can : S → ℕ → Item T → Type 0) (spends : S → ℕ → Item T → S → Type 0) (old new : List (Item T)) (i : Item T) (s : S) → old ≡ i ∷ new → CanSpendItems can spends old s → can s i.key i
  first_can can spends old new i s e c = let all = subst (λ (is : List (Item T)). CanSpendItems can spends is s) e c in all.0

  pub rest_can : (can : S → ℕ → Item T → Type 0) (spends : S → ℕ → Item T → S → Type 0) (old new : List (Item T)) (i : Item T) (s t : S) → old ≡ i ∷ new → CanSpendItems can spends old s → spends s i.key i t → CanSpendItems can spends new t
  rest_can can spends old new i s t e c done = let all = subst (λ (is : List (Item T)). CanSpendItems can spends is s) e c in all.1 t done

  pub first_spent : (spends : S → ℕ → Item T → S → Type 0) (old new : List (Item T)) (i : Item T) (s m t : S) → old ≡ i ∷ new → spends s i.key i m → SpendsItems spends new m t → SpendsItems spends old s t
  first_spent spends old new i s m t e done rest = subst (λ (is : List (Item T)). SpendsItems spends is s t) (sym e) (m, (done, rest))

  pub none_spent : (spends : S → ℕ → Item T → S → Type 0) (items : List (Item T)) (s : S) → items ≡ [] → SpendsItems spends items s s
  none_spent spends items s e = subst (λ (is : List (Item T)). SpendsItems spends is s s) (sym e) refl

  -- to spend the rows of a tree is to spend their items
  pub rows_can : (can : S → ℕ → Item T → Type 0) (spends : S → ℕ → Item T → S → Type 0) (rows : List (Row (Item T))) (s : S) → KeysHeld rows → CanSpendItems can spends (items_of rows) s → CanSpendAll can spends rows s
  rows_can can spends [] s k c = tt
  rows_can can spends (r ∷ rs) s k c = (
    subst (λ (x : ℕ). can s x r.item) (sym k.0) c.0,
    λ t done. rows_can can spends rs t k.1 (c.1 t (subst (λ (x : ℕ). spends s x r.item t) k.0 done)),
  )

  pub rows_spent : (spends : S → ℕ → Item T → S → Type 0) (rows : List (Row (Item T))) (s t : S) → KeysHeld rows → SpendsAll spends rows s t → SpendsItems spends (items_of rows) s t
  rows_spent spends [] s t k done = done
  rows_spent spends (r ∷ rs) s t k done =
      (done.0, (subst (λ (x : ℕ). spends s x r.item done.0) k.0 done.1.0, rows_spent spends rs done.0 t k.1 done.1.1))

  -- who can always spend can spend all items
  pub all_can : (can : S → ℕ → Item T → Type 0) (spends : S → ℕ → Item T → S → Type 0) (items : List (Item T)) (s : S) → ((t : S) (key : ℕ) (item : Item T) → can t key item) → CanSpendItems can spends items s
  all_can can spends [] s always = tt
  all_can can spends (i ∷ is) s always = (always s i.key i, λ t done. all_can can spends is t always)
