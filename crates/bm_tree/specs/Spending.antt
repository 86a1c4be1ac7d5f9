-- What it is to spend all rows of a tree, in their order.
use Rattle.std.specs.Prelude.{◌≡◌, ℕ, List, [], ◌∷◌}
use Rattle.bm_tree.specs.Row.{Row}

module _ {S T : Type 0} where
  -- each row can be spent, once those before it were
  abbrev pub CanSpendAll :
      (S → ℕ → T → Type 0) → (S → ℕ → T → S → Type 0) → List (Row T) → S → Type 0
  CanSpendAll can spends [] s = Unit {0}
  CanSpendAll can spends (r ∷ rs) s =
      can s r.key r.item × ((t : S) → spends s r.key r.item t → CanSpendAll can spends rs t)

  -- from `s` to `t` each row is spent, one after the other
  abbrev pub SpendsAll : (S → ℕ → T → S → Type 0) → List (Row T) → S → S → Type 0
  SpendsAll spends [] s t = s ≡ t
  SpendsAll spends (r ∷ rs) s t = (m : S) × (spends s r.key r.item m × SpendsAll spends rs m t)
