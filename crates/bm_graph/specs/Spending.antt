-- What it is to spend all items of a list or tree, in their order.
use Rattle.std.specs.Prelude.{◌≡◌, ℕ, List, [], ◌∷◌}
use Rattle.bm_graph.specs.declared.item.Item.{Item}

module _ {S T : Type 0} where
  -- each item can be spent, once those before it were
  abbrev pub CanSpendItems :
      (S → ℕ → Item T → Type 0) → (S → ℕ → Item T → S → Type 0) → List (Item T) → S → Type 0
  CanSpendItems can spends [] s = Unit {0}
  CanSpendItems can spends (i ∷ is) s =
      can s i.key i × ((t : S) → spends s i.key i t → CanSpendItems can spends is t)

  -- from `s` to `t` each item is spent, one after the other
  abbrev pub SpendsItems : (S → ℕ → Item T → S → Type 0) → List (Item T) → S → S → Type 0
  SpendsItems spends [] s t = s ≡ t
  SpendsItems spends (i ∷ is) s t = (m : S) × (spends s i.key i m × SpendsItems spends is m t)
