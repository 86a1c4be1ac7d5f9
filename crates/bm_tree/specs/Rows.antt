-- What a contract sees of a tree: its rows in order. And how places keep them.
use Rattle.std.specs.Prelude.{◌≡◌, ℕ, ◌+◌, ◌≤◌, List, [], ◌∷◌, ◌++◌, length, Option, Some, None, slice_get}
use Rattle.bm_tree.specs.declared.links.Link.{Link}
use Rattle.bm_tree.specs.declared.arena.Slot.{Slot}
use Rattle.bm_tree.specs.declared.arena.Slot.TheVariants.{Free, Full}
use Rattle.bm_tree.specs.Links.{none}
use Rattle.bm_tree.specs.Shape.{Holds, Sorted, count}
use Rattle.bm_tree.specs.Colours.{Coloured}
use Rattle.bm_tree.specs.Row.{Row}

module _ {T : Type 0} where
  -- the key at a place, and 0 at a free one
  abbrev pub key_in : Option (Slot T) → ℕ
  key_in (Some (Full key item)) = key
  key_in (Some (Free next)) = 0
  key_in None = 0

  abbrev pub key_of : List (Slot T) → ℕ → ℕ
  key_of slots place = key_in (slice_get slots place)

  -- 1 at a place that holds an item, and otherwise 0
  abbrev pub full_in : Option (Slot T) → ℕ
  full_in (Some (Full key item)) = 1
  full_in (Some (Free next)) = 0
  full_in None = 0

  abbrev pub item_in : Option (Slot T) → Option T
  item_in (Some (Full key item)) = Some item
  item_in (Some (Free next)) = None
  item_in None = None

  abbrev pub row_in : ℕ → Option (Slot T) → List (Row T)
  row_in place (Some (Full k t)) = record { place = place; key = k; item = t } ∷ []
  row_in place (Some (Free next)) = []
  row_in place None = []

  -- the rows at these places
  abbrev pub rows : List (Slot T) → List ℕ → List (Row T)
  rows slots [] = []
  rows slots (p ∷ ps) = row_in p (slice_get slots p) ++ rows slots ps

  -- from `at` on, these free places each name the next
  abbrev pub Chain : List (Slot T) → ℕ → List ℕ → Type 0
  Chain slots at [] = at ≡ none
  Chain slots at (p ∷ ps) =
      (at ≡ p) × ((next : ℕ) × (slice_get slots p ≡ Some (Free next)) × Chain slots next ps)

  -- the links hold the places with an item, in the order of their keys, and every other place is in the chain of free ones
  pub record IsSound (links : List Link) (slots : List (Slot T)) (root free len : ℕ) : Type 0 where
    pub order : List ℕ
    pub holds : Holds links root order
    pub coloured : Coloured links order
    pub lengths : length slots ≡ length links
    pub full : (q : ℕ) → count q order ≡ full_in (slice_get slots q)
    pub chain : List ℕ
    pub chained : Chain slots free chain
    pub chain_once : (q : ℕ) → count q chain ≤ 1
    pub total : len + length chain ≡ length slots
    pub counted : len ≡ length order
    pub sorted : Sorted (key_of slots) order
