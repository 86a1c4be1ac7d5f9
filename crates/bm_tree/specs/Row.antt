-- What a contract sees of a tree: rows in the order of their keys.
use Rattle.std.specs.Prelude.{◌≡◌, ℕ, ◌<◌, ◌≤◌, List, [], ◌∷◌, ◌++◌, Option, Some, None, cond, refl, ◌==◌}
use Rattle.std.specs.Coded.{Coded, code_by, coded×, coded_ℕ, coded_list}

-- an item with its key and its place
pub record Row (T : Type 0) : Type 0 where
  pub place : ℕ
  pub key : ℕ
  pub item : T

-- a row is stored as the tuple of its fields
abbrev pub row_code : {T : Type 0} → Coded T → Coded (Row T)
row_code {T} code =
    code_by (ℕ × (ℕ × T)) (coded× coded_ℕ (coded× coded_ℕ code)) (λ r. (r.place, (r.key, r.item)))
    (λ p. record { place = p.0; key = p.1.0; item = p.1.1 }) (λ _. refl)

-- the rows in order, how many more items need no memory, and how many places stand on the longest way down from the root
pub record Tree (T : Type 0) : Type 0 where
  pub rows : List (Row T)
  pub spare : ℕ
  pub height : ℕ

-- a tree is stored as the tuple of its fields
abbrev pub tree_code : {T : Type 0} → Coded T → Coded (Tree T)
tree_code {T} code =
    code_by
    (List (Row T) × (ℕ × ℕ))
    (coded× (coded_list (row_code code)) (coded× coded_ℕ coded_ℕ))
    (λ t. (t.rows, (t.spare, t.height)))
    (λ p. record { rows = p.0; spare = p.1.0; height = p.1.1 })
    (λ _. refl)

module _ {T : Type 0} where
  -- the place of the first row
  abbrev pub first_place : List (Row T) → Option ℕ
  first_place [] = None
  first_place (r ∷ rs) = Some r.place

  -- the item at a place
  abbrev pub item_at : List (Row T) → ℕ → Option T
  item_at [] place = None
  item_at (r ∷ rs) place = cond (r.place == place) (Some r.item) (item_at rs place)

  -- no key is above this one
  abbrev pub KeysAtMost : ℕ → List (Row T) → Type 0
  KeysAtMost key [] = Unit {0}
  KeysAtMost key (r ∷ rs) = (r.key ≤ key) × KeysAtMost key rs

  -- each key is above this one
  abbrev pub KeysAbove : ℕ → List (Row T) → Type 0
  KeysAbove key [] = Unit {0}
  KeysAbove key (r ∷ rs) = (key < r.key) × KeysAbove key rs

  -- no key is below this one
  abbrev pub KeysAtLeast : ℕ → List (Row T) → Type 0
  KeysAtLeast key [] = Unit {0}
  KeysAtLeast key (r ∷ rs) = (key ≤ r.key) × KeysAtLeast key rs

  -- no key is below one before it
  abbrev pub KeysAscend : List (Row T) → Type 0
  KeysAscend [] = Unit {0}
  KeysAscend (r ∷ rs) = KeysAtLeast r.key rs × KeysAscend rs

  -- no two rows have one place
  abbrev pub PlacesDiffer : List (Row T) → Type 0
  PlacesDiffer [] = Unit {0}
  PlacesDiffer (r ∷ rs) = (item_at rs r.place ≡ None) × PlacesDiffer rs

  -- the new rows are the old ones with one more, at a place that was free, after its equals
  pub record Inserted (old new : List (Row T)) (place key : ℕ) (item : T) : Type 0 where
    pub before : List (Row T)
    pub after : List (Row T)
    pub was : old ≡ before ++ after
    pub is : new ≡ before ++ record { place = place; key = key; item = item } ∷ after
    pub low : KeysAtMost key before
    pub high : KeysAbove key after
    pub was_free : item_at old place ≡ None

  -- the new rows are the old ones without the one at this place
  pub record Taken (old new : List (Row T)) (place key : ℕ) (item : T) : Type 0 where
    pub before : List (Row T)
    pub after : List (Row T)
    pub was : old ≡ before ++ record { place = place; key = key; item = item } ∷ after
    pub is : new ≡ before ++ after

  -- the old rows are this key and item, at some place, and then the new rows
  abbrev pub IsFirst : (old new : List (Row T)) → ℕ × T → Type 0
  IsFirst old new p = (place : ℕ) × (old ≡ record { place = place; key = p.0; item = p.1 } ∷ new)
