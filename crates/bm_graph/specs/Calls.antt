-- What the calls of lists and trees do, and what of it their histories name.
use Rattle.std.specs.Prelude.{ℕ, ◌≡◌, ◌≤◌, ◌<◌, List, [], ◌∷◌, ◌++◌, Option, Some, None}
use Rattle.bm_journal.specs.declared.ids.ObjId.{ObjId}
use Rattle.bm_journal.specs.declared.past.PastCall.{PastCall}
use Rattle.bm_journal.specs.declared.past.PastCall.TheVariants as past
use Rattle.bm_graph.specs.declared.item.Item.{Item}

module _ {T : Type 0} where
  -- a pop from the front names the item that it took, or that there was none
  abbrev pub front_call : Option (Item T) → PastCall
  front_call None = past.PopFrontNone
  front_call (Some item) = past.PopFront item.id

  abbrev pub back_call : Option (Item T) → PastCall
  back_call None = past.PopBackNone
  back_call (Some item) = past.PopBack item.id

  -- the first item is taken, or there was none
  abbrev pub TakesFirst : (old new : List (Item T)) → Option (Item T) → Type 0
  TakesFirst old new None = (old ≡ []) × (new ≡ [])
  TakesFirst old new (Some item) = old ≡ item ∷ new

  -- the last item is taken, or there was none
  abbrev pub TakesLast : (old new : List (Item T)) → Option (Item T) → Type 0
  TakesLast old new None = (old ≡ []) × (new ≡ [])
  TakesLast old new (Some item) = old ≡ new ++ item ∷ []

  -- the id of the first item
  abbrev pub first_id : List (Item T) → Option ObjId
  first_id [] = None
  first_id (i ∷ is) = Some i.id

  -- no item has a greater key than this
  abbrev pub KeysAtMost : ℕ → List (Item T) → Type 0
  KeysAtMost key [] = Unit {0}
  KeysAtMost key (i ∷ is) = (i.key ≤ key) × KeysAtMost key is

  -- each item has a greater key than this
  abbrev pub KeysAbove : ℕ → List (Item T) → Type 0
  KeysAbove key [] = Unit {0}
  KeysAbove key (i ∷ is) = (key < i.key) × KeysAbove key is

  -- no item has a smaller key than this
  abbrev pub KeysAtLeast : ℕ → List (Item T) → Type 0
  KeysAtLeast key [] = Unit {0}
  KeysAtLeast key (i ∷ is) = (key ≤ i.key) × KeysAtLeast key is

  -- no item has a smaller key than one before it
  abbrev pub KeysAscend : List (Item T) → Type 0
  KeysAscend [] = Unit {0}
  KeysAscend (i ∷ is) = KeysAtLeast i.key is × KeysAscend is

  -- the new items are the old ones with one more, after the last whose key isn't greater
  pub record Adds (old new : List (Item T)) (item : Item T) : Type 0 where
    pub before : List (Item T)
    pub after : List (Item T)
    pub was : old ≡ before ++ after
    pub is : new ≡ before ++ item ∷ after
    pub low : KeysAtMost item.key before
    pub high : KeysAbove item.key after

  -- the new items are the old ones without this one
  pub record Removes (old new : List (Item T)) (item : Item T) : Type 0 where
    pub before : List (Item T)
    pub after : List (Item T)
    pub was : old ≡ before ++ item ∷ after
    pub is : new ≡ before ++ after

-- a look at the first node names it, or that there was none
abbrev pub first_call : Option ObjId → PastCall
first_call None = past.FirstNone
first_call (Some id) = past.First id
