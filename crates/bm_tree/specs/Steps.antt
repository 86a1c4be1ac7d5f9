-- What the steps on the links leave of the order.
use Rattle.std.specs.Prelude.{◌≡◌, ◌≢◌, ℕ, ◌<◌, Bool, List, ◌∷◌, ◌++◌, length}
use Rattle.bm_tree.specs.declared.links.Link.{Link}
use Rattle.bm_tree.specs.Links.{none, link, HasFreeSide}
use Rattle.bm_tree.specs.Paths.{Hole}
use Rattle.bm_tree.specs.Shape.{Holds, In, count, places, below}

-- the same places stand in the same order, if `at` is one of them
abbrev pub KeepsOrder : (old new : List Link) (root new_root at : ℕ) → Type 0
KeepsOrder old new root new_root at =
    (order : List ℕ) → Holds old root order → In at order → Holds new new_root order

-- `place`, which stood nowhere, stands in the gap below `up` on the side `right`
abbrev pub Attaches : (old new : List Link) (root new_root up place : ℕ) (right : Bool) → Type 0
Attaches old new root new_root up place right =
    (xs ys : List ℕ) → Holds old root (xs ++ ys) → Hole old root up right xs ys
    → count place (xs ++ ys) ≡ 0 → place < length old → length (xs ++ ys) < length old
    → Holds new new_root (xs ++ place ∷ ys)

-- `place` is taken out of the order
abbrev pub Unlinks : (old new : List Link) (root new_root place : ℕ) → Type 0
Unlinks old new root new_root place =
    (xs ys : List ℕ) → Holds old root (xs ++ place ∷ ys) → Holds new new_root (xs ++ ys)

-- `place`, which has at most one kid, is taken out of the order
abbrev pub Splices : (old new : List Link) (root new_root place : ℕ) → Type 0
Splices old new root new_root place =
    (xs ys : List ℕ) → Holds old root (xs ++ place ∷ ys) → HasFreeSide (link old place)
    → Holds new new_root (xs ++ ys)

-- `young`, which stood nowhere, stands in the place of `gone` in the order
abbrev pub Substitutes : (old new : List Link) (root new_root gone young : ℕ) → Type 0
Substitutes old new root new_root gone young =
    (xs ys : List ℕ) → Holds old root (xs ++ gone ∷ ys) → count young (xs ++ gone ∷ ys) ≡ 0
    → young < length old → Holds new new_root (xs ++ young ∷ ys)

-- a climb from `from` to `to` leaves all neighbours, and stays in the tree
abbrev pub StaysIn : List Link → ℕ → ℕ → Type 0
StaysIn old from to =
    (root : ℕ) (order : List ℕ) → Holds old root order → In from order → In to order

-- `first` is the leftmost place of the tree at `from`
abbrev pub IsLeftmost : List Link → (from first : ℕ) → Type 0
IsLeftmost ls from first = from ≢ none → (rest : List ℕ) × (places (below ls from) ≡ first ∷ rest)
