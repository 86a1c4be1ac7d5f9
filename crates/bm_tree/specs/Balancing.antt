-- What each step makes of the colours.
use Rattle.std.specs.Prelude.{◌≡◌, ◌≢◌, ◌⊎◌, ℕ, ◌<◌, ◌≤◌, ◌==◌, Bool, true, false, not, List, ◌∷◌, ◌++◌, length}
use Rattle.bm_tree.specs.declared.links.Link.{Link}
use Rattle.bm_tree.specs.Links.{none, link, kid_of, sibling_of, only_kid_of, HasFreeSide}
use Rattle.bm_tree.specs.Paths.{Hole}
use Rattle.bm_tree.specs.Shape.{Holds, count}
use Rattle.bm_tree.specs.Colours.{dark, Coloured, RedAt, ShortAt, TwoRed, RedFar, HasBlackKids}

-- a red leaf comes in
abbrev pub Reddens : (old new : List Link) (root up place : ℕ) (right : Bool) → Type 0
Reddens old new root up place right =
    (xs ys : List ℕ) → Holds old root (xs ++ ys) → Hole old root up right xs ys
    → count place (xs ++ ys) ≡ 0 → place < length old → Coloured old (xs ++ ys)
    → RedAt new (xs ++ place ∷ ys) place

-- where a red place goes out both rules hold, and where a black one does its kid lacks one black place
abbrev pub SplicesColours : (old new : List Link) (root place : ℕ) → Type 0
SplicesColours old new root place =
    (xs ys : List ℕ) → Holds old root (xs ++ place ∷ ys) → HasFreeSide (link old place)
    → Coloured old (xs ++ place ∷ ys)
    → (dark old place ≡ 0 → Coloured new (xs ++ ys))
    × (dark old place ≡ 1
    → ShortAt new (xs ++ ys) (only_kid_of (link old place)) (link old place).parent)

-- both rules hold still, where `young` takes the place of `gone`
abbrev pub SubstitutesColours : (old new : List Link) (root gone young : ℕ) → Type 0
SubstitutesColours old new root gone young =
    (xs ys : List ℕ) → Holds old root (xs ++ gone ∷ ys) → count young (xs ++ gone ∷ ys) ≡ 0
    → young < length old → Coloured old (xs ++ gone ∷ ys) → Coloured new (xs ++ young ∷ ys)

-- both rules hold still, where `place` goes out
abbrev pub UnlinksColours : (old new : List Link) (root place : ℕ) → Type 0
UnlinksColours old new root place =
    (xs ys : List ℕ) → Holds old root (xs ++ place ∷ ys) → Coloured old (xs ++ place ∷ ys)
    → Coloured new (xs ++ ys)

-- the same, for a place with at most one kid
abbrev pub DetachesColours : (old new : List Link) (root place : ℕ) → Type 0
DetachesColours old new root place =
    (xs ys : List ℕ) → Holds old root (xs ++ place ∷ ys) → HasFreeSide (link old place)
    → Coloured old (xs ++ place ∷ ys) → Coloured new (xs ++ ys)

-- the red place that may have a red parent is `to` in place of `from`
abbrev pub ClimbsRed : (old new : List Link) (from to : ℕ) → Type 0
ClimbsRed old new from to =
    (root : ℕ) (order : List ℕ) → Holds old root order → 1 ≤ count from order → RedAt old order from
    → RedAt new order to × (1 ≤ count to order)

-- the parent is black, or the uncle is
abbrev pub StopsRed : List Link → ℕ → Type 0
StopsRed ls at =
    let up = (link ls at).parent in let uncle = sibling_of (link ls (link ls up).parent) up in
    (dark ls up ≡ 1) ⊎ ((dark ls uncle ≡ 1) ⊎ (uncle ≡ up))

-- the red `at` and its red parent `up` stand in a line outside
abbrev pub LinesUp : (old new : List Link) (root at up : ℕ) (right : Bool) → Type 0
LinesUp old new root at up right =
    (order : List ℕ) → Holds old root order → 1 ≤ count at order → RedAt old order at
    → (link old at).parent ≡ up → dark old up ≡ 0
    → let top = (link old up).parent in
    dark old (sibling_of (link old top) up) ≡ 1 → not ((link old top).left == up) ≡ right
    → (mid : ℕ) × ((low : ℕ) × TwoRed new order top mid low right)

-- both rules hold again after a red place came in
abbrev pub BalancesRed : (old new : List Link) (root place : ℕ) → Type 0
BalancesRed old new root place =
    (order : List ℕ) → Holds old root order → 1 ≤ count place order → RedAt old order place
    → Coloured new order

-- the lack goes up: black are the place, its sibling and the kids of the sibling
pub record GoesUp (ls : List Link) (at up other : ℕ) : Type 0 where
  pub black_at : dark ls at ≡ 1
  pub some_up : up ≢ none
  pub within : other < length ls
  pub black_other : dark ls other ≡ 1
  pub black_kids : HasBlackKids ls other

-- the place whose ways down lack one black place is `at2` below `up2` in place of `at` below `up`
abbrev pub ClimbsShort : (old new : List Link) (at up at2 up2 : ℕ) → Type 0
ClimbsShort old new at up at2 up2 =
    (root : ℕ) (order : List ℕ) → Holds old root order → ShortAt old order at up
    → ShortAt new order at2 up2

-- both rules hold again after a black place went out
abbrev pub BalancesShort : (old new : List Link) (root place above : ℕ) → Type 0
BalancesShort old new root place above =
    (order : List ℕ) → Holds old root order → ShortAt old order place above → Coloured new order

-- the same, where a red place may have gone out
abbrev pub BalancesAfter : (old new : List Link) (root place above : ℕ) (red : Bool) → Type 0
BalancesAfter old new root place above red =
    (order : List ℕ) → Holds old root order → (red ≡ true → Coloured old order)
    → (red ≡ false → ShortAt old order place above) → Coloured new order

-- a black sibling with a red kid: its far kid is red
abbrev pub Straightens : (old new : List Link) (root other : ℕ) (right : Bool) → Type 0
Straightens old new root other right =
    (order : List ℕ) (at up : ℕ) → Holds old root order → (s : ShortAt old order at up) → up ≢ none
    → s.side ≡ right → dark old at ≡ 1 → kid_of (link old up) (not right) ≡ other
    → dark old other ≡ 1 → (HasBlackKids old other → ⊥) → RedFar new order at up right

-- a black sibling with a red kid comes up, and both rules hold
abbrev pub RotatesUp : (old new : List Link) (root up : ℕ) (right : Bool) → Type 0
RotatesUp old new root up right =
    (order : List ℕ) (at : ℕ) → Holds old root order → (s : ShortAt old order at up) → up ≢ none
    → s.side ≡ right → dark old at ≡ 1
    → let other = kid_of (link old up) (not right) in
    dark old other ≡ 1 → (HasBlackKids old other → ⊥) → Coloured new order
