-- The colours of a red-black tree: no red place has a red kid, and on each way down stand as many black places.
use Rattle.std.specs.Prelude.{◌≡◌, ◌≢◌, ℕ, ◌+◌, ◌*◌, ◌^◌, ◌≤◌, max, Bool, not, cond, List}
use Rattle.bm_tree.specs.declared.links.Link.{Link}
use Rattle.bm_tree.specs.Links.{none, link, kid_of}
use Rattle.bm_tree.specs.Shape.{Shape, leaf, node, count}

-- 1 at a black place, and 0 at a red one; no place counts as black
abbrev pub dark_of : Link → ℕ
dark_of x = cond x.red 0 1

abbrev pub dark : List Link → ℕ → ℕ
dark ls q = dark_of (link ls q)

-- on each way down from this place there are as many black places, itself among them
abbrev pub IsLevel : List Link → (ℕ → ℕ) → ℕ → Type 0
IsLevel ls height q = (right : Bool) → height q ≡ dark ls q + height (kid_of (link ls q) right)

-- this place is not red below a red one, nor a red root
abbrev pub IsCalm : List Link → ℕ → Type 0
IsCalm ls q =
    (1 ≤ dark ls q + dark ls (link ls q).parent) × ((link ls q).parent ≡ none → dark ls q ≡ 1)

-- both rules hold at all of these places
pub record Coloured (ls : List Link) (order : List ℕ) : Type 0 where
  pub height : ℕ → ℕ
  pub ends : height none ≡ 0
  pub level : (q : ℕ) → 1 ≤ count q order → IsLevel ls height q
  pub calm : (q : ℕ) → 1 ≤ count q order → IsCalm ls q

-- both rules hold, but that `at` is red, and may have a red parent or be the root
pub record RedAt (ls : List Link) (order : List ℕ) (at : ℕ) : Type 0 where
  pub height : ℕ → ℕ
  pub ends : height none ≡ 0
  pub level : (q : ℕ) → 1 ≤ count q order → IsLevel ls height q
  pub red : dark ls at ≡ 0
  pub calm : (q : ℕ) → 1 ≤ count q order → q ≢ at → IsCalm ls q

-- `at` is the kid of `up` on the side `right`, and the ways through it have one black place fewer than those through the other kid
abbrev pub IsShort : List Link → (ℕ → ℕ) → (at up : ℕ) → Bool → Type 0
IsShort ls height at up right =
    (kid_of (link ls up) right ≡ at)
    × (height up ≡ dark ls up + 1 + height at)
    × (height up ≡ dark ls up + height (kid_of (link ls up) (not right)))

-- both kids of a place are black
abbrev pub HasBlackKids : List Link → ℕ → Type 0
HasBlackKids ls p = (dark ls (link ls p).left ≡ 1) × (dark ls (link ls p).right ≡ 1)

-- both rules hold, but that the ways through `at` below `up` lack one black place, and that `at` may be red
pub record ShortAt (ls : List Link) (order : List ℕ) (at up : ℕ) : Type 0 where
  pub height : ℕ → ℕ
  pub ends : height none ≡ 0
  pub level : (q : ℕ) → 1 ≤ count q order → q ≢ up → IsLevel ls height q
  pub above : up ≢ none → 1 ≤ count up order
  pub here : at ≢ none → (1 ≤ count at order) × ((link ls at).parent ≡ up)
  pub side : Bool
  pub short : up ≢ none → IsShort ls height at up side
  pub calm :
      (q : ℕ) → 1 ≤ count q order → q ≢ at → (link ls q).parent ≢ at
      → 1 ≤ dark ls q + dark ls (link ls q).parent
  pub top : (q : ℕ) → 1 ≤ count q order → q ≢ at → (link ls q).parent ≡ none → dark ls q ≡ 1

-- the black sibling has a red far kid
pub record RedFar (ls : List Link) (order : List ℕ) (at up : ℕ) (right : Bool) : Type 0 where
  pub short : ShortAt ls order at up
  pub side : short.side ≡ right
  pub black_at : dark ls at ≡ 1
  pub black_o : dark ls (kid_of (link ls up) (not right)) ≡ 1
  pub red_far : dark ls (kid_of (link ls (kid_of (link ls up) (not right))) (not right)) ≡ 0

-- below the black `top`, on the side `right`, two red places stand outside, one below the other; both rules hold at all others
pub record TwoRed (ls : List Link) (order : List ℕ) (top mid low : ℕ) (right : Bool) : Type 0 where
  pub height : ℕ → ℕ
  pub ends : height none ≡ 0
  pub level : (q : ℕ) → 1 ≤ count q order → IsLevel ls height q
  pub in_top : 1 ≤ count top order
  pub is_mid : kid_of (link ls top) right ≡ mid
  pub is_low : kid_of (link ls mid) right ≡ low
  pub black_top : dark ls top ≡ 1
  pub red_mid : dark ls mid ≡ 0
  pub red_low : dark ls low ≡ 0
  pub black_uncle : dark ls (kid_of (link ls top) (not right)) ≡ 1
  pub calm : (q : ℕ) → 1 ≤ count q order → q ≢ low → IsCalm ls q

-- the number of places on the longest way down
abbrev pub depth : Shape → ℕ
depth leaf = 0
depth (node l p r) = 1 + max (depth l) (depth r)

-- a tree of `size` places, at most 2 * log2(size + 1) of them on each way down
abbrev pub IsShallow : (height size : ℕ) → Type 0
IsShallow height size = (half : ℕ) × (height ≤ 2 * half) × (2 ^ half ≤ size + 1)
