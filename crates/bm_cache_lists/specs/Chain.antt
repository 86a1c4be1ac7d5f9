-- Chains of links. (The links are those of struct llist_node of the kernel, as indexes; that a chain ends where a stored
-- length says is this project's own.)
use Rattle.std.specs.Prelude.{◌≡◌, ◌<◌, ◌≤◌, ℕ, suc, zero, List, [], ◌∷◌, ◌++◌, map, length, get_or, set, drop, Option, MatchOption}
use Rattle.std.specs.List.{All}
use Rattle.bm_law.specs.Stands.{times}
use Rattle.bm_cache_lists.specs.declared.links.Head.{Head}

-- Following the links from h gives the numbers xs, each of which has a link, and then the end.
abbrev pub Chain : List ℕ → ℕ → List ℕ → Type 0
Chain next h [] = h ≡ 65536
Chain next h (x ∷ xs) = (h ≡ x) × (x < length next) × Chain next (get_or next x 0) xs

-- the first n numbers of it
abbrev pub follow : List ℕ → ℕ → ℕ → List ℕ
follow next zero h = []
follow next (suc n) h = h ∷ follow next n (get_or next h 0)

-- the numbers of a list, and of each list
abbrev pub chain_of : List ℕ → Head → List ℕ
chain_of next h = follow next h.length h.first

abbrev pub chains : List ℕ → List Head → List (List ℕ)
chains next heads = map (chain_of next) heads

-- the list ends where its length says
abbrev pub Ends : List ℕ → Head → Type 0
Ends next h = Chain next h.first (chain_of next h)

-- the numbers of all lists
abbrev pub joined : List (List ℕ) → List ℕ
joined [] = []
joined (xs ∷ xss) = xs ++ joined xss

-- There are eight lists. Each ends, and no number stands twice, in one list or in two. Each number in them has a link; there
-- are links up to the greatest number so far, and at most one for each number that a unit may have.
pub record Linked (next : List ℕ) (heads : List Head) : Type 0 where
  pub room : length next ≤ 65536
  pub eight : length heads ≡ 8
  pub ends : All (Ends next) heads
  pub once : (n : ℕ) → times n (joined (chains next heads)) ≤ 1

-- the lists with one empty, and another what f makes of that one
abbrev pub emptied : ℕ → ℕ → (List ℕ → List ℕ) → List (List ℕ) → List (List ℕ)
emptied from to f lists = set (set lists to (f (get_or lists from []))) from []

-- what is on top of a list, and None exactly where the list is empty
abbrev pub IsTop : {A : Type 0} → Option A → List A → Type 0
IsTop o xs = MatchOption o (xs ≡ []) (λ x. xs ≡ x ∷ drop 1 xs)

-- a row that is now as long or longer, where what was added reads as what isn't there
pub record IsLonger {A : Type 0} (blank : A) (was is : List A) : Type 0 where
  pub longer : length was ≤ length is
  pub same : (i : ℕ) → get_or is i blank ≡ get_or was i blank
