-- What a rotation leaves at each place.
use Rattle.std.specs.Prelude.{◌≡◌, ◌≢◌, ℕ, ◌≤◌, ◌==◌, Bool, not, List, length}
use Rattle.bm_tree.specs.declared.links.Link.{Link}
use Rattle.bm_tree.specs.Links.{none, link, kid_of, set_kid, set_up}
use Rattle.bm_tree.specs.Shape.{Holds, count}

-- `y` comes up in place of `x`, below `u`, and `b` hangs below `x`
pub record Turned (ls ms : List Link) (x y b u : ℕ) (right : Bool) : Type 0 where
  pub lengths : length ms ≡ length ls
  pub at_x : link ms x ≡ set_up (set_kid (link ls x) (not right) b) y
  pub at_y : link ms y ≡ set_up (set_kid (link ls y) right x) u
  pub at_b : b ≢ none → link ms b ≡ set_up (link ls b) x
  pub at_u : u ≢ none → link ms u ≡ set_kid (link ls u) (not ((link ls u).left == x)) y
  pub others : (q : ℕ) → q ≢ x → q ≢ y → q ≢ b → q ≢ u → link ms q ≡ link ls q

-- `at` goes down to the side `right`, and its kid of the other side, if there is one, comes up
abbrev pub Turns : (old new : List Link) (root at : ℕ) (right : Bool) → Type 0
Turns old new root at right =
    (order : List ℕ) → Holds old root order → 1 ≤ count at order
    → let rising = kid_of (link old at) (not right) in rising ≢ none
    → Turned old new at rising (kid_of (link old rising) right) (link old at).parent right
