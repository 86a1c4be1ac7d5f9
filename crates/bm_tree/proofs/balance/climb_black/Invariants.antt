use Rattle.std.proofs.Common.{ℕ, List, ◌-◌, length}
use Rattle.bm_tree.specs.Links.{reds}
use Rattle.bm_tree.specs.Shape.{Holds, In, SameTree}
use Rattle.bm_tree.specs.Colours.{ShortAt}
use Rattle.bm_tree.proofs.balance.climb_black.Given as goal

abbrev pub invariant-loop-place : goal.invariant-loop-place
invariant-loop-place l =
    SameTree l.fn.links l.links
    × ((root : ℕ) (order : List ℕ) → Holds l.fn.links root order → In l.fn.above order → In l.up order)
    × ((root : ℕ) (order : List ℕ) → Holds l.fn.links root order → ShortAt l.fn.links order l.fn.place l.fn.above → ShortAt l.links order l.at l.up)

abbrev pub decreases-loop-place : goal.decreases-loop-place
decreases-loop-place l = length l.links - reds l.links
