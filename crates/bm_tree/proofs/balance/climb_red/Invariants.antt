use Rattle.std.proofs.Common.{ℕ, List, ◌≤◌}
use Rattle.bm_tree.specs.Links.{reds}
use Rattle.bm_tree.specs.Shape.{Holds, In, SameTree, count}
use Rattle.bm_tree.specs.Colours.{RedAt}
use Rattle.bm_tree.proofs.balance.climb_red.Given as goal

abbrev pub invariant-loop-links : goal.invariant-loop-links
invariant-loop-links l =
    SameTree l.fn.links l.links
    × ((root : ℕ) (order : List ℕ) → Holds l.fn.links root order → In l.fn.place order → In l.at order)
    × ((root : ℕ) (order : List ℕ) → Holds l.fn.links root order → 1 ≤ count l.fn.place order → RedAt l.fn.links order l.fn.place → RedAt l.links order l.at × (1 ≤ count l.at order))

abbrev pub decreases-loop-links : goal.decreases-loop-links
decreases-loop-links l = reds l.links
