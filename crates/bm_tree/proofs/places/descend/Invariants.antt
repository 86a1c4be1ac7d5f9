use Rattle.std.proofs.Common.{length}
use Rattle.bm_tree.specs.Shape.{places, below}
use Rattle.bm_tree.specs.Rows.{key_of}
use Rattle.bm_tree.proofs.Descent.{Descending}
use Rattle.bm_tree.proofs.places.descend.Given as goal

abbrev pub invariant-loop-at : goal.invariant-loop-at
invariant-loop-at g l = Descending l.links (key_of l.slots) l.root l.key l.up l.right l.at

abbrev pub decreases-loop-at : goal.decreases-loop-at
decreases-loop-at g l = length (places (below l.links l.at))
