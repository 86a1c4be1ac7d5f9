use Rattle.bm_tree.proofs.Rotation.{Holds-rotated}
use Rattle.bm_tree.proofs.Near.{near}
use Rattle.bm_tree.proofs.Colouring.{turned_here}
use Rattle.bm_tree.proofs.links.rotate.Goals as goal

pub returns-clause-keeps : goal.returns-clause-keeps
returns-clause-keeps c = λ order h i.
    let both = Holds-rotated c.args.links.now c.args.root c.args.at c.args.right order h i (rw (← c.link_at-low.ensures, ← c.kid-rising.ensures) c.if-rising.false) in
    rw (c.replace.ensures.links, c.replace.ensures.root, c.set_parent.ensures, c.put-2.ensures, c.with_parent-2.ensures, c.with_kid-2.ensures, c.put.ensures, c.with_parent.ensures, c.with_kid.ensures, c.kid-inner.ensures, c.link_at-high.ensures, c.kid-rising.ensures, c.link_at-low.ensures)
    both.0

pub returns-clause-turns : goal.returns-clause-turns
returns-clause-turns c = λ order h i ne.
    rw (c.replace.ensures.links, c.set_parent.ensures, c.put-2.ensures, c.with_parent-2.ensures, c.with_kid-2.ensures, c.put.ensures, c.with_parent.ensures, c.with_kid.ensures, c.kid-inner.ensures, c.link_at-high.ensures, c.kid-rising.ensures, c.link_at-low.ensures)
    (turned_here c.args.links.now order c.args.at c.args.right (near c.args.links.now c.args.root order h) i ne)
