use Rattle.bm_tree.proofs.Splicing.{Holds-attached}
use Rattle.bm_tree.proofs.Near.{near}
use Rattle.bm_tree.proofs.Colouring.{attached_red}
use Rattle.bm_tree.proofs.links.attach.Goals as goal

pub returns-clause-order : goal.returns-clause-order
returns-clause-order c = λ xs ys h hole fresh ln few.
    rw (c.root_after.ensures, c.put-2.ensures, c.with_kid.ensures, c.link_at-above.ensures, c.put.ensures)
    (Holds-attached c.args.links.now c.args.root c.args.up c.args.place c.args.right xs ys h hole fresh ln few)

pub returns-clause-colours : goal.returns-clause-colours
returns-clause-colours c = λ xs ys h hole fresh ln s.
    rw (c.put-2.ensures, c.with_kid.ensures, c.link_at-above.ensures, c.put.ensures)
    (attached_red c.args.links.now c.args.root c.args.up c.args.place c.args.right xs ys h (near c.args.links.now c.args.root _ h) hole fresh ln s)
