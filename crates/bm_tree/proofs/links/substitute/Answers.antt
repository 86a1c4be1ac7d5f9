use Rattle.bm_tree.proofs.Splicing.{Holds-swapped}
use Rattle.std.proofs.Common.{refl, arith}
use Rattle.bm_tree.proofs.Near.{near}
use Rattle.bm_tree.proofs.Colouring.{in_here, swapped_here, swapped_coloured}
use Rattle.bm_tree.proofs.links.substitute.Goals as goal

pub returns-clause-order : goal.returns-clause-order
returns-clause-order c = λ xs ys h fresh ln.
    rw (c.replace.ensures.links, c.replace.ensures.root, c.set_parent-2.ensures, c.set_parent.ensures, c.put.ensures, c.link_at-was.ensures)
    (Holds-swapped c.args.links.now c.args.root c.args.old c.args.young xs ys h fresh ln)

pub returns-clause-colours : goal.returns-clause-colours
returns-clause-colours c = λ xs ys h fresh ln s.
    let ls = c.args.links.now in
    let x = c.args.old in
    let n = near ls c.args.root _ h in
    rw (c.replace.ensures.links, c.set_parent-2.ensures, c.set_parent.ensures, c.put.ensures, c.link_at-was.ensures)
    (swapped_coloured ls _ x c.args.young _ _ _ xs ys n h.once fresh (λ e. omega (arith, e, ln, h.room)) s refl refl refl (swapped_here ls x c.args.young _ n (in_here xs ys x) fresh ln))
