use Rattle.bm_tree.proofs.Splicing.{Holds-spliced}
use Rattle.std.proofs.Common.{refl}
use Rattle.bm_tree.proofs.Near.{near}
use Rattle.bm_tree.proofs.Colouring.{in_here, hung_here, spliced_red, spliced_black}
use Rattle.bm_tree.proofs.links.splice.Goals as goal

pub returns-clause-order : goal.returns-clause-order
returns-clause-order c = λ xs ys h lone.
    rw (c.replace.ensures.links, c.replace.ensures.root, c.set_parent.ensures, c.only_kid-rising.ensures, c.link_at-gone.ensures)
    (Holds-spliced c.args.links.now c.args.root c.args.place xs ys h lone)

pub returns-clause-colours : goal.returns-clause-colours
returns-clause-colours c = λ xs ys h lone s.
    let ls = c.args.links.now in
    let x = c.args.place in
    let n = near ls c.args.root _ h in
    let hung = hung_here ls x _ n (in_here xs ys x) lone in
    rw (c.replace.ensures.links, c.set_parent.ensures, c.only_kid-rising.ensures, c.link_at-gone.ensures)
    (λ red. spliced_red ls _ x _ _ xs ys n h.once s lone refl refl hung red, λ black. spliced_black ls _ x _ _ xs ys n h.once s lone refl refl hung black)
