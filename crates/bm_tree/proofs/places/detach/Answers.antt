use Rattle.std.proofs.Common.{◌++◌, ap, sym, ◌∙◌}
use Rattle.bm_tree.specs.declared.links.Link.{Link}
use Rattle.bm_tree.proofs.Ends.{red_dark, black_dark}
use Rattle.bm_tree.proofs.Unlinking.{parent_left}
use Rattle.bm_tree.proofs.places.detach.Goals as goal

pub returns-clause-order : goal.returns-clause-order
returns-clause-order c = λ xs ys h lone.
    let h1 = c.splice-spliced_root.ensures.order xs ys h lone in
    c.balance_after.ensures.keeps (xs ++ ys) h1 (rw c.link_at-gone.ensures (parent_left c.args.links.now c.args.root c.args.place xs ys h))

pub returns-clause-colours : goal.returns-clause-colours
returns-clause-colours c = λ xs ys h lone s.
    let ls = c.args.links.now in
    let h1 = c.splice-spliced_root.ensures.order xs ys h lone in
    let both = c.splice-spliced_root.ensures.colours xs ys h lone s in
    let was = ap (λ (z : Link). z.red) (sym c.link_at-gone.ensures) in
    c.balance_after.ensures.colours (xs ++ ys) h1
    (λ red. both.0 (red_dark ls c.args.place (was ∙ red)))
    (λ black. rw (c.only_kid-rising.ensures, c.link_at-gone.ensures) (both.1 (black_dark ls c.args.place (was ∙ black))))
