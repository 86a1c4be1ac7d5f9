use Rattle.std.proofs.Common.{◌++◌, ◌∷◌, sym, ap, subst, arith, length, ◌∙◌}
use Rattle.bm_tree.specs.Colours.{Coloured}
use Rattle.bm_tree.proofs.Frames.{order_of-is}
use Rattle.bm_tree.specs.Shape.{Holds, count}
use Rattle.bm_tree.proofs.Unlinking.{here}
use Rattle.bm_tree.proofs.places.enter.Goals as goal

pub returns-clause-order : goal.returns-clause-order
returns-clause-order g c =
    let d = c.descend-up.ensures in
    let p = c.args.place in
    let h = subst (Holds c.args.links.now c.args.root) d.parts c.requires.holds in
    let h1 = c.attach-hung_root.ensures.order d.xs d.ys h d.hole (sym (ap (count p) d.parts) ∙ c.requires.fresh) c.requires.inside (omega (arith, c.requires.few, ap length d.parts)) in
    record {
      xs = d.xs;
      ys = d.ys;
      parts = d.parts;
      low = d.low;
      high = d.high;
      holds = c.balance_insert.ensures.keeps (d.xs ++ p ∷ d.ys) h1 (λ ne. here p d.xs d.ys);
    }

pub returns-clause-colours : goal.returns-clause-colours
returns-clause-colours g c =
    let d = c.descend-up.ensures in
    let p = c.args.place in
    let h = subst (Holds c.args.links.now c.args.root) d.parts c.requires.holds in
    let fresh = sym (ap (count p) d.parts) ∙ c.requires.fresh in
    let h1 = c.attach-hung_root.ensures.order d.xs d.ys h d.hole fresh c.requires.inside (omega (arith, c.requires.few, ap length d.parts)) in
    let s1 = c.attach-hung_root.ensures.colours d.xs d.ys h d.hole fresh c.requires.inside (subst (Coloured c.args.links.now) d.parts c.requires.coloured) in
    let h2 = c.balance_insert.ensures.keeps (d.xs ++ p ∷ d.ys) h1 (λ ne. here p d.xs d.ys) in
    let s2 = c.balance_insert.ensures.colours (d.xs ++ p ∷ d.ys) h1 (here p d.xs d.ys) s1 in
    subst (Coloured c.balance_insert.new.links) (sym (order_of-is c.balance_insert.new.links c.balance_insert.result (d.xs ++ p ∷ d.ys) h2)) s2
