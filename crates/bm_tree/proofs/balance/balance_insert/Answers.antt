use Rattle.std.proofs.Common.{◌≡◌, ap, sym, ◌∙◌, true}
use Rattle.std.proofs.Common.{not}
use Rattle.std.specs.Prelude.{◌==◌}
use Rattle.bm_tree.specs.Links.{link, kid_of, painted}
use Rattle.bm_tree.specs.declared.links.Link.{Link}
use Rattle.bm_tree.proofs.Frames.{Holds-same}
use Rattle.bm_tree.proofs.Painting.{paint_at, parent_at}
use Rattle.bm_tree.proofs.Near.{near}
use Rattle.bm_tree.proofs.RedRed.{red_root, red_fine}
use Rattle.bm_tree.proofs.Ends.{red_dark, black_dark, insert_end}
use Rattle.bm_tree.proofs.balance.balance_insert.Goals as goal

pub returns-then-up-clause-keeps : goal.returns-then-up-clause-keeps
returns-then-up-clause-keeps c = λ order h i.
    let h1 = Holds-same _ _ c.args.root order c.climb_red-at.ensures.same_tree h in
    paint_at _ _ c.args.root order _ _ h1 c.paint.ensures

pub returns-then-up-clause-colours : goal.returns-then-up-clause-colours
returns-then-up-clause-colours c = λ order h i s.
    let h1 = Holds-same _ _ c.args.root order c.climb_red-at.ensures.same_tree h in
    let s1 = c.climb_red-at.ensures.colours c.args.root order h i s in
    let root_at = ap (λ (z : Link). z.parent) (sym c.link_at-up.ensures) ∙ c.if-up.true in
    rw c.paint.ensures (red_root _ order c.climb_red-at.result (near _ c.args.root order h1) s1.0 s1.1 root_at)

pub returns-then-not-is_red-clause-keeps : goal.returns-then-not-is_red-clause-keeps
returns-then-not-is_red-clause-keeps c = λ order h i. Holds-same _ _ c.args.root order c.climb_red-at.ensures.same_tree h

pub returns-then-not-is_red-clause-colours : goal.returns-then-not-is_red-clause-colours
returns-then-not-is_red-clause-colours c = λ order h i s.
    let s1 = c.climb_red-at.ensures.colours c.args.root order h i s in
    let e : (link c.climb_red-at.new.links c.climb_red-at.result).parent ≡ c.link_at-up.result.parent = ap (λ (z : Link). z.parent) (sym c.link_at-up.ensures) in
    let black = black_dark c.climb_red-at.new.links c.link_at-up.result.parent (sym c.is_red.ensures ∙ c.if-not-is_red.true) in
    red_fine _ order c.climb_red-at.result s1.0 (λ z. c.if-up.false (sym e ∙ z)) (rw e black)

pub returns-clause-keeps : goal.returns-clause-keeps
returns-clause-keeps c = λ order h i.
    let h1 = Holds-same _ _ c.args.root order c.climb_red-at.ensures.same_tree h in
    let in_at = c.climb_red-at.ensures.inside c.args.root order h i in
    let in_up = parent_at _ c.args.root order c.climb_red-at.result c.link_at-up.result h1 in_at c.link_at-up.ensures in
    let in_top = parent_at _ c.args.root order c.link_at-up.result.parent c.link_at-top.result h1 in_up c.link_at-top.ensures in
    let h2 = c.line_up-lined_root.ensures.keeps order h1 in_up in
    let h3 = paint_at _ _ _ order _ _ h2 c.paint-2.ensures in
    let h4 = paint_at _ _ _ order _ _ h3 c.paint-3.ensures in
    c.rotate.ensures.keeps order h4 in_top

pub returns-clause-colours : goal.returns-clause-colours
returns-clause-colours c = λ order h i s.
    let ls = c.climb_red-at.new.links in
    let at = c.climb_red-at.result in
    let up = c.link_at-up.result.parent in
    let h1 = Holds-same _ _ c.args.root order c.climb_red-at.ensures.same_tree h in
    let n = near ls c.args.root order h1 in
    let s1 = c.climb_red-at.ensures.colours c.args.root order h i s in
    let in_at = c.climb_red-at.ensures.inside c.args.root order h (λ z. i) in
    let in_up = parent_at _ c.args.root order at c.link_at-up.result h1 in_at c.link_at-up.ensures in
    let eu : (link ls at).parent ≡ up = ap (λ (z : Link). z.parent) (sym c.link_at-up.ensures) in
    let et : (link ls up).parent ≡ c.link_at-top.result.parent = ap (λ (z : Link). z.parent) (sym c.link_at-top.ensures) in
    let red_up = red_dark ls up (sym c.is_red.ensures ∙ c.if-not-is_red.false) in
    let in_top = parent_at _ c.args.root order up c.link_at-top.result h1 in_up c.link_at-top.ensures in
    let h2 = c.line_up-lined_root.ensures.keeps order h1 in_up in
    let h3 = paint_at _ _ _ order _ _ h2 c.paint-2.ensures in
    let h4 = paint_at _ _ _ order _ _ h3 c.paint-3.ensures in
    insert_end ls c.line_up-lined_root.new.links c.paint-3.new.links c.rotate.new.links c.args.root _ _ order at up c.link_at-top.result.parent c.kid-middle.result _ h1 h2 h4 s1.0 s1.1 c.climb_red-at.ensures.stops eu et red_up
    (ap (λ (z : Link). not (z.left == up)) c.link_at.ensures) c.line_up-lined_root.ensures.colours
    (c.kid-middle.ensures ∙ ap (λ (z : Link). kid_of z (not (c.link_at.result.left == up))) c.link_at-2.ensures)
    (c.paint-3.ensures ∙ ap (λ zs. painted zs c.link_at-top.result.parent true) c.paint-2.ensures) c.rotate.ensures.turns
