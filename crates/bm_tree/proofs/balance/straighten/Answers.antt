use Rattle.std.proofs.Common.{◌≡◌, true, not, sym, ap, ◌∙◌}
use Rattle.bm_tree.specs.declared.links.Link.{Link}
use Rattle.bm_tree.specs.Links.{link, kid_of, painted}
use Rattle.bm_tree.specs.Colours.{dark}
use Rattle.bm_tree.proofs.Ends.{red_dark, black_dark, near_red, red_near_at}
use Rattle.bm_tree.proofs.Painting.{paint_at}
use Rattle.bm_tree.proofs.balance.straighten.Goals as goal

pub returns-clause-keeps : goal.returns-clause-keeps
returns-clause-keeps c = λ order h i.
    let h1 = paint_at _ _ _ order _ _ h c.paint.ensures in
    let h2 = paint_at _ _ _ order _ _ h1 c.paint-2.ensures in
    c.rotate.ensures.keeps order h2 i

pub returns-then-is_red-clause-colours : goal.returns-then-is_red-clause-colours
returns-then-is_red-clause-colours c = λ order at up h s some side black_at e_o black_o not_both.
    let ls = c.args.links.now in
    let far : c.kid.result ≡ kid_of (link ls c.args.other) (not c.args.right) = c.kid.ensures ∙ ap (λ (z : Link). kid_of z (not c.args.right)) c.link_at-of.ensures in
    let red = red_dark ls c.kid.result (sym c.is_red.ensures ∙ c.if-is_red.true) in
    record {
      short = s;
      side = side;
      black_at = black_at;
      black_o = ap (dark ls) e_o ∙ black_o;
      red_far = ap (λ z. dark ls (kid_of (link ls z) (not c.args.right))) e_o ∙ ap (dark ls) (sym far) ∙ red;
    }

pub returns-clause-colours : goal.returns-clause-colours
returns-clause-colours c = λ order at up h s some side black_at e_o black_o not_both.
    let ls = c.args.links.now in
    let o = c.args.other in
    let right = c.args.right in
    let far : c.kid.result ≡ kid_of (link ls o) (not right) = c.kid.ensures ∙ ap (λ (z : Link). kid_of z (not right)) c.link_at-of.ensures in
    let near_is : c.kid-2.result ≡ kid_of (link ls o) right = c.kid-2.ensures ∙ ap (λ (z : Link). kid_of z right) c.link_at-of.ensures in
    let black_far : dark ls (kid_of (link ls o) (not right)) ≡ 1 = ap (dark ls) (sym far) ∙ black_dark ls c.kid.result (sym c.is_red.ensures ∙ c.if-is_red.false) in
    let red_near = near_red ls o right not_both black_far in
    let h1 = paint_at _ _ _ order _ _ h c.paint.ensures in
    let h2 = paint_at _ _ _ order _ _ h1 c.paint-2.ensures in
    red_near_at ls c.paint-2.new.links c.rotate.new.links c.args.root _ order at up o c.kid-2.result right h h2 s some side black_at e_o black_o black_far near_is (ap (dark ls) near_is ∙ red_near)
    (c.paint-2.ensures ∙ ap (λ zs. painted zs o true) c.paint.ensures) c.rotate.ensures.turns
