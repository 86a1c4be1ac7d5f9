use Rattle.std.proofs.Common.{◌≡◌, ◌≢◌, ℕ, false, not, sym, ap, ◌∙◌, subst}
use Rattle.bm_tree.specs.declared.links.Link.{Link}
use Rattle.bm_tree.specs.Links.{none, link, kid_of, painted}
use Rattle.bm_tree.specs.Colours.{dark, HasBlackKids}
use Rattle.bm_tree.proofs.Ends.{rotate_up_end}
use Rattle.bm_tree.proofs.Painting.{paint_at, kid_at}
use Rattle.bm_tree.proofs.balance.rotate_up.Goals as goal

pub returns-clause-keeps : goal.returns-clause-keeps
returns-clause-keeps c = λ order h i.
    let in_other = kid_at _ c.args.root order c.args.up _ c.link_at.result c.kid-other.result h i c.link_at.ensures c.kid-other.ensures in
    let h1 = c.straighten-straight_root.ensures.keeps order h in_other in
    let h2 = paint_at _ _ _ order _ _ h1 c.paint.ensures in
    let h3 = paint_at _ _ _ order _ _ h2 c.paint-2.ensures in
    let h4 = paint_at _ _ _ order _ _ h3 c.paint-3.ensures in
    c.rotate.ensures.keeps order h4 i

pub returns-clause-colours : goal.returns-clause-colours
returns-clause-colours c = λ order at h s some side black_at black_o not_both.
    let ls = c.args.links.now in
    let l2 = c.straighten-straight_root.new.links in
    let up = c.args.up in
    let right = c.args.right in
    let in_up = λ (ne : up ≢ none). s.above some in
    let o_is : c.kid-other.result ≡ kid_of (link ls up) (not right) = c.kid-other.ensures ∙ ap (λ (z : Link). kid_of z (not right)) c.link_at.ensures in
    let in_other = kid_at _ c.args.root order up _ c.link_at.result c.kid-other.result h in_up c.link_at.ensures c.kid-other.ensures in
    let h1 = c.straighten-straight_root.ensures.keeps order h in_other in
    let far = c.straighten-straight_root.ensures.colours order at up h s some side black_at (sym o_is) (ap (dark ls) o_is ∙ black_o) (subst (λ (z : ℕ). HasBlackKids ls z → ⊥) (sym o_is) not_both) in
    let h2 = paint_at _ _ _ order _ _ h1 c.paint.ensures in
    let h3 = paint_at _ _ _ order _ _ h2 c.paint-2.ensures in
    let h4 = paint_at _ _ _ order _ _ h3 c.paint-3.ensures in
    rotate_up_end ls l2 c.paint-3.new.links c.rotate.new.links c.args.root _ _ order at up c.kid-rising.result c.kid-far.result right c.is_red-red.result h1 h4 far some far.black_at
    (c.kid-rising.ensures ∙ ap (λ (z : Link). kid_of z (not right)) c.link_at-2.ensures)
    (c.kid-far.ensures ∙ ap (λ (z : Link). kid_of z (not right)) c.link_at-3.ensures)
    c.is_red-red.ensures
    (c.paint-3.ensures ∙ ap (λ zs. painted zs c.kid-far.result false) (c.paint-2.ensures ∙ ap (λ zs. painted zs up false) c.paint.ensures)) c.rotate.ensures.turns
