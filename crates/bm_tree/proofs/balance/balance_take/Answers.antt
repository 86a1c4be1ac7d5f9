use Rattle.std.proofs.Common.{◌≡◌, ◌≢◌, ◌⊎◌, Bool, not, true, false, sym, ap, ◌∙◌, inl, inr, subst}
use Rattle.std.specs.Prelude.{◌==◌}
use Rattle.bm_tree.specs.declared.links.Link.{Link}
use Rattle.bm_tree.specs.Links.{none, kid_of, painted}
use Rattle.bm_tree.specs.Colours.{dark, HasBlackKids}
use Rattle.bm_tree.proofs.Frames.{Holds-same}
use Rattle.bm_tree.proofs.Painting.{paint_at}
use Rattle.bm_tree.proofs.Near.{Near, near}
use Rattle.bm_tree.proofs.Ends.{red_dark, black_dark, red_above_end, take_root, take_black, take_red, take_near}
use Rattle.bm_tree.proofs.balance.balance_take.Goals.{then-is_red-via-then-is_red, then-is_red-via-else-is_red+then-up}
use Rattle.bm_tree.proofs.balance.balance_take.Goals as goal

pub returns-then-is_red-clause-keeps : goal.returns-then-is_red-clause-keeps
returns-then-is_red-clause-keeps c = λ order h i.
    let h1 = Holds-same _ _ c.args.root order c.climb_black-at.ensures.same_tree h in
    paint_at _ _ c.args.root order _ _ h1 c.paint.ensures

pub returns-then-is_red-clause-colours : goal.returns-then-is_red-clause-colours
returns-then-is_red-clause-colours c = λ order h s.
    let h1 = Holds-same _ _ c.args.root order c.climb_black-at.ensures.same_tree h in
    let s1 = c.climb_black-at.ensures.colours c.args.root order h s in
    let ends = elim c.then-is_red.branch as (λ _. (dark c.climb_black-at.new.links c.climb_black-at.result.0 ≡ 0) ⊎ (c.climb_black-at.result.1 ≡ none)) [
      | then-is_red-via-then-is_red w ↦ inl (red_dark c.climb_black-at.new.links c.climb_black-at.result.0 (sym c.is_red.ensures ∙ w.if-is_red.true))
      | then-is_red-via-else-is_red+then-up w ↦ inr w.if-up.true
    ] in
    rw c.paint.ensures (take_root c.climb_black-at.new.links c.args.root order c.climb_black-at.result.0 c.climb_black-at.result.1 h1 s1 ends)

pub returns-then-not-is_red-clause-keeps : goal.returns-then-not-is_red-clause-keeps
returns-then-not-is_red-clause-keeps c = λ order h i.
    let h1 = Holds-same _ _ c.args.root order c.climb_black-at.ensures.same_tree h in
    c.rotate_up.ensures.keeps order h1 (c.climb_black-at.ensures.inside c.args.root order h i)

pub returns-then-not-is_red-clause-colours : goal.returns-then-not-is_red-clause-colours
returns-then-not-is_red-clause-colours c = λ order h s.
    let ls = c.climb_black-at.new.links in
    let at = c.climb_black-at.result.0 in
    let up = c.climb_black-at.result.1 in
    let h1 = Holds-same _ _ c.args.root order c.climb_black-at.ensures.same_tree h in
    let s1 = c.climb_black-at.ensures.colours c.args.root order h s in
    let black_at = black_dark ls at (sym c.is_red.ensures ∙ c.if-is_red.false) in
    let right : Bool = not (c.link_at.result.left == at) in
    let e_right = ap (λ (z : Link). not (z.left == at)) c.link_at.ensures in
    let e_o = c.kid-other.ensures ∙ ap (λ (z : Link). kid_of z (not right)) c.link_at-2.ensures in
    let black_o = black_dark ls c.kid-other.result (sym c.is_red-2.ensures ∙ c.if-not-is_red.true) in
    take_black ls c.rotate_up.new.links c.args.root order at up c.kid-other.result right h1 s1 c.if-up.false black_at c.climb_black-at.ensures.stops e_right e_o black_o c.rotate_up.ensures.colours

pub returns-then-has_black_kids-clause-keeps : goal.returns-then-has_black_kids-clause-keeps
returns-then-has_black_kids-clause-keeps c = λ order h i.
    let h1 = Holds-same _ _ c.args.root order c.climb_black-at.ensures.same_tree h in
    let in_up = c.climb_black-at.ensures.inside c.args.root order h i in
    let h2 = paint_at _ _ _ order _ _ h1 c.paint-2.ensures in
    let h3 = paint_at _ _ _ order _ _ h2 c.paint-3.ensures in
    let h4 = c.rotate-turned_root.ensures.keeps order h3 in_up in
    let h5 = paint_at _ _ _ order _ _ h4 c.paint-then-has_black_kids.ensures in
    paint_at _ _ _ order _ _ h5 c.paint-then-has_black_kids-2.ensures

pub returns-then-has_black_kids-clause-colours : goal.returns-then-has_black_kids-clause-colours
returns-then-has_black_kids-clause-colours c = λ order h s.
    let ls = c.climb_black-at.new.links in
    let at = c.climb_black-at.result.0 in
    let up = c.climb_black-at.result.1 in
    let h1 = Holds-same _ _ c.args.root order c.climb_black-at.ensures.same_tree h in
    let s1 = c.climb_black-at.ensures.colours c.args.root order h s in
    let black_at = black_dark ls at (sym c.is_red.ensures ∙ c.if-is_red.false) in
    let right : Bool = not (c.link_at.result.left == at) in
    let e_right = ap (λ (z : Link). not (z.left == at)) c.link_at.ensures in
    let e_o = c.kid-other.ensures ∙ ap (λ (z : Link). kid_of z (not right)) c.link_at-2.ensures in
    let red_o = red_dark ls c.kid-other.result (sym c.is_red-2.ensures ∙ c.if-not-is_red.false) in
    let in_up = λ (ne : up ≢ none). s1.above ne in
    let h2 = paint_at _ _ _ order _ _ h1 c.paint-2.ensures in
    let h3 = paint_at _ _ _ order _ _ h2 c.paint-3.ensures in
    let h4 = c.rotate-turned_root.ensures.keeps order h3 in_up in
    let above = take_red ls c.paint-3.new.links c.rotate-turned_root.new.links c.args.root _ order at up c.kid-other.result right h1 h3 s1 c.if-up.false black_at e_right e_o red_o
    (c.paint-3.ensures ∙ ap (λ zs. painted zs up true) c.paint-2.ensures) c.rotate-turned_root.ensures.turns in
    let e_near = c.kid-near.ensures ∙ ap (λ (z : Link). kid_of z (not right)) c.link_at-3.ensures in
    let kids = c.has_black_kids.ensures.0 c.if-has_black_kids.true in
    let h5 = paint_at _ _ _ order _ _ h4 c.paint-then-has_black_kids.ensures in
    let near5 = subst (λ zs. Near zs order) c.paint-then-has_black_kids.ensures (near _ _ order h5) in
    red_above_end c.rotate-turned_root.new.links _ order at up c.kid-near.result right (near _ _ order h4) above near5 c.if-up.false above.black_at e_near kids
    (c.paint-then-has_black_kids-2.ensures ∙ ap (λ zs. painted zs up false) c.paint-then-has_black_kids.ensures)

pub returns-clause-keeps : goal.returns-clause-keeps
returns-clause-keeps c = λ order h i.
    let h1 = Holds-same _ _ c.args.root order c.climb_black-at.ensures.same_tree h in
    let in_up = c.climb_black-at.ensures.inside c.args.root order h i in
    let h2 = paint_at _ _ _ order _ _ h1 c.paint-2.ensures in
    let h3 = paint_at _ _ _ order _ _ h2 c.paint-3.ensures in
    let h4 = c.rotate-turned_root.ensures.keeps order h3 in_up in
    c.rotate_up-2.ensures.keeps order h4 in_up

pub returns-clause-colours : goal.returns-clause-colours
returns-clause-colours c = λ order h s.
    let ls = c.climb_black-at.new.links in
    let at = c.climb_black-at.result.0 in
    let up = c.climb_black-at.result.1 in
    let h1 = Holds-same _ _ c.args.root order c.climb_black-at.ensures.same_tree h in
    let s1 = c.climb_black-at.ensures.colours c.args.root order h s in
    let black_at = black_dark ls at (sym c.is_red.ensures ∙ c.if-is_red.false) in
    let right : Bool = not (c.link_at.result.left == at) in
    let e_right = ap (λ (z : Link). not (z.left == at)) c.link_at.ensures in
    let e_o = c.kid-other.ensures ∙ ap (λ (z : Link). kid_of z (not right)) c.link_at-2.ensures in
    let red_o = red_dark ls c.kid-other.result (sym c.is_red-2.ensures ∙ c.if-not-is_red.false) in
    let in_up = λ (ne : up ≢ none). s1.above ne in
    let h2 = paint_at _ _ _ order _ _ h1 c.paint-2.ensures in
    let h3 = paint_at _ _ _ order _ _ h2 c.paint-3.ensures in
    let h4 = c.rotate-turned_root.ensures.keeps order h3 in_up in
    let above = take_red ls c.paint-3.new.links c.rotate-turned_root.new.links c.args.root _ order at up c.kid-other.result right h1 h3 s1 c.if-up.false black_at e_right e_o red_o
    (c.paint-3.ensures ∙ ap (λ zs. painted zs up true) c.paint-2.ensures) c.rotate-turned_root.ensures.turns in
    let e_near = c.kid-near.ensures ∙ ap (λ (z : Link). kid_of z (not right)) c.link_at-3.ensures in
    let not_both = λ (b : HasBlackKids c.rotate-turned_root.new.links c.kid-near.result). false_true (sym c.if-has_black_kids.false ∙ c.has_black_kids.ensures.1 b) in
    take_near c.rotate-turned_root.new.links c.rotate_up-2.new.links _ order at up c.kid-near.result right h4 above c.if-up.false e_near not_both c.rotate_up-2.ensures.colours
  where
    false_true : false ≡ true → ⊥
    false_true e = cc
