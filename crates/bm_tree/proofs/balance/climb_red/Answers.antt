use Rattle.std.proofs.Common.{◌≡◌, true, sym, ap, ◌∙◌}
use Rattle.bm_tree.specs.declared.links.Link.{Link}
use Rattle.bm_tree.specs.Links.{link}
use Rattle.bm_tree.specs.Shape.{SameTree}
use Rattle.bm_tree.proofs.Frames.{Holds-same}
use Rattle.bm_tree.proofs.Painting.{SameTree-refl, SameTree-painted3, SameTree-then, parent_at, reds-climb}
use Rattle.bm_tree.proofs.Near.{near}
use Rattle.bm_tree.proofs.RedRed.{family, red_step}
use Rattle.bm_tree.proofs.Ends.{red_dark}
use Rattle.bm_tree.proofs.balance.climb_red.Goals as goal

pub loop-links-smaller : goal.loop-links-smaller
loop-links-smaller c =
    let up_red : (link c.loop-links.links c.link_at-up.result.parent).red ≡ true = sym c.is_red.ensures ∙ c.if-not-is_red.false in
    let uncle_red : (link c.loop-links.links c.sibling-uncle.result).red ≡ true = sym c.is_red-else-not-is_red.ensures ∙ c.if-not-is_red-2.false in
    rw (c.paint-in-loop-links-2.ensures, c.paint-in-loop-links.ensures, c.paint.ensures)
    (reds-climb c.loop-links.links c.link_at-up.result.parent c.sibling-uncle.result c.link_at-top.result.parent up_red uncle_red c.if-uncle-up.false)

pub loop-links-init : goal.loop-links-init
loop-links-init c = (SameTree-refl _, λ root order h i. i, λ root order h i s. (s, i))

pub loop-links-preserved : goal.loop-links-preserved
loop-links-preserved c =
    let here = c.loop-links.invariant in
    let ls = c.loop-links.links in
    let at = c.loop-links.at in
    let up = c.link_at-up.result.parent in
    let top = c.link_at-top.result.parent in
    let un = c.sibling-uncle.result in
    let same3 : SameTree c.loop-links.links c.paint-in-loop-links-2.new.links =
    rw (c.paint-in-loop-links-2.ensures, c.paint-in-loop-links.ensures, c.paint.ensures) (SameTree-painted3 _ _ _ _ _ _ _) in (
      SameTree-then _ _ _ here.0 same3,
      λ root order h i.
          let now = Holds-same _ _ root order here.0 h in
          let in_up = parent_at _ root order c.loop-links.at c.link_at-up.result now (here.1 root order h i) c.link_at-up.ensures in
          parent_at _ root order c.link_at-up.result.parent c.link_at-top.result now in_up c.link_at-top.ensures,
      λ root order h i s.
          let now = Holds-same _ _ root order here.0 h in
          let n = near ls root order now in
          let red = here.2 root order h i s in
          let eu : (link ls at).parent ≡ up = ap (λ (z : Link). z.parent) (sym c.link_at-up.ensures) in
          let et : (link ls up).parent ≡ top = ap (λ (z : Link). z.parent) (sym c.link_at-top.ensures) in
          let up_red = red_dark ls up (sym c.is_red.ensures ∙ c.if-not-is_red.false) in
          let un_red = red_dark ls un (sym c.is_red-else-not-is_red.ensures ∙ c.if-not-is_red-2.false) in
          let step = red_step ls order at up top un n red.0 red.1 eu et up_red (sym c.sibling-uncle.ensures) un_red in
          let f = family ls order at up top n red.0 red.1 eu et up_red in
          (rw (c.paint-in-loop-links-2.ensures, c.paint-in-loop-links.ensures, c.paint.ensures) step, f.in_top),
    )

pub returns-then-not-is_red-clause-colours : goal.returns-then-not-is_red-clause-colours
returns-then-not-is_red-clause-colours c = c.loop-links.invariant.2
