use Rattle.std.proofs.Common.{◌≡◌, true, sym, ap, ◌∙◌, arith, length-set}
use Rattle.bm_tree.specs.Links.{link, painted}
use Rattle.bm_tree.specs.Shape.{SameTree}
use Rattle.bm_tree.specs.declared.links.Link.{Link}
use Rattle.bm_tree.proofs.Frames.{Holds-same}
use Rattle.bm_tree.proofs.Painting.{SameTree-painted, SameTree-then, parent_at, reds-paint, reds-most}
use Rattle.bm_tree.proofs.Near.{near}
use Rattle.bm_tree.proofs.Short.{black_step}
use Rattle.bm_tree.proofs.Ends.{kids_black, dark_black}
use Rattle.bm_tree.proofs.balance.climb_black.Goals as goal

pub loop-place-smaller : goal.loop-place-smaller
loop-place-smaller c =
    let go = c.goes_up.ensures.0 c.if-not-goes_up.false in
    let more = reds-paint c.loop-place.links c.sibling-other.result go.within (dark_black c.loop-place.links c.sibling-other.result go.black_other) in
    rw c.paint.ensures (omega (arith, more, reds-most (painted c.loop-place.links c.sibling-other.result true), length-set {A = Link}))

pub loop-place-preserved : goal.loop-place-preserved
loop-place-preserved c =
    let here = c.loop-place.invariant in
    let go = c.goes_up.ensures.0 c.if-not-goes_up.false in
    let painted_one : SameTree c.loop-place.links c.paint.new.links = rw c.paint.ensures (SameTree-painted _ _ _) in
    let whole = SameTree-then _ _ _ here.0 painted_one in
    let up2 : c.link_at-up.result.parent ≡ (link c.loop-place.links c.loop-place.up).parent = ap (λ (z : Link). z.parent) c.link_at-up.ensures ∙ (painted_one.links c.loop-place.up).parent in (
      whole,
      λ root order h i. parent_at _ root order c.loop-place.up c.link_at-up.result (Holds-same _ _ root order whole h) (here.1 root order h i) c.link_at-up.ensures,
      λ root order h s.
          let n = near c.loop-place.links root order (Holds-same _ _ root order here.0 h) in
          let step = black_step c.loop-place.links order c.loop-place.at c.loop-place.up c.sibling-other.result n (here.2 root order h s) go.some_up go.black_at (sym c.sibling-other.ensures) go.black_other (kids_black c.loop-place.links c.sibling-other.result go.black_kids) in
          rw (c.paint.ensures, up2) step,
    )
