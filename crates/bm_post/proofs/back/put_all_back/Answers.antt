use Rattle.std.proofs.Common.{◌≡◌, ◌∷◌, ◌++◌, [], reverse, sym, ap, ◌∙◌}
use Rattle.bm_page.specs.Stock.{Stock}
use Rattle.bm_post.specs.PostState.{all_returned}
use Rattle.bm_post.proofs.Returned.{back-step, once-front, out-front}
use Rattle.bm_post.proofs.back.put_all_back.Goals as goal

pub loop-unit-preserved : goal.loop-unit-preserved
loop-unit-preserved c =
    let us = c.loop-unit.units.items in
    let vs = c.pop.new.self.items in
    let u = c.in-Some.unit in
    let e : us ≡ vs ++ u ∷ [] = c.in-Some.ensures.items in
    record {
      out = rw c.put_back.ensures.pool (out-front us vs u c.loop-unit.pool e c.loop-unit.invariant.once c.loop-unit.invariant.out);
      once = once-front us vs u e c.loop-unit.invariant.once;
      so_far = c.loop-unit.invariant.so_far ∙ (back-step us vs u c.loop-unit.pool e ∙ ap (λ (p : Stock). all_returned (reverse vs) p) (sym c.put_back.ensures.pool));
    }
