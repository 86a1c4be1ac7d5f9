use Rattle.std.proofs.Common.{[], ◌∷◌, length, ap, length-append, ◌∙◌, arith}
use Rattle.bm_run.proofs.Opens.{one-more}
use Rattle.bm_run.proofs.opening.open_each.Goals as goal

pub loop-processor-preserved : goal.loop-processor-preserved
loop-processor-preserved c =
    let v = c.loop-processor.invariant in
    let e = c.in-Ok.ensures in
    let own = c.in-Ok.own in
    let more = c.in_default-push.ensures.items in
    record {
      filled = one-more c.args.scenario.now c.args.classes.now c.loop-processor.kept.items c.push.new.self.items own c.loop-processor.processor c.loop-processor.pool c.open_kept.new.pool v.filled v.many more e.kept e.units e.pool e.unborn;
      many = (let l = ap length more ∙ length-append c.loop-processor.kept.items (own ∷ []) in let m = v.many in omega (arith, l, m));
    }
