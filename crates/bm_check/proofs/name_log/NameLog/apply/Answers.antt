use Rattle.std.proofs.Common.{◌∙◌}
use Rattle.bm_check.specs.Changes.{names_in}
use Rattle.bm_check.proofs.ChangeLemmas.{next_applied}
use Rattle.bm_check.proofs.name_log.NameLog.apply.Goals as goal

pub loop-change-preserved : goal.loop-change-preserved
loop-change-preserved c = record {
  leads = λ f h.
      let before = c.loop-change.invariant.leads f h in
      let next = next_applied c.loop-change.rest.items c.pop.new.self.items c.in-Some.change (names_in c.loop-change.self) (names_in c.put.new.self) f c.in-Some.ensures.items c.in_ok-put.ensures.ok before.0 in
      (next.0, next.1 ∙ before.1);
  kept = λ f h. c.in_ok-put.ensures.kept f (c.loop-change.invariant.kept f h);
}
