use Rattle.std.proofs.Common.{ap, ◌∙◌}
use Rattle.bm_lang.specs.declared.scenario.Action.{If}
use Rattle.bm_lang.specs.declared.scenario.Statement.{Statement}
use Rattle.bm_exec.specs.Bindings.{binds_by, binds_among}
use Rattle.bm_exec.specs.Seen.{has_name}
use Rattle.bm_exec.proofs.Bound.{binds-more, block-more, one-more, block-all}
use Rattle.bm_exec.proofs.Performing.{both}
use Rattle.bm_exec.proofs.Results.{on-ok, both-ok}
use Rattle.bm_exec.proofs.binding.+binding.Goals as goal

pub add_action-returns-in-Some-clause-bound : goal.add_action-returns-in-Some-clause-bound
add_action-returns-in-Some-clause-bound t c =
    let r = c.add_block-in-Some.result in
    let p = has_name c.add_block-in-Some.new.table in
    let is = c.in-If.is ∙ ap (λ o. If c.in-If.name c.in-If.body o) c.in-Some.is in
    rw is (on-ok r _ _ (both-ok r _ _ c.add_block-in-Some.ensures.bound c.add_block-in-Some.ensures.names) (λ f.
    both (binds_among p c.in-If.body) (binds_among p c.in-Some.block) (block-more (has_name c.add_block.new.table) p f.1 c.in-If.body c.in_ok-add_block-in-If.ensures.bound) f.0))

pub add_action-returns-in-Some-clause-names : goal.add_action-returns-in-Some-clause-names
add_action-returns-in-Some-clause-names t c = on-ok c.add_block-in-Some.result _ _ c.add_block-in-Some.ensures.names (λ f x there. f x (c.in_ok-add_block-in-If.ensures.names x there))

pub add_block-loop-statement-preserved : goal.add_block-loop-statement-preserved
add_block-loop-statement-preserved t c =
    let i = c.loop-statement.invariant in
    let f = c.in_ok-add_action.ensures in
    record {
      bound = one-more (λ (s : Statement). binds_by (has_name c.loop-statement.table) s.action) (λ s. binds_by (has_name c.add_action.new.table) s.action) (λ s. binds-more _ _ f.names s.action) c.deref-statement-items.result.now c.loop-statement.statement-index c.statement-item.result c.loop-statement-test.true c.statement-item.is i.bound f.bound;
      names = λ x there. f.names x (i.names x there);
      held = f.held ∙ i.held;
    }

pub add_block-returns-clause-bound : goal.add_block-returns-clause-bound
add_block-returns-clause-bound t c = block-all _ c.args.block.now c.deref-statement-items.result.now c.loop-statement.statement-index c.deref-statement-items.ensures.value c.loop-statement-test.false c.loop-statement.invariant.bound
