use Rattle.std.proofs.Common.{◌∙◌}
use Rattle.bm_lang.specs.declared.scenario.Script.{Script}
use Rattle.bm_exec.specs.Bindings.{binds_among}
use Rattle.bm_exec.specs.Seen.{has_name}
use Rattle.bm_exec.proofs.Bound.{block-more, one-more}
use Rattle.bm_exec.proofs.names.NameTable.for_scripts.Goals as goal

pub loop-script-preserved : goal.loop-script-preserved
loop-script-preserved c =
    let i = c.loop-script.invariant in
    let f = c.in_ok-add_block.ensures in
    record {
      bound = one-more (λ (s : Script). binds_among (has_name c.loop-script.table) s.body) (λ s. binds_among (has_name c.add_block.new.table) s.body) (λ s. block-more _ _ f.names s.body) c.args.scripts.now c.loop-script.script-index c.script-item.result c.loop-script-test.true c.script-item.is i.bound f.bound;
      held = f.held ∙ i.held;
    }
