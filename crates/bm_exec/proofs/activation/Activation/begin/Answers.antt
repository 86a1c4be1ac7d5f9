use Rattle.bm_check.specs.Statements.{setting_of}
use Rattle.bm_exec.proofs.Starting.{start-bound}
use Rattle.bm_exec.specs.Named.{declared_of}
use Rattle.bm_exec.proofs.activation.Activation.begin.Goals as goal

pub returns : goal.returns
returns c = record {
  start = start-bound (declared_of c.args.types.now) (setting_of c.args.scenario.now c.args.script.now.kind) c.args.script.now.body c.in_ok-names.names _ c.in_ok-names.ensures.none c.start-frame.ensures.pushed c.requires.can c.requires.fits c.in_ok-names.ensures.bound c.requires.types c.requires.maps
      (c.accepted_scripts_are_safe.ensures c.args.scenario.now c.args.script.now c.requires.accepted);
}
