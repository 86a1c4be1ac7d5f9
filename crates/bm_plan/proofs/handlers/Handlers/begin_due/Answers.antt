use Rattle.std.proofs.Common.{◌+◌}
use Rattle.bm_cache.specs.Steps.{steps_in}
use Rattle.bm_plan.proofs.Begins.{none-asked, none-same, script-among, some-begun, takes-line}
use Rattle.bm_plan.proofs.handlers.Handlers.begin_due.Goals as goal

pub returns-clause-none : goal.returns-clause-none
returns-clause-none c = none-same c.args.self.now c.take_due.new.self c.self-1.given.0 c.take_due.result c.take_due.ensures.none

pub returns-clause-script : goal.returns-clause-script
returns-clause-script c = script-among c.args.step c.args.level _ c.args.self.now.planned c.take_due.result c.args.self.now.among c.take_due.ensures.due

pub returns-clause-asked : goal.returns-clause-asked
returns-clause-asked c p log a e h s = none-asked p log c.take_due.result c.args.level c.args.self.now.planned a e h (c.take_due.ensures.greatest (steps_in log + 1) s).0

pub returns-clause-begun : goal.returns-clause-begun
returns-clause-begun c p log name a e h s =
    let q = c.take_due.ensures.greatest (steps_in log + 1) s in
    some-begun p log name c.take_due.result c.args.level c.args.self.now.planned c.take_due.new.self a e h q.0 q.1

pub returns-clause-takes : goal.returns-clause-takes
returns-clause-takes c = takes-line c.args.step c.args.level c.args.self.now.planned c.take_due.new.self c.take_due.result c.take_due.ensures.due c.take_due.ensures.left
