use Rattle.std.proofs.Common.{sym}
use Rattle.bm_exec_levels.proofs.Phrases.{script-bound}
use Rattle.bm_exec_levels.proofs.inside.run_code.Goals as goal

pub run_handler-requires-clause-bound : goal.run_handler-requires-clause-bound
run_handler-requires-clause-bound g c =
    script-bound c.args.program.now.scenario.now.scripts c.requires.found.0 c.args.script.now c.args.table.now c.requires.bound c.requires.found.1

pub run_handler-requires-clause-fits : goal.run_handler-requires-clause-fits
run_handler-requires-clause-fits g c = c.requires.at.ready.fits.fits c.requires.found.0 c.args.script.now c.requires.found.1

pub run_handler-requires-clause-types : goal.run_handler-requires-clause-types
run_handler-requires-clause-types g c = sym c.requires.at.ready.fits.types
