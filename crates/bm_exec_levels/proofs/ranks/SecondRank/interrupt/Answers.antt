use Rattle.std.proofs.Common.{arith}
use Rattle.bm_exec_levels.specs.AtProcessor.{due_cost}
use Rattle.bm_exec_levels.proofs.Going.{between-down}
use Rattle.bm_exec_levels.proofs.ranks.SecondRank.interrupt.Goals as goal

pub run_one-requires-clause-due : goal.run_one-requires-clause-due
run_one-requires-clause-due g c = (2, c.requires.due (omega arith))

pub returns-clause-at : goal.returns-clause-at
returns-clause-at g c below = c.run_one.ensures.at 2 (c.requires.due below)

pub returns-clause-between : goal.returns-clause-between
returns-clause-between g c below =
    let p = c.args.program.now in
    let due = c.args.due.now in
    between-down g.W.Knows (due_cost p due) 2 3 due.level p c.args.own.now c.run_one.new.own (c.requires.due below).above c.requires.fine c.run_one.ensures.between
