use Rattle.std.proofs.Common.{arith}
use Rattle.bm_exec_levels.specs.AtProcessor.{due_cost}
use Rattle.bm_exec_levels.proofs.Going.{between-down}
use Rattle.bm_exec_levels.proofs.ranks.OrdinaryRank.interrupt.Goals as goal

pub run_one-requires-clause-due : goal.run_one-requires-clause-due
run_one-requires-clause-due g c = (0, c.requires.due (omega arith))

pub returns-in-1-clause-at : goal.returns-in-1-clause-at
returns-in-1-clause-at g c below = c.run_one.ensures.at 0 (c.requires.due below)

pub returns-in-1-clause-between : goal.returns-in-1-clause-between
returns-in-1-clause-between g c below =
    let p = c.args.program.now in
    let due = c.args.due.now in
    between-down g.W.Knows (due_cost p due) 2 1 due.level p c.args.own.now c.run_one.new.own (c.requires.due below).above c.requires.fine c.run_one.ensures.between

pub returns-in-2-clause-at : goal.returns-in-2-clause-at
returns-in-2-clause-at g c below = c.run_one-in-2.ensures.at 0 (c.requires.due below)

pub returns-in-2-clause-between : goal.returns-in-2-clause-between
returns-in-2-clause-between g c below =
    let p = c.args.program.now in
    let due = c.args.due.now in
    between-down g.W.Knows (due_cost p due) 2 1 due.level p c.args.own.now c.run_one-in-2.new.own (c.requires.due below).above c.requires.fine c.run_one-in-2.ensures.between

pub returns-in_default-clause-at : goal.returns-in_default-clause-at
returns-in_default-clause-at g c below = c.run_one-in_default.ensures.at 0 (c.requires.due below)

pub returns-in_default-clause-between : goal.returns-in_default-clause-between
returns-in_default-clause-between g c below =
    let p = c.args.program.now in
    let due = c.args.due.now in
    between-down g.W.Knows (due_cost p due) 2 1 due.level p c.args.own.now c.run_one-in_default.new.own (c.requires.due below).above c.requires.fine c.run_one-in_default.ensures.between

pub run_one-requires-in-2-clause-due : goal.run_one-requires-in-2-clause-due
run_one-requires-in-2-clause-due g c = (0, c.requires.due (omega arith))

pub run_one-requires-in_default-clause-due : goal.run_one-requires-in_default-clause-due
run_one-requires-in_default-clause-due g c = (0, c.requires.due (omega arith))
