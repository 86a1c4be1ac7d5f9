use Rattle.std.proofs.Common.{arith}
use Rattle.bm_exec_levels.specs.AtProcessor.{due_cost}
use Rattle.bm_exec_levels.proofs.Going.{between-down}
use Rattle.bm_exec_levels.proofs.ranks.FirstRank.interrupt.Goals as goal

pub run_one-requires-clause-due : goal.run_one-requires-clause-due
run_one-requires-clause-due g c = (1, c.requires.due (omega arith))

pub returns-then-number-eq2-clause-at : goal.returns-then-number-eq2-clause-at
returns-then-number-eq2-clause-at g c below = c.run_one.ensures.at 1 (c.requires.due below)

pub returns-then-number-eq2-clause-between : goal.returns-then-number-eq2-clause-between
returns-then-number-eq2-clause-between g c below =
    let p = c.args.program.now in
    let due = c.args.due.now in
    between-down g.W.Knows (due_cost p due) 2 2 due.level p c.args.own.now c.run_one.new.own (c.requires.due below).above c.requires.fine c.run_one.ensures.between

pub returns-else-number-eq2-clause-at : goal.returns-else-number-eq2-clause-at
returns-else-number-eq2-clause-at g c below = c.run_one-else-number-eq2.ensures.at 1 (c.requires.due below)

pub returns-else-number-eq2-clause-between : goal.returns-else-number-eq2-clause-between
returns-else-number-eq2-clause-between g c below =
    let p = c.args.program.now in
    let due = c.args.due.now in
    between-down g.W.Knows (due_cost p due) 2 2 due.level p c.args.own.now c.run_one-else-number-eq2.new.own (c.requires.due below).above c.requires.fine c.run_one-else-number-eq2.ensures.between

pub run_one-requires-else-number-eq2-clause-due : goal.run_one-requires-else-number-eq2-clause-due
run_one-requires-else-number-eq2-clause-due g c = (1, c.requires.due (omega arith))
