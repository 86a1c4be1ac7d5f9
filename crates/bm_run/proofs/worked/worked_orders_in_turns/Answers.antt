use Rattle.bm_run.proofs.TurnsWorked.{early-taken, early-whole, highest-refused, lowest-taken}
use Rattle.bm_run.proofs.worked.worked_orders_in_turns.Goals as goal

pub returns-clause-early : goal.returns-clause-early
returns-clause-early c = early-taken

pub returns-clause-lowest : goal.returns-clause-lowest
returns-clause-lowest c = lowest-taken

pub returns-clause-order : goal.returns-clause-order
returns-clause-order c = early-whole

pub returns-clause-highest : goal.returns-clause-highest
returns-clause-highest c = highest-refused
