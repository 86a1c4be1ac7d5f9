use Rattle.bm_due.proofs.Counting.{finish-stays, first-stays, is-counted, pop-back-stays, pop-front-stays}
use Rattle.bm_due.proofs.laws.kind_law.Goals as goal

pub returns-clause-steps : goal.returns-clause-steps
returns-clause-steps c = is-counted

pub returns-clause-pop_front : goal.returns-clause-pop_front
returns-clause-pop_front c = pop-front-stays

pub returns-clause-pop_back : goal.returns-clause-pop_back
returns-clause-pop_back c = pop-back-stays

pub returns-clause-first : goal.returns-clause-first
returns-clause-first c = first-stays

pub returns-clause-finish : goal.returns-clause-finish
returns-clause-finish c = finish-stays
