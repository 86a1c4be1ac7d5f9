use Rattle.bm_law.proofs.Plain.{plain-effect, plain-alloc, plain-free, plain-delay, plain-add}
use Rattle.bm_law.proofs.laws.plain_law.Goals as goal

pub returns-clause-entry : goal.returns-clause-entry
returns-clause-entry r c = plain-effect

pub returns-clause-alloc : goal.returns-clause-alloc
returns-clause-alloc r c = plain-alloc

pub returns-clause-free : goal.returns-clause-free
returns-clause-free r c = plain-free

pub returns-clause-delay : goal.returns-clause-delay
returns-clause-delay r c = plain-delay

pub returns-clause-add : goal.returns-clause-add
returns-clause-add r c = plain-add
