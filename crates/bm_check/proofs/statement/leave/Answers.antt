use Rattle.bm_check.proofs.statement.leave.Goals as goal

pub returns-in-PushFront-clause-ok : goal.returns-in-PushFront-clause-ok
returns-in-PushFront-clause-ok c = rw c.in-PushFront.is c.push.ensures.ok

pub returns-in-PushBack-clause-ok : goal.returns-in-PushBack-clause-ok
returns-in-PushBack-clause-ok c = rw c.in-PushBack.is c.push-in-PushBack.ensures.ok

pub returns-in-Add-clause-ok : goal.returns-in-Add-clause-ok
returns-in-Add-clause-ok c = rw c.in-Add.is c.push-in-Add.ensures.ok
