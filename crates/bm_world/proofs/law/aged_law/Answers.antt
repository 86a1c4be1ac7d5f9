use Rattle.bm_world.proofs.Aged.{ages-join, holds-aged, leave-aged}
use Rattle.bm_world.proofs.law.aged_law.Goals as goal

pub returns-clause-join : goal.returns-clause-join
returns-clause-join c = ages-join

pub returns-clause-holds : goal.returns-clause-holds
returns-clause-holds c = holds-aged

pub returns-clause-may_leave : goal.returns-clause-may_leave
returns-clause-may_leave c = leave-aged
