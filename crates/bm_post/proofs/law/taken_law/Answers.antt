use Rattle.bm_post.proofs.Posts.{held, may-leave}
use Rattle.bm_post.proofs.law.taken_law.Goals as goal

pub returns-clause-holds : goal.returns-clause-holds
returns-clause-holds c = held

pub returns-clause-may_leave : goal.returns-clause-may_leave
returns-clause-may_leave c = may-leave
