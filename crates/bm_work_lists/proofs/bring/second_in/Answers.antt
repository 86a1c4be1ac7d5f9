use Rattle.std.proofs.Common.{◌+◌}
use Rattle.bm_cache.proofs.Moments.{came-none}
use Rattle.bm_work_lists.proofs.bring.second_in.Goals as goal

pub returns-then-not-holds_second-clause-none : goal.returns-then-not-holds_second-clause-none
returns-then-not-holds_second-clause-none g c = λ _. (c.holds_second.ensures.none c.if-not-holds_second.true, rw (c.holds_second.ensures.tests, c.holds_second.ensures.held) (came-none g.R.Recorder.log ((g.H.Host.face c.args.host.now).level + 1) (g.H.Host.tests c.args.host.now) (g.H.Host.held c.args.host.now)))
