use Rattle.bm_closing.proofs.Owed.{owes-lent}
use Rattle.bm_closing.proofs.closing.hold_nothing.Goals as goal

pub returns-then-units_of-eq0-clause-owes : goal.returns-then-units_of-eq0-clause-owes
returns-then-units_of-eq0-clause-owes g c done es o =
    owes-lent g.H.Host.face g.H.Host.held g.H.Host.with_held g.R.Recorder.log g.H.Desk.owes g.met.H.Ended.owes_noted c.args.host.now c.caches.result.now c.caches.ensures.held done es o

pub returns-else-units_of-eq0-clause-owes : goal.returns-else-units_of-eq0-clause-owes
returns-else-units_of-eq0-clause-owes g c done es o =
    owes-lent g.H.Host.face g.H.Host.held g.H.Host.with_held g.R.Recorder.log g.H.Desk.owes g.met.H.Ended.owes_noted c.args.host.now c.caches.result.now c.caches.ensures.held done es o
