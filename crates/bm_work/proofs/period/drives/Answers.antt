use Rattle.std.proofs.Common.{[], List, subst, append-nil}
use Rattle.bm_law_order.specs.Act.{Act}
use Rattle.bm_work.specs.Still.{alike-still}
use Rattle.std.proofs.Common.{refl}
use Rattle.bm_work.proofs.Sides.{stands-asked}
use Rattle.bm_work.proofs.period.drives.Goals as goal

pub returns-clause-stands : goal.returns-clause-stands
returns-clause-stands g c = stands-asked g.R.Recorder.log g.R.Recorder.counts (λ _. Unit {0}) g.H.Host.tests g.H.Host.face g.H.Host.held g.H.Desk.shared g.H.Desk.with_shared g.H.W.Knows.known g.H.W.Knows.rights g.met.H.Desk.shared_back g.met.H.Desk.held_apart g.met.H.Desk.face_apart (λ h w a s. s) g.met.H.Desk.tests_are c.args.host.now c.world.result.now c.world.ensures.held c.requires.stands

pub returns-clause-owes : goal.returns-clause-owes
returns-clause-owes g c done es o =
    let h = c.args.host.now in
    let v = c.world.result.now in
    let k = g.H.Desk.with_shared h v in
    let N = g.H.W.Knows.known in
    let q = g.met.H.Desk.owes_done h v done [] es (subst (λ x. Rattle.bm_work.specs.Goes.Alike (N x) (N v)) c.world.ensures.held (alike-still (N v) (N v) refl)) (subst (λ x. g.H.W.Knows.does [] x v) c.world.ensures.held (g.H.W.Knows.does_same v)) o in
    subst (λ (x : List Act). g.H.Desk.owes x es k) (append-nil done) q

pub returns-clause-rested : goal.returns-clause-rested
returns-clause-rested g c x r = g.met.H.Desk.rested_lent c.args.host.now c.world.result.now c.args.domain x c.world.ensures.held r
