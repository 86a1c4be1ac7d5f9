use Rattle.std.proofs.Common.{[], ◌∷◌}
use Rattle.bm_law_order.specs.Act.{Act}
use Rattle.bm_law_order.specs.Act as act
use Rattle.bm_work.proofs.Owing.{owes-called}
use Rattle.bm_work.proofs.Alike.{alike-finished}
use Rattle.bm_work.proofs.Sides.{stands-knows}
use Rattle.bm_work.proofs.period.finish_now.Goals as goal

pub returns-clause-stands : goal.returns-clause-stands
returns-clause-stands g c = stands-knows g.R.Recorder.log g.R.Recorder.counts (λ _. Unit {0}) g.H.Host.tests g.H.Host.face g.H.Host.held g.H.Desk.shared g.H.Desk.with_shared g.H.W.Knows.known g.H.W.Knows.rights g.met.H.Desk.shared_back g.met.H.Desk.held_apart g.met.H.Desk.face_apart (λ h w a s. s) g.met.H.Desk.tests_are c.args.host.now c.world.result.now c.finish.new.self _ c.world.ensures.held c.finish.ensures.known (alike-finished _ _ _) c.finish.ensures.rights c.requires.stands

pub returns-clause-owes : goal.returns-clause-owes
returns-clause-owes g c done es o = owes-called g.H.Desk.shared g.H.Desk.with_shared g.H.W.Knows.known g.H.W.Knows.does (λ x h. g.H.Desk.owes x es h) (λ h w x y. g.met.H.Desk.owes_done h w x y es) c.args.host.now c.world.result.now c.finish.new.self _ (act.Finishes c.finish.result ∷ []) c.world.ensures.held c.finish.ensures.known (alike-finished _ _ _) c.finish.ensures.does done o
