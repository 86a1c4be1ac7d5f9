use Rattle.bm_law_work.specs.Parts.{Say, Then}
use Rattle.bm_law_work.specs.WorkPhrases.{IsTakeExtra, Unloads}
use Rattle.bm_work.proofs.Points.{stands-host, works-host}
use Rattle.bm_work.proofs.lists.unload_to_hand.Goals as goal

pub returns-clause-works : goal.returns-clause-works
returns-clause-works g c = works-host g.R.Recorder.log g.R.Recorder.counts g.H.Host.sound g.H.Host.tests g.H.Host.face g.H.Host.pending g.H.Desk.stays g.H.Host.keeps g.H.Host.held (λ h. g.H.W.Knows.known (g.H.Desk.shared h)) g.met.H.Desk.keeps_stays g.met.H.Desk.known_goes (λ l. Then (Say l (Unloads c.args.class c.args.middle)) (Say l (IsTakeExtra c.args.class))) c.args.host.now c.drain_to_hand.new.host c.drain_to_hand.ensures.phrase c.drain_to_hand.ensures.goes c.drain_to_hand.ensures.alone c.drain_to_hand.ensures.flags c.drain_to_hand.ensures.side.7.processor c.drain_to_hand.ensures.active

pub returns-clause-stands : goal.returns-clause-stands
returns-clause-stands g c = stands-host g.R.Recorder.log g.R.Recorder.counts g.H.Host.sound g.H.Host.tests g.H.Host.face g.H.Host.pending g.H.Desk.stays g.H.Host.keeps g.H.Host.held (λ h. g.H.W.Knows.known (g.H.Desk.shared h)) g.met.H.Desk.keeps_stays g.met.H.Desk.known_goes _ c.args.host.now c.drain_to_hand.new.host c.drain_to_hand.ensures.sound c.drain_to_hand.ensures.fine c.drain_to_hand.ensures.kept c.drain_to_hand.ensures.side.7.lasting c.requires.stands
