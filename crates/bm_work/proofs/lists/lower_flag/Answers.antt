use Rattle.bm_journal.specs.declared.entry.Entry.TheVariants as entry
use Rattle.bm_law_work.specs.Parts.{Say}
use Rattle.bm_law_work.specs.WorkPhrases.{IsOne}
use Rattle.bm_work.proofs.Points.{stands-host, works-host}
use Rattle.bm_work.proofs.lists.lower_flag.Goals as goal

pub returns-clause-works : goal.returns-clause-works
returns-clause-works g c = works-host g.R.Recorder.log g.R.Recorder.counts g.H.Host.sound g.H.Host.tests g.H.Host.face g.H.Host.pending g.H.Desk.stays g.H.Host.keeps g.H.Host.held (λ h. g.H.W.Knows.known (g.H.Desk.shared h)) g.met.H.Desk.keeps_stays g.met.H.Desk.known_goes (λ l. Say l (IsOne (entry.Work c.args.class))) c.args.host.now c.begin_work.new.host c.begin_work.ensures.phrase c.begin_work.ensures.goes c.begin_work.ensures.alone c.begin_work.ensures.flags c.begin_work.ensures.span.processor c.begin_work.ensures.active

pub returns-clause-stands : goal.returns-clause-stands
returns-clause-stands g c = stands-host g.R.Recorder.log g.R.Recorder.counts g.H.Host.sound g.H.Host.tests g.H.Host.face g.H.Host.pending g.H.Desk.stays g.H.Host.keeps g.H.Host.held (λ h. g.H.W.Knows.known (g.H.Desk.shared h)) g.met.H.Desk.keeps_stays g.met.H.Desk.known_goes _ c.args.host.now c.begin_work.new.host c.begin_work.ensures.sound c.begin_work.ensures.fine c.begin_work.ensures.kept c.begin_work.ensures.span.lasting c.requires.stands
