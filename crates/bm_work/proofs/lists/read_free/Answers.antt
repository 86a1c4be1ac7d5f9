use Rattle.bm_journal.specs.declared.entry.Entry.TheVariants as entry
use Rattle.bm_law_work.specs.Parts.{Say}
use Rattle.bm_law_work.specs.WorkPhrases.{IsOne}
use Rattle.bm_work.proofs.Points.{stands-host, works-host}
use Rattle.bm_work.proofs.lists.read_free.Goals as goal

pub returns-clause-works : goal.returns-clause-works
returns-clause-works g c = works-host g.R.Recorder.log g.R.Recorder.counts g.H.Host.sound g.H.Host.tests g.H.Host.face g.H.Host.pending g.H.Desk.stays g.H.Host.keeps g.H.Host.held (λ h. g.H.W.Knows.known (g.H.Desk.shared h)) g.met.H.Desk.keeps_stays g.met.H.Desk.known_goes (λ l. Say l (IsOne (entry.Read c.args.class c.read_count.result))) c.args.host.now c.read_count.new.host c.read_count.ensures.phrase c.read_count.ensures.goes c.read_count.ensures.alone c.read_count.ensures.flags c.read_count.ensures.span.processor c.read_count.ensures.active

pub returns-clause-stands : goal.returns-clause-stands
returns-clause-stands g c = stands-host g.R.Recorder.log g.R.Recorder.counts g.H.Host.sound g.H.Host.tests g.H.Host.face g.H.Host.pending g.H.Desk.stays g.H.Host.keeps g.H.Host.held (λ h. g.H.W.Knows.known (g.H.Desk.shared h)) g.met.H.Desk.keeps_stays g.met.H.Desk.known_goes _ c.args.host.now c.read_count.new.host c.read_count.ensures.sound c.read_count.ensures.fine c.read_count.ensures.kept c.read_count.ensures.span.lasting c.requires.stands
