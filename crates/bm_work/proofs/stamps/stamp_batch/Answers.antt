use Rattle.std.proofs.Common.{[], ℕ, sym, subst}
use Rattle.std.specs.List.{All}
use Rattle.bm_journal.specs.declared.entry.Entry.TheVariants as entry
use Rattle.bm_law.specs.Lists.{after}
use Rattle.bm_cache.specs.Shown.{shown}
use Rattle.bm_cache.specs.Tests.{Passes}
use Rattle.bm_cache.specs.declared.caches.Caches.{Caches}
use Rattle.bm_law_work.specs.Parts.{Part, Say, Stand}
use Rattle.bm_law_work.specs.WorkPhrases.{IsOne, IsStamp}
use Rattle.bm_work_lists.proofs.Grown.{say-after}
use Rattle.bm_work.specs.Dated.{batch_of}
use Rattle.bm_work.specs.DeskTests.{since_test}
use Rattle.bm_work.proofs.Batches.{batch-since}
use Rattle.bm_work.proofs.Sides.{called-works, works-join}
use Rattle.bm_work.proofs.Owing.{stands-with}
use Rattle.bm_work.proofs.stamps.stamp_batch.Goals as goal

pub note_stamp-requires-clause-since : goal.note_stamp-requires-clause-since
note_stamp-requires-clause-since g c =
    let a = g.H.Host.tests c.pause.new.host in
    let b = g.H.Host.tests c.take_stamp-stamp.new.host in
    let k = since_test c.args.domain c.take_stamp-stamp.result in
    let F : Caches g.row.R.Denot → Type 0 = λ x. All (Passes b k) (batch_of c.args.domain ((shown x).rows c.args.class).deferred) in
    subst F (sym c.take_stamp-stamp.ensures.called.held) (batch-since a b k c.args.class c.args.domain (shown (g.H.Host.held c.pause.new.host)) c.pause.ensures.stands.fine.proper c.take_stamp-stamp.ensures.since)

pub returns-clause-works : goal.returns-clause-works
returns-clause-works g c =
    let j = g.met.H.Desk.stays_join in
    let i = c.args.class in
    let d = c.args.domain in
    let x = c.take_stamp-stamp.result in
    let P : ℕ → Part = λ l. Say l (IsOne (entry.Stamp i d x)) in
    let Q : ℕ → Part = λ l. Say l (IsStamp i d) in
    let t = called-works g.R.Recorder.log g.R.Recorder.counts g.H.Host.face g.H.Host.pending g.H.Desk.stays g.H.Host.held (λ h. g.H.W.Knows.known (g.H.Desk.shared h)) (λ h. g.H.W.Knows.rights (g.H.Desk.shared h)) j 0 0 0 0 P c.pause.new.host c.take_stamp-stamp.new.host c.note_stamp.new.host c.pause.ensures.stands.fine.placed c.take_stamp-stamp.ensures.stands.fine.placed c.take_stamp-stamp.ensures.called c.note_stamp.ensures.works in
    works-join g.R.Recorder.log g.R.Recorder.counts g.H.Host.face g.H.Host.pending g.H.Desk.stays g.H.Host.held (λ h. g.H.W.Knows.known (g.H.Desk.shared h)) j 0 0 0 0 (λ l. Stand l []) P Q c.args.host.now c.pause.new.host c.note_stamp.new.host (λ l s one two h k. say-after l (IsStamp i d) s (after s one) one two h (k.0, (x, k.1), k.2)) c.requires.stands.fine.placed c.pause.ensures.stands.fine.placed c.pause.ensures.works t

pub returns-clause-stands : goal.returns-clause-stands
returns-clause-stands g c =
    let y = c.note_stamp.new.host in
    let o = c.take_stamp-stamp.ensures.owes [] (g.met.H.Desk.asked_open c.pause.new.host c.pause.ensures.stands.sound) in
    stands-with g.R.Recorder.log g.R.Recorder.counts (λ _. Unit {0}) g.H.Host.sound g.H.Host.tests g.H.Host.face g.H.Host.held y (c.note_stamp.ensures.sound o) c.note_stamp.ensures.stands
