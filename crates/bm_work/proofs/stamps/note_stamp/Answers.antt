use Rattle.std.proofs.Common.{[], refl, sym, subst, ap, arith, ◌∷◌}
use Rattle.bm_journal.specs.declared.entry.Entry.TheVariants as entry
use Rattle.bm_cache.specs.Shown.{Took, shown}
use Rattle.bm_cache.specs.Span.{Goes}
use Rattle.bm_cache.specs.declared.caches.Caches.{Caches}
use Rattle.bm_cache.proofs.Moments.{took-at}
use Rattle.bm_work.proofs.Batches.{dated-stamped}
use Rattle.bm_work.proofs.Steps.{stamped-active, stands-entry, works-entry}
use Rattle.bm_law_order.specs.Act as act
use Rattle.bm_law_order.specs.Chunk as chunk
use Rattle.bm_work.proofs.Owing.{owes-stepped, shows}
use Rattle.bm_work.proofs.stamps.note_stamp.Goals as goal

pub returns-clause-stands : goal.returns-clause-stands
returns-clause-stands g c =
    let h = c.args.host.now in
    let z = c.stamped.new.self in
    let i = c.args.class in
    let d = c.args.domain in
    let x = c.args.stamp in
    let t = took-at g.R.Recorder.log (g.H.Host.face h).level c.level-level.result (entry.Stamp i d x) [] (g.H.Host.held h) c.caches.result.now z c.level-level.ensures.same c.caches.ensures.held c.stamped.ensures.step in
    stands-entry g.R.Recorder.log g.R.Recorder.counts (λ _. Unit {0}) g.H.Host.tests g.H.Host.face g.H.Host.held h (g.H.Host.with_held h z) z (entry.Stamp i d x) [] (g.met.H.Host.held_back h z) (g.met.H.Host.tests_back h z) (g.met.H.Host.face_back h z) tt t.after t.processor c.stamped.ensures.placed tt tt tt (dated-stamped (g.H.Host.tests h) (g.H.Host.face h).level i d x (shown (g.H.Host.held h)) c.requires.unstamped c.requires.since c.requires.stands.dated) c.requires.stands

pub returns-clause-works : goal.returns-clause-works
returns-clause-works g c =
    let h = c.args.host.now in
    let z = c.stamped.new.self in
    let k = g.H.Host.with_held h z in
    let e = entry.Stamp c.args.class c.args.domain c.args.stamp in
    let l = (g.H.Host.face h).level in
    let T : Caches g.row.R.Denot → Type 0 = λ x. Took g.R.Recorder.log l e [] (g.H.Host.held h) x in
    let t : T (g.H.Host.held k) = subst T (sym (g.met.H.Host.held_back h z)) (took-at g.R.Recorder.log l c.level-level.result e [] (g.H.Host.held h) c.caches.result.now z c.level-level.ensures.same c.caches.ensures.held c.stamped.ensures.step) in
    let goes : Goes g.H.Host.face g.H.Host.pending g.H.Desk.stays h k = record { face = g.met.H.Host.face_back h z; pending = omega (arith, g.met.H.Host.pending_back h z); keeps = g.met.H.Desk.keeps_stays h k (g.met.H.Host.keeps_back h z) } in
    works-entry g.R.Recorder.log g.H.Host.face g.H.Host.pending g.H.Desk.stays g.H.Host.held (λ h. g.H.W.Knows.known (g.H.Desk.shared h)) h k e [] goes (ap (λ w. (g.H.W.Knows.known w).grace) (g.met.H.Desk.shared_apart h z)) t.records t.processor t.after (stamped-active l c.args.class c.args.domain c.args.stamp (shown (g.H.Host.held h))) refl

pub returns-clause-sound : goal.returns-clause-sound
returns-clause-sound g c o =
    let i = c.args.class in
    let d = c.args.domain in
    let x = c.args.stamp in
    owes-stepped g.H.Host.face g.H.Host.held g.H.Host.with_held g.R.Recorder.log g.H.Host.sound g.H.Desk.asked_owes g.met.H.Desk.asked_stepped c.args.host.now c.caches.result.now c.stamped.new.self c.level-level.result (entry.Stamp i d x) c.level-level.ensures.same c.caches.ensures.held refl c.stamped.ensures.step.records c.stamped.ensures.step.processor (act.Stamps d x ∷ []) (λ _. shows (chunk.Stamping i d x) refl) o
