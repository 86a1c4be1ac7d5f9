use Rattle.std.proofs.Common.{◌+◌, [], refl, sym, subst, ap, arith}
use Rattle.bm_journal.specs.declared.entry.Entry.TheVariants as entry
use Rattle.bm_cache.specs.Shown.{Took}
use Rattle.bm_cache.specs.Span.{Goes}
use Rattle.bm_cache.specs.declared.caches.Caches.{Caches}
use Rattle.bm_cache.proofs.Moments.{took-at}
use Rattle.bm_work.proofs.Steps.{stands-noted, works-entry}
use Rattle.bm_work.specs.Rested.{LastIs}
use Rattle.bm_work.proofs.Going.{appended-last}
use Rattle.bm_work.proofs.Owing.{has-stamp}
use Rattle.bm_work.proofs.polls.note_passed.Goals as goal

pub returns-clause-stands : goal.returns-clause-stands
returns-clause-stands g c =
    let h = c.args.host.now in
    let z = c.passed.new.self in
    stands-noted g.R.Recorder.log g.R.Recorder.counts (λ _. Unit {0}) g.H.Host.tests g.H.Host.face g.H.Host.held h (g.H.Host.with_held h z) c.caches.result.now z c.caches.ensures.held (g.met.H.Host.held_back h z) (g.met.H.Host.tests_back h z) (g.met.H.Host.face_back h z) tt c.passed.ensures.same c.passed.ensures.step.processor c.passed.ensures.placed c.requires.stands

pub returns-clause-works : goal.returns-clause-works
returns-clause-works g c =
    let h = c.args.host.now in
    let z = c.passed.new.self in
    let k = g.H.Host.with_held h z in
    let e = entry.Pass c.args.class c.args.domain c.args.number in
    let l = (g.H.Host.face h).level in
    let T : Caches g.row.R.Denot → Type 0 = λ x. Took g.R.Recorder.log l e [] (g.H.Host.held h) x in
    let t : T (g.H.Host.held k) = subst T (sym (g.met.H.Host.held_back h z)) (took-at g.R.Recorder.log l c.level-level.result e [] (g.H.Host.held h) c.caches.result.now z c.level-level.ensures.same c.caches.ensures.held c.passed.ensures.step) in
    let goes : Goes g.H.Host.face g.H.Host.pending g.H.Desk.stays h k = record { face = g.met.H.Host.face_back h z; pending = omega (arith, g.met.H.Host.pending_back h z); keeps = g.met.H.Desk.keeps_stays h k (g.met.H.Host.keeps_back h z) } in
    works-entry g.R.Recorder.log g.H.Host.face g.H.Host.pending g.H.Desk.stays g.H.Host.held (λ h. g.H.W.Knows.known (g.H.Desk.shared h)) h k e [] goes (ap (λ w. (g.H.W.Knows.known w).grace) (g.met.H.Desk.shared_apart h z)) t.records t.processor t.after (λ i. refl) refl

pub returns-clause-sound : goal.returns-clause-sound
returns-clause-sound g c stamp batch o =
    let h = c.args.host.now in
    let z = c.passed.new.self in
    let e = entry.Pass c.args.class c.args.domain c.args.number in
    let l = (g.H.Host.face h).level in
    let T : Caches g.row.R.Denot → Type 0 = λ x. Took g.R.Recorder.log l e [] (g.H.Host.held h) x in
    let t : T z = took-at g.R.Recorder.log l c.level-level.result e [] (g.H.Host.held h) c.caches.result.now z c.level-level.ensures.same c.caches.ensures.held c.passed.ensures.step in
    g.met.H.Desk.rested_passed h z c.args.class c.args.domain stamp c.args.number (λ m. has-stamp g.R.Recorder.log g.R.Recorder.counts (g.H.Host.tests h) (g.H.Host.face h).processors (l + 1) (g.H.Host.held h) c.requires.stands.fine c.args.class c.args.domain stamp (batch m)) t.processor t.records o

pub returns-clause-last : goal.returns-clause-last
returns-clause-last g c =
    let h = c.args.host.now in
    let z = c.passed.new.self in
    let e = entry.Pass c.args.class c.args.domain c.args.number in
    let l = (g.H.Host.face h).level in
    let t = took-at g.R.Recorder.log l c.level-level.result e [] (g.H.Host.held h) c.caches.result.now z c.level-level.ensures.same c.caches.ensures.held c.passed.ensures.step in
    let T : Caches g.row.R.Denot → Type 0 = LastIs g.R.Recorder.log l e in
    subst T (sym (g.met.H.Host.held_back h z)) (appended-last g.R.Recorder.log l e (g.R.Recorder.log (g.H.Host.held h).recorder) z t.records)
