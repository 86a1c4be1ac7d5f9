use Rattle.std.proofs.Common.{◌≡◌, [], ◌∷◌, ◌∙◌, ℕ, ap, subst, sym}
use Rattle.bm_law_order.specs.Act as act
use Rattle.bm_work.proofs.Owing.{stands-with}
use Rattle.bm_journal.specs.declared.entry.Entry.TheVariants as entry
use Rattle.bm_law.specs.Lists.{after, stamp_of}
use Rattle.bm_cache.specs.Shown.{shown}
use Rattle.bm_law_work.specs.Parts.{Part, Say, Stand}
use Rattle.bm_law_work.specs.WorkPhrases.{IsOne}
use Rattle.bm_grace.specs.Answers.{number_in}
use Rattle.bm_work_lists.proofs.Grown.{say-after}
use Rattle.bm_cache.specs.declared.caches.Caches.{Caches}
use Rattle.bm_work.specs.Onward.{Onward}
use Rattle.bm_work.specs.Rested.{LastIs, PollsFor}
use Rattle.bm_cache.specs.Span.{Face}
use Rattle.bm_work.specs.Works.{Works}
use Rattle.bm_work.proofs.Sides.{aged-tests, called-works, works-join}
use Rattle.bm_work.proofs.Tests.{ripened-all}
use Rattle.bm_work.proofs.polls.see.Goals as goal

pub returns-clause-works : goal.returns-clause-works
returns-clause-works g c =
    let j = g.met.H.Desk.stays_join in
    let n = c.ask_now-seen.result in
    let Q : ℕ → Part = λ l. Say l (IsOne (entry.Pass c.args.class c.args.domain (number_in n))) in
    let F : ℕ → Type 0 = λ i. Works g.R.Recorder.log g.H.Host.face g.H.Host.pending g.H.Desk.stays g.H.Host.held (λ h. g.H.W.Knows.known (g.H.Desk.shared h)) 0 0 (λ l. Say l (IsOne (entry.Pass c.args.class c.args.domain i))) c.ask_now-seen.new.host c.note_passed.new.host in
    let t = called-works g.R.Recorder.log g.R.Recorder.counts g.H.Host.face g.H.Host.pending g.H.Desk.stays g.H.Host.held (λ h. g.H.W.Knows.known (g.H.Desk.shared h)) (λ h. g.H.W.Knows.rights (g.H.Desk.shared h)) j 0 0 0 0 Q c.pause.new.host c.ask_now-seen.new.host c.note_passed.new.host c.pause.ensures.stands.fine.placed c.ask_now-seen.ensures.stands.fine.placed c.ask_now-seen.ensures.called (subst F c.seen_number.ensures c.note_passed.ensures.works) in
    works-join g.R.Recorder.log g.R.Recorder.counts g.H.Host.face g.H.Host.pending g.H.Desk.stays g.H.Host.held (λ h. g.H.W.Knows.known (g.H.Desk.shared h)) j 0 0 0 0 (λ l. Stand l []) Q Q c.args.host.now c.pause.new.host c.note_passed.new.host (λ l s one two i k. say-after l (IsOne (entry.Pass c.args.class c.args.domain (number_in n))) s (after s one) one two i k) c.requires.stands.fine.placed c.pause.ensures.stands.fine.placed c.pause.ensures.works t

pub returns-clause-ripe : goal.returns-clause-ripe
returns-clause-ripe g c k =
    let T = g.H.Host.tests in
    let o : Onward [] (g.H.Host.tests c.ask_now-seen.new.host) (g.H.Host.tests c.note_passed.new.host) = aged-tests g.H.Host.tests (λ h. g.H.W.Knows.rights (g.H.Desk.shared h)) g.met.H.Desk.tests_are c.ask_now-seen.new.host c.note_passed.new.host c.note_passed.ensures.ages in (
      ripened-all (T c.args.host.now) (T c.pause.new.host) (T c.ask_now-seen.new.host) (T c.note_passed.new.host) c.args.domain c.args.stamp c.ask_now-seen.result ((shown (g.H.Host.held c.args.host.now)).rows k).deferred.first (c.pause.ensures.came.lasting.first k) c.ask_now-seen.ensures.ripe o,
      ripened-all (T c.args.host.now) (T c.pause.new.host) (T c.ask_now-seen.new.host) (T c.note_passed.new.host) c.args.domain c.args.stamp c.ask_now-seen.result ((shown (g.H.Host.held c.args.host.now)).rows k).deferred.second (c.pause.ensures.came.lasting.second k) c.ask_now-seen.ensures.ripe o,
    )

pub returns-clause-stands : goal.returns-clause-stands
returns-clause-stands g c =
    let y = c.note_passed.new.host in
    let z = c.ask_now-seen.new.host in
    let d = c.args.domain in
    let x = c.args.stamp in
    let o = c.ask_now-seen.ensures.rested [] (c.pause.ensures.rested d x c.requires.rested) in
    let F : ℕ → Type 0 = λ n. g.H.Desk.asked_rested d x (act.Reads d x n ∷ []) z in
    let i = c.args.class in
    let deferred = ap (λ (k : Caches g.row.R.Denot). ((shown k).rows i).deferred) c.ask_now-seen.ensures.called.held ∙ (c.pause.ensures.came.kept.rows i).deferred in
    let batch : PollsFor g.H.Desk.minds i d x (g.H.Host.held z) = λ m. ap (stamp_of d) deferred ∙ c.requires.batch m in
    stands-with g.R.Recorder.log g.R.Recorder.counts (λ _. Unit {0}) g.H.Host.sound g.H.Host.tests g.H.Host.face g.H.Host.held y (c.note_passed.ensures.sound x batch (subst F (sym c.seen_number.ensures) o)) c.note_passed.ensures.stands

pub returns-clause-last : goal.returns-clause-last
returns-clause-last g c =
    let y = c.note_passed.new.host in
    let face : (g.H.Host.face c.ask_now-seen.new.host).level ≡ (g.H.Host.face c.args.host.now).level = ap (λ (f : Face). f.level) (c.ask_now-seen.ensures.called.face ∙ c.pause.ensures.works.goes.face) in
    let F : ℕ → ℕ → Type 0 = λ l n. LastIs g.R.Recorder.log l (entry.Pass c.args.class c.args.domain n) (g.H.Host.held y) in
    subst (λ l. F l (number_in c.ask_now-seen.result)) face (subst (F (g.H.Host.face c.ask_now-seen.new.host).level) c.seen_number.ensures c.note_passed.ensures.last)
