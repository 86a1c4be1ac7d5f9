use Rattle.std.proofs.Common.{◌≡◌, ◌+◌, ◌++◌, ◌∷◌, ◌∙◌, [], ℕ, List, refl, ap, arith, subst}
use Rattle.bm_journal.specs.declared.entry.Entry.{Entry}
use Rattle.bm_journal.specs.declared.entry.Entry.TheVariants as entry
use Rattle.bm_law.specs.Lists.{after, stamp_of}
use Rattle.bm_law.specs.State.{State}
use Rattle.bm_law.specs.SweepPhrases.{MayBegin, MayFinish, PollPhrase}
use Rattle.bm_cache.specs.Shown.{shown}
use Rattle.bm_cache.specs.Tokens.{Token}
use Rattle.bm_law_work.specs.Parts.{Part, Say}
use Rattle.bm_law_work.specs.WorkPhrases.{IsOne}
use Rattle.bm_grace.specs.Answers.{number_in}
use Rattle.bm_work.specs.Onward.{Onward}
use Rattle.bm_work.specs.Periods.{Sees}
use Rattle.bm_work.specs.Rested.{LastIs}
use Rattle.bm_cache.specs.Span.{Face}
use Rattle.bm_work.specs.Works.{plain_of, tracing_of}
use Rattle.bm_work.proofs.Sides.{aged-tests, say-join, works-at-most, works-join}
use Rattle.bm_work.proofs.Tests.{ripened-before}
use Rattle.bm_work.proofs.polls.poll.Goals as goal

pub returns-clause-works : goal.returns-clause-works
returns-clause-works g c =
    let j = g.met.H.Desk.stays_join in
    let d = c.args.domain in
    let i = c.args.class in
    let n : ℕ = number_in c.see.result in
    let A : List Entry → Type 0 = MayFinish d in
    let B : List Entry → Type 0 = MayBegin d in
    let C : List Entry → Type 0 = IsOne (entry.Pass i d n) in
    let D : List Entry → Type 0 = λ own. (b : List Entry) × B b × (own ≡ b ++ entry.Pass i d n ∷ []) in
    let fd : (v w : List Entry) → B v → C w → D (v ++ w) = λ v w h k. (v, h, ap (λ z. v ++ z) k) in
    let fs : (v w : List Entry) → A v → D w → Sees i d n (v ++ w) = λ v w h k. (let q : PollPhrase i d (v ++ w) = record { ended = v; begun = k.0; seen = n; own_is = ap (λ z. v ++ z) k.2; may_finish = h; may_begin = k.1 } in q, refl) in
    let P : ℕ → Part = λ l. Say l A in
    let Q : ℕ → Part = λ l. Say l B in
    let X : ℕ → Part = λ l. Say l C in
    let Y : ℕ → Part = λ l. Say l D in
    let Z : ℕ → Part = λ l. Say l (Sees i d n) in
    let t = works-join g.R.Recorder.log g.R.Recorder.counts g.H.Host.face g.H.Host.pending g.H.Desk.stays g.H.Host.held (λ h. g.H.W.Knows.known (g.H.Desk.shared h)) j (plain_of d) (tracing_of d) 0 0 Q X Y c.finish_if_passed.new.host c.begin_if_due.new.host c.see.new.host (λ l s one two. say-join l B C D s (after s one) one two fd) c.finish_if_passed.ensures.stands.fine.placed c.begin_if_due.ensures.stands.fine.placed c.begin_if_due.ensures.works c.see.ensures.works in
    works-at-most g.R.Recorder.log g.R.Recorder.counts g.H.Host.face g.H.Host.pending g.H.Desk.stays g.H.Host.held (λ h. g.H.W.Knows.known (g.H.Desk.shared h)) (λ h. g.H.W.Knows.rights (g.H.Desk.shared h)) (0 + (plain_of d + 0)) (0 + (tracing_of d + 0)) (plain_of d) (tracing_of d) Z c.args.host.now c.see.new.host (omega (arith)) (omega (arith))
    (works-join g.R.Recorder.log g.R.Recorder.counts g.H.Host.face g.H.Host.pending g.H.Desk.stays g.H.Host.held (λ h. g.H.W.Knows.known (g.H.Desk.shared h)) j 0 0 (plain_of d + 0) (tracing_of d + 0) P Y Z c.args.host.now c.finish_if_passed.new.host c.see.new.host (λ l s one two. say-join l A D (Sees i d n) s (after s one) one two fs) c.requires.stands.fine.placed c.finish_if_passed.ensures.stands.fine.placed c.finish_if_passed.ensures.works t)

pub returns-clause-ripe : goal.returns-clause-ripe
returns-clause-ripe g c k =
    let a = c.args.host.now in
    let b = c.begin_if_due.new.host in
    let T = g.H.Host.tests in
    let o1 : Onward [] (T a) (T c.finish_if_passed.new.host) = aged-tests T (λ h. g.H.W.Knows.rights (g.H.Desk.shared h)) g.met.H.Desk.tests_are a c.finish_if_passed.new.host c.finish_if_passed.ensures.ages in
    let o2 : Onward [] (T c.finish_if_passed.new.host) (T b) = aged-tests T (λ h. g.H.W.Knows.rights (g.H.Desk.shared h)) g.met.H.Desk.tests_are c.finish_if_passed.new.host b c.begin_if_due.ensures.ages in
    let o : Onward [] (T a) (T b) = λ i n life seal e h. o2 i n life seal e (o1 i n life seal e h) in
    let q = c.begin_if_due.ensures.lists ∙ c.finish_if_passed.ensures.lists in (
      ripened-before (T a) (T b) (T c.see.new.host) c.args.domain c.args.stamp c.see.result ((shown (g.H.Host.held a)).rows k).deferred.first ((shown (g.H.Host.held b)).rows k).deferred.first o (ap (λ (s : State Token). (s.rows k).deferred.first) q) (c.see.ensures.ripe k).0,
      ripened-before (T a) (T b) (T c.see.new.host) c.args.domain c.args.stamp c.see.result ((shown (g.H.Host.held a)).rows k).deferred.second ((shown (g.H.Host.held b)).rows k).deferred.second o (ap (λ (s : State Token). (s.rows k).deferred.second) q) (c.see.ensures.ripe k).1,
    )

pub begin_if_due-requires-clause-batch : goal.begin_if_due-requires-clause-batch
begin_if_due-requires-clause-batch g c m = (c.args.class, ap (λ (s : State Token). stamp_of c.args.domain (s.rows c.args.class).deferred) c.finish_if_passed.ensures.lists ∙ c.requires.batch m)

pub see-requires-clause-batch : goal.see-requires-clause-batch
see-requires-clause-batch g c m = ap (λ (s : State Token). stamp_of c.args.domain (s.rows c.args.class).deferred) (c.begin_if_due.ensures.lists ∙ c.finish_if_passed.ensures.lists) ∙ c.requires.batch m

pub returns-clause-last : goal.returns-clause-last
returns-clause-last g c =
    let face : (g.H.Host.face c.begin_if_due.new.host).level ≡ (g.H.Host.face c.args.host.now).level = ap (λ (f : Face). f.level) (c.begin_if_due.ensures.works.goes.face ∙ c.finish_if_passed.ensures.works.goes.face) in
    subst (λ l. LastIs g.R.Recorder.log l (entry.Pass c.args.class c.args.domain (number_in c.see.result)) (g.H.Host.held c.see.new.host)) face c.see.ensures.last
