use Rattle.std.proofs.Common.{◌≡◌, ◌+◌, ◌++◌, ◌∷◌, ◌∙◌, ℕ, List, [], ap, inl, inr, arith, refl, subst, sym}
use Rattle.bm_journal.specs.declared.ids.Domain.{Domain}
use Rattle.bm_journal.specs.declared.entry.Entry.{Entry}
use Rattle.bm_journal.specs.declared.entry.Entry.TheVariants as entry
use Rattle.bm_grace.specs.Calls.{began}
use Rattle.bm_grace.specs.Known.{Known, side}
use Rattle.bm_grace.specs.declared.answer.Began.{Began}
use Rattle.bm_grace.specs.declared.answer.Began.TheVariants.{Moved, Won}
use Rattle.bm_law.specs.SweepPhrases.{MayBegin, MayFinish}
use Rattle.bm_law.specs.Lists.{Log}
use Rattle.bm_law.specs.State.{State}
use Rattle.bm_law_work.specs.Parts.{Nothing, Part, Say}
use Rattle.bm_law_work.specs.WorkPhrases.{IsOne}
use Rattle.bm_work.specs.Works.{plain_of, tracing_of}
use Rattle.bm_work.proofs.Sides.{works-at-most, works-called, works-join, works-map, say-join}
use Rattle.bm_work.proofs.Turning.{called-turned, numbers-moved, works-turned}
use Rattle.bm_law_order.specs.Act as act
use Rattle.bm_grace.specs.Begins.{begin_act}
use Rattle.bm_cache.specs.Shown.{shown}
use Rattle.bm_work.proofs.Owing.{some-stamp}
use Rattle.bm_work.proofs.period.begin_at.Goals as goal

pub returns-in-Won-clause-works : goal.returns-in-Won-clause-works
returns-in-Won-clause-works g c =
    let d = c.args.domain in
    let n = c.args.even + 1 in
    let P : ℕ → Part = λ l. Say l (IsOne (entry.Begin d n)) in
    let Q : ℕ → Part = λ l. Say l (MayFinish d) in
    let W : ℕ → Part = λ l. Say l (MayBegin d) in
    let a = c.args.host.now in
    let b = c.try_begin.new.host in
    let x = c.note_begun.new.host in
    let y = c.finish_if_all.new.host in
    let j = g.met.H.Desk.stays_join in
    let f : (v w : List Entry) → IsOne (entry.Begin d n) v → MayFinish d w → MayBegin d (v ++ w) = λ v w i m. inr (n, w, ap (λ z. z ++ w) i, m) in
    let N = g.H.W.Knows.known in
    let won : c.try_begin.result ≡ Won = c.in-Won.is in
    let k : N (g.H.Desk.shared b) ≡ began g.H.W.Knows.tells d Won c.args.even (N (g.H.Desk.shared a)) = c.try_begin.ensures.known ∙ ap (λ (z : Began). began g.H.W.Knows.tells d z c.args.even (N (g.H.Desk.shared a))) won in
    let v = works-turned g.R.Recorder.log g.H.Host.face g.H.Host.pending g.H.Desk.stays g.H.Host.held g.H.Desk.shared N (λ h. g.H.W.Knows.rights (g.H.Desk.shared h)) g.H.Host.tests j (plain_of d) (tracing_of d) (entry.Begin d n) a b x c.try_begin.ensures.turned c.note_begun.ensures.step c.note_begun.ensures.lists c.note_begun.ensures.processor c.note_begun.ensures.handled in
    let t = works-join g.R.Recorder.log g.R.Recorder.counts g.H.Host.face g.H.Host.pending g.H.Desk.stays g.H.Host.held (λ h. N (g.H.Desk.shared h)) j (plain_of d) (tracing_of d) 0 0 P Q W a x y (λ l s one two. say-join l (IsOne (entry.Begin d n)) (MayFinish d) (MayBegin d) s _ one two f) c.requires.stands.fine.placed c.note_begun.ensures.stands.fine.placed v c.finish_if_all.ensures.works in
    works-at-most g.R.Recorder.log g.R.Recorder.counts g.H.Host.face g.H.Host.pending g.H.Desk.stays g.H.Host.held (λ h. N (g.H.Desk.shared h)) (λ h. g.H.W.Knows.rights (g.H.Desk.shared h)) (plain_of d + 0) (tracing_of d + 0) (plain_of d) (tracing_of d) W a y (omega (arith)) (omega (arith)) t

nothing-began : (d : Domain) (l : ℕ) (s : State ℕ) (part : Log) → Nothing s part → Say l (MayBegin d) s part
nothing-began d l s part e = subst (Say l (MayBegin d) s) (sym e) ([], inl refl, record { from = tt; own_is = refl })

pub returns-in-Moved-clause-works : goal.returns-in-Moved-clause-works
returns-in-Moved-clause-works g c =
    let d = c.args.domain in
    let a = c.args.host.now in
    let b = c.try_begin.new.host in
    let N = g.H.W.Knows.known in
    let k : N (g.H.Desk.shared b) ≡ began g.H.W.Knows.tells d (Moved c.in-Moved.field-0) c.args.even (N (g.H.Desk.shared a)) = c.try_begin.ensures.known ∙ ap (λ (z : Began). began g.H.W.Knows.tells d z c.args.even (N (g.H.Desk.shared a))) c.in-Moved.is in
    let m : (e : Domain) → (side e (N (g.H.Desk.shared b))).number ≡ (side e (N (g.H.Desk.shared a))).number = λ e. ap (λ (z : Known). (side e z).number) k ∙ numbers-moved g.H.W.Knows.tells e d c.in-Moved.field-0 c.args.even (N (g.H.Desk.shared a)) in
    let t = called-turned g.R.Recorder.log g.H.Host.face g.H.Host.pending g.H.Desk.stays g.H.Host.held g.H.Desk.shared N (λ h. g.H.W.Knows.rights (g.H.Desk.shared h)) g.H.Host.tests g.met.H.Desk.stays_join (plain_of d) (tracing_of d) a b c.try_begin.ensures.turned m in
    works-map g.R.Recorder.log g.H.Host.face g.H.Host.pending g.H.Desk.stays g.H.Host.held (λ h. N (g.H.Desk.shared h)) (plain_of d) (tracing_of d) (λ l. Nothing) (λ l. Say l (MayBegin d)) a b (nothing-began d)
    (works-called g.R.Recorder.log g.R.Recorder.counts g.H.Host.face g.H.Host.pending g.H.Desk.stays g.H.Host.held (λ h. N (g.H.Desk.shared h)) (λ h. g.H.W.Knows.rights (g.H.Desk.shared h)) (plain_of d) (tracing_of d) a b t)

pub returns-in-Won-clause-rested : goal.returns-in-Won-clause-rested
returns-in-Won-clause-rested g c x less batch owed =
    let d = c.args.domain in
    let n = c.args.even + 1 in
    let a = c.args.host.now in
    let y = c.finish_if_all.new.host in
    let F : Began → Type 0 = λ r. g.H.Desk.owes (begin_act d c.args.even r ∷ []) [] c.try_begin.new.host in
    let o = subst F c.in-Won.is (c.try_begin.ensures.owes [] [] (g.met.H.Desk.owes_open a c.requires.stands.sound)) in
    let lists = c.finish_if_all.ensures.lists ∙ c.note_begun.ensures.lists ∙ ap shown c.try_begin.ensures.turned.held in
    let w = some-stamp g.R.Recorder.log g.R.Recorder.counts (λ _. Unit {0}) g.H.Host.tests g.H.Host.face g.H.Host.held g.H.Desk.minds d x a y lists batch c.finish_if_all.ensures.stands in
    elim (c.finish_if_all.ensures.owes (act.Begins d n ∷ []) (entry.Begin d n ∷ []) (c.note_begun.ensures.owes (act.Begins d n ∷ []) [] o)) [
      | inl q ↦ g.met.H.Desk.rested_begun y d x n (omega (arith, less)) w q.1 q.0
      | inr q ↦ g.met.H.Desk.rested_whole y d x n q.0 q.1 q.2 (omega (arith, less)) w q.4
    ]

pub returns-in-Moved-clause-rested : goal.returns-in-Moved-clause-rested
returns-in-Moved-clause-rested g c x less batch owed =
    let d = c.args.domain in
    let even = c.args.even in
    let y = c.try_begin.new.host in
    let F : Began → Type 0 = λ r. g.H.Desk.owes (act.Reads d x even ∷ begin_act d even r ∷ []) [] y in
    g.met.H.Desk.rested_missed y d x even c.in-Moved.field-0 (subst F c.in-Moved.is (c.try_begin.ensures.owes (act.Reads d x even ∷ []) [] owed))
