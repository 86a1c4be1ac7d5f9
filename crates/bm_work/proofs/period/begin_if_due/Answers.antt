use Rattle.std.proofs.Common.{◌≡◌, ◌+◌, ◌%◌, ◌≤◌, ◌<◌, ◌∷◌, ◌∙◌, [], ℕ, ap, arith, inl, inr, refl, subst, sym}
use Rattle.bm_journal.specs.declared.ids.Domain.{Domain}
use Rattle.bm_law.specs.Lists.{Log}
use Rattle.bm_law.specs.State.{State}
use Rattle.bm_law_order.specs.Act as act
use Rattle.bm_grace.specs.Answers.{Answers, number_in}
use Rattle.bm_grace.specs.declared.answer.Done.{Done}
use Rattle.bm_cache.specs.declared.caches.Caches.{Caches}
use Rattle.bm_work.specs.Rested.{PollsForSome}
use Rattle.bm_law_order.specs.Chunk as chunk
use Rattle.bm_work.proofs.Owing.{shows, stands-with}
use Rattle.bm_law.specs.SweepPhrases.{MayBegin}
use Rattle.bm_law_work.specs.Parts.{Nothing, Part, Say}
use Rattle.bm_work.specs.Works.{plain_of, tracing_of}
use Rattle.bm_work.proofs.Sides.{called-works, works-at-most, works-called, works-map}
use Rattle.bm_work.proofs.period.begin_if_due.Goals as goal

pub returns-then-number-eq0-clause-works : goal.returns-then-number-eq0-clause-works
returns-then-number-eq0-clause-works g c =
    let d = c.args.domain in
    let p = plain_of d in
    let t = tracing_of d in
    let a = c.args.host.now in
    let b = c.drives.new.host in
    let x = c.ask.new.host in
    let y = c.begin_at.new.host in
    let j = g.met.H.Desk.stays_join in
    let w = called-works g.R.Recorder.log g.R.Recorder.counts g.H.Host.face g.H.Host.pending g.H.Desk.stays g.H.Host.held (λ h. g.H.W.Knows.known (g.H.Desk.shared h)) (λ h. g.H.W.Knows.rights (g.H.Desk.shared h)) j 0 0 p t (λ l. Say l (MayBegin d)) b x y c.drives.ensures.stands.fine.placed c.ask.ensures.stands.fine.placed c.ask.ensures.called c.begin_at.ensures.works in
    let v = called-works g.R.Recorder.log g.R.Recorder.counts g.H.Host.face g.H.Host.pending g.H.Desk.stays g.H.Host.held (λ h. g.H.W.Knows.known (g.H.Desk.shared h)) (λ h. g.H.W.Knows.rights (g.H.Desk.shared h)) j 0 0 (0 + p) (0 + t) (λ l. Say l (MayBegin d)) a b y c.requires.stands.fine.placed c.drives.ensures.stands.fine.placed c.drives.ensures.called w in
    works-at-most g.R.Recorder.log g.R.Recorder.counts g.H.Host.face g.H.Host.pending g.H.Desk.stays g.H.Host.held (λ h. g.H.W.Knows.known (g.H.Desk.shared h)) (λ h. g.H.W.Knows.rights (g.H.Desk.shared h)) (0 + (0 + p)) (0 + (0 + t)) p t (λ l. Say l (MayBegin d)) a y (omega arith) (omega arith) v

nothing-began : (d : Domain) (l : ℕ) (s : State ℕ) (part : Log) → Nothing s part → Say l (MayBegin d) s part
nothing-began d l s part e = subst (Say l (MayBegin d) s) (sym e) ([], inl refl, record { from = tt; own_is = refl })

pub returns-then-drives-clause-stands : goal.returns-then-drives-clause-stands
returns-then-drives-clause-stands g c =
    let y = c.drives.new.host in
    stands-with g.R.Recorder.log g.R.Recorder.counts (λ _. Unit {0}) g.H.Host.sound g.H.Host.tests g.H.Host.face g.H.Host.held y (g.met.H.Desk.owes_shut y (c.drives.ensures.owes [] [] (g.met.H.Desk.owes_open c.args.host.now c.requires.stands.sound))) c.drives.ensures.stands

pub begin_at-requires-clause-stands : goal.begin_at-requires-clause-stands
begin_at-requires-clause-stands g c =
    let y = c.ask.new.host in
    let d = c.args.domain in
    stands-with g.R.Recorder.log g.R.Recorder.counts (λ _. Unit {0}) g.H.Host.sound g.H.Host.tests g.H.Host.face g.H.Host.held y (g.met.H.Desk.owes_closed y (act.Reads d c.args.stamp (number_in c.ask.result) ∷ []) [] (shows (chunk.Asking d c.args.stamp (number_in c.ask.result)) refl) (c.ask.ensures.owes [] [] (c.drives.ensures.owes [] [] (g.met.H.Desk.owes_open c.args.host.now c.requires.stands.sound)))) c.ask.ensures.stands

pub returns-else-number-eq0-clause-stands : goal.returns-else-number-eq0-clause-stands
returns-else-number-eq0-clause-stands g c =
    let y = c.ask.new.host in
    let d = c.args.domain in
    stands-with g.R.Recorder.log g.R.Recorder.counts (λ _. Unit {0}) g.H.Host.sound g.H.Host.tests g.H.Host.face g.H.Host.held y (g.met.H.Desk.owes_closed y (act.Reads d c.args.stamp (number_in c.ask.result) ∷ []) [] (shows (chunk.Asking d c.args.stamp (number_in c.ask.result)) refl) (c.ask.ensures.owes [] [] (c.drives.ensures.owes [] [] (g.met.H.Desk.owes_open c.args.host.now c.requires.stands.sound)))) c.ask.ensures.stands

pub returns-else-number-eq0-clause-works : goal.returns-else-number-eq0-clause-works
returns-else-number-eq0-clause-works g c =
    let d = c.args.domain in
    let p = plain_of d in
    let t = tracing_of d in
    let a = c.args.host.now in
    let b = c.drives.new.host in
    let y = c.ask.new.host in
    let N : ℕ → Part = λ l. Nothing in
    let W : ℕ → Part = λ l. Say l (MayBegin d) in
    let v = works-called g.R.Recorder.log g.R.Recorder.counts g.H.Host.face g.H.Host.pending g.H.Desk.stays g.H.Host.held (λ h. g.H.W.Knows.known (g.H.Desk.shared h)) (λ h. g.H.W.Knows.rights (g.H.Desk.shared h)) 0 0 b y c.ask.ensures.called in
    let w = called-works g.R.Recorder.log g.R.Recorder.counts g.H.Host.face g.H.Host.pending g.H.Desk.stays g.H.Host.held (λ h. g.H.W.Knows.known (g.H.Desk.shared h)) (λ h. g.H.W.Knows.rights (g.H.Desk.shared h)) g.met.H.Desk.stays_join 0 0 0 0 N a b y c.requires.stands.fine.placed c.drives.ensures.stands.fine.placed c.drives.ensures.called v in
    works-at-most g.R.Recorder.log g.R.Recorder.counts g.H.Host.face g.H.Host.pending g.H.Desk.stays g.H.Host.held (λ h. g.H.W.Knows.known (g.H.Desk.shared h)) (λ h. g.H.W.Knows.rights (g.H.Desk.shared h)) (0 + 0) (0 + 0) p t W a y (omega arith) (omega arith)
    (works-map g.R.Recorder.log g.H.Host.face g.H.Host.pending g.H.Desk.stays g.H.Host.held (λ h. g.H.W.Knows.known (g.H.Desk.shared h)) (0 + 0) (0 + 0) N W a y (nothing-began d) w)

pub returns-in_default-clause-stands : goal.returns-in_default-clause-stands
returns-in_default-clause-stands g c =
    let y = c.ask.new.host in
    let d = c.args.domain in
    stands-with g.R.Recorder.log g.R.Recorder.counts (λ _. Unit {0}) g.H.Host.sound g.H.Host.tests g.H.Host.face g.H.Host.held y (g.met.H.Desk.owes_closed y (act.Reads d c.args.stamp (number_in c.ask.result) ∷ []) [] (shows (chunk.Asking d c.args.stamp (number_in c.ask.result)) refl) (c.ask.ensures.owes [] [] (c.drives.ensures.owes [] [] (g.met.H.Desk.owes_open c.args.host.now c.requires.stands.sound)))) c.ask.ensures.stands

pub returns-in_default-clause-works : goal.returns-in_default-clause-works
returns-in_default-clause-works g c =
    let d = c.args.domain in
    let p = plain_of d in
    let t = tracing_of d in
    let a = c.args.host.now in
    let b = c.drives.new.host in
    let y = c.ask.new.host in
    let N : ℕ → Part = λ l. Nothing in
    let W : ℕ → Part = λ l. Say l (MayBegin d) in
    let v = works-called g.R.Recorder.log g.R.Recorder.counts g.H.Host.face g.H.Host.pending g.H.Desk.stays g.H.Host.held (λ h. g.H.W.Knows.known (g.H.Desk.shared h)) (λ h. g.H.W.Knows.rights (g.H.Desk.shared h)) 0 0 b y c.ask.ensures.called in
    let w = called-works g.R.Recorder.log g.R.Recorder.counts g.H.Host.face g.H.Host.pending g.H.Desk.stays g.H.Host.held (λ h. g.H.W.Knows.known (g.H.Desk.shared h)) (λ h. g.H.W.Knows.rights (g.H.Desk.shared h)) g.met.H.Desk.stays_join 0 0 0 0 N a b y c.requires.stands.fine.placed c.drives.ensures.stands.fine.placed c.drives.ensures.called v in
    works-at-most g.R.Recorder.log g.R.Recorder.counts g.H.Host.face g.H.Host.pending g.H.Desk.stays g.H.Host.held (λ h. g.H.W.Knows.known (g.H.Desk.shared h)) (λ h. g.H.W.Knows.rights (g.H.Desk.shared h)) (0 + 0) (0 + 0) p t W a y (omega arith) (omega arith)
    (works-map g.R.Recorder.log g.H.Host.face g.H.Host.pending g.H.Desk.stays g.H.Host.held (λ h. g.H.W.Knows.known (g.H.Desk.shared h)) (0 + 0) (0 + 0) N W a y (nothing-began d) w)

pub returns-then-drives-clause-rested : goal.returns-then-drives-clause-rested
returns-then-drives-clause-rested g c =
    let d = c.args.domain in
    let odd = c.drives.ensures.odd c.if-drives.true in
    c.drives.ensures.rested c.args.stamp (c.requires.rested (subst (λ n. n % 2 ≡ 1) (c.drives.ensures.called.numbers d) odd))

odd-of : (n : ℕ) → (n % 2 ≡ 0 → ⊥) → n % 2 ≡ 1
odd-of n h = omega (arith, h)

pub returns-else-number-eq0-clause-rested : goal.returns-else-number-eq0-clause-rested
returns-else-number-eq0-clause-rested g c =
    let y = c.ask.new.host in
    let d = c.args.domain in
    let n = number_in c.ask.result in
    let odd : n % 2 ≡ 1 = odd-of n (λ e. c.if-number-eq0.false (sym (ap (λ r. number_in r % 2) c.in-NotYet.is) ∙ e)) in
    let owed = c.ask.ensures.owes [] [] (c.drives.ensures.owes [] [] (g.met.H.Desk.owes_open c.args.host.now c.requires.stands.sound)) in
    g.met.H.Desk.rested_read y d c.args.stamp n (inl odd) (c.ask.ensures.called.numbers d ∙ c.drives.ensures.none c.if-drives.false) owed

pub returns-in_default-clause-rested : goal.returns-in_default-clause-rested
returns-in_default-clause-rested g c =
    let y = c.ask.new.host in
    let d = c.args.domain in
    let n = number_in c.ask.result in
    let over : c.args.stamp ≤ n = subst (λ r. c.args.stamp ≤ number_in r) (sym c.in_default.is) (subst (λ r. Answers r c.args.stamp) c.in_default.is c.ask.ensures.answer) in
    let owed = c.ask.ensures.owes [] [] (c.drives.ensures.owes [] [] (g.met.H.Desk.owes_open c.args.host.now c.requires.stands.sound)) in
    g.met.H.Desk.rested_read y d c.args.stamp n (inr over) (c.ask.ensures.called.numbers d ∙ c.drives.ensures.none c.if-drives.false) owed

pub returns-then-number-eq0-clause-rested : goal.returns-then-number-eq0-clause-rested
returns-then-number-eq0-clause-rested g c =
    let d = c.args.domain in
    let x = c.args.stamp in
    let y = c.ask.new.host in
    let less : c.in-NotYet.number < x = subst (λ r. Answers r x) c.in-NotYet.is c.ask.ensures.answer in
    let F : Done → Type 0 = λ r. g.H.Desk.owes (act.Reads d x (number_in r) ∷ []) [] y in
    let owed = subst F c.in-NotYet.is (c.ask.ensures.owes [] [] (c.drives.ensures.owes [] [] (g.met.H.Desk.owes_open c.args.host.now c.requires.stands.sound))) in
    let batch = subst (λ (z : Caches g.row.R.Denot). PollsForSome g.H.Desk.minds d x z) (sym (c.ask.ensures.called.held ∙ c.drives.ensures.called.held)) c.requires.batch in
    c.begin_at.ensures.rested x less batch owed

pub returns-then-number-eq0-clause-stands : goal.returns-then-number-eq0-clause-stands
returns-then-number-eq0-clause-stands g c =
    let y = c.begin_at.new.host in
    stands-with g.R.Recorder.log g.R.Recorder.counts (λ _. Unit {0}) g.H.Host.sound g.H.Host.tests g.H.Host.face g.H.Host.held y (g.met.H.Desk.rested_sound y c.args.domain c.args.stamp (returns-then-number-eq0-clause-rested g c)) c.begin_at.ensures.stands
