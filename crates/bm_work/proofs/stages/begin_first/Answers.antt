use Rattle.std.proofs.Common.{◌≡◌, ◌∙◌, [], ℕ, Bool, true, false, refl, ap}
use Rattle.bm_journal.specs.declared.ids.Domain.TheVariants.{Plain}
use Rattle.bm_law.specs.State.{Deferred, State, seen}
use Rattle.bm_law.specs.Lists.{is_unstamped}
use Rattle.bm_cache.specs.Shown.{shown}
use Rattle.bm_cache.specs.Tokens.{Token, number_of}
use Rattle.bm_law_work.specs.Parts.{Part, Say, Then, When}
use Rattle.bm_law_work.specs.WorkPhrases.{IsBatch, IsGathering, IsLeave, IsStamp, may_batch}
use Rattle.bm_work.specs.Stops.{BeginFirst}
use Rattle.bm_work.proofs.Sides.{works-join, works-map-at, works-still}
use Rattle.bm_work.proofs.Thens.{then-all, then-of, when-false, when-true}
use Rattle.bm_work.proofs.stages.begin_first.Goals as goal

pub returns-then-gather-clause-works : goal.returns-then-gather-clause-works
returns-then-gather-clause-works g c =
    let j = g.met.H.Desk.stays_join in
    let i = c.args.class in
    let a = c.args.host.now in
    let b = c.gather.new.host in
    let sb = seen number_of (shown (g.H.Host.held b)) in
    let A : ℕ → Part = λ l. Say l (IsGathering i) in
    let B : ℕ → Part = λ l. When (may_batch i) (Say l (IsBatch i)) in
    let C : ℕ → Part = λ l. Say l (IsLeave i) in
    let test : State ℕ → Bool = λ t. is_unstamped (t.rows i).deferred.plain in
    let X : ℕ → Part = λ l. Say l (IsStamp i Plain) in
    let D : ℕ → Part = λ l. When test (X l) in
    let P : ℕ → Part = λ l. Then (A l) (Then (B l) (C l)) in
    let y = c.stamp_batch.new.host in
    let e : test sb ≡ true = ap (λ (z : Deferred Token). is_unstamped z.plain) (c.gather.ensures.begun c.if-gather.true).1 in
    let d = works-map-at g.R.Recorder.log g.H.Host.face g.H.Host.pending g.H.Desk.stays g.H.Host.held (λ h. g.H.W.Knows.known (g.H.Desk.shared h)) 0 0 X D b y (λ l part p. when-true test (X l) sb part e p) c.stamp_batch.ensures.works in
    works-join g.R.Recorder.log g.R.Recorder.counts g.H.Host.face g.H.Host.pending g.H.Desk.stays g.H.Host.held (λ h. g.H.W.Knows.known (g.H.Desk.shared h)) j 0 0 0 0 P D (λ l. BeginFirst l i) a b y (λ l s one two p q. then-all (A l) (B l) (C l) (D l) s _ (then-of (P l) (D l) s one two p q)) c.requires.stands.fine.placed c.gather.ensures.stands.fine.placed c.gather.ensures.works d

pub returns-else-gather-clause-works : goal.returns-else-gather-clause-works
returns-else-gather-clause-works g c =
    let j = g.met.H.Desk.stays_join in
    let i = c.args.class in
    let a = c.args.host.now in
    let b = c.gather.new.host in
    let sb = seen number_of (shown (g.H.Host.held b)) in
    let A : ℕ → Part = λ l. Say l (IsGathering i) in
    let B : ℕ → Part = λ l. When (may_batch i) (Say l (IsBatch i)) in
    let C : ℕ → Part = λ l. Say l (IsLeave i) in
    let test : State ℕ → Bool = λ t. is_unstamped (t.rows i).deferred.plain in
    let X : ℕ → Part = λ l. Say l (IsStamp i Plain) in
    let D : ℕ → Part = λ l. When test (X l) in
    let P : ℕ → Part = λ l. Then (A l) (Then (B l) (C l)) in
    let e : test sb ≡ false = ap (λ (z : Deferred Token). is_unstamped z.plain) (c.gather.ensures.waits c.if-gather.false) ∙ c.requires.stamped in
    let d = works-still g.R.Recorder.log g.H.Host.face g.H.Host.pending g.H.Desk.stays g.H.Host.held (λ h. g.H.W.Knows.known (g.H.Desk.shared h)) D b (g.met.H.Desk.keeps_stays b b (g.met.H.Host.keeps_same b)) (λ l. when-false test (X l) sb [] e refl) in
    works-join g.R.Recorder.log g.R.Recorder.counts g.H.Host.face g.H.Host.pending g.H.Desk.stays g.H.Host.held (λ h. g.H.W.Knows.known (g.H.Desk.shared h)) j 0 0 0 0 P D (λ l. BeginFirst l i) a b b (λ l s one two p q. then-all (A l) (B l) (C l) (D l) s _ (then-of (P l) (D l) s one two p q)) c.requires.stands.fine.placed c.gather.ensures.stands.fine.placed c.gather.ensures.works d
