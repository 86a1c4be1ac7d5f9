use Rattle.std.proofs.Common.{◌≡◌, ◌-◌, ◌++◌, ◌∙◌, [], ℕ, suc, Bool, true, false, List, refl, sym, subst, ap, append_assoc, arith}
use Rattle.bm_law.specs.State.{Deferred}
use Rattle.bm_cache.specs.Shown.{shown}
use Rattle.bm_cache.specs.Tokens.{Token}
use Rattle.bm_law_work.specs.Parts.{Say}
use Rattle.bm_law_work.specs.WorkPhrases.{Receive}
use Rattle.bm_work.specs.Periods.{GetsParcel}
use Rattle.bm_work.specs.Works.{Works}
use Rattle.bm_work.proofs.Came.{receive-more, receive-none}
use Rattle.bm_work.proofs.Sides.{works-join, works-map}
use Rattle.bm_work.proofs.parcels.+receive_up_to.Goals as goal

pub returns-then-left-eq0-clause-deferred : goal.returns-then-left-eq0-clause-deferred
returns-then-left-eq0-clause-deferred g t c = ([], refl)

pub returns-then-receive_one-clause-works : goal.returns-then-receive_one-clause-works
returns-then-receive_one-clause-works g t c =
    let j = g.met.H.Desk.stays_join in
    let i = c.args.class in
    let n : ℕ = c.args.left - 1 in
    let a = c.args.host.now in
    let b = c.receive_one.new.host in
    let z = c.receive_up_to.new.host in
    let e : suc n ≡ c.args.left = omega (arith, c.if-left-eq0.false) in
    let B : Bool → Type 0 = λ x. Works g.R.Recorder.log g.H.Host.face g.H.Host.pending g.H.Desk.stays g.H.Host.held (λ h. g.H.W.Knows.known (g.H.Desk.shared h)) 0 0 (λ l. Say l (GetsParcel i x)) a b in
    let N : ℕ → Type 0 = λ x. Works g.R.Recorder.log g.H.Host.face g.H.Host.pending g.H.Desk.stays g.H.Host.held (λ h. g.H.W.Knows.known (g.H.Desk.shared h)) 0 0 (λ l. Receive l i x) a z in
    subst N e (works-join g.R.Recorder.log g.R.Recorder.counts g.H.Host.face g.H.Host.pending g.H.Desk.stays g.H.Host.held (λ h. g.H.W.Knows.known (g.H.Desk.shared h)) j 0 0 0 0 (λ l. Say l (GetsParcel i true)) (λ l. Receive l i n) (λ l. Receive l i (suc n)) a b z (λ l s one two. receive-more l i n s one two) c.requires.stands.fine.placed c.receive_one.ensures.stands.fine.placed (subst B c.if-receive_one.true c.receive_one.ensures.works) c.receive_up_to.ensures.works)

pub returns-then-receive_one-clause-deferred : goal.returns-then-receive_one-clause-deferred
returns-then-receive_one-clause-deferred g t c =
    let p = c.receive_one.ensures.deferred in
    let q = c.receive_up_to.ensures.deferred in
    let d = ((shown (g.H.Host.held c.args.host.now)).rows c.args.class).deferred in
    let F : Deferred Token → List Token → Deferred Token = λ x us. record x { ready = us ++ x.ready } in
    let A : List Token → Deferred Token = λ us. record d { ready = us } in
    (q.0 ++ p.0, q.1 ∙ ap (λ x. F x q.0) p.1 ∙ ap A (sym (append_assoc q.0 p.0 d.ready)))

pub returns-else-receive_one-clause-works : goal.returns-else-receive_one-clause-works
returns-else-receive_one-clause-works g t c =
    let i = c.args.class in
    let n : ℕ = c.args.left - 1 in
    let a = c.args.host.now in
    let b = c.receive_one.new.host in
    let e : suc n ≡ c.args.left = omega (arith, c.if-left-eq0.false) in
    let B : Bool → Type 0 = λ x. Works g.R.Recorder.log g.H.Host.face g.H.Host.pending g.H.Desk.stays g.H.Host.held (λ h. g.H.W.Knows.known (g.H.Desk.shared h)) 0 0 (λ l. Say l (GetsParcel i x)) a b in
    let N : ℕ → Type 0 = λ x. Works g.R.Recorder.log g.H.Host.face g.H.Host.pending g.H.Desk.stays g.H.Host.held (λ h. g.H.W.Knows.known (g.H.Desk.shared h)) 0 0 (λ l. Receive l i x) a b in
    subst N e (works-map g.R.Recorder.log g.H.Host.face g.H.Host.pending g.H.Desk.stays g.H.Host.held (λ h. g.H.W.Knows.known (g.H.Desk.shared h)) 0 0 (λ l. Say l (GetsParcel i false)) (λ l. Receive l i (suc n)) a b (λ l s part. receive-none l i n s part) (subst B c.if-receive_one.false c.receive_one.ensures.works))
