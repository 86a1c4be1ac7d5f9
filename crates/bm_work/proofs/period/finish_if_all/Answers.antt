use Rattle.std.proofs.Common.{ℕ, inl, inr, ◌++◌, ◌∷◌, [], refl, subst, sym}
use Rattle.bm_law_order.specs.Act as act
use Rattle.bm_grace.specs.Known.{side}
use Rattle.bm_law.specs.SweepPhrases.{MayFinish}
use Rattle.bm_journal.specs.declared.ids.Domain.{Domain}
use Rattle.bm_law.specs.Lists.{Log}
use Rattle.bm_law.specs.State.{State}
use Rattle.bm_law_work.specs.Parts.{Nothing, Part, Say}
use Rattle.bm_work.specs.Periods.{Ends}
use Rattle.bm_work.proofs.Sides.{called-works, works-called, works-map}
use Rattle.bm_work.proofs.period.finish_if_all.Goals as goal

pub returns-in-All-clause-works : goal.returns-in-All-clause-works
returns-in-All-clause-works g c =
    let d = c.args.domain in
    let a = c.args.host.now in
    let x = c.look_now.new.host in
    let y = c.end_now.new.host in
    let j = g.met.H.Desk.stays_join in
    let v = works-map g.R.Recorder.log g.H.Host.face g.H.Host.pending g.H.Desk.stays g.H.Host.held (λ h. g.H.W.Knows.known (g.H.Desk.shared h)) 0 0 (λ l. Say l (Ends d)) (λ l. Say l (MayFinish d)) x y (λ l s part h. (h.0, inr h.1, h.2)) c.end_now.ensures.works in
    called-works g.R.Recorder.log g.R.Recorder.counts g.H.Host.face g.H.Host.pending g.H.Desk.stays g.H.Host.held (λ h. g.H.W.Knows.known (g.H.Desk.shared h)) (λ h. g.H.W.Knows.rights (g.H.Desk.shared h)) j 0 0 0 0 (λ l. Say l (MayFinish d)) a x y c.requires.stands.fine.placed c.look_now.ensures.stands.fine.placed c.look_now.ensures.called v

pub returns-in-All-clause-owes : goal.returns-in-All-clause-owes
returns-in-All-clause-owes g c done es o =
    let d = c.args.domain in
    let ws = (side d (g.H.W.Knows.known (g.H.Desk.shared c.look_now.new.host))).later in
    let q = c.end_now.ensures.owes (done ++ act.Looks d ws ∷ []) es (c.look_now.ensures.owes done es o) in
    inr (ws, q.0, q.1, c.end_now.ensures.ended, q.2)

pub returns-in-Waits-clause-owes : goal.returns-in-Waits-clause-owes
returns-in-Waits-clause-owes g c done es o =
    inl (c.look_now.ensures.owes done es o, c.look_now.ensures.fails (λ q. let w = c.in-Waits.is in cc))

nothing-finished : (d : Domain) (l : ℕ) (s : State ℕ) (part : Log) → Nothing s part → Say l (MayFinish d) s part
nothing-finished d l s part e = subst (Say l (MayFinish d) s) (sym e) ([], inl refl, record { from = tt; own_is = refl })

pub returns-in-Waits-clause-works : goal.returns-in-Waits-clause-works
returns-in-Waits-clause-works g c =
    let d = c.args.domain in
    let a = c.args.host.now in
    let x = c.look_now.new.host in
    let N : ℕ → Part = λ l. Nothing in
    let W : ℕ → Part = λ l. Say l (MayFinish d) in
    let v = works-called g.R.Recorder.log g.R.Recorder.counts g.H.Host.face g.H.Host.pending g.H.Desk.stays g.H.Host.held (λ h. g.H.W.Knows.known (g.H.Desk.shared h)) (λ h. g.H.W.Knows.rights (g.H.Desk.shared h)) 0 0 a x c.look_now.ensures.called in
    works-map g.R.Recorder.log g.H.Host.face g.H.Host.pending g.H.Desk.stays g.H.Host.held (λ h. g.H.W.Knows.known (g.H.Desk.shared h)) 0 0 N W a x (nothing-finished d) v
