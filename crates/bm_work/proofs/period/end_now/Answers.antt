use Rattle.std.proofs.Common.{Bool, ◌≡◌, ◌∙◌, ◌++◌, ◌∷◌, [], ap, refl}
use Rattle.bm_law_order.specs.Act as act
use Rattle.bm_journal.specs.declared.ids.Domain.{Domain}
use Rattle.bm_journal.specs.declared.ids.Domain.TheVariants.{Plain, Tracing}
use Rattle.bm_grace.specs.Calls.{finished}
use Rattle.bm_journal.specs.declared.entry.Entry.TheVariants as entry
use Rattle.bm_grace.specs.Known.{Known, side}
use Rattle.bm_law_work.specs.Parts.{Say}
use Rattle.bm_law_work.specs.WorkPhrases.{IsOne}
use Rattle.bm_work.specs.Periods.{Ends}
use Rattle.bm_work.proofs.Sides.{works-map}
use Rattle.bm_work.proofs.Turning.{works-turned}
use Rattle.bm_work.proofs.period.end_now.Goals as goal

pub returns-clause-works : goal.returns-clause-works
returns-clause-works g c =
    let d = c.args.domain in
    let a = c.args.host.now in
    let b = c.finish_now-period.new.host in
    let x = c.note_finished.new.host in
    let p = c.finish_now-period.result in
    let is = c.finish_now-period.ensures.domain in
    let N = g.H.W.Knows.known in
    let v = works-turned g.R.Recorder.log g.H.Host.face g.H.Host.pending g.H.Desk.stays g.H.Host.held g.H.Desk.shared N (λ h. g.H.W.Knows.rights (g.H.Desk.shared h)) g.H.Host.tests g.met.H.Desk.stays_join 0 0 (entry.Finish p) a b x c.finish_now-period.ensures.turned c.note_finished.ensures.step c.note_finished.ensures.lists c.note_finished.ensures.processor c.note_finished.ensures.handled in
    works-map g.R.Recorder.log g.H.Host.face g.H.Host.pending g.H.Desk.stays g.H.Host.held (λ h. N (g.H.Desk.shared h)) 0 0 (λ l. Say l (IsOne (entry.Finish p))) (λ l. Say l (Ends d)) a x (λ l s part h. (h.0, (entry.Finish p, h.1, (p, is, refl)), h.2)) v

pub returns-clause-owes : goal.returns-clause-owes
returns-clause-owes g c done es o =
    let p = c.finish_now-period.result in
    (p, c.finish_now-period.ensures.domain, c.note_finished.ensures.owes (done ++ act.Finishes p ∷ []) es (c.finish_now-period.ensures.owes done es o))

none-driven : (tells : Bool) (d : Domain) (k : Known) → (side d (finished tells d k)).number ≡ 0
none-driven tells Plain k = refl
none-driven tells Tracing k = refl

pub returns-clause-ended : goal.returns-clause-ended
returns-clause-ended g c =
    let N = g.H.W.Knows.known in
    let d = c.args.domain in
    ap (λ w. (side d (N w)).number) c.note_finished.ensures.handled.shared_is ∙ (ap (λ (k : Known). (side d k).number) c.finish_now-period.ensures.known ∙ none-driven g.H.W.Knows.tells d (N (g.H.Desk.shared c.args.host.now)))
