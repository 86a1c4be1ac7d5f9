-- The law of parcels over a log with handlers, which neither send parcels nor take them.
use Rattle.std.proofs.Common.{◌≡◌, ℕ, List, ◌∷◌, ◌++◌, refl, sym, ap, subst, ◌∙◌}
use Rattle.bm_journal.specs.declared.entry.Entry.{Entry}
use Rattle.bm_journal.specs.declared.entry.Entry.TheVariants as entry
use Rattle.bm_lang.specs.declared.scenario.Parts.{Parts}
use Rattle.bm_law.specs.State.{State, opening}
use Rattle.bm_law.specs.Alone.{AllAt}
use Rattle.bm_law.specs.Lists.{Log, after}
use Rattle.bm_law.specs.Spans.{own_entries}
use Rattle.bm_law.proofs.Spans.{own-append}
use Rattle.bm_law_work.specs.Parts.{Say}
use Rattle.bm_law.specs.Inboxes.{Inboxes}
use Rattle.bm_law_logs.proofs.QuietEntries.{IsQuiet}
use Rattle.bm_due.specs.Standing.{HandlersStand}
use Rattle.bm_law_scenario.specs.CallEntries.{IsOfHandler}
use Rattle.bm_law_scenario.specs.Closing.{close_of}
use Rattle.bm_law_scenario.specs.Fills.{AreFills, fresh_stock}
use Rattle.bm_law_scenario.specs.Grammar.{AreScripts, Front, lines_of}
use Rattle.bm_law_scenario.specs.Handlers.{HandlersDone}
use Rattle.bm_law_scenario.specs.Opened.{opened_classes}
use Rattle.bm_law_scenario.specs.Parcels.{ParcelLaw, ParcelsFit}
use Rattle.bm_law_scenario.proofs.EachLevel.{AllAbove, above-front, above-map, handlers-above}
use Rattle.bm_law_scenario.proofs.Ended.{before-end}
use Rattle.bm_law_logs.specs.LeavesParcels.{LeavesParcels, no_boxes}
use Rattle.bm_law_logs.specs.SweepsTold.{ClosingTold}
use Rattle.bm_law_scenario.proofs.FrontLaws.{front-has}
use Rattle.bm_law_logs.proofs.Sends.{AllSendOf, front-sends}
use Rattle.bm_law_logs.proofs.Inside.{Inside}
use Rattle.bm_law_logs.proofs.Front.{AllSends, front-fits, front-inside, sends-above}
use Rattle.bm_law_logs.proofs.Closed.{closing-fits}

handler-quiet : (e : Entry) → IsOfHandler e → IsQuiet e
handler-quiet (entry.Send c to us) h = absurd h
handler-quiet (entry.Receive c us) h = absurd h
handler-quiet (entry.Sweep c us) h = absurd h
handler-quiet _ h = tt

-- the closing begins with the end of the scripts
pub closing-begins : (classes : List ℕ) (log : Log) (boxes : Inboxes) (s : State ℕ) (closing : Log) (h : ClosingTold 0 classes log boxes s closing) → own_entries 0 closing ≡ entry.Ended ∷ (close_of 0 ++ own_entries 0 h.two)
closing-begins classes log boxes s closing h = ap (own_entries 0) h.part_is ∙ own-append 0 h.one h.two ∙ ap (λ v. v ++ own_entries 0 h.two) h.is_first.own_is

pub parcels-handled : (s : Parts) (fills scripts closing : Log) (boxes : Inboxes) → HandlersStand s 0 ((fills ++ scripts) ++ closing) → HandlersDone s 0 ((fills ++ scripts) ++ closing) → Say 0 (AreFills (opened_classes s.types) (fresh_stock s.pages)) (opening 0) fills → AreScripts s (lines_of 0 s.runs) (after (opening 0) fills) scripts →
    LeavesParcels (fills ++ scripts) boxes → ClosingTold 0 (opened_classes s.types) (fills ++ scripts) boxes (after (opening 0) (fills ++ scripts)) closing → ParcelLaw 0 ((fills ++ scripts) ++ closing)
parcels-handled s fills scripts closing boxes stand done f x d c =
    let classes : List ℕ = opened_classes s.types in
    let start : State ℕ = opening 0 in
    let front : Log = fills ++ scripts in
    let log : Log = front ++ closing in
    let above : AllAbove IsQuiet log = above-map IsOfHandler IsQuiet handler-quiet log (handlers-above s 0 log stand done) in
    let end : AllAt 0 closing = (before-end s 0 front closing (close_of 0 ++ own_entries 0 c.two) stand (closing-begins classes front boxes (after start front) closing c)).1 in
    let whole : Front s 0 start front = record { one = fills; two = scripts; part_is = refl; is_first = f; is_second = x } in
    let own : AllSendOf classes (own_entries 0 front) = front-has s (AllSendOf classes) (front-sends s) 0 start front whole in
    let sends : AllSends classes front = sends-above classes front (above-front IsQuiet front closing above) own in
    let inside : Inside classes boxes = subst (Inside classes) d.left (front-inside classes front no_boxes sends d.fit (λ k e. refl)) in
    let closed : ParcelsFit 0 (after start front) boxes closing = closing-fits classes front boxes (after start front) closing end inside c in
    front-fits classes start front closing no_boxes sends d.fit (subst (λ m. ParcelsFit 0 (after start front) m closing) (sym d.left) closed)
