-- A closing whose inboxes are told fits the law of parcels, and no inbox holds a parcel behind it.
use Rattle.std.proofs.Common.{◌≡◌, ℕ, List, [], ◌∷◌, ◌++◌, length, drop, refl, sym, ◌∙◌, ap, subst, inl, inr}
use Rattle.std.specs.List.{concat}
use Rattle.std.proofs.lemmas.Bool.Decides.{eqb_tells}
use Rattle.std.proofs.Math.Path.{fun_ext}
use Rattle.std.proofs.Math.Seq.{drop-append_seam}
use Rattle.bm_journal.specs.declared.ids.Domain.TheVariants.{Tracing}
use Rattle.bm_journal.specs.declared.units.Units.TheVariants.{Whole}
use Rattle.bm_journal.specs.declared.entry.Entry.{Entry}
use Rattle.bm_journal.specs.declared.entry.Entry.TheVariants as entry
use Rattle.bm_law.specs.State.{State, seven_lists}
use Rattle.bm_law.specs.Alone.{AllAt}
use Rattle.bm_law.specs.Lists.{Log, brought, next, after}
use Rattle.bm_law.specs.Spans.{own_entries}
use Rattle.bm_law.proofs.Alone.{at-own, level-append, level-own}
use Rattle.bm_law_work.specs.Parts.{Stand, Then}
use Rattle.bm_law.specs.Inboxes.{Inboxes, on_inbox, inboxes_after}
use Rattle.bm_law_work.proofs.Each.{part-stand}
use Rattle.bm_law_logs.proofs.QuietEntries.{AllQuiet, IsQuiet}
use Rattle.bm_law.specs.Ordinary.{ordinary}
use Rattle.bm_law_scenario.specs.Closing.{close_of, EndsPeriods, SweepOf, SweepWhere, AreSweeps}
use Rattle.bm_law_scenario.specs.Parcels.{ParcelsFit}
use Rattle.bm_law_scenario.proofs.Ordinary.{parted, said}
use Rattle.bm_law_logs.specs.SweepsTold.{ClosingTold, SweepsTold}
use Rattle.bm_law_logs.proofs.Quiet.{quiet-behind, quiet-ended, quiet-ends}
use Rattle.bm_law_logs.proofs.Fits.{fits-quiet}
use Rattle.bm_law_logs.proofs.Inside.{Inside, rest-inside}

-- they are sweeps of the closing, each of what the class's inbox holds
pub told-sweeps : (cs : List ℕ) (boxes : Inboxes) (s : State ℕ) (part : Log) → SweepsTold cs boxes s part → AreSweeps cs s part
told-sweeps [] boxes s part h = h
told-sweeps (c ∷ cs) boxes s part h =
    let t = h.1 in
    (concat (boxes c), record { one = t.one; two = t.two; part_is = t.part_is; is_first = t.is_first; is_second = told-sweeps cs (on_inbox c (λ parcels. []) boxes) (after s t.one) t.two t.is_second })

-- the inbox's units in a sweep that took these
brought-is : (c : ℕ) (s : State ℕ) (swept more : List ℕ) → swept ≡ seven_lists (s.rows c) ++ more → brought (entry.Sweep c (Whole swept)) s ≡ more
brought-is c s swept more e = ap (λ us. drop (length (seven_lists (s.rows c))) us) e ∙ drop-append_seam (seven_lists (s.rows c)) more

-- no unit in two lists together
back-empty : (v w : List ℕ) → v ++ w ≡ [] → w ≡ []
back-empty [] w e = e
back-empty (x ∷ v) w e = absurd (cc)

-- an inbox that holds no parcel
emptied-same : (c : ℕ) (boxes : Inboxes) → boxes c ≡ [] → on_inbox c (λ parcels. []) boxes ≡ boxes
emptied-same c boxes e = fun_ext (λ k. elim (eqb_tells k c) [
  | inl y ↦ rw y.0 (sym e ∙ ap boxes (sym y.1))
  | inr y ↦ rw y.0 refl
])

sweep-fits : (c : ℕ) (s : State ℕ) (boxes : Inboxes) (units : List ℕ) (v w : List Entry) → seven_lists (s.rows c) ++ concat (boxes c) ≡ units → (concat (boxes c) ≡ [] → boxes c ≡ []) → SweepWhere c units s (ordinary v) → ParcelsFit 0 (after s (ordinary v)) (on_inbox c (λ parcels. []) boxes) (ordinary w) → ParcelsFit 0 s boxes (ordinary v ++ ordinary w)
sweep-fits c s boxes [] v w e none h k =
    let stands : [] ≡ v = sym (ap (own_entries 0) h) ∙ level-own 0 v in
    let same : on_inbox c (λ parcels. []) boxes ≡ boxes = emptied-same c boxes (none (back-empty (seven_lists (s.rows c)) (concat (boxes c)) e)) in
    let F : List Entry → Inboxes → Type 0 = λ q m. ParcelsFit 0 (after s (ordinary q)) m (ordinary w) in
    subst (λ q. ParcelsFit 0 s boxes (ordinary q ++ ordinary w)) stands (subst (F []) same (subst (λ q. F q (on_inbox c (λ parcels. []) boxes)) (sym stands) k))
sweep-fits c s boxes (u ∷ us) v w e none h k =
    let y : SweepOf c (u ∷ us) v = said (SweepOf c (u ∷ us)) s v h in
    let x = y.phrase in
    let first : Entry = entry.Sweep c (Whole x.swept) in
    let tail : List Entry = entry.Stamp c Tracing x.stamp ∷ x.poll ++ entry.Return c (Whole x.returned) ∷ [] in
    let F : List Entry → Type 0 = λ q. ParcelsFit 0 (after s (ordinary q)) (on_inbox c (λ parcels. []) boxes) (ordinary w) in
    let takes : brought first s ≡ concat (boxes c) = brought-is c s x.swept (concat (boxes c)) (y.taken ∙ sym e) in
    subst (λ q. ParcelsFit 0 s boxes (ordinary q ++ ordinary w)) (sym x.own_is) (takes, fits-quiet (next s (0, first)) (inboxes_after 0 first boxes) tail (ordinary w) (quiet-behind c x.stamp x.poll x.returned x.polls) (subst F x.own_is k))

sweeps-fit : (cs : List ℕ) (s : State ℕ) (boxes : Inboxes) (es : List Entry) → Inside cs boxes → SweepsTold cs boxes s (ordinary es) → ParcelsFit 0 s boxes (ordinary es)
sweeps-fit [] s boxes es z h = subst (ParcelsFit 0 s boxes) (sym h) (λ c. z c refl)
sweeps-fit (c ∷ cs) s boxes es z h =
    let units : List ℕ = seven_lists (s.rows c) ++ concat (boxes c) in
    let rest : Inboxes = on_inbox c (λ parcels. []) boxes in
    let t = parted (SweepWhere c units) (SweepsTold cs rest) s es h.1 in
    subst (ParcelsFit 0 s boxes) (sym (ap ordinary t.whole ∙ level-append 0 t.left t.right))
    (sweep-fits c s boxes units t.left t.right refl h.0 t.is_first (sweeps-fit cs (after s (ordinary t.left)) rest t.right (rest-inside c cs boxes z) t.is_second))

closing-entries : (classes : List ℕ) (log : Log) (boxes : Inboxes) (s : State ℕ) (es : List Entry) → Inside classes boxes → ClosingTold 0 classes log boxes s (ordinary es) → ParcelsFit 0 s boxes (ordinary es)
closing-entries classes log boxes s es z h =
    let head : List Entry = entry.Ended ∷ close_of 0 in
    let t = parted (Stand 0 head) (Then (EndsPeriods log) (SweepsTold classes boxes)) s es h in
    let s1 : State ℕ = after s (ordinary t.left) in
    let u = parted (EndsPeriods log) (SweepsTold classes boxes) s1 t.right t.is_second in
    let Q : List Entry → Type 0 = AllQuiet in
    let first : AllQuiet t.left = subst Q (level-own 0 t.left) (part-stand IsQuiet 0 head (quiet-ended 0) s (ordinary t.left) t.is_first) in
    let second : AllQuiet u.left = subst Q (level-own 0 u.left) (quiet-ends log s1 (ordinary u.left) u.is_first) in
    let F : Log → Type 0 = ParcelsFit 0 s1 boxes in
    let behind : F (ordinary t.right) = subst F (sym (ap ordinary u.whole ∙ level-append 0 u.left u.right)) (fits-quiet s1 boxes u.left (ordinary u.right) second (sweeps-fit classes (after s1 (ordinary u.left)) boxes u.right z u.is_second)) in
    subst (ParcelsFit 0 s boxes) (sym (ap ordinary t.whole ∙ level-append 0 t.left t.right)) (fits-quiet s boxes t.left (ordinary t.right) first behind)

pub closing-fits : (classes : List ℕ) (log : Log) (boxes : Inboxes) (s : State ℕ) (closing : Log) → AllAt 0 closing → Inside classes boxes → ClosingTold 0 classes log boxes s closing → ParcelsFit 0 s boxes closing
closing-fits classes log boxes s closing at z h =
    let es : List Entry = own_entries 0 closing in
    let C : Log → Type 0 = ClosingTold 0 classes log boxes s in
    subst (ParcelsFit 0 s boxes) (sym (at-own 0 closing at)) (closing-entries classes log boxes s es z (subst C (at-own 0 closing at) h))
