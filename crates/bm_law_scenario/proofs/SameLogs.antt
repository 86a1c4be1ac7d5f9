-- Where no deferred work runs, the entries of a lawful log are so by the grammar of entries of one level.
use Rattle.std.proofs.Common.{◌≡◌, ◌≢◌, ◌≤◌, ℕ, zero, suc, ◌+◌, Bool, true, false, not, ◌||◌, nat_eq, ◌==◌, if◌then◌else◌, List, [], ◌∷◌, ◌++◌, length, drop, None, refl, sym, ap, ◌∙◌, subst, arith, append_assoc, append-nil}
use Rattle.std.specs.List.{concat, filter, list_any}
use Rattle.std.proofs.Math.Seq.{drop-append_seam}
use Rattle.bm_journal.specs.declared.ids.Domain.{Domain}
use Rattle.bm_journal.specs.declared.ids.Domain.TheVariants.{Plain, Tracing}
use Rattle.bm_journal.specs.declared.units.Units.TheVariants.{Whole}
use Rattle.bm_journal.specs.declared.entry.Entry.{Entry}
use Rattle.bm_journal.specs.declared.entry.Entry.TheVariants as entry
use Rattle.bm_lang.specs.declared.scenario.RunLine.{RunLine}
use Rattle.bm_lang.specs.declared.scenario.Parts.{Parts}
use Rattle.bm_lang.specs.declared.scenario.Script.{Script}
use Rattle.bm_lang.specs.declared.scenario.TypeDeclaration.{TypeDeclaration}
use Rattle.bm_law.specs.State.{State, seven_lists, opening}
use Rattle.bm_law.specs.Lists.{Log, Leaves, brought, next, after}
use Rattle.bm_law.specs.Spans.{own_entries}
use Rattle.bm_law.proofs.Alone.{at-own, level-append, level-own}
use Rattle.bm_law.proofs.Folds.{Leaves-append}
use Rattle.bm_law_work.specs.Parts.{Part, Stand, Then, If}
use Rattle.bm_law_work.specs.Parts as part
use Rattle.bm_law_scenario.specs.Declared.{declared_in}
use Rattle.bm_law_scenario.specs.Held.{Names, no_names}
use Rattle.bm_law_scenario.specs.Fills.{AreFills}
use Rattle.bm_law_scenario.specs.Opened.{opened_classes, uses_class}
use Rattle.bm_law_scenario.specs.Works.{UntilDown, WorkBehind}
use Rattle.bm_law_scenario.specs.Runs.{RunsBlock}
use Rattle.bm_law_scenario.specs.Closing.{close_of, in_progress, EndsOne, EndsPeriods, SweepOf, SweepWhere, AreSweeps}
use Rattle.bm_law.specs.Inboxes.{Inboxes, inboxes_after}
use Rattle.bm_law_scenario.specs.Parcels.{no_parcels, ParcelsFit, sends_alone}
use Rattle.bm_due.specs.Due.{planned_for}
use Rattle.bm_law_scenario.proofs.Unplanned.{unplanned-at}
use Rattle.bm_law_scenario.specs.Grammar.{behind_statement, behind_script, section_of, starts_inside, IsBody, IsScript, AreScripts, lines_of, Front, stock_for}
use Rattle.bm_law.specs.Ordinary.{ordinary}
use Rattle.bm_law_scenario.proofs.OwnGrammar as own
use Rattle.bm_law_scenario.specs.Lawful.{LawfulLog}
use Rattle.bm_law_scenario.proofs.Ordinary.{stands, stood, said, then-of, parted, cut-of}
use Rattle.bm_law_scenario.proofs.Freed.{NoCounts}
use Rattle.bm_law_scenario.proofs.SameRuns.{block-same}
use Rattle.bm_law_scenario.proofs.Spares.{spared, spare-sweep}
use Rattle.bm_law_scenario.proofs.Calm.{Empty, AllCalm, calm-join, calm-quiet, calm-idle, quiet-fitted, quiet-behind, calm-fills, calm-scripts, calm-ended}
use Rattle.bm_law_scenario.proofs.Unslotted.{BareClosing, closing-bare, no-maps}

-- ---- scripts

pub none-statement : (s : Parts) → s.deferred ≡ false → behind_statement s ≡ part.Nothing
none-statement s e = ap (λ b. If b (UntilDown (opened_classes s.types)) part.Nothing) e

pub none-script : (s : Parts) → s.deferred ≡ false → behind_script s ≡ part.Nothing
none-script s e = ap (λ b. If b (WorkBehind (opened_classes s.types)) part.Nothing) e

script-told : (s : Parts) → NoCounts s.types → s.deferred ≡ false → (x : Script) (w : ℕ) (l : State ℕ) (es : List Entry) → own.IsScript s x w es → IsScript s x w l (ordinary es)
script-told s loose e x w l es k =
    let head : List Entry = entry.Script x.name ∷ entry.In (section_of x.kind) w ∷ [] in
    let last : List Entry = entry.Out (section_of x.kind) (w + 1) ∷ entry.Done x.name ∷ [] in
    let l1 = after l (ordinary head) in
    let l2 = after l1 (ordinary k.part) in
    let bare : behind_script s (after l2 (ordinary last)) [] = subst (λ (P : Part). P (after l2 (ordinary last)) []) (sym (none-script s e)) refl in
    let body : IsBody s x l1 (ordinary k.part) =
    (k.after, subst (λ (P : Part). RunsBlock (declared_in s) 0 (starts_inside x) P x.body no_names k.after l1 (ordinary k.part)) (sym (none-statement s e)) ((block-same 0 (declared_in s) (starts_inside x) x.body).told loose no_names k.after l1 k.part k.runs), k.owns_nothing) in
    let stop : Then (Stand 0 last) (behind_script s) l2 (ordinary last) = record { one = ordinary last; two = []; part_is = refl; is_first = stands last l2; is_second = bare } in
    subst (λ v. IsScript s x w l (ordinary v)) (sym k.own_is)
    (then-of (Stand 0 head) (Then (IsBody s x) (Then (Stand 0 last) (behind_script s))) l head (k.part ++ last) (stands head l) (then-of (IsBody s x) (Then (Stand 0 last) (behind_script s)) l1 k.part last body stop))

script-owned : (s : Parts) → s.deferred ≡ false → (x : Script) (w : ℕ) (l : State ℕ) (es : List Entry) → IsScript s x w l (ordinary es) → own.IsScript s x w es
script-owned s e x w l es h =
    let head : List Entry = entry.Script x.name ∷ entry.In (section_of x.kind) w ∷ [] in
    let last : List Entry = entry.Out (section_of x.kind) (w + 1) ∷ entry.Done x.name ∷ [] in
    let t = parted (Stand 0 head) (Then (IsBody s x) (Then (Stand 0 last) (behind_script s))) l es h in
    let l1 = after l (ordinary t.left) in
    let u = parted (IsBody s x) (Then (Stand 0 last) (behind_script s)) l1 t.right t.is_second in
    let l2 = after l1 (ordinary u.left) in
    let v = parted (Stand 0 last) (behind_script s) l2 u.right u.is_second in
    let bare : ordinary v.right ≡ [] = subst (λ (P : Part). P (after l2 (ordinary v.left)) (ordinary v.right)) (none-script s e) v.is_second in
    let none : v.right ≡ [] = sym (level-own 0 v.right) ∙ ap (own_entries 0) bare in
    let names : Names = u.is_first.0 in
    let runs = ((block-same 0 (declared_in s) (starts_inside x) x.body).owned no_names names l1 (ordinary u.left) (subst (λ (P : Part). RunsBlock (declared_in s) 0 (starts_inside x) P x.body no_names names l1 (ordinary u.left)) (none-statement s e) u.is_first.1)).1 in
    record {
      part = own_entries 0 (ordinary u.left);
      after = names;
      own_is = t.whole ∙ ap (λ z. z ++ t.right) (stood head l t.left t.is_first)
          ∙ ap (λ z. head ++ z) (u.whole ∙ ap (λ z. z ++ u.right) (sym (level-own 0 u.left)) ∙ ap (λ z. own_entries 0 (ordinary u.left) ++ z) (v.whole ∙ ap (λ z. z ++ v.right) (stood last l2 v.left v.is_first) ∙ ap (λ z. last ++ z) none));
      runs = runs;
      owns_nothing = u.is_first.2;
    }

pub scripts-told : (s : Parts) → NoCounts s.types → s.deferred ≡ false → (rs : List RunLine) (l : State ℕ) (es : List Entry) → own.AreScripts s rs es → AreScripts s rs l (ordinary es)
scripts-told s loose e [] l es h = ap ordinary h
scripts-told s loose e (r ∷ rs) l es h =
    let w = h.2.0 in
    let one = h.2.1 in
    let two = h.2.2 in (
      h.0,
      h.1,
      w,
      subst (λ v. Then (IsScript s h.0 w) (AreScripts s rs) l (ordinary v)) (sym h.2.3)
          (then-of (IsScript s h.0 w) (AreScripts s rs) l one two (script-told s loose e h.0 w l one h.2.4) (scripts-told s loose e rs (after l (ordinary one)) two h.2.5)),
    )

pub scripts-owned : (s : Parts) → s.deferred ≡ false → (rs : List RunLine) (l : State ℕ) (es : List Entry) → AreScripts s rs l (ordinary es) → own.AreScripts s rs es
scripts-owned s e [] l es h = sym (level-own 0 es) ∙ ap (own_entries 0) h
scripts-owned s e (r ∷ rs) l es h =
    let w = h.2 in
    let t = parted (IsScript s h.0 w) (AreScripts s rs) l es h.3 in
    (h.0, h.1, (w, t.left, t.right, t.whole, script-owned s e h.0 w l t.left t.is_first, scripts-owned s e rs (after l (ordinary t.left)) t.right t.is_second))

-- ---- classes that ascend

-- they ascend, from n on
abbrev pub From : ℕ → List ℕ → Type 0
From n [] = Unit {0}
From n (c ∷ cs) = (n ≤ c) × From (c + 1) cs

from-filter : (test : ℕ → Bool) (n m : ℕ) (cs : List ℕ) → n ≤ m → From m cs → From n (filter test cs)
from-filter test n m [] le f = tt
from-filter test n m (c ∷ cs) le f = elim (test c) as (λ b. From n (if b then c ∷ filter test cs else filter test cs)) [
  | true ↦ (omega (arith, le, f.0), from-filter test (c + 1) (c + 1) cs (omega arith) f.1)
  | false ↦ from-filter test n (c + 1) cs (omega (arith, le, f.0)) f.1
]

pub opened-from : (types : List TypeDeclaration) → From 0 (opened_classes types)
opened-from types =
    let each : From 0 (0 ∷ 1 ∷ 2 ∷ 3 ∷ 4 ∷ 5 ∷ 6 ∷ 7 ∷ 8 ∷ 9 ∷ 10 ∷ []) =
    (omega arith, (omega arith, (omega arith, (omega arith, (omega arith, (omega arith, (omega arith, (omega arith, (omega arith, (omega arith, (omega arith, tt))))))))))) in
    from-filter (λ c. list_any (uses_class c) types) 0 0 (0 ∷ 1 ∷ 2 ∷ 3 ∷ 4 ∷ 5 ∷ 6 ∷ 7 ∷ 8 ∷ 9 ∷ 10 ∷ []) (omega arith) each

-- ---- sweeps

apart : (k c : ℕ) → c + 1 ≤ k → k ≢ c
apart k c le e = omega (arith, le, e)

-- the inbox's units in a sweep that took these
brought-is : (c : ℕ) (s : State ℕ) (swept more : List ℕ) → swept ≡ seven_lists (s.rows c) ++ more → brought (entry.Sweep c (Whole swept)) s ≡ more
brought-is c s swept more e = ap (λ us. drop (length (seven_lists (s.rows c))) us) e ∙ drop-append_seam (seven_lists (s.rows c)) more

-- a sweep leaves no parcel
swept-empty : (p c : ℕ) (swept : List ℕ) (boxes : Inboxes) → Empty boxes → Empty (inboxes_after p (entry.Sweep c (Whole swept)) boxes)
swept-empty p c swept boxes z k = elim (k == c) as (λ b. (if b then [] else boxes k) ≡ []) [ true ↦ refl | false ↦ z k ]

-- no unit in two lists together
front-empty : (v w : List ℕ) → v ++ w ≡ [] → v ≡ []
front-empty [] w e = refl
front-empty (x ∷ v) w e = absurd (cc)

sweep-owned : (p c : ℕ) (cs : List ℕ) (before s : State ℕ) (boxes : Inboxes) (inbox units : List ℕ) (v w : List Entry) → Empty boxes → seven_lists (s.rows c) ++ inbox ≡ units → seven_lists (s.rows c) ≡ seven_lists (before.rows c) → ((k : ℕ) → c + 1 ≤ k → s.rows k ≡ before.rows k) →
    ((more : Inboxes) → Empty more → ((k : ℕ) → c + 1 ≤ k → (after s (ordinary v)).rows k ≡ before.rows k) → ParcelsFit p (after s (ordinary v)) more (ordinary w) → own.AreSweeps before cs w) →
    SweepWhere c units s (ordinary v) → ParcelsFit p s boxes (ordinary (v ++ w)) → own.AreSweeps before (c ∷ cs) (v ++ w)
sweep-owned p c cs before s boxes inbox [] v w z e row same go h fit =
    let none : v ≡ [] = sym (level-own 0 v) ∙ ap (own_entries 0) h in
    let empty : seven_lists (before.rows c) ≡ [] = sym row ∙ front-empty (seven_lists (s.rows c)) inbox e in
    let same' : (k : ℕ) → c + 1 ≤ k → (after s (ordinary v)).rows k ≡ before.rows k = λ k le. ap (λ y. (after s (ordinary y)).rows k) none ∙ same k le in
    let fit' : ParcelsFit p (after s (ordinary v)) boxes (ordinary w) = subst (λ y. ParcelsFit p (after s (ordinary y)) boxes (ordinary w)) (sym none) (subst (λ y. ParcelsFit p s boxes (ordinary (y ++ w))) none fit) in
    subst (λ us. own.Swept c us (own.AreSweeps before cs) (v ++ w)) (sym empty) (subst (λ y. own.AreSweeps before cs (y ++ w)) (sym none) (go boxes z same' fit'))
sweep-owned p c cs before s boxes inbox (u ∷ us) v w z e row same go h fit =
    let y : SweepOf c (u ∷ us) v = said (SweepOf c (u ∷ us)) s v h in
    let x = y.phrase in
    let tail : List Entry = entry.Stamp c Tracing x.stamp ∷ x.poll ++ entry.Return c (Whole x.returned) ∷ [] in
    let first : Entry = entry.Sweep c (Whole x.swept) in
    let whole : ordinary (v ++ w) ≡ (0, first) ∷ (ordinary tail ++ ordinary w) = ap ordinary (ap (λ q. q ++ w) x.own_is) ∙ ap (λ q. (0, first) ∷ q) (level-append 0 tail w) in
    let fit' = subst (ParcelsFit p s boxes) whole fit in
    let none : inbox ≡ [] = sym (brought-is c s x.swept inbox (y.taken ∙ sym e)) ∙ fit'.0 ∙ ap concat (z c) in
    let rest = quiet-fitted p (next s (0, first)) (inboxes_after p first boxes) tail (ordinary w) (quiet-behind c x.stamp x.poll x.returned x.polls) (swept-empty p c x.swept boxes z) fit'.1 in
    let same' : (k : ℕ) → c + 1 ≤ k → (after s (ordinary v)).rows k ≡ before.rows k = λ k le. spared k v s (spare-sweep k c v (apart k c le) x) ∙ same k le in
    let units : seven_lists (before.rows c) ≡ u ∷ us = sym row ∙ sym (append-nil (seven_lists (s.rows c))) ∙ ap (λ q. seven_lists (s.rows c) ++ q) (sym none) ∙ e in
    let behind : ParcelsFit p (after s (ordinary v)) rest.0 (ordinary w) = subst (λ q. ParcelsFit p (after s (ordinary q)) rest.0 (ordinary w)) (sym x.own_is) rest.2 in
    subst (λ q. own.Swept c q (own.AreSweeps before cs) (v ++ w)) (sym units) (v, w, refl, y, go rest.0 rest.1 same' behind)

sweeps-owned : (p n : ℕ) (cs : List ℕ) (before s : State ℕ) (boxes : Inboxes) (es : List Entry) → Empty boxes → From n cs → ((k : ℕ) → n ≤ k → s.rows k ≡ before.rows k) → AreSweeps cs s (ordinary es) → ParcelsFit p s boxes (ordinary es) → own.AreSweeps before cs es
sweeps-owned p n [] before s boxes es z f same h fit = sym (level-own 0 es) ∙ ap (own_entries 0) h
sweeps-owned p n (c ∷ cs) before s boxes es z f same h fit =
    let t = parted (SweepWhere c (seven_lists (s.rows c) ++ h.0)) (AreSweeps cs) s es h.1 in
    subst (own.AreSweeps before (c ∷ cs)) (sym t.whole)
    (sweep-owned p c cs before s boxes h.0 (seven_lists (s.rows c) ++ h.0) t.left t.right z refl (ap seven_lists (same c f.0)) (λ k le. same k (omega (arith, le, f.0)))
    (λ more y q x. sweeps-owned p (c + 1) cs before (after s (ordinary t.left)) more t.right y f.1 q t.is_second x) t.is_first (subst (λ v. ParcelsFit p s boxes (ordinary v)) t.whole fit))

-- ---- the closing

-- the end of the scripts changes no list
ended-same : (p : ℕ) (s : State ℕ) → after s (ordinary (entry.Ended ∷ close_of p)) ≡ s
ended-same zero s = refl
ended-same (suc p) s = refl

no-period : (d : Domain) (front : List Entry) (s : State ℕ) (es : List Entry) → AllCalm front → EndsOne d (in_progress d None (ordinary front)) s (ordinary es) → es ≡ []
no-period d front s es c h = sym (level-own 0 es) ∙ ap (own_entries 0) (subst (λ b. EndsOne d b s (ordinary es)) (calm-idle d front c) h)

-- the closing by its entries
record Closed (p : ℕ) (classes : List ℕ) (s : State ℕ) (es : List Entry) : Type 0 where
  sweeps : List Entry
  whole : es ≡ (entry.Ended ∷ close_of p) ++ sweeps
  are : own.AreSweeps s classes sweeps

closing-owned : (p : ℕ) (classes : List ℕ) (front : List Entry) (s : State ℕ) (boxes : Inboxes) (es : List Entry) → From 0 classes → AllCalm front → Empty boxes → BareClosing p classes (ordinary front) s (ordinary es) → ParcelsFit p s boxes (ordinary es) → Closed p classes s es
closing-owned p classes front s boxes es f c z h fit =
    let head : List Entry = entry.Ended ∷ close_of p in
    let t = parted (Stand 0 head) (Then (EndsPeriods (ordinary front)) (AreSweeps classes)) s es h in
    let s' = after s (ordinary t.left) in
    let u = parted (EndsPeriods (ordinary front)) (AreSweeps classes) s' t.right t.is_second in
    let x = parted (EndsOne Plain (in_progress Plain None (ordinary front))) (EndsOne Tracing (in_progress Tracing None (ordinary front))) s' u.left u.is_first in
    let none : u.left ≡ [] = x.whole ∙ ap (λ v. v ++ x.right) (no-period Plain front s' x.left c x.is_first) ∙ no-period Tracing front (after s' (ordinary x.left)) x.right c x.is_second in
    let first : t.left ≡ head = stood head s t.left t.is_first in
    let right : t.right ≡ u.right = u.whole ∙ ap (λ v. v ++ u.right) none in
    let whole : es ≡ head ++ u.right = t.whole ∙ ap (λ v. v ++ t.right) first ∙ ap (λ v. head ++ v) right in
    let s2 = after s (ordinary head) in
    let state : after s' (ordinary u.left) ≡ s2 = ap (λ v. after s' (ordinary v)) none ∙ ap (λ v. after s (ordinary v)) first in
    let swept : AreSweeps classes s2 (ordinary u.right) = subst (λ q. AreSweeps classes q (ordinary u.right)) state u.is_second in
    let rest = quiet-fitted p s boxes head (ordinary u.right) (calm-quiet head (calm-ended p)) z (subst (ParcelsFit p s boxes) (ap ordinary whole ∙ level-append 0 head u.right) fit) in
    record { sweeps = u.right; whole = whole; are = sweeps-owned p 0 classes s s2 rest.0 u.right rest.1 f (λ k le. ap (λ (q : State ℕ). q.rows k) (ended-same p s)) swept rest.2 }

-- ---- the whole log

-- the law of parcels holds where no deferred work runs
alone-off : (s : Parts) → s.deferred ≡ false → sends_alone s ≡ true
alone-off s e = ap (λ b. not b || nat_eq s.processors 1) e

-- the entries of a lawful log are so by the grammar of entries
pub owned-log : (s : Parts) → s.deferred ≡ false → s.maps ≡ [] → (p : ℕ) → planned_for p s ≡ [] → (log : Log) → LawfulLog s p log → own.LawfulLog s p log
owned-log s e unmapped p none log h =
    let i = h.is_log in
    let classes = opened_classes s.types in
    let start = opening p in
    let es : List Entry = own_entries 0 log in
    let all : log ≡ ordinary es = at-own 0 log (unplanned-at s p log none h.handlers) in
    let x = cut-of es i.front i.closing (sym all ∙ i.log_is) in
    let F : Log → Type 0 = λ v. Front s p start v in
    let t = parted (part.Say 0 (AreFills classes (stock_for s p))) (AreScripts s (lines_of p s.runs)) start x.left (subst F x.one_is i.is_front) in
    let fills : AreFills classes (stock_for s p) t.left = said (AreFills classes (stock_for s p)) start t.left t.is_first in
    let scripts = scripts-owned s e (lines_of p s.runs) (after start (ordinary t.left)) t.right t.is_second in
    let calm : AllCalm x.left = subst AllCalm (sym t.whole) (calm-join t.left t.right (calm-fills classes (stock_for s p) t.left fills) (calm-scripts s (lines_of p s.runs) t.right scripts)) in
    let G : Log → Log → Type 0 = λ v w. BareClosing p classes v (after start v) w in
    let close : G (ordinary x.left) (ordinary x.right) = subst (λ w. G (ordinary x.left) w) x.two_is (subst (λ v. G v i.closing) x.one_is (closing-bare (declared_in s) p classes i.front (after start i.front) i.closing (no-maps p (declared_in s) unmapped) i.is_closing)) in
    let whole : log ≡ ordinary x.left ++ ordinary x.right = all ∙ ap ordinary x.whole ∙ level-append 0 x.left x.right in
    let fit = quiet-fitted p start no_parcels x.left (ordinary x.right) (calm-quiet x.left calm) (λ c. refl) (subst (ParcelsFit p start no_parcels) whole (h.parcels (alone-off s e))) in
    let end = closing-owned p classes x.left (after start (ordinary x.left)) fit.0 x.right (opened-from s.types) calm fit.1 close fit.2 in
    let leaves : Leaves p (ordinary x.left) (after start (ordinary x.left)) = Leaves-append p (ordinary x.left) (ordinary x.right) h.last (subst (λ v. Leaves p v h.last) whole h.lists) in
    record {
      own = es;
      log_is = all;
      is_log = record {
        fills = t.left;
        scripts = t.right;
        sweeps = end.sweeps;
        own_is = x.whole ∙ ap (λ v. v ++ x.right) t.whole ∙ append_assoc t.left t.right x.right ∙ ap (λ v. t.left ++ (t.right ++ v)) end.whole;
        are_fills = fills;
        are_scripts = scripts;
        before = after start (ordinary x.left);
        before_is = subst (λ v. Leaves p (ordinary v) (after start (ordinary x.left))) t.whole leaves;
        are_sweeps = end.are;
      };
      words = h.words;
      last = h.last;
      lists = h.lists;
      emptied = h.emptied;
      null = h.null;
    }
