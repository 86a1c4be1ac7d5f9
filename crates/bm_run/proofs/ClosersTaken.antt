-- What a processor's step of the closing leaves of all of them.
use Rattle.std.specs.Prelude.{◌≢◌, ◌≤◌, get_or, set, slice_get, length, nat_lt, ◌&&◌, if◌then◌else◌}
use Rattle.std.proofs.Common.{◌≡◌, ◌<◌, ◌⊎◌, ℕ, zero, suc, Bool, List, [], ◌∷◌, ◌++◌, Option, None, Some, map, arith, true, refl, sym, ◌∙◌, ap, subst, inl, inr, IfSome}
use Rattle.std.proofs.lemmas.Bool.{cases_eq, lt-ltb}
use Rattle.std.proofs.lemmas.List.{get_or-set_other, get_or-set_same, length-set}
use Rattle.bm_journal.specs.declared.ids.Domain.{Domain}
use Rattle.bm_journal.specs.declared.ids.Domain.TheVariants.{Plain, Tracing}
use Rattle.bm_journal.specs.declared.entry.Entry.{Entry}
use Rattle.bm_law.specs.Alone.{AllAt, at_level}
use Rattle.bm_law.specs.Begun.{begun_by}
use Rattle.bm_law.specs.Inboxes.{Inboxes}
use Rattle.bm_law.specs.Lists.{Leaves, Log, after}
use Rattle.bm_law.specs.Spans.{own_entries}
use Rattle.bm_law.specs.Stands.{times}
use Rattle.bm_law.specs.State.{State, opening, seen, seven_lists}
use Rattle.bm_law.proofs.Alone.{at-own}
use Rattle.bm_law_logs.specs.SweepsTold.{SweepsTold}
use Rattle.bm_law_order.specs.Calls.{lock_in}
use Rattle.bm_law_order.specs.Orders.{AllFit, Order, by, part_of}
use Rattle.bm_law_graphs.proofs.ChunkShelved.{lock-more}
use Rattle.bm_law_order.specs.Tie.{Tied}
use Rattle.bm_law_order.specs.Shared.{Shared}
use Rattle.bm_law_order.specs.Story.{plainly}
use Rattle.bm_law_places.specs.World.{SweepsInbox, World, outset, world_after, world_over}
use Rattle.bm_law_places.proofs.Standing.{lists-of, shared-of}
use Rattle.bm_law_scenario.specs.Closing.{EndsOne}
use Rattle.bm_law_work.specs.Parts.{Part}
use Rattle.bm_law_work.proofs.Each.{AllOf, PartOf, part-nothing, part-say, part-then}
use Rattle.bm_grace.specs.Known.{Known, side}
use Rattle.bm_post.specs.PostState.{PostState, inbox, told_in}
use Rattle.bm_post.specs.Rights.{numbers}
use Rattle.bm_cache.specs.Shown.{shown}
use Rattle.bm_cache.specs.Tokens.{Token, number_of}
use Rattle.bm_world.specs.LivingState.{LivingState, known_living}
use Rattle.bm_world.specs.Told.{IsSideOf, told_boxes}
use Rattle.bm_world.specs.ToldLiving.{LivingDoes, knows_living, told_living}
use Rattle.bm_work.specs.Goes.{Alike}
use Rattle.bm_closing.specs.Closes.{ClosesBy}
use Rattle.bm_exec_levels.specs.AtPolls.{DoesHere, polled}
use Rattle.bm_closing.specs.EndsBegun.{EndsBegun}
use Rattle.bm_closing.specs.Others.{LeavesOther}
use Rattle.bm_closing.specs.declared.crew.Phase.{Phase}
use Rattle.bm_closing.specs.declared.crew.Phase.TheVariants.{Ends, Sweeps}
use Rattle.bm_closing.proofs.Others.{living-leaves}
use Rattle.bm_exec_levels.specs.declared.kept.Kept.{Kept}
use Rattle.bm_run.specs.Asked.{in_its_turn}
use Rattle.bm_run.specs.Closers.{AllDone, AllDriven, AllOutside, AreTogether, EndsOf, FineHere, Gathered, HasRoom, IsAmong, IsResting, Keeps, NeedsFor, NoneBegun, OwnAfter, OwnBefore, StepOf, Stepped, SweepsOf, TellsLog, TookStep, told_log}
use Rattle.bm_run.specs.LeftAlone.{AllUnswept, IsLeftAlone, IsUnswept}
use Rattle.bm_run.specs.LogsSoFar.{LogsSoFar, Stretched}
use Rattle.bm_run.specs.SoFar.{at_turn}
use Rattle.bm_run.proofs.StaysSound.{fine-alone}
use Rattle.bm_run.proofs.Closes.{IsLate, ends-late, late-log-unlocked, sweeps-late}
use Rattle.bm_run.proofs.Stretch.{stretched}
use Rattle.bm_run.proofs.SweepsTake.{sweeps-take}
use Rattle.bm_run.proofs.TurnTaken.{side-at, so-many}
use Rattle.bm_run.proofs.TurnsTold.{unswept-found}

-- ---- places

pub get-set-same : {A : Type 0} (xs : List A) (i : ℕ) (a : A) → i < length xs → slice_get (set xs i a) i ≡ Some a
get-set-same [] i a lt = absurd (omega (arith, lt))
get-set-same (x ∷ xs) zero a lt = refl
get-set-same (x ∷ xs) (suc i) a lt = get-set-same xs i a (omega (arith, lt))

pub get-set-other : {A : Type 0} (xs : List A) (i j : ℕ) (a : A) → j ≢ i → slice_get (set xs i a) j ≡ slice_get xs j
get-set-other [] i j a ne = refl
get-set-other (x ∷ xs) zero zero a ne = absurd (ne refl)
get-set-other (x ∷ xs) zero (suc j) a ne = refl
get-set-other (x ∷ xs) (suc i) zero a ne = refl
get-set-other (x ∷ xs) (suc i) (suc j) a ne = get-set-other xs i j a (λ e. ne (ap suc e))

pub set-twice : {A : Type 0} (xs : List A) (i : ℕ) (a b : A) → set (set xs i a) i b ≡ set xs i b
set-twice [] i a b = refl
set-twice (x ∷ xs) zero a b = refl
set-twice (x ∷ xs) (suc i) a b = ap (λ z. x ∷ z) (set-twice xs i a b)

same-some : {A : Type 0} {x y : A} → Some x ≡ Some y → x ≡ y
same-some q = cc

pub same-kept : (places : List (Option Kept)) (p : ℕ) (a b : Kept) → Keeps places p a → Keeps places p b → a ≡ b
same-kept places p a b e f = same-some (same-some (sym e ∙ f))

-- the log that is told there
pub same-told : (places : List (Option Kept)) (p : ℕ) (kept : Kept) (log : Log) → Keeps places p kept → kept.caches.recorder.told ≡ Some log → (other : Log) → TellsLog places p other → other ≡ log
same-told places p kept log keeps told other t =
    same-some (sym t.2 ∙ (ap (λ (k : Kept). k.caches.recorder.told) (same-kept places p t.0 kept t.1 keeps) ∙ told))

-- ---- the ends of periods sweep nothing

ends-one : (d : Domain) (begun : Option ℕ) → PartOf IsUnswept 0 (EndsOne d begun)
ends-one d None = part-nothing IsUnswept 0
ends-one d (Some n) = part-say IsUnswept 0 _ (λ own h. subst (AllOf IsUnswept) (sym h.3) (tt, tt))

at-unswept : (es : List Entry) → AllOf IsUnswept es → AllUnswept (at_level 0 es)
at-unswept [] h = tt
at-unswept (e ∷ es) h = (h.0, at-unswept es h.1)

ends-unswept : (known : Known) (s : State ℕ) (part : Log) → EndsBegun known s part → AllAt 0 part → AllUnswept part
ends-unswept known s part h at =
    let plain = begun_by (side Plain known).number in
    let tracing = begun_by (side Tracing known).number in
    let all = part-then IsUnswept 0 (EndsOne Plain plain) (EndsOne Tracing tracing) (ends-one Plain plain) (ends-one Tracing tracing) s part h in
    subst AllUnswept (sym (at-own 0 part at)) (at-unswept (own_entries 0 part) all)

ends-late-part : (known : Known) (s : State ℕ) (part : Log) → EndsBegun known s part → AllOf IsLate (own_entries 0 part)
ends-late-part known s part h =
    let plain = begun_by (side Plain known).number in
    let tracing = begun_by (side Tracing known).number in
    part-then IsLate 0 (EndsOne Plain plain) (EndsOne Tracing tracing) (ends-late Plain plain) (ends-late Tracing tracing) s part h

-- ---- a step goes into the order

-- the inboxes of the processor whose side it is
own-boxes : (p c : ℕ) (post : PostState) → p < 8 → post.processor ≡ p → told_boxes post p c ≡ told_in post c
own-boxes p c post lt e =
    let F : Bool → List (List ℕ) = λ b. if b && nat_lt c 11 then map numbers (inbox p c post) else [] in
    let G : ℕ → List (List ℕ) = λ q. if nat_lt c 11 then map numbers (inbox q c post) else [] in
    ap F (lt-ltb p 8 lt) ∙ ap G (sym e)

pub his-side : (n pages p : ℕ) (o : Order) (logs : List Log) (world : LivingState) → LogsSoFar n pages o logs world → p < n → IsSideOf p (at_turn p world).side
his-side n pages p o logs world h lt = side-at p h.turn world (subst (λ k. p < k) (sym (so-many n pages o world h.so_far)) lt) h.side

-- what a processor's log leaves, by its caches
pub fine-leaves : (kept : Kept) (side : LivingState) (p : ℕ) (log : Log) → FineHere kept.caches side → kept.caches.processor ≡ p → kept.caches.recorder.told ≡ Some log → Leaves p log (seen number_of (shown kept.caches))
fine-leaves kept side p log fine here told =
    let own : IfSome (Some log) (λ (es : Log). Leaves kept.caches.processor es (seen number_of (shown kept.caches))) = subst (λ (o : Option Log). IfSome o (λ (es : Log). Leaves kept.caches.processor es (seen number_of (shown kept.caches)))) told fine.placed.told in
    subst (λ (q : ℕ). Leaves q log (seen number_of (shown kept.caches))) here own

stretch-by : (P : Part) (n pages p : ℕ) (o : Order) (logs : List Log) (world : LivingState) (kept : Kept) (log : Log) (later : Kept) (now : LivingState) → LogsSoFar n pages o logs world → p < n → get_or logs p [] ≡ log →
    FineHere kept.caches (at_turn p world) → kept.caches.processor ≡ p → kept.caches.recorder.told ≡ Some log → (s : Stepped P kept (at_turn p world) log later now) → AllOf IsLate (own_entries 0 s.added) → AllFit world_after SweepsInbox (by p s.added) (world_over o (outset n pages)) → Stretched n pages p o logs s.added world now
stretch-by P n pages p o logs world kept log later now h lt same fine here told s late takes =
    let back : log ≡ get_or logs p [] = sym same in
    let leaves = fine-leaves kept (at_turn p world) p log fine here told in
    let before : Leaves p log (after (opening p) log) = record { named = leaves.named; lists = refl } in
    let his : later.caches.processor ≡ p = s.rests.here ∙ s.alike.processor in
    let last = fine-leaves later now p (log ++ s.added) s.rests.fine his s.rests.told in
    let E : Log → Type 0 = λ z. Leaves p z (after (opening p) z) in
    let T : Log → Type 0 = λ z. Tied (polled knows_living true z (at_turn p world)) (DoesHere knows_living) z (at_turn p world) 0 [] [] (log ++ s.added) now in
    let part : part_of p o ≡ log = h.order_of.parts p (subst (λ k. p < k) (sym h.many) lt) ∙ same in
    let free : lock_in (log ++ s.added) ≡ None = lock-more None log s.added ∙ (late-log-unlocked s.added s.at late (lock_in log) ∙ (ap lock_in (sym part) ∙ h.so_far.unheld p)) in
    stretched true n pages p o logs (log ++ s.added) s.added world now (seen number_of (shown later.caches)) h lt (ap (λ (z : Log). z ++ s.added) back) free (subst T back s.tied) (subst E back before) last takes

-- .. of a step of either phase
abbrev pub added_of : (phase : Phase) (classes : List ℕ) (kept : Kept) (side : LivingState) (log : Log) (later : Kept) (now : LivingState) → StepOf phase classes kept side log later now → Log
added_of Ends classes kept side log later now s = s.step.added
added_of Sweeps classes kept side log later now s = s.step.added

ends-stretched : (n pages p : ℕ) (o : Order) (logs : List Log) (classes : List ℕ) (world : LivingState) (kept : Kept) (log : Log) (later : Kept) (now : LivingState) → LogsSoFar n pages o logs world → p < n → get_or logs p [] ≡ log →
    FineHere kept.caches (at_turn p world) → kept.caches.processor ≡ p → kept.caches.recorder.told ≡ Some log → (s : EndsOf classes kept (at_turn p world) log later now) → Stretched n pages p o logs s.step.added world now
ends-stretched n pages p o logs classes world kept log later now h lt same fine here told s =
    let known = known_living (at_turn p world) in
    stretch-by (EndsBegun known) n pages p o logs world kept log later now h lt same fine here told s.step (ends-late-part known (seen number_of (shown kept.caches)) s.step.added s.step.said) (unswept-found p s.step.added (world_over o (outset n pages)) (ends-unswept known (seen number_of (shown kept.caches)) s.step.added s.step.said s.step.at))

sweeps-stretched : (n pages p : ℕ) (o : Order) (logs : List Log) (classes : List ℕ) (world : LivingState) (kept : Kept) (log : Log) (later : Kept) (now : LivingState) → LogsSoFar n pages o logs world → p < n → get_or logs p [] ≡ log →
    FineHere kept.caches (at_turn p world) → kept.caches.processor ≡ p → kept.caches.recorder.told ≡ Some log → (s : SweepsOf classes kept (at_turn p world) log later now) → Stretched n pages p o logs s.step.added world now
sweeps-stretched n pages p o logs classes world kept log later now h lt same fine here told s =
    let w : World = world_over o (outset n pages) in
    let boxes : Inboxes = told_in (at_turn p world).side.post in
    let leaves = fine-leaves kept (at_turn p world) p log fine here told in
    let his = his-side n pages p o logs world h lt in
    let part : part_of p o ≡ log = h.order_of.parts p (subst (λ k. p < k) (sym h.many) lt) ∙ same in
    let lists : w.lists p ≡ seen number_of (shown kept.caches) = lists-of p o (outset n pages) ∙ (ap (after (opening p)) part ∙ leaves.lists) in
    let few : p < 8 = (let a = his.turn in let b = his.most in omega (arith, a, b)) in
    let shared : w.shared ≡ plainly (told_living world) = shared-of o (outset n pages) ∙ h.so_far.leads.now_is in
    let same_boxes : (k : ℕ) → boxes k ≡ w.shared.boxes p k = λ k. sym (own-boxes p k (at_turn p world).side.post few refl) ∙ ap (λ (x : Shared). x.boxes p k) (sym shared) in
    stretch-by (SweepsTold classes boxes) n pages p o logs world kept log later now h lt same fine here told s.step
    (sweeps-late classes boxes (seen number_of (shown kept.caches)) s.step.added s.step.said)
    (sweeps-take p classes boxes (seen number_of (shown kept.caches)) s.step.added w s.step.at s.step.said lists same_boxes)

pub step-stretched : (phase : Phase) (n pages p : ℕ) (o : Order) (logs : List Log) (classes : List ℕ) (world : LivingState) (kept : Kept) (log : Log) (later : Kept) (now : LivingState) → LogsSoFar n pages o logs world → p < n → get_or logs p [] ≡ log →
    FineHere kept.caches (at_turn p world) → kept.caches.processor ≡ p → kept.caches.recorder.told ≡ Some log → (s : StepOf phase classes kept (at_turn p world) log later now) → Stretched n pages p o logs (added_of phase classes kept (at_turn p world) log later now s) world now
step-stretched Ends n pages p o logs classes world kept log later now h lt same fine here told s = ends-stretched n pages p o logs classes world kept log later now h lt same fine here told s
step-stretched Sweeps n pages p o logs classes world kept log later now h lt same fine here told s = sweeps-stretched n pages p o logs classes world kept log later now h lt same fine here told s

-- ---- what is so of each step, whatever its phase

pub record SteppedSo (kept : Kept) (side : LivingState) (log : Log) (added : Log) (later : Kept) (now : LivingState) : Type 0 where
  pub rests : IsResting later now (log ++ added)
  pub at : AllAt 0 added
  pub driven : AllDriven now
  pub alike : Alike (known_living side) (known_living now)
  pub does : ClosesBy LivingDoes side now
  pub none : NoneBegun now.side.grace.processor now
  pub stays : (p : ℕ) → IsSideOf p side.side → IsSideOf p now.side

by-step : (P : Part) (kept : Kept) (side : LivingState) (log : Log) (later : Kept) (now : LivingState) → (s : Stepped P kept side log later now) → SteppedSo kept side log s.added later now
by-step P kept side log later now s = record {
  rests = s.rests;
  at = s.at;
  driven = s.driven;
  alike = s.alike;
  does = s.does;
  none = s.none;
  stays = λ p his. (s.tied.done_is.0.did p his).stays;
}

pub so-stepped : (phase : Phase) (classes : List ℕ) (kept : Kept) (side : LivingState) (log : Log) (later : Kept) (now : LivingState) → (s : StepOf phase classes kept side log later now) → SteppedSo kept side log (added_of phase classes kept side log later now s) later now
so-stepped Ends classes kept side log later now s = by-step (EndsBegun (known_living side)) kept side log later now s.step
so-stepped Sweeps classes kept side log later now s = by-step (SweepsTold classes (told_in side.side.post)) kept side log later now s.step

-- ---- whose side it is, is no matter

pub outside-at : (q : ℕ) (world : LivingState) → AllOutside world → AllOutside (at_turn q world)
outside-at q world h Plain = h Plain
outside-at q world h Tracing = h Tracing

none-at : (q p : ℕ) (world now : LivingState) → LeavesOther q (at_turn p world).side now.side → NoneBegun q world → NoneBegun q now
none-at q p world now o h d = o.none d (there d)
  where
    there : NoneBegun q (at_turn p world)
    there Plain = h Plain
    there Tracing = h Tracing

done-at : (q : ℕ) (world : LivingState) → AllDone world → AllDone (at_turn q world)
done-at q world h Plain = h Plain
done-at q world h Tracing = h Tracing

needs-at : (phase : Phase) (classes : List ℕ) (p : ℕ) (kept : Kept) (world : LivingState) → OwnBefore phase classes p kept world → NeedsFor phase classes (at_turn p world)
needs-at Ends classes p kept world h = tt
needs-at Sweeps classes p kept world h = (done-at p world h.2, h.0)

-- ---- what is a processor's own, after a step

unused-after : (phase : Phase) (classes : List ℕ) (kept : Kept) (side : LivingState) (log : Log) (later : Kept) (now : LivingState) → StepOf phase classes kept side log later now → ((c : ℕ) → times c classes ≡ 0 → seven_lists ((shown kept.caches).rows c) ≡ []) → (c : ℕ) → times c classes ≡ 0 → seven_lists ((shown later.caches).rows c) ≡ []
unused-after Ends classes kept side log later now s h c none = ap (λ (x : State Token). seven_lists (x.rows c)) s.lists ∙ h c none
unused-after Sweeps classes kept side log later now s h c none = ap seven_lists (s.others c none) ∙ h c none

rows-empty : (classes : List ℕ) (later : Kept) → ((c : ℕ) → 0 < times c classes → seven_lists ((shown later.caches).rows c) ≡ []) → ((c : ℕ) → times c classes ≡ 0 → seven_lists ((shown later.caches).rows c) ≡ []) → (c : ℕ) → seven_lists ((shown later.caches).rows c) ≡ []
rows-empty classes later some none c = elim (cases_eq (times c classes) 0) [
  | inl e ↦ none c e
  | inr ne ↦ some c (omega (arith, ne))
]

own-after : (phase : Phase) (classes : List ℕ) (p : ℕ) (kept : Kept) (world : LivingState) (log : Log) (later : Kept) (now : LivingState) → StepOf phase classes kept (at_turn p world) log later now → IsSideOf p now.side → ((c : ℕ) → times c classes ≡ 0 → seven_lists ((shown kept.caches).rows c) ≡ []) → OwnBefore phase classes p kept world → OwnAfter phase classes p later now
own-after Ends classes p kept world log later now s his unused own = (subst (λ q. HasRoom classes q now) his.grace_is (s.room own), subst (λ q. NoneBegun q now) his.grace_is s.step.none)
own-after Sweeps classes p kept world log later now s his unused own =
    let few : p < 8 = (let a = his.turn in let b = his.most in omega (arith, a, b)) in
    record {
      none = subst (λ q. NoneBegun q now) his.grace_is s.step.none;
      lists = rows-empty classes later s.empty (unused-after Sweeps classes kept (at_turn p world) log later now s unused);
      boxes = λ c lt. own-boxes p c now.side.post few his.post_is ∙ s.boxes c lt;
    }

abbrev DoneFor : Phase → LivingState → Type 0
DoneFor Ends now = Unit {0}
DoneFor Sweeps now = AllDone now

done-for : (phase : Phase) (classes : List ℕ) (kept : Kept) (side : LivingState) (log : Log) (later : Kept) (now : LivingState) → StepOf phase classes kept side log later now → DoneFor phase now
done-for Ends classes kept side log later now s = tt
done-for Sweeps classes kept side log later now s = s.done

room-stays : (classes : List ℕ) (q p : ℕ) (world now : LivingState) → LeavesOther q (at_turn p world).side now.side → HasRoom classes q world → HasRoom classes q now
room-stays classes q p world now o h = subst (λ k. length classes ≤ k) (sym (o.begins Tracing)) h

before-stays : (phase : Phase) (classes : List ℕ) (q p : ℕ) (kept : Kept) (world now : LivingState) → LeavesOther q (at_turn p world).side now.side → DoneFor phase now → OwnBefore phase classes q kept world → OwnBefore phase classes q kept now
before-stays Ends classes q p kept world now o d h = room-stays classes q p world now o h
before-stays Sweeps classes q p kept world now o d h = (room-stays classes q p world now o h.0, none-at q p world now o h.1, d)

after-stays : (phase : Phase) (classes : List ℕ) (q p : ℕ) (kept : Kept) (world now : LivingState) → LeavesOther q (at_turn p world).side now.side → OwnAfter phase classes q kept world → OwnAfter phase classes q kept now
after-stays Ends classes q p kept world now o h = (room-stays classes q p world now o h.0, none-at q p world now o h.1)
after-stays Sweeps classes q p kept world now o h = record {
  none = none-at q p world now o h.none;
  lists = h.lists;
  boxes = λ c lt. o.parcels c ∙ h.boxes c lt;
}

-- ---- a step that is taken

module _ (phase : Phase) (p : ℕ) (a : Gathered) (x : IsAmong (OwnBefore phase) a p) (kept : Kept) (side : LivingState) (keeps : Keeps a.places p kept) (side_is : side ≡ at_turn p x.world) where
  kept-is : x.kept ≡ kept
  kept-is = same-kept a.places p x.kept kept x.keeps keeps

  log-is : told_log kept.caches.recorder.told ≡ x.log
  log-is = ap (λ (k : Kept). told_log k.caches.recorder.told) (sym kept-is) ∙ ap told_log x.rests.told

  rests : IsResting kept (at_turn p x.world) x.log
  rests = subst (λ (k : Kept). IsResting k (at_turn p x.world) x.log) kept-is x.rests

  pub rests-there : IsResting kept side (told_log kept.caches.recorder.told)
  rests-there = subst (λ (w : LivingState). IsResting kept w (told_log kept.caches.recorder.told)) (sym side_is) (subst (λ (z : Log). IsResting kept (at_turn p x.world) z) (sym log-is) rests)

  pub needs-there : NeedsFor phase a.classes side
  needs-there = subst (λ (w : LivingState). NeedsFor phase a.classes w) (sym side_is) (needs-at phase a.classes p x.kept x.world x.own)

  pub took-step : (b : Gathered) (later : Kept) (now : LivingState) → b.processors ≡ a.processors → b.classes ≡ a.classes → b.places ≡ set (set a.places p None) p (Some later) → b.world ≡ Some now → StepOf phase a.classes kept side (told_log kept.caches.recorder.told) later now → TookStep phase p a b
  took-step b later now many classes places world s = record {
    there = x.there;
    world = x.world;
    world_is = x.world_is;
    kept = kept;
    log = x.log;
    keeps = keeps;
    told = rests.told;
    fine = rests.fine;
    here = rests.here;
    then = later;
    after = now;
    places_are = places ∙ set-twice a.places p None (Some later);
    after_is = world;
    same = (many, classes);
    step = subst (λ (z : Log). StepOf phase a.classes kept (at_turn p x.world) z later now) log-is (subst (λ (w : LivingState). StepOf phase a.classes kept w (told_log kept.caches.recorder.told) later now) side_is s);
  }

-- ---- all of them, after a step

module _ (phase : Phase) (p : ℕ) (a b : Gathered) (t : TookStep phase p a b) where
  abbrev side_then : LivingState
  side_then = at_turn p t.world

  abbrev added : Log
  added = added_of phase a.classes t.kept side_then t.log t.then t.after t.step

  so : SteppedSo t.kept side_then t.log added t.then t.after
  so = so-stepped phase a.classes t.kept side_then t.log t.then t.after t.step

  pub took-stretched : (n pages : ℕ) (o : Order) (logs : List Log) → LogsSoFar n pages o logs t.world → p < n → get_or logs p [] ≡ t.log → Stretched n pages p o logs added t.world t.after
  took-stretched n pages o logs h lt same = step-stretched phase n pages p o logs a.classes t.world t.kept t.log t.then t.after h lt same t.fine t.here t.told t.step

  same-world : (w : LivingState) → a.world ≡ Some w → t.world ≡ w
  same-world w e = same-some (sym t.world_is ∙ e)

  -- the log that is told of this processor
  own-log : (n : ℕ) → p < n → (x : AreTogether n a.places t.world) → get_or x.logs p [] ≡ t.log
  own-log n lt x = same-told a.places p t.kept t.log t.keeps t.told (get_or x.logs p []) (x.logs_are p lt)

  grown : (n : ℕ) → p < n → (x : AreTogether n a.places t.world) → Stretched n x.pages p x.order x.logs added t.world t.after
  grown n lt x = took-stretched n x.pages x.order x.logs x.so_far lt (own-log n lt x)

  pub took-together : (n : ℕ) → p < n → AreTogether n a.places t.world → AreTogether n b.places t.after
  took-together n lt x =
      let s = grown n lt x in
      record {
        many = ap length t.places_are ∙ (length-set a.places p (Some t.then) ∙ x.many);
        processors_are = so-many n x.pages (x.order ++ by p added) t.after s.so_far.so_far;
        pages = x.pages;
        order = x.order ++ by p added;
        logs = set x.logs p (get_or x.logs p [] ++ added);
        so_far = s.so_far;
        logs_are = λ q few. tells q few (cases_eq q p);
        outside = so.rests.outside;
        driven = so.driven;
      }
    where
      there : p < length a.places
      there = subst (λ k. p < k) (sym x.many) lt

      tells : (q : ℕ) → q < n → (q ≡ p) ⊎ (q ≢ p) → TellsLog b.places q (get_or (set x.logs p (get_or x.logs p [] ++ added)) q [])
      tells q few (inl e) =
          let log_is : t.log ++ added ≡ get_or (set x.logs p (get_or x.logs p [] ++ added)) p [] =
          ap (λ (z : Log). z ++ added) (sym (own-log n lt x)) ∙ sym (get_or-set_same x.logs p (get_or x.logs p [] ++ added) [] (subst (λ k. p < k) (sym x.so_far.many) lt)) in
          subst (λ r. TellsLog b.places r (get_or (set x.logs p (get_or x.logs p [] ++ added)) r [])) (sym e)
          (t.then, ap (λ ps. slice_get ps p) t.places_are ∙ get-set-same a.places p (Some t.then) there, so.rests.told ∙ ap Some log_is)
      tells q few (inr ne) =
          let old = x.logs_are q few in (
            old.0,
            ap (λ ps. slice_get ps q) t.places_are ∙ (get-set-other a.places p q (Some t.then) ne ∙ old.1),
            old.2 ∙ ap Some (sym (get_or-set_other x.logs p q (get_or x.logs p [] ++ added) [] ne)),
          )

  his-now : (n : ℕ) → p < n → AreTogether n a.places t.world → IsSideOf p t.after.side
  his-now n lt x = so.stays p (his-side n x.pages p x.order x.logs t.world x.so_far lt)

  -- the processor itself
  own-rests : IsSideOf p t.after.side → IsResting t.then (at_turn p t.after) (t.log ++ added)
  own-rests his = record { told = so.rests.told; here = so.rests.here ∙ his.grace_is; fine = so.rests.fine; outside = outside-at p t.after so.rests.outside }

  pub took-has : IsAmong (OwnBefore phase) a p → IsAmong (OwnAfter phase) b p
  took-has x =
      let world : t.world ≡ x.world = same-world x.world x.world_is in
      let kept : t.kept ≡ x.kept = same-kept a.places p t.kept x.kept t.keeps x.keeps in
      let together : AreTogether a.processors a.places t.world = subst (λ (w : LivingState). AreTogether a.processors a.places w) (sym world) x.together in
      let own : OwnBefore phase a.classes p t.kept t.world = subst (λ (k : Kept). OwnBefore phase a.classes p k t.world) (sym kept) (subst (λ (w : LivingState). OwnBefore phase a.classes p x.kept w) (sym world) x.own) in
      let unused : (c : ℕ) → times c a.classes ≡ 0 → seven_lists ((shown t.kept.caches).rows c) ≡ [] = subst (λ (k : Kept). (c : ℕ) → times c a.classes ≡ 0 → seven_lists ((shown k.caches).rows c) ≡ []) (sym kept) x.unused in
      let his = his-now a.processors t.there together in
      let there : p < length a.places = subst (λ k. p < k) (sym together.many) t.there in
      record {
        world = t.after;
        world_is = t.after_is;
        together = subst (λ n. AreTogether n b.places t.after) (sym t.same.0) (took-together a.processors t.there together);
        there = subst (λ n. p < n) (sym t.same.0) t.there;
        kept = t.then;
        log = t.log ++ added;
        keeps = ap (λ (ps : List (Option Kept)). slice_get ps p) t.places_are ∙ get-set-same a.places p (Some t.then) there;
        rests = own-rests his;
        unused = subst (λ (cs : List ℕ). (c : ℕ) → times c cs ≡ 0 → seven_lists ((shown t.then.caches).rows c) ≡ []) (sym t.same.1) (unused-after phase a.classes t.kept side_then t.log t.then t.after t.step unused);
        own = subst (λ (cs : List ℕ). OwnAfter phase cs p t.then t.after) (sym t.same.1) (own-after phase a.classes p t.kept t.world t.log t.then t.after t.step his unused own);
      }

  -- each other one
  other-rests : (q : ℕ) (kept : Kept) (log : Log) → q ≢ p → q < a.processors → Keeps a.places q kept → AreTogether a.processors a.places t.world → IsResting kept (at_turn q t.world) log → IsResting kept (at_turn q t.after) log
  other-rests q kept log ne few keeps x r =
      let leaves = fine-leaves kept (at_turn q t.world) q log r.fine r.here r.told in
      let log_is : get_or x.logs q [] ≡ log = same-told a.places q kept log keeps r.told (get_or x.logs q []) (x.logs_are q few) in
      let shows : seen number_of (shown kept.caches) ≡ after (opening q) (get_or x.logs q []) = sym leaves.lists ∙ ap (after (opening q)) (sym log_is) in
      let alone : IsLeftAlone (shown kept.caches) (at_turn q t.world) (at_turn q t.after) = (grown a.processors t.there x).alone q few ne (shown kept.caches) shows in
      record {
        told = r.told;
        here = r.here;
        fine = fine-alone (in_its_turn kept (at_turn q t.world)) (at_turn q t.after) alone r.fine;
        outside = outside-at q t.after so.rests.outside;
      }

  other-left : (q : ℕ) → q ≢ p → AreTogether a.processors a.places t.world → LeavesOther q side_then.side t.after.side
  other-left q ne x = living-leaves q p side_then t.after ne (his-side a.processors x.pages p x.order x.logs t.world x.so_far t.there) so.does

  still-among : (Own : List ℕ → ℕ → Kept → LivingState → Type 0) (q : ℕ) → q ≢ p → ((kept : Kept) → LeavesOther q side_then.side t.after.side → Own a.classes q kept t.world → Own a.classes q kept t.after) → IsAmong Own a q → IsAmong Own b q
  still-among Own q ne stays x =
      let world : t.world ≡ x.world = same-world x.world x.world_is in
      let together : AreTogether a.processors a.places t.world = subst (λ (w : LivingState). AreTogether a.processors a.places w) (sym world) x.together in
      let rests : IsResting x.kept (at_turn q t.world) x.log = subst (λ (w : LivingState). IsResting x.kept (at_turn q w) x.log) (sym world) x.rests in
      let own : Own a.classes q x.kept t.world = subst (λ (w : LivingState). Own a.classes q x.kept w) (sym world) x.own in
      record {
        world = t.after;
        world_is = t.after_is;
        together = subst (λ n. AreTogether n b.places t.after) (sym t.same.0) (took-together a.processors t.there together);
        there = subst (λ n. q < n) (sym t.same.0) x.there;
        kept = x.kept;
        log = x.log;
        keeps = ap (λ (ps : List (Option Kept)). slice_get ps q) t.places_are ∙ (get-set-other a.places p q (Some t.then) ne ∙ x.keeps);
        rests = other-rests q x.kept x.log ne x.there x.keeps together rests;
        unused = subst (λ (cs : List ℕ). (c : ℕ) → times c cs ≡ 0 → seven_lists ((shown x.kept.caches).rows c) ≡ []) (sym t.same.1) x.unused;
        own = subst (λ (cs : List ℕ). Own cs q x.kept t.after) (sym t.same.1) (stays x.kept (other-left q ne together) own);
      }

  pub may-still : (q : ℕ) → q ≢ p → IsAmong (OwnBefore phase) a q → IsAmong (OwnBefore phase) b q
  may-still q ne x = still-among (OwnBefore phase) q ne (λ kept o h. before-stays phase a.classes q p kept t.world t.after o (done-for phase a.classes t.kept side_then t.log t.then t.after t.step) h) x

  pub has-still : (q : ℕ) → q ≢ p → IsAmong (OwnAfter phase) a q → IsAmong (OwnAfter phase) b q
  has-still q ne x = still-among (OwnAfter phase) q ne (λ kept o h. after-stays phase a.classes q p kept t.world t.after o h) x
