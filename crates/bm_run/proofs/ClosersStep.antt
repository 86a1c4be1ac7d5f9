-- A step of one processor's closing, by what its desk leaves.
use Rattle.std.specs.Prelude.{◌%◌, ◌<◌, false, if◌then◌else◌}
use Rattle.std.specs.Option.{option_map}
use Rattle.std.proofs.Common.{◌≡◌, ◌≤◌, ◌+◌, ◌*◌, append_assoc, length, ℕ, List, [], ◌∷◌, ◌++◌, Option, None, Some, refl, sym, ◌∙◌, ap, subst, append-nil, arith, inl, inr, true}
use Rattle.std.proofs.lemmas.Bool.Decides.{eqb_tells}
use Rattle.std.proofs.lemmas.List.{append_cancel_left}
use Rattle.bm_journal.specs.declared.ids.Domain.{Domain}
use Rattle.bm_journal.specs.declared.ids.Domain.TheVariants.{Plain, Tracing}
use Rattle.bm_law.specs.Alone.{AllAt, Alone, GrewAt, at_level}
use Rattle.bm_law.proofs.Alone.{level-from, level-own}
use Rattle.bm_law_scenario.specs.Closing.{EmptiesMaps}
use Rattle.bm_cache.specs.Tokens.{Token}
use Rattle.bm_exec_levels.specs.Ready.{asked_of}
use Rattle.bm_exec_levels.specs.Slotted.{in_hands}
use Rattle.bm_exec_levels.specs.Sound.{Sound}
use Rattle.bm_exec_levels.specs.declared.program.Program.{Program}
use Rattle.bm_run.proofs.SeatAfter.{kept_of}
use Rattle.bm_law.specs.Inboxes.{Inboxes}
use Rattle.bm_law.specs.Lists.{Log}
use Rattle.bm_law.specs.Stands.{times}
use Rattle.bm_law.specs.State.{State, seen}
use Rattle.bm_law_order.specs.Graphs.{standing_from}
use Rattle.bm_law_order.specs.Tie.{Tied, TiedBy}
use Rattle.bm_journal.specs.Recording.{Appends}
use Rattle.bm_journal.specs.declared.entry.Entry.{Entry}
use Rattle.bm_law_work.specs.Grown.{GrewBy, GrewPart}
use Rattle.bm_law_work.specs.Parts.{Part}
use Rattle.bm_grace.specs.Known.{side}
use Rattle.bm_post.specs.PostState.{told_in}
use Rattle.bm_cache.specs.Shown.{shown}
use Rattle.bm_cache.specs.Tokens.{number_of}
use Rattle.bm_work.specs.Goes.{Alike}
use Rattle.bm_world.specs.Graphs.{items_in}
use Rattle.bm_world.specs.LivingState.{LivingAtRest, LivingState, idle-living, known_living}
use Rattle.bm_world.specs.ToldLiving.{LivingDoes, knows_living}
use Rattle.bm_closing.specs.Arrived.{emptied}
use Rattle.bm_closing.specs.Closes.{ClosesBy}
use Rattle.bm_closing.specs.SweepsEach.{all_emptied}
use Rattle.bm_exec_levels.specs.AtPolls.{DoesHere, here-same, polled}
use Rattle.bm_exec_levels.specs.declared.kept.Kept.{Kept}
use Rattle.bm_exec_levels.specs.AtProcessor.{Stays, lists_of, lives_of, log_of}
use Rattle.bm_exec_levels.specs.AtTie.{TiedAt}
use Rattle.bm_exec_levels.specs.declared.processor.Processor.{Processor}
use Rattle.bm_journal.specs.declared.entry.Entry.TheVariants as entry
use Rattle.bm_run.specs.Asked.{in_its_turn}
use Rattle.bm_run.specs.Closers.{BeginsClosing, AllDone, AllDriven, AllOutside, FineHere, NoneBegun, Stepped}
use Rattle.bm_run.specs.ClosingTie.{Ends, IsHere}

-- ---- the tie of a step

-- nothing was done so far
pub ends-fresh : (since : Log) (start side : LivingState) (told : Option Log) → told ≡ Some since → start ≡ side → Ends since start [] [] told side
ends-fresh since start side told e f =
    let none : Ends since start [] [] (Some since) start = record { story = []; judged = tt; log_is = sym (append-nil since); done_is = here-same knows_living start } in
    subst (λ (o : Option Log). Ends since start [] [] o side) (sym e) (subst (λ (w : LivingState). Ends since start [] [] (Some since) w) f none)

same-log : {x y : Log} → Some x ≡ Some y → x ≡ y
same-log q = cc

-- what was added twice is the same
same-added : (a : Option Log) (x y v w n : Log) → a ≡ Some x → a ≡ Some y → n ≡ x ++ v → n ≡ y ++ w → v ≡ w
same-added a x y v w n e f p q =
    let same : x ≡ y = same-log (sym e ∙ f) in
    append_cancel_left y v w (ap (λ (z : Log). z ++ v) (sym same) ∙ sym p ∙ q)

added-at : (P : Part) (t : State ℕ) (a : Option Log) (n : Log) (g : GrewPart P t a n) → GrewAt 0 a n → AllAt 0 g.added
added-at P t a n g h = subst (AllAt 0) (same-added a h.log g.log h.added g.added n h.told g.told h.now_is g.now_is) h.at

-- What a desk leaves, whose recorder told this log before and that one now.
pub stepped : (P : Part) (kept later : Kept) (start side now : LivingState) (since log : Log) → start ≡ side → kept.caches.recorder.told ≡ Some since → later.caches.recorder.told ≡ Some log →
    GrewBy P (seen number_of (shown kept.caches)) kept.caches.recorder.told later.caches.recorder.told → Alone 0 kept.caches.recorder.told later.caches.recorder.told →
    Ends since start [] [] later.caches.recorder.told now → IsHere later.caches now → FineHere later.caches now → AllOutside now → AllDriven now →
    Alike (known_living side) (known_living now) → ClosesBy LivingDoes side now → NoneBegun now.side.grace.processor now → Stepped P kept side since later now
stepped P kept later start side now since log at told after grew alone tied here fine outside driven alike does none =
    let lists : State ℕ = seen number_of (shown kept.caches) in
    let g : GrewPart P lists kept.caches.recorder.told log = subst (λ (o : Option Log). GrewBy P lists kept.caches.recorder.told o) after grew in
    let a : GrewAt 0 kept.caches.recorder.told log = subst (λ (o : Option Log). Alone 0 kept.caches.recorder.told o) after alone in
    let is : log ≡ since ++ g.added = g.now_is ∙ ap (λ (z : Log). z ++ g.added) (same-log (sym g.told ∙ told)) in
    let t : Tied (polled knows_living true since start) (DoesHere knows_living) since start 0 [] [] log now = subst (λ (o : Option Log). Ends since start [] [] o now) after tied in
    record {
      added = g.added;
      tied = subst (λ (w : LivingState). Tied (polled knows_living true since w) (DoesHere knows_living) since w 0 [] [] (since ++ g.added) now) at (subst (λ (z : Log). Tied (polled knows_living true since start) (DoesHere knows_living) since start 0 [] [] z now) is t);
      said = g.is_part;
      at = added-at P lists kept.caches.recorder.told log g a;
      rests = record { told = after ∙ ap Some is; here = here; fine = fine; outside = outside };
      driven = driven;
      alike = alike;
      does = does;
      none = none;
    }

-- ---- the world

-- no processor is in a section where all is at rest
pub outside-rest : (world : LivingState) (d : Domain) (n : ℕ) → LivingAtRest world d n → AllOutside world
outside-rest world d n r Plain = r.plain
outside-rest world d n r Tracing = r.tracing

-- the side has no period in progress
pub none-begun : (world : LivingState) → ((d : Domain) → (side d (known_living world)).number ≡ 0) → NoneBegun world.side.grace.processor world
none-begun world h Plain = h Plain
none-begun world h Tracing = h Tracing

-- .. nor has it a period in progress where the numbers are even
abbrev pub RestsEven : LivingState → Type 0
RestsEven world = (d : Domain) → (n : ℕ) × (LivingAtRest world d n × (n % 2 ≡ 0))

pub none-even : (world : LivingState) → RestsEven world → NoneBegun world.side.grace.processor world
none-even world r = none-begun world (λ d. idle-living world d (r d).0 (r d).1.0 (r d).1.1)

pub done-even : (world : LivingState) → RestsEven world → AllDone world
done-even world r d = (let e = (r d).1.0.number_is in ap (λ k. k % 2) e ∙ (r d).1.1)

-- ---- inboxes

emptied-none : (c k : ℕ) (boxes : Inboxes) → boxes k ≡ [] → emptied c boxes k ≡ []
emptied-none c k boxes e = elim (eqb_tells k c) [ inl y ↦ rw y.0 refl | inr y ↦ rw y.0 e ]

emptied-own : (c k : ℕ) (boxes : Inboxes) → k ≡ c → emptied c boxes k ≡ []
emptied-own c k boxes e = elim (eqb_tells k c) [ inl y ↦ rw y.0 refl | inr y ↦ absurd (y.1 e) ]

stay-empty : (cs : List ℕ) (k : ℕ) (boxes : Inboxes) → boxes k ≡ [] → all_emptied cs boxes k ≡ []
stay-empty [] k boxes e = e
stay-empty (c ∷ cs) k boxes e = stay-empty cs k (emptied c boxes) (emptied-none c k boxes e)

-- the inboxes of these classes
all-empty : (cs : List ℕ) (k : ℕ) (boxes : Inboxes) → 0 < times k cs → all_emptied cs boxes k ≡ []
all-empty [] k boxes lt = absurd (omega (arith, lt))
all-empty (c ∷ cs) k boxes lt = elim (eqb_tells k c) [
  | inl y ↦ stay-empty cs k (emptied c boxes) (emptied-own c k boxes y.1)
  | inr y ↦ all-empty cs k (emptied c boxes) (let h : 0 < 0 + times k cs = subst (λ b. 0 < (if b then 1 else 0) + times k cs) y.0 lt in omega (arith, h))
]

some-same : {A : Type 0} {x y : A} → Some x ≡ Some y → x ≡ y
some-same q = cc

pub boxes-empty : (cs : List ℕ) (before now : LivingState) → (known_living now).parcels ≡ option_map (all_emptied cs) (known_living before).parcels → (c : ℕ) → 0 < times c cs → told_in now.side.post c ≡ []
boxes-empty cs before now e c lt =
    let same : told_in now.side.post ≡ all_emptied cs (told_in before.side.post) = some-same e in
    ap (λ (b : Inboxes). b c) same ∙ all-empty cs c (told_in before.side.post) lt

-- ---- an entry that touches nothing of what processors share

-- what a recorder tells that has noted an entry
pub noted-told : (e : Entry) (before now : Option Log) (log l : Log) → Appends before 0 e now → before ≡ Some log → now ≡ Some l → l ≡ log ++ (0, e) ∷ []
noted-told e before None log l a x y = absurd (cc)
noted-told e before (Some z) log l a x y = sym (same-log y) ∙ (a.more ∙ ap (λ (w : Log). w ++ (0, e) ∷ []) (same-log (sym a.told ∙ x)))

-- nothing was done so far, before the closing
pub fresh-tied : (since : Log) (start : LivingState) (told : Option Log) → told ≡ Some since → TiedBy (polled knows_living false since start) (DoesHere knows_living) since start 0 [] [] told start
fresh-tied since start told e =
    let none : TiedBy (polled knows_living false since start) (DoesHere knows_living) since start 0 [] [] (Some since) start = record { story = []; judged = tt; log_is = sym (append-nil since); done_is = here-same knows_living start } in
    subst (λ (o : Option Log). TiedBy (polled knows_living false since start) (DoesHere knows_living) since start 0 [] [] o start) (sym e) none

-- .. on a processor that had its turn
pub fresh-tied-at : (since : Log) (start : LivingState) (kept : Kept) (side_is : LivingState) (m : Processor LivingState) → m ≡ in_its_turn kept side_is → start ≡ side_is → kept.caches.recorder.told ≡ Some since → TiedAt knows_living since start m
fresh-tied-at since start kept side_is m opened begins told =
    let T : LivingState → Processor LivingState → Type 0 = λ w x. TiedAt knows_living since w x in
    subst (λ (x : Processor LivingState). T start x) (sym opened) (subst (λ (w : LivingState). T w (in_its_turn kept side_is)) (sym begins) (fresh-tied since side_is kept.caches.recorder.told told))

-- what a log that is told now gained
grown-told : (P : Part) (t : State ℕ) (before now : Option Log) (l : Log) → GrewBy P t before now → now ≡ Some l → GrewPart P t before l
grown-told P t before None l g y = absurd (cc)
grown-told P t before (Some z) l g y = subst (GrewPart P t before) (same-log y) g

-- A processor that had its turn to note it, and to empty the maps.
pub begun-by : (g : Program) (kept : Kept) (start : LivingState) (old m k : Processor LivingState) (later : Kept) (now : LivingState) (log l : Log) → old ≡ in_its_turn kept start → later ≡ kept_of k → now ≡ k.side → later.caches.recorder.told ≡ Some l → kept.caches.recorder.told ≡ Some log →
    Appends (log_of old) 0 entry.Close (log_of m) → shown m.caches ≡ shown old.caches → m ≡ record old { caches = m.caches } →
    GrewBy (EmptiesMaps g.scenario.now.types g.scenario.now.maps) (lists_of m) (log_of m) (log_of k) → lives_of knows_living k ≡ lives_of knows_living m → ((u : ℕ) → standing_from 0 k.side.graphs u ≡ None) → Stays knows_living (2 * length g.scenario.now.maps + 3 * items_in m.side.graphs) 0 g m k → Sound knows_living g k → TiedAt knows_living log start k → kept.locked ≡ None →
    BeginsClosing g kept start log later now
begun-by g kept start old m k later now log l opened closes side_is told first said lists same grew lives bare stays sound tied unlocked =
    let old_told : log_of old ≡ Some log = ap (λ (z : Processor LivingState). log_of z) opened ∙ first in
    let note : Log = at_level 0 (entry.Close ∷ []) in
    let k_told : log_of k ≡ Some l = sym (ap (λ (x : Kept). x.caches.recorder.told) closes) ∙ told in
    let more = grown-told (EmptiesMaps g.scenario.now.types g.scenario.now.maps) (lists_of m) (log_of m) (log_of k) l grew k_told in
    let noted : more.log ≡ log ++ note = noted-told entry.Close (log_of old) (log_of m) log more.log said old_told more.told in
    let is : l ≡ log ++ (note ++ more.added) = more.now_is ∙ (ap (λ (z : Log). z ++ more.added) noted ∙ append_assoc log note more.added) in
    let back : k ≡ in_its_turn later now = sym (ap (λ (x : Kept). in_its_turn x now) closes ∙ ap (λ (w : LivingState). in_its_turn (kept_of k) w) side_is) in
    let shown_is : shown m.caches ≡ shown kept.caches = lists ∙ ap (λ (z : Processor LivingState). shown z.caches) opened in
    let here : Tied (polled knows_living false log start) (DoesHere knows_living) log start 0 [] [] l k.side =
    subst (λ (o : Option Log). TiedBy (polled knows_living false log start) (DoesHere knows_living) log start 0 [] [] o k.side) k_told tied in
    let T : Log → LivingState → Type 0 = λ z w. Tied (polled knows_living false log start) (DoesHere knows_living) log start 0 [] [] z w in
    let was : m.side ≡ start = ap (λ (z : Processor LivingState). z.side) same ∙ ap (λ (z : Processor LivingState). z.side) opened in
    let asked : asked_of knows_living g.scenario.now m ≡ asked_of knows_living g.scenario.now (in_its_turn kept start) = ap (asked_of knows_living g.scenario.now) same ∙ ap (asked_of knows_living g.scenario.now) opened in
    let most = stays.asks_most in
    let items : items_in m.side.graphs ≡ items_in start.graphs = ap (λ (w : LivingState). items_in w.graphs) was in
    let F : Processor LivingState → Type 0 = λ x. asked_of knows_living g.scenario.now x ≤ asked_of knows_living g.scenario.now (in_its_turn kept start) + (2 * length g.scenario.now.maps + 3 * items_in start.graphs) in
    record {
      added = note ++ more.added;
      told = told ∙ ap Some is;
      said = record {
        one = note;
        two = more.added;
        part_is = refl;
        is_first = record { from = level-from 0 (entry.Close ∷ []); own_is = level-own 0 (entry.Close ∷ []) };
        is_second = subst (λ (x : State Token). EmptiesMaps g.scenario.now.types g.scenario.now.maps (seen number_of x) more.added) shown_is more.is_part;
      };
      sound = subst (Sound knows_living g) back sound;
      tied = subst (λ (w : LivingState). T (log ++ (note ++ more.added)) w) (sym side_is) (subst (λ (z : Log). T z k.side) is here);
      asks = subst F back (omega (arith, most, asked, items));
      hands = ap (λ (w : LivingState). in_hands (known_living w).objects) side_is ∙ (lives ∙ ap (λ (w : LivingState). in_hands (known_living w).objects) was);
      bare = λ u. ap (λ (w : LivingState). standing_from 0 w.graphs u) side_is ∙ bare u;
      unlocked =
          ap (λ (x : Kept). x.locked) closes
          ∙ (stays.locked ∙ (ap (λ (z : Processor LivingState). z.locked) same ∙ (ap (λ (z : Processor LivingState). z.locked) opened ∙ unlocked)));
      parity = λ d. ap (λ (w : LivingState). (side d (known_living w)).word % 2) side_is ∙ (stays.parity d ∙ ap (λ (w : LivingState). (side d (known_living w)).word % 2) was);
    }
