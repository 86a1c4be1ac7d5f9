-- Processors whose scripts have ended, once processor 0 has noted that the closing begins, can close together.
use Rattle.std.specs.Prelude.{◌≢◌, ◌≤◌, get_or, map, set, slice_get, length}
use Rattle.std.specs.List.{list_any}
use Rattle.std.proofs.Common.{◌≡◌, ◌<◌, ℕ, zero, suc, Bool, true, false, List, [], ◌∷◌, ◌++◌, Option, None, Some, arith, refl, sym, ◌∙◌, ap, subst, inl, inr}
use Rattle.std.proofs.lemmas.Bool.{cases_eq}
use Rattle.std.proofs.lemmas.List.{get_or-set_other, get_or-set_same, length-set}
use Rattle.bm_journal.specs.declared.ids.Domain.TheVariants.{Plain, Tracing}
use Rattle.bm_lang.specs.declared.scenario.Parts.{Parts}
use Rattle.bm_law.specs.Lists.{Leaves, Log, after}
use Rattle.bm_law.specs.Stands.{times}
use Rattle.bm_law.specs.State.{State, opening, seen, seven_lists}
use Rattle.bm_law.proofs.Alone.{level-from, level-own}
use Rattle.bm_law.proofs.Seen.{map-seven}
use Rattle.bm_law_order.specs.Calls.{lock_in}
use Rattle.bm_law_order.specs.Orders.{Order, by, part_of}
use Rattle.bm_law_graphs.proofs.ChunkShelved.{lock-more}
use Rattle.bm_law_places.specs.World.{outset, world_over}
use Rattle.bm_law_scenario.specs.Grammar.{AreScripts, Front, lines_of}
use Rattle.bm_law_scenario.specs.Opened.{opened_classes, uses_class}
use Rattle.bm_page.specs.Stock.{Stock}
use Rattle.bm_law_work.specs.Parts.{Say, Stand}
use Rattle.bm_law_scenario.specs.Fills.{AreFills, opening_stock}
use Rattle.bm_cache.specs.Opening.{Fills, fill_log}
use Rattle.bm_exec_levels.specs.Slotted.{in_hands}
use Rattle.bm_run.specs.Filling.{filling}
use Rattle.bm_cache.specs.Shown.{shown}
use Rattle.bm_cache.specs.Tokens.{number_of}
use Rattle.bm_world.specs.LivingState.{LivingState, known_living}
use Rattle.bm_world.specs.ToldLiving.{knows_living}
use Rattle.bm_closing.specs.declared.crew.Phase.TheVariants.{Ends}
use Rattle.bm_exec_levels.specs.Sound.{Sound}
use Rattle.bm_exec_levels.specs.declared.kept.Kept.{Kept}
use Rattle.bm_exec_levels.specs.declared.program.Program.{Program}
use Rattle.bm_run.specs.Asked.{in_its_turn}
use Rattle.bm_run.specs.Between.{AllStopped, Between, all_openings, ended_of}
use Rattle.bm_run.specs.Turns.{owned_by}
use Rattle.std.proofs.lemmas.Option.{get_or_from_slice_get}
use Rattle.bm_run.specs.Closers.{AllDriven, AllOutside, AreFew, AreTogether, BeginsClosing, HasRoom, IsAmong, IsResting, Keeps, OwnBefore, TellsLog}
use Rattle.bm_run.specs.LogsSoFar.{Stretched}
use Rattle.bm_run.specs.Seated.{HasStopped, opening_lists, opening_log, runs_or_stopped}
use Rattle.bm_run.specs.SoFar.{at_turn}
use Rattle.bm_run.specs.declared.seats.Seat.{Seat}
use Rattle.bm_run.specs.declared.turns.Remaining.{Remaining}
use Rattle.bm_run.proofs.ClosersTaken.{get-set-other, get-set-same, outside-at, same-kept}
use Rattle.std.specs.Prelude.{◌+◌, ◌%◌, ◌^◌, sum_by}
use Rattle.std.proofs.lemmas.List.Sums.{get_or-le-sum_by, sum_by-set}
use Rattle.bm_journal.specs.declared.ids.Domain.{Domain}
use Rattle.bm_law.specs.Alone.{AllAt}
use Rattle.bm_law.proofs.Folds.{after-append}
use Rattle.bm_due.specs.Due.{planned_for}
use Rattle.bm_grace.specs.Known.{side}
use Rattle.bm_law_scenario.specs.Declared.{declared_in}
use Rattle.bm_world.specs.Told.{IsSideOf}
use Rattle.bm_exec_levels.specs.Ready.{left_cost}
use Rattle.bm_exec_levels.specs.declared.processor.Processor.{Processor}
use Rattle.bm_plan.specs.Position.{Position}
use Rattle.bm_run.specs.Between.{GivesFirst}
use Rattle.bm_run.specs.Emptied.{HasRoomFor}
use Rattle.bm_run.specs.LeftAlone.{AllUnswept}
use Rattle.bm_run.proofs.ClosersTaken.{his-side}
use Rattle.bm_run.proofs.EndedStands.{ended-stands}
use Rattle.bm_run.proofs.GivenLaws.{given-rows, given-unlocked, given-unswept}
use Rattle.bm_run.proofs.LogLaw.{here, tells-here}
use Rattle.bm_run.proofs.SeatAfter.{at-own, leaves-here}
use Rattle.bm_run.proofs.Sections.{runs-none}
use Rattle.bm_run.proofs.StaysSound.{sound-alone}
use Rattle.bm_run.proofs.LogLaw.{RowsKept, are-fills, fill-level, fill_entries, never-used, no-tokens}
use Rattle.bm_run.proofs.OpenedList.{opened-few}
use Rattle.bm_run.proofs.Stretch.{stretched}
use Rattle.bm_run.proofs.TurnTaken.{so-many}
use Rattle.bm_run.proofs.TurnsTold.{unswept-found}

-- ---- lists

there-is : {A : Type 0} (xs : List A) (i : ℕ) → i < length xs → (x : A) × (slice_get xs i ≡ Some x)
there-is [] i lt = absurd (omega (arith, lt))
there-is (x ∷ xs) zero lt = (x, refl)
there-is (x ∷ xs) (suc i) lt = there-is xs i (omega (arith, lt))

same-some : {A : Type 0} {x y : A} → Some x ≡ Some y → x ≡ y
same-some q = cc

pub get-map : {A B : Type 0} (f : A → B) (xs : List A) (i : ℕ) (x : A) → slice_get xs i ≡ Some x → slice_get (map f xs) i ≡ Some (f x)
get-map f [] i x e = absurd (cc)
get-map f (y ∷ xs) zero x e = (let q : y ≡ x = same-some e in ap (λ z. Some (f z)) q)
get-map f (y ∷ xs) (suc i) x e = get-map f xs i x e

length-map : {A B : Type 0} (f : A → B) (xs : List A) → length (map f xs) ≡ length xs
length-map f [] = refl
length-map f (x ∷ xs) = ap suc (length-map f xs)

-- ---- a processor that has stopped

abbrev pub kept_by : List Seat → List (Option Kept)
kept_by seats = map (λ (x : Seat). x.kept) seats

-- What a processor keeps whose scripts have ended, with its log.
pub record StoppedAt (g : Program) (q : ℕ) (seats : List Seat) (log : Log) (world : LivingState) : Type 0 where
  pub kept : Kept
  pub keeps : Keeps (kept_by seats) q kept
  pub told : kept.caches.recorder.told ≡ Some log
  pub sound : Sound knows_living g (in_its_turn kept (at_turn q world))
  pub remaining : Remaining
  pub stopped : HasStopped g.scenario.now q log (in_its_turn kept (at_turn q world)) remaining

runs-stopped : (b : Bool) (s : Parts) (q : ℕ) (log : Log) (m : _) (r : Remaining) → b ≡ true → runs_or_stopped b s q log m r → HasStopped s q log m r
runs-stopped true s q log m r e h = h
runs-stopped false s q log m r e h = absurd (cc)

pub stopped-at : (g : Program) (turns : List ℕ) (seats : List Seat) (world : LivingState) (b : Between g turns [] seats world) → AllStopped seats → (q : ℕ) → q < g.scenario.now.processors → StoppedAt g q seats (get_or b.logs q []) world
stopped-at g turns seats world b stopped q lt =
    let x = there-is seats q (subst (λ k. q < k) (sym b.many) lt) in
    let seat : Seat = x.0 in
    let i = b.seated q seat x.1 in
    record {
      kept = i.kept;
      keeps = get-map (λ (y : Seat). y.kept) seats q seat x.1 ∙ ap Some i.kept_is;
      told = i.told;
      sound = i.sound;
      remaining = seat.remaining;
      stopped = runs-stopped seat.ended g.scenario.now q (get_or b.logs q []) (in_its_turn i.kept (at_turn q world)) seat.remaining (stopped q seat x.1) i.runs;
    }

-- it owns nothing beside what the others own
pub stopped-owns : (g : Program) (turns : List ℕ) (seats : List Seat) (world : LivingState) (b : Between g turns [] seats world) → AllStopped seats → (q : ℕ) → q < g.scenario.now.processors → in_hands (known_living world).objects ≡ b.bases q
stopped-owns g turns seats world b stopped q lt =
    let x = there-is seats q (subst (λ k. q < k) (sym b.many) lt) in
    let seat : Seat = x.0 in
    let i = b.seated q seat x.1 in
    let h = runs-stopped seat.ended g.scenario.now q (get_or b.logs q []) (in_its_turn i.kept (at_turn q world)) seat.remaining (stopped q seat x.1) i.runs in
    subst (λ o. owned_by g.scenario.now (b.bases q) (in_hands (known_living world).objects) o) h.nothing i.owns

pub stopped-ended : (g : Program) (turns : List ℕ) (seats : List Seat) (world : LivingState) (b : Between g turns [] seats world) → AllStopped seats → (q : ℕ) → q < g.scenario.now.processors → get_or (ended_of seats) q true ≡ true
stopped-ended g turns seats world b stopped q lt =
    let x = there-is seats q (subst (λ k. q < k) (sym b.many) lt) in
    get_or_from_slice_get (ended_of seats) q true true (get-map (λ (y : Seat). y.ended) seats q x.0 x.1 ∙ ap Some (stopped q x.0 x.1))

-- ---- the world

pub outside-stopped : (g : Program) (turns : List ℕ) (seats : List Seat) (world : LivingState) (b : Between g turns [] seats world) → AllStopped seats → AllOutside world
outside-stopped g turns seats world b stopped = there
  where
    many : world.side.grace.processors ≡ g.scenario.now.processors
    many = so-many g.scenario.now.processors g.scenario.now.pages (all_openings g.scenario.now ++ b.order) world b.so_far.so_far

    there : AllOutside world
    there Plain i lt = (stopped-at g turns seats world b stopped i (subst (λ k. i < k) many lt)).stopped.outside Plain
    there Tracing i lt = (stopped-at g turns seats world b stopped i (subst (λ k. i < k) many lt)).stopped.outside Tracing

-- ---- lists of classes that no type uses

fills-said-at : (cs : List ℕ) (pool : Stock) (t : State ℕ) → Say 0 (AreFills cs pool) t (fill_log (filling cs pool).fills)
fills-said-at cs pool t =
    let fs : Fills = (filling cs pool).fills in
    (fill_entries fs, are-fills cs pool, subst (λ (l : Log). Stand 0 (fill_entries fs) t l) (sym (fill-level fs)) (record { from = level-from 0 (fill_entries fs); own_is = level-own 0 (fill_entries fs) }))

pub front-is : (s : Parts) (p : ℕ) (scripts : Log) → AreScripts s (lines_of p s.runs) (opening_lists s p) scripts → Front s p (opening p) (opening_log s p ++ scripts)
front-is s p scripts h = record {
  one = opening_log s p;
  two = scripts;
  part_is = refl;
  is_first = fills-said-at (opened_classes s.types) (opening_stock (opened_classes s.types) s.pages p) (opening p);
  is_second = h;
}

rows-unused : (g : Program) (q : ℕ) (seats : List Seat) (log : Log) (world : LivingState) → RowsKept → (x : StoppedAt g q seats log world) → (c : ℕ) → times c (opened_classes g.scenario.now.types) ≡ 0 → seven_lists ((shown x.kept.caches).rows c) ≡ []
rows-unused g q seats log world kept x c none =
    let s = g.scenario.now in
    let h = x.stopped in
    let front : Log = opening_log s q ++ h.scripts in
    let lists : State ℕ = seen number_of (shown x.kept.caches) in
    let never = never-used s c none (list_any (uses_class c) s.types) refl in
    let row : lists.rows c ≡ (opening {A = ℕ} q).rows c = ap (λ (t : State ℕ). t.rows c) (sym h.leaves.lists) ∙ kept s q front h.stands h.done (front-is s q h.scripts h.are_scripts) c never in
    no-tokens (seven_lists ((shown x.kept.caches).rows c)) (map-seven number_of ((shown x.kept.caches).rows c) ∙ ap seven_lists row)

room-of : (g : Program) (q : ℕ) (kept : Kept) (world : LivingState) (classes : List ℕ) → Sound knows_living g (in_its_turn kept (at_turn q world)) → length classes ≤ 11 → HasRoom classes q world
room-of g q kept world classes s few = (let b = s.begins Tracing in let a = s.at.ready.asks in omega (arith, b, a, few))

-- ---- all of them

module _ (g : Program) (turns : List ℕ) (seats : List Seat) (world : LivingState) (b : Between g turns [] seats world) (stopped : AllStopped seats) (rows : RowsKept) where
  abbrev n : ℕ
  n = g.scenario.now.processors

  abbrev pages : ℕ
  pages = g.scenario.now.pages

  abbrev classes : List ℕ
  classes = opened_classes g.scenario.now.types

  abbrev made : Order
  made = all_openings g.scenario.now ++ b.order

  abbrev at : (q : ℕ) → q < n → StoppedAt g q seats (get_or b.logs q []) world
  at q lt = stopped-at g turns seats world b stopped q lt

  pub many-places : length (kept_by seats) ≡ n
  many-places = length-map (λ (x : Seat). x.kept) seats ∙ b.many

  pub some-processors : 0 < n
  some-processors = (let t = b.so_far.side.turn in let m = so-many n pages made world b.so_far.so_far in omega (arith, t, m))

  pub few-processors : n ≤ 8
  few-processors = (let t = b.so_far.side.most in let m = so-many n pages made world b.so_far.so_far in omega (arith, t, m))

  -- what processor 0 keeps
  pub first-kept : (kept : Kept) → Keeps (kept_by seats) 0 kept → (at 0 some-processors).kept ≡ kept
  first-kept kept keeps = same-kept (kept_by seats) 0 (at 0 some-processors).kept kept (at 0 some-processors).keeps keeps

  pub first-sound : (kept : Kept) → Keeps (kept_by seats) 0 kept → Sound knows_living g (in_its_turn kept (at_turn 0 world))
  first-sound kept keeps = subst (λ (k : Kept). Sound knows_living g (in_its_turn k (at_turn 0 world))) (first-kept kept keeps) (at 0 some-processors).sound

  pub first-told : (kept : Kept) → Keeps (kept_by seats) 0 kept → kept.caches.recorder.told ≡ Some (get_or b.logs 0 [])
  first-told kept keeps = subst (λ (k : Kept). k.caches.recorder.told ≡ Some (get_or b.logs 0 [])) (first-kept kept keeps) (at 0 some-processors).told

  first-ended : (kept : Kept) → Keeps (kept_by seats) 0 kept → kept.handlers.planned.ended ≡ true
  first-ended kept keeps = subst (λ (k : Kept). k.handlers.planned.ended ≡ true) (first-kept kept keeps) (at 0 some-processors).stopped.ended

  pub first-unlocked : (kept : Kept) → Keeps (kept_by seats) 0 kept → kept.locked ≡ None
  first-unlocked kept keeps = subst (λ (k : Kept). k.locked ≡ None) (first-kept kept keeps) (at 0 some-processors).stopped.unlocked

  -- what a processor may ask for is within its share
  share-at : (q : ℕ) (lt : q < n) → (at q lt).kept.settled + left_cost g.scenario.now (at q lt).kept.handlers.planned.left ≤ get_or b.shares q 0
  share-at q lt =
      let x = there-is seats q (subst (λ k. q < k) (sym b.many) lt) in
      let seat : Seat = x.0 in
      let i = b.seated q seat x.1 in
      let asks = i.asks in
      let own : i.kept.settled + left_cost g.scenario.now i.kept.handlers.planned.left ≤ get_or b.shares q 0 = omega (arith, asks) in
      let there : Keeps (kept_by seats) q i.kept = get-map (λ (y : Seat). y.kept) seats q seat x.1 ∙ ap Some i.kept_is in
      subst (λ (k : Kept). k.settled + left_cost g.scenario.now k.handlers.planned.left ≤ get_or b.shares q 0) (same-kept (kept_by seats) q i.kept (at q lt).kept there (at q lt).keeps) own

  -- .. so processor 0 may still make the calls that empty the maps
  pub first-room : (kept : Kept) → Keeps (kept_by seats) 0 kept → AreFew g world → HasRoomFor g (in_its_turn kept (at_turn 0 world))
  first-room kept keeps few =
      let share = subst (λ (k : Kept). k.settled + left_cost g.scenario.now k.handlers.planned.left ≤ get_or b.shares 0 0) (first-kept kept keeps) (share-at 0 some-processors) in
      let most = get_or-le-sum_by (λ x. x) b.shares 0 0 (subst (λ (k : ℕ). 0 < k) (sym b.shares_many) some-processors) in
      let all = b.few in
      let maps = few.0 in
      let items = few.1 in
      omega (arith, share, most, all, maps, items)

  module _ (kept later : Kept) (now : LivingState) (keeps : Keeps (kept_by seats) 0 kept) (few-maps : AreFew g world) (begins : BeginsClosing g kept (at_turn 0 world) (get_or b.logs 0 []) later now) where
    abbrev log : Log
    log = get_or b.logs 0 []

    -- what processor 0 has added by now
    abbrev pub gives : Log
    gives = begins.added

    abbrev before : Processor LivingState
    before = in_its_turn kept (at_turn 0 world)

    abbrev then : Processor LivingState
    then = in_its_turn later now

    his : IsSideOf 0 (at_turn 0 world).side
    his = his-side n pages 0 made b.logs world b.so_far some-processors

    own-side : IsSideOf 0 now.side
    own-side = (begins.tied.done_is.0.did 0 his).stays

    -- all of it is ordinary code's, since the processor has ended
    ordinary : AllAt 0 gives × (later.handlers.planned.ended ≡ true)
    ordinary =
        let p : Position = here g before in
        let q : Position = here g then in
        let one = (tells-here g before log (first-sound kept keeps) (first-told kept keeps)).stands in
        let two = (tells-here g then (log ++ gives) begins.sound begins.told).stands in
        let lines : q.lines ≡ p.lines = ap (λ k. planned_for k g.scenario.now) own-side.grace_is in
        let all = ended-stands p q log gives refl lines (runs-none g before (first-sound kept keeps)) (first-ended kept keeps) one two in
        (all.0, all.2)

    pub gives-at : AllAt 0 gives
    gives-at = ordinary.0

    pub gives-unswept : AllUnswept gives
    gives-unswept = given-unswept (declared_in g.scenario.now) 0 (seen number_of (shown kept.caches)) gives begins.said gives-at

    -- processor 0 still holds no lock
    gives-free : lock_in (log ++ gives) ≡ None
    gives-free =
        let part : part_of 0 made ≡ log = b.so_far.order_of.parts 0 (subst (λ k. 0 < k) (sym b.so_far.many) some-processors) in
        lock-more None log gives
        ∙ (given-unlocked (declared_in g.scenario.now) 0 (seen number_of (shown kept.caches)) gives begins.said gives-at (lock_in log)
        ∙ (ap lock_in (sym part) ∙ b.so_far.so_far.unheld 0))

    pub begun-stretch : Stretched n pages 0 made b.logs gives world now
    begun-stretch =
        let leaves = leaves-here g 0 before log refl (first-sound kept keeps) (first-told kept keeps) in
        let start : Leaves 0 log (after (opening 0) log) = record { named = leaves.named; lists = refl } in
        let last = leaves-here g 0 then (log ++ gives) own-side.grace_is begins.sound begins.told in
        stretched false n pages 0 made b.logs (log ++ gives) gives world now (seen number_of (shown later.caches)) b.so_far some-processors refl gives-free begins.tied start last (unswept-found 0 gives (world_over made (outset n pages)) gives-unswept)

    abbrev pub begun_logs : List Log
    begun_logs = set b.logs 0 (log ++ gives)

    abbrev places : List (Option Kept)
    places = set (kept_by seats) 0 (Some later)

    there : 0 < length (kept_by seats)
    there = subst (λ k. 0 < k) (sym many-places) some-processors

    there-logs : 0 < length b.logs
    there-logs = subst (λ k. 0 < k) (sym b.so_far.many) some-processors

    -- ---- what each keeps now

    -- what processor q has added by now
    abbrev pub given_by : ℕ → Log
    given_by zero = gives
    given_by (suc q) = []

    -- Ordinary code could go on on it; its log and its lists went on by what it added.
    pub record KeptThen (q : ℕ) (lt : q < n) : Type 0 where
      pub own : Kept
      pub there_now : Keeps places q own
      pub told : own.caches.recorder.told ≡ Some (get_or begun_logs q [])
      pub sound : Sound knows_living g (in_its_turn own (at_turn q now))
      pub ended : own.handlers.planned.ended ≡ true
      pub lists : seen number_of (shown own.caches) ≡ after (seen number_of (shown (at q lt).kept.caches)) (given_by q)

    first-then : (lt : 0 < n) → KeptThen 0 lt
    first-then lt =
        let x = at 0 lt in
        let same : x.kept ≡ kept = same-kept (kept_by seats) 0 x.kept kept x.keeps keeps in
        let one = leaves-here g 0 (in_its_turn x.kept (at_turn 0 world)) log refl x.sound x.told in
        let two = leaves-here g 0 then (log ++ gives) own-side.grace_is begins.sound begins.told in
        record {
          own = later;
          there_now = get-set-same (kept_by seats) 0 (Some later) there;
          told = begins.told ∙ ap Some (sym (get_or-set_same b.logs 0 (log ++ gives) [] there-logs));
          sound = subst (λ (w : LivingState). Sound knows_living g (in_its_turn later w)) (sym (at-own 0 now own-side)) begins.sound;
          ended = ordinary.1;
          lists = sym two.lists ∙ (after-append (opening 0) log gives ∙ ap (λ (t : State ℕ). after t gives) one.lists);
        }

    -- what all may ask for went up by the calls that emptied the maps
    asked-most : (q : ℕ) → q < n → q ≢ 0 → now.asked + get_or b.shares q 0 < 2 ^ 22
    asked-most q lt ne =
        let own : ℕ = later.settled + left_cost g.scenario.now later.handlers.planned.left in
        let sums : sum_by (λ x. x) (set b.shares 0 own) + get_or b.shares 0 0 ≡ sum_by (λ x. x) b.shares + own = sum_by-set (λ x. x) b.shares 0 own 0 (subst (λ (k : ℕ). 0 < k) (sym b.shares_many) some-processors) in
        let most = get_or-le-sum_by (λ x. x) (set b.shares 0 own) q 0 (subst (λ (k : ℕ). q < k) (sym (length-set b.shares 0 own ∙ b.shares_many)) lt) in
        let same = get_or-set_other b.shares 0 q own 0 ne in
        let share = subst (λ (k : Kept). k.settled + left_cost g.scenario.now k.handlers.planned.left ≤ get_or b.shares 0 0) (first-kept kept keeps) (share-at 0 some-processors) in
        let asks = begins.asks in
        let all = b.few in
        let maps = few-maps.0 in
        let items = few-maps.1 in
        omega (arith, sums, most, same, share, asks, all, maps, items)

    other-then : (q : ℕ) (lt : q < n) → q ≢ 0 → KeptThen q lt
    other-then q lt ne =
        let x = at q lt in
        let leaves = leaves-here g q (in_its_turn x.kept (at_turn q world)) (get_or b.logs q []) refl x.sound x.told in
        let alone = begun-stretch.alone q lt ne (shown x.kept.caches) (sym leaves.lists) in
        let share = share-at q lt in
        let most = asked-most q lt ne in
        record {
          own = x.kept;
          there_now = get-set-other (kept_by seats) 0 q (Some later) ne ∙ x.keeps;
          told = x.told ∙ ap Some (sym (get_or-set_other b.logs 0 q (log ++ gives) [] ne));
          sound = sound-alone g (in_its_turn x.kept (at_turn q world)) (at_turn q now) alone (omega (arith, share, most)) begins.sound.at.ready.stocked x.sound;
          ended = x.stopped.ended;
          lists = none-given q ne (seen number_of (shown x.kept.caches));
        }
      where
        none-given : (q : ℕ) → q ≢ 0 → (t : State ℕ) → t ≡ after t (given_by q)
        none-given zero ne t = absurd (ne refl)
        none-given (suc q) ne t = refl

    pub kept-then : (q : ℕ) (lt : q < n) → KeptThen q lt
    kept-then q lt = elim (cases_eq q 0) [
      | inl e ↦ subst (λ k. (h : k < n) → KeptThen k h) (sym e) first-then lt
      | inr ne ↦ other-then q lt ne
    ]

    -- ---- the world

    -- processor 0 is in a section or in none as before, and the others weren't moved
    word-then : (d : Domain) (q : ℕ) → q < n → (side d (known_living (at_turn q now))).word % 2 ≡ 0
    word-then d q lt = elim (cases_eq q 0) [
      | inl e ↦ subst (λ k. (side d (known_living (at_turn k now))).word % 2 ≡ 0) (sym e) (subst (λ (w : LivingState). (side d (known_living w)).word % 2 ≡ 0) (sym (at-own 0 now own-side)) (begins.parity d ∙ (at 0 some-processors).stopped.outside d))
      | inr ne ↦
          let x = at q lt in
          let leaves = leaves-here g q (in_its_turn x.kept (at_turn q world)) (get_or b.logs q []) refl x.sound x.told in
          ap (λ k. k % 2) ((begun-stretch.alone q lt ne (shown x.kept.caches) (sym leaves.lists)).words d) ∙ x.stopped.outside d
    ]

    many-then : now.side.grace.processors ≡ n
    many-then = so-many n pages (made ++ by 0 gives) now begun-stretch.so_far.so_far

    pub outside-then : AllOutside now
    outside-then Plain i lt = word-then Plain i (subst (λ k. i < k) many-then lt)
    outside-then Tracing i lt = word-then Tracing i (subst (λ k. i < k) many-then lt)

    pub many-now : length places ≡ n
    many-now = length-set (kept_by seats) 0 (Some later) ∙ many-places

    pub begun-tells : (q : ℕ) → q < n → TellsLog places q (get_or begun_logs q [])
    begun-tells q lt = let k = kept-then q lt in (k.own, k.there_now, k.told)

    pub rests-then : (q : ℕ) (lt : q < n) → IsResting (kept-then q lt).own (at_turn q now) (get_or begun_logs q [])
    rests-then q lt = record {
      told = (kept-then q lt).told;
      here = (kept-then q lt).sound.at.ready.here;
      fine = (kept-then q lt).sound.fine;
      outside = outside-at q now outside-then;
    }

    -- nothing stands in its lists of classes that no type uses
    unused-then : (q : ℕ) (lt : q < n) (c : ℕ) → times c classes ≡ 0 → seven_lists ((shown (kept-then q lt).own.caches).rows c) ≡ []
    unused-then q lt c none =
        let s = g.scenario.now in
        let x = at q lt in
        let never = never-used s c none (list_any (uses_class c) s.types) refl in
        let was : seven_lists ((seen number_of (shown x.kept.caches)).rows c) ≡ [] = sym (map-seven number_of ((shown x.kept.caches).rows c)) ∙ ap (map number_of) (rows-unused g q seats (get_or b.logs q []) world rows x c none) in
        let same = by-given q lt never in
        no-tokens (seven_lists ((shown (kept-then q lt).own.caches).rows c)) (map-seven number_of ((shown (kept-then q lt).own.caches).rows c) ∙ (ap seven_lists same ∙ was))
      where
        by-given : (q : ℕ) (lt : q < n) → list_any (uses_class c) g.scenario.now.types ≡ false → (seen number_of (shown (kept-then q lt).own.caches)).rows c ≡ (seen number_of (shown (at q lt).kept.caches)).rows c
        by-given zero lt never =
            let same : (at 0 lt).kept ≡ kept = same-kept (kept_by seats) 0 (at 0 lt).kept kept (at 0 lt).keeps keeps in
            ap (λ (t : State ℕ). t.rows c) (kept-then 0 lt).lists ∙ given-rows g.scenario.now 0 (seen number_of (shown (at 0 lt).kept.caches)) gives (subst (λ (k : Kept). GivesFirst (declared_in g.scenario.now) 0 (seen number_of (shown k.caches)) gives) (sym same) begins.said) gives-at c never
        by-given (suc q) lt never = ap (λ (t : State ℕ). t.rows c) (kept-then (suc q) lt).lists

    module _ (driven : AllDriven now) where
      together : AreTogether n places now
      together = record {
        many = many-now;
        processors_are = many-then;
        pages = pages;
        order = made ++ by 0 gives;
        logs = begun_logs;
        so_far = begun-stretch.so_far;
        logs_are = begun-tells;
        outside = outside-then;
        driven = driven;
      }

      abbrev pub CanEnd : List (Option Kept) → List ℕ → Type 0
      CanEnd ps cs = (p : ℕ) → p < length ps → IsAmong (OwnBefore Ends) (record { processors = length ps; places = ps; world = Some now; classes = cs }) p

      can-end : CanEnd places classes
      can-end q lt =
          let few : q < n = subst (λ k. q < k) many-now lt in
          let k = kept-then q few in
          record {
            world = now;
            world_is = refl;
            together = subst (λ (m : ℕ). AreTogether m places now) (sym many-now) together;
            there = lt;
            kept = k.own;
            log = get_or begun_logs q [];
            keeps = k.there_now;
            rests = rests-then q few;
            unused = unused-then q few;
            own = room-of g q k.own now classes k.sound (opened-few g.scenario.now.types);
          }

      -- Each may take its first step.
      pub all-can-end : (ps : List (Option Kept)) (cs : List ℕ) → ps ≡ places → cs ≡ classes → CanEnd ps cs
      all-can-end ps cs e f = subst (λ (z : List (Option Kept)). CanEnd z cs) (sym e) (subst (λ (z : List ℕ). CanEnd places z) (sym f) can-end)
