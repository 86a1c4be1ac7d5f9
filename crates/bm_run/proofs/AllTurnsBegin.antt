-- A run before its first turn: its processors are open, and are between turns.
use Rattle.std.specs.Prelude.{◌≡◌, ◌<◌, ◌≤◌, ◌+◌, ◌*◌, ◌%◌, ℕ, zero, suc, Bool, false, List, [], ◌∷◌, ◌++◌, Option, None, Some, IfSome, IsSome, get_or, if◌then◌else◌, length, replicate, set, slice_get, sum_by}
use Rattle.std.proofs.Common.{refl, sym, ◌∙◌, ap, subst, arith, inl, inr, append-nil}
use Rattle.std.proofs.lemmas.Bool.{cases_eq, cases_lt}
use Rattle.std.proofs.lemmas.List.{get_or-set_other, get_or-set_same, length-replicate, length-set}
use Rattle.std.proofs.lemmas.Option.{slice_get_within}
use Rattle.std.proofs.Math.ListN.{get_or-replicate}
use Rattle.std.proofs.lemmas.List.Sums.{sum_by-cons}
use Rattle.bm_journal.specs.declared.ids.Domain.TheVariants.{Plain, Tracing}
use Rattle.bm_lang.specs.declared.scenario.AtLine.{AtLine}
use Rattle.bm_lang.specs.declared.scenario.Parts.{Parts}
use Rattle.bm_lang.specs.declared.scenario.RunLine.{RunLine}
use Rattle.bm_lang.specs.Fine.{HasConditions}
use Rattle.bm_lang.specs.Limits.{first_limit}
use Rattle.bm_law.specs.Lists.{Leaves, Log}
use Rattle.bm_law.specs.State.{State}
use Rattle.bm_law_laid.specs.OrderOf.{IsOrderOf}
use Rattle.bm_law_order.specs.Orders.{Order}
use Rattle.bm_law_order.specs.Whole.{joined}
use Rattle.bm_law_places.proofs.Standing.{found-in-parts}
use Rattle.bm_law_scenario.specs.Grammar.{AreScripts, lines_of}
use Rattle.bm_law_scenario.specs.Opened.{opened_classes}
use Rattle.bm_law_work.specs.Grown.{GrewBy}
use Rattle.bm_cache.specs.Opening.{Fills, fill_log}
use Rattle.bm_due.specs.Due.{planned_for}
use Rattle.bm_exec.specs.Living.{Living, Lives, count_in}
use Rattle.bm_exec_levels.specs.AtProcessor.{lists_of, log_of}
use Rattle.bm_exec_levels.specs.Ready.{left_cost, left_of}
use Rattle.bm_exec_levels.specs.declared.kept.Kept.{Kept}
use Rattle.bm_exec_levels.specs.declared.processor.Processor.{Processor}
use Rattle.bm_exec_levels.specs.declared.program.Program.{Program}
use Rattle.bm_world.specs.LivingState.{LivingState, known_living}
use Rattle.bm_exec_levels.specs.Slotted.{in_hands}
use Rattle.bm_run.specs.AllTurns.{AllTold, AreSeats, IsSeatOf}
use Rattle.bm_run.specs.Asked.{in_its_turn}
use Rattle.bm_run.specs.Between.{AddUp, Between, all_openings, ended_of, owns}
use Rattle.bm_run.specs.InTurns.{AreTaken, TurnsSoFar}
use Rattle.bm_run.specs.Lines.{AreDeclared, lines_cost, works_for}
use Rattle.bm_run.specs.LogsSoFar.{AnswersAll, LogsSoFar, WaitsSoFar}
use Rattle.bm_run.specs.Opened.{IsOpen}
use Rattle.bm_run.specs.Openings.{AreOpen, filling_of, openings}
use Rattle.bm_run.specs.Seated.{IsRunning, IsSeated, opening_lists, opening_log, runs_or_stopped, seat_asks}
use Rattle.bm_run.specs.SoFar.{at_turn}
use Rattle.bm_run.specs.Turns.{IsOutside, lines_left, owned_by, stands_in, still_begun}
use Rattle.bm_run.specs.declared.seats.Seat.{Seat}
use Rattle.bm_run.specs.declared.turns.Begun.{Begun}
use Rattle.bm_run.proofs.OpeningLemmas.{no-hands}
use Rattle.bm_run.proofs.Sums.{sum-none}
use Rattle.bm_run.specs.declared.turns.Remaining.{Remaining}
use Rattle.bm_run.proofs.Bounds.{Within, cost-kept, few-planned, within}
use Rattle.bm_run.proofs.Declared.{all-declared}
use Rattle.bm_run.proofs.GoingOn.{all-cost}
use Rattle.bm_run.proofs.Lines.{down-when}
use Rattle.bm_run.proofs.OpeningTurns.{openings-batched, openings-found, openings-unswept}
use Rattle.bm_run.proofs.PiecesCut.{taken-begin}
use Rattle.bm_run.proofs.Stretch.{order-grown}
use Rattle.bm_run.proofs.TurnsInOrder.{turns-begin}

-- ---- the seats

seats-many : (lines : List RunLine) (p : ℕ) (kept : List Kept) (seats : List Seat) → AreSeats lines p kept seats → length seats ≡ length kept
seats-many lines p [] [] h = refl
seats-many lines p [] (x ∷ seats) h = absurd h
seats-many lines p (k ∷ kept) [] h = absurd h
seats-many lines p (k ∷ kept) (x ∷ seats) h = (let m = seats-many lines (p + 1) kept seats h.1 in omega (arith, m))

-- none has ended
seats-going : (lines : List RunLine) (p : ℕ) (kept : List Kept) (seats : List Seat) → AreSeats lines p kept seats → ended_of seats ≡ replicate (length kept) false
seats-going lines p [] [] h = refl
seats-going lines p [] (x ∷ seats) h = absurd h
seats-going lines p (k ∷ kept) [] h = absurd h
seats-going lines p (k ∷ kept) (x ∷ seats) h = ap (λ b. b ∷ ended_of seats) h.0.going ∙ ap (λ z. false ∷ z) (seats-going lines (p + 1) kept seats h.1)

-- each is one of those that are kept
seat-at : (lines : List RunLine) (p q i : ℕ) (kept : List Kept) (seats : List Seat) (seat : Seat) → AreSeats lines p kept seats → slice_get seats i ≡ Some seat → q ≡ p + i → (own : Kept) × (slice_get kept i ≡ Some own) × IsSeatOf lines q own seat
seat-at lines p q i [] [] seat h f e = absurd cc
seat-at lines p q i [] (x ∷ seats) seat h f e = absurd h
seat-at lines p q i (k ∷ kept) [] seat h f e = absurd h
seat-at lines p q zero (k ∷ kept) (x ∷ seats) seat h f e =
    let here : p ≡ q = omega (arith, e) in
    let same : x ≡ seat = cc in
    (k, refl, subst (λ n. IsSeatOf lines n k seat) here (subst (IsSeatOf lines p k) same h.0))
seat-at lines p q (suc i) (k ∷ kept) (x ∷ seats) seat h f e = seat-at lines (p + 1) q i kept seats seat h.1 f (omega (arith, e))

-- ---- the logs of the openings

-- no drop is among fills
fills-answered : (fs : Fills) → AnswersAll (fill_log fs)
fills-answered [] rest h = h
fills-answered (f ∷ fs) rest h = (tt, fills-answered fs rest h)

-- These are the logs of n processors when those below k have opened.
record OpenedLogs (s : Parts) (k : ℕ) (logs : List Log) : Type 0 where
  many : length logs ≡ s.processors
  order_of : IsOrderOf logs (openings (opened_classes s.types) s.pages k)
  opened : (p : ℕ) → p < k → get_or logs p [] ≡ opening_log s p
  unopened : (p : ℕ) → k ≤ p → get_or logs p [] ≡ []

same-replicated : {A : Type 0} (n p : ℕ) (x : A) → get_or (replicate n x) p x ≡ x
same-replicated zero p x = refl
same-replicated (suc n) zero x = refl
same-replicated (suc n) (suc p) x = same-replicated n p x

none-opened : (s : Parts) → OpenedLogs s 0 (replicate s.processors [])
none-opened s =
    let n = s.processors in
    let no_log : Log = [] in
    record {
      many = length-replicate n [];
      order_of = record { below = tt; parts = λ p lt. sym (same-replicated n p no_log) };
      opened = λ p lt. absurd (omega (arith, lt));
      unopened = λ p le. same-replicated n p no_log;
    }

-- another one opens
one-opened : (s : Parts) (k : ℕ) (logs : List Log) → k < s.processors → OpenedLogs s k logs → OpenedLogs s (suc k) (set logs k (get_or logs k [] ++ opening_log s k))
one-opened s k logs lt h =
    let classes = opened_classes s.types in
    let log = opening_log s k in
    let own : Log = get_or logs k [] ++ log in
    let there : k < length logs = subst (λ n. k < n) (sym h.many) lt in
    record {
      many = length-set logs k own ∙ h.many;
      order_of = order-grown k logs (openings classes s.pages k) log there h.order_of;
      opened = λ p below. elim (cases_eq p k) [
        | inl same ↦ subst (λ q. get_or (set logs k own) q [] ≡ opening_log s q) (sym same) (get_or-set_same logs k own [] there ∙ ap (λ (z : Log). z ++ log) (h.unopened k (omega arith)))
        | inr other ↦ get_or-set_other logs k p own [] other ∙ h.opened p (omega (arith, below, other))
      ];
      unopened = λ p above. get_or-set_other logs k p own [] (λ e. absurd (omega (arith, above, e))) ∙ h.unopened p (omega (arith, above));
    }

all-opened : (s : Parts) (k : ℕ) → k ≤ s.processors → (logs : List Log) × OpenedLogs s k logs
all-opened s zero few = (_, none-opened s)
all-opened s (suc k) few =
    let h = all-opened s k (omega (arith, few)) in
    (_, one-opened s k h.0 (omega (arith, few)) h.1)

-- ---- the world

first-kept : (kept : List Kept) → 0 < length kept → (own : Kept) × (slice_get kept 0 ≡ Some own)
first-kept [] lt = absurd (omega (arith, lt))
first-kept (own ∷ kept) lt = (own, refl)

logs-begin : (g : Program) (logs : List Log) (kept : List Kept) (world : LivingState) → AreOpen g (opened_classes g.scenario.now.types) kept world → OpenedLogs g.scenario.now g.scenario.now.processors logs →
    LogsSoFar g.scenario.now.processors g.scenario.now.pages (all_openings g.scenario.now) logs world
logs-begin g logs kept world opens h =
    let s : Parts = g.scenario.now in
    let n = s.processors in
    let classes = opened_classes s.types in
    record {
      many = h.many;
      order_of = h.order_of;
      so_far = opens.so_far;
      found = openings-found found-in-parts n s.pages classes world opens.so_far;
      answers = λ p. elim (cases_lt p n) [
        | inl below ↦ subst AnswersAll (sym (h.opened p below)) (fills-answered (filling_of classes s.pages p).fills)
        | inr above ↦ subst AnswersAll (sym (h.unopened p above)) (fills-answered [])
      ];
      turn = 0;
      side = opens.side;
    }

waits-begin : (g : Program) (kept : List Kept) (world : LivingState) → g.scenario.now.processors ≤ 8 → AreOpen g (opened_classes g.scenario.now.types) kept world → WaitsSoFar (all_openings g.scenario.now) world
waits-begin g kept world most opens =
    let s : Parts = g.scenario.now in
    let classes = opened_classes s.types in
    record {
      sealed = opens.sealed;
      batches = openings-batched s.processors s.pages classes most;
      unswept = openings-unswept classes s.pages s.processors;
    }

-- ---- a processor

-- what each may ask for
abbrev share : ℕ
share = 65000

room-of : (s : Parts) (p : ℕ) → Within s p → left_cost s (planned_for p s) + 3 * lines_cost p s.scripts s.runs ≤ 60000
room-of s p w =
    let k = cost-kept s p s.ats in
    let n = w.statements in
    omega (arith, k, n)

-- its plain section counts one, where it is in it
abbrev word_within : Bool → ℕ
word_within b = if b then 1 else 0

told-some : (o : Option Log) (es : Log) → IfSome o (λ x. x ≡ es) → IsSome o → o ≡ Some es
told-some None es h k = absurd cc
told-some (Some x) es h k = ap Some h

module _ (g : Program) (p : ℕ) (own : Kept) (world : LivingState) (seat : Seat) (fine : HasConditions g.scenario.now) (w : Within g.scenario.now p) (o : IsOpen g.scenario.now.processors p g (filling_of (opened_classes g.scenario.now.types) g.scenario.now.pages p) (in_its_turn own (at_turn p world))) (tells : IsSome own.caches.recorder.told) (is : IsSeatOf g.scenario.now.runs p own seat) where
  abbrev s : Parts
  s = g.scenario.now

  abbrev m : Processor LivingState
  m = in_its_turn own (at_turn p world)

  abbrev r : Remaining
  r = seat.remaining

  told-is : log_of m ≡ Some (opening_log s p)
  told-is = told-some (log_of m) (opening_log s p) o.told tells

  lists-are : lists_of m ≡ opening_lists s p
  lists-are =
      let at : IfSome (log_of m) (λ es. Leaves p es (lists_of m)) = subst (λ n. IfSome (log_of m) (λ es. Leaves n es (lists_of m))) (o.sound.at.ready.here ∙ o.processor) o.sound.fine.placed.told in
      let leaves : Leaves p (opening_log s p) (lists_of m) = subst (λ (x : Option Log). IfSome x (λ es. Leaves p es (lists_of m))) told-is at in
      sym leaves.lists

  outside : IsOutside (works_for s) m
  outside = record { down = down-when s.deferred (opened_classes s.types) (lists_of m) o.lowered; words = λ d. ap (λ k. k % 2) (o.words d); unlocked = o.locked }

  running : IsRunning s p m r
  running = record {
    goes = λ final x.
        let lines : lines_left r ≡ lines_of p s.runs = ap (λ k. lines_of k r.lines.now) is.processor ∙ ap (lines_of p) is.lines_are in
        let scripts : GrewBy (AreScripts s (lines_left r)) (lists_of m) (log_of m) final = subst (λ (b : Option Begun). GrewBy (still_begun s (works_for s) m b (AreScripts s (lines_left r))) (lists_of m) (log_of m) final) is.begun x in
        subst (λ ls. GrewBy (AreScripts s ls) (opening_lists s p) (Some (opening_log s p)) final) lines
        (subst (λ (l : State ℕ). GrewBy (AreScripts s (lines_left r)) l (Some (opening_log s p)) final) lists-are
        (subst (λ (x : Option Log). GrewBy (AreScripts s (lines_left r)) (lists_of m) x final) told-is scripts));
    can = record {
      stands = subst (λ (b : Option Begun). stands_in s (works_for s) m b) (sym is.begun) outside;
      declared = subst (AreDeclared s) (sym is.lines_are) (all-declared s fine);
    };
  }

  asks-few : seat_asks s m r ≤ share
  asks-few =
      let none = o.asked in
      let left : left_of m ≡ planned_for p s = o.planned in
      let cost = ap (left_cost s) left in
      let many = ap (λ (x : List AtLine). length x) left in
      let few = few-planned s p w in
      let plain = o.words Plain in
      let tracing = o.words Tracing in
      let outer : word_within m.inside ≡ 0 = ap word_within o.inside in
      let lines = all-cost s p r (record { own = is.processor; none = is.begun; all = is.lines_are }) in
      let room = room-of s p w in
      omega (arith, none, cost, many, few, plain, tracing, outer, lines, room)

  pub seat-begins : (log : Log) → log ≡ opening_log s p → IsSeated g p log (in_hands (known_living world).objects) share world seat
  seat-begins log same = record {
    kept = own;
    kept_is = is.kept;
    told = told-is ∙ ap Some (sym same);
    processor = is.processor;
    sound = o.sound;
    runs = subst (λ (b : Bool). runs_or_stopped b s p log m r) (sym is.going) running;
    owns = subst (λ (b : Option Begun). owned_by s (in_hands (known_living world).objects) (in_hands (known_living world).objects) b) (sym is.begun) refl;
    asks = asks-few;
  }

-- ---- all processors

sum-shares : (n : ℕ) → sum_by (λ k. k) (replicate n share) ≡ n * share
sum-shares zero = refl
sum-shares (suc n) = (let h = sum-shares n in let c = sum_by-cons (λ (k : ℕ). k) share (replicate n share) in omega (arith, h, c))

-- where none lives nobody has a reference
none-add-up : (n : ℕ) (lives : Lives) → ((u : ℕ) → lives u ≡ None) → AddUp n (λ p. lives) lives
none-add-up n lives none = record {
  some = λ u l e. absurd (some-none l (sym (none u) ∙ e));
  sums = λ u. sum-none n (λ p. owns lives lives u) (λ r lt. omega arith) ∙ sym (ap count_in (none u));
}
  where
    some-none : (l : Living) → None ≡ Some l → ⊥
    some-none l e = cc

-- Open processors, each of which tells its log and has a seat, are between turns, of which none has been taken.
pub between-begin : (g : Program) (turns : List ℕ) (kept : List Kept) (seats : List Seat) (world : LivingState) → HasConditions g.scenario.now → first_limit g.scenario.now ≡ None → AreOpen g (opened_classes g.scenario.now.types) kept world → AllTold kept → AreSeats g.scenario.now.runs 0 kept seats → Between g turns turns seats world
between-begin g turns kept seats world fine limits opens tell are =
    let s : Parts = g.scenario.now in
    let n = s.processors in
    let classes = opened_classes s.types in
    let some : 0 < n = fine.processors in
    let most : n ≤ 8 = (within s 0 some limits).processors in
    let opened = all-opened s n (omega arith) in
    let logs : List Log = opened.0 in
    let first = first-kept kept (let m = opens.many in omega (arith, m, some)) in
    let o = opens.each 0 first.0 first.1 in
    let all = seats-many s.runs 0 kept seats are ∙ opens.many in
    let going : replicate n false ≡ ended_of seats = sym (seats-going s.runs 0 kept seats are ∙ ap (λ k. replicate k false) opens.many) in
    let no_pieces : List Log = [] in
    let order : all_openings s ≡ all_openings s ++ [] = sym (append-nil (all_openings s)) in
    record {
      many = all;
      order = [];
      taken = replicate n [];
      logs = logs;
      bases = λ p. (in_hands (known_living world).objects);
      shares = replicate n share;
      turned = subst (λ (ended : List Bool). TurnsSoFar n turns turns (replicate n []) ended []) going (turns-begin n turns);
      pieces = subst (λ (ended : List Bool). AreTaken n (replicate n []) ended) going (taken-begin n);
      logs_are = λ p lt. opened.1.opened p lt ∙ sym (ap (λ (z : List Log). opening_log s p ++ joined z) (same-replicated n p no_pieces) ∙ append-nil (opening_log s p));
      so_far = subst (λ (x : Order). LogsSoFar n s.pages x logs world) order (logs-begin g logs kept world opens opened.1);
      waits = subst (λ (x : Order). WaitsSoFar x world) order (waits-begin g kept world most opens);
      seated = λ p seat f.
          let lt : p < n = (let x = slice_get_within seats p seat f in omega (arith, x, all)) in
          let at = seat-at s.runs 0 p p kept seats seat are f (omega arith) in
          subst (λ k. IsSeated g p (get_or logs p []) (in_hands (known_living world).objects) k world seat) (sym (get_or-replicate n p share 0 lt))
          (seat-begins g p at.0 world seat fine (within s p lt limits) (opens.each p at.0 at.1) (tell p at.0 at.1) at.2 (get_or logs p []) (opened.1.opened p lt));
      add_up = none-add-up n (in_hands (known_living world).objects) (λ u. no-hands (known_living world).objects u (o.none u));
      shares_many = length-replicate n share;
      few = (let a = o.asked in let sum = sum-shares n in omega (arith, a, sum, most));
    }
