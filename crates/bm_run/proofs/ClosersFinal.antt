-- What the closing of all processors leaves, by what each of them did.
use Rattle.std.specs.Prelude.{◌≤◌, ◌-◌, ◌%◌, ◌||◌, nat_eq, get_or, length, map, replicate, set, slice_get}
use Rattle.std.proofs.Common.{◌≡◌, ◌<◌, ℕ, zero, suc, Bool, true, false, List, [], ◌∷◌, ◌++◌, Option, None, Some, arith, refl, sym, ◌∙◌, ap, subst, inl, inr, append-nil, append_assoc, eq-eqb}
use Rattle.std.proofs.lemmas.Bool.{cases_lt}
use Rattle.std.proofs.lemmas.List.{get_or-set_other, get_or-set_same, length-replicate}
use Rattle.std.proofs.lemmas.Option.{get_or_from_slice_get}
use Rattle.bm_journal.specs.declared.ids.Domain.{Domain}
use Rattle.bm_journal.specs.declared.ids.Domain.TheVariants.{Plain, Tracing}
use Rattle.bm_journal.specs.declared.entry.Entry.TheVariants as entry
use Rattle.bm_journal.specs.declared.past.Past.{Past}
use Rattle.bm_lang.specs.declared.scenario.Parts.{Parts}
use Rattle.bm_law.specs.Alone.{AllAt}
use Rattle.bm_law.specs.Lists.{Leaves, Log, after}
use Rattle.bm_law.specs.Spans.{own_entries}
use Rattle.bm_law.specs.Stands.{times}
use Rattle.bm_law.specs.State.{State, opening, seen, seen_row}
use Rattle.bm_law.proofs.Folds.{after-append}
use Rattle.bm_law.proofs.Spans.{own-append}
use Rattle.bm_law_logs.specs.SweepsTold.{SweepsTold}
use Rattle.bm_law_order.specs.Orders.{Order, by}
use Rattle.bm_law_scenario.specs.Closing.{EndsOne, EndsPeriods, in_progress}
use Rattle.bm_law_scenario.specs.Opened.{opened_classes}
use Rattle.bm_law_work.specs.Parts.{Part, Then}
use Rattle.bm_law_work.proofs.Each.{AllOf, of-append, part-then}
use Rattle.bm_due.specs.Standing.{HandlersStand}
use Rattle.bm_grace.specs.Known.{Objects}
use Rattle.bm_cache.specs.Shown.{shown}
use Rattle.bm_cache.specs.Tokens.{Token, number_of}
use Rattle.bm_plan.proofs.Positions.{whole}
use Rattle.bm_world.specs.GraphItems.{history_told}
use Rattle.bm_world.specs.LivingState.{LivingState, known_living}
use Rattle.bm_closing.specs.declared.crew.Phase.TheVariants.{Ends, Sweeps}
use Rattle.bm_exec_levels.specs.declared.kept.Kept.{Kept}
use Rattle.bm_exec_levels.specs.declared.processor.Processor.{Processor}
use Rattle.bm_exec_levels.specs.declared.program.Program.{Program}
use Rattle.bm_exec_levels.specs.Slotted.{AreStocked, AreUnused, in_hands}
use Rattle.bm_lang.specs.declared.scenario.MapDeclaration.{MapDeclaration}
use Rattle.bm_lang.specs.declared.scenario.MapKind.TheVariants.{Slot}
use Rattle.bm_run.specs.Asked.{in_its_turn}
use Rattle.bm_run.specs.Between.{AllClosed, AllStopped, Between, ClosesAs, GivesFirst, IsFinal, all_openings, ended_of, owns}
use Rattle.bm_run.specs.Closers.{AllDriven, AreFew, BeginsClosing, CloseTogether, Gathered, Keeps, TellsHistories, TellsLog, log_kept}
use Rattle.bm_run.specs.InTurns.{one_by_one}
use Rattle.bm_run.specs.LogsSoFar.{LogsSoFar, Stretched}
use Rattle.bm_run.specs.Seated.{opening_log}
use Rattle.bm_run.specs.SoFar.{at_turn}
use Rattle.bm_run.specs.declared.seats.Seat.{Seat}
use Rattle.bm_run.proofs.Closes.{IsLate, LawfulSoFar, ends-late, late-goes-on, sweeps-late}
use Rattle.bm_law_laid.specs.OrderOf.{AllBelow}
use Rattle.bm_law_laid.proofs.Parts.{boxes-fit, boxes-over}
use Rattle.bm_law_order.specs.ByDomain.{of}
use Rattle.bm_law_order.specs.Orders.{over, shared_over}
use Rattle.bm_law_order.specs.Parcels.{boxes_after}
use Rattle.bm_law_order.specs.Shared.{Shared, fresh}
use Rattle.bm_law_order.specs.Story.{plainly}
use Rattle.bm_law_scenario.proofs.PartLaws.{among}
use Rattle.bm_grace.specs.AtRest.{IsDriven}
use Rattle.bm_grace.specs.Kept.{parity}
use Rattle.bm_grace.specs.Known.{Lives, Living}
use Rattle.bm_world.specs.Lives.{count_in}
use Rattle.bm_grace.specs.PlainState.{DomainState}
use Rattle.bm_world.specs.Told.{told_boxes}
use Rattle.bm_world.specs.ToldLiving.{knows_living, told_living}
use Rattle.bm_run.specs.Closers.{AllDone, IsAmong, OwnAfter}
use Rattle.bm_run.specs.ClosersCrew.{all-done}
use Rattle.bm_run.proofs.ClosersBegin.{KeptThen, StoppedAt, begun-stretch, begun-tells, front-is, get-map, given_by, gives-at, kept-then, kept_by, many-now, some-processors, stopped-at, stopped-ended, stopped-owns}
use Rattle.bm_law_order.specs.Graphs.{graph_names_in, standing_from}
use Rattle.bm_run.proofs.EmptiedSlots.{AllPutNone, along-append, emptied, hands-all, split-at, split-puts}
use Rattle.bm_run.proofs.GivenLaws.{given-progress, given-puts, given-sends}
use Rattle.bm_run.proofs.SeatAfter.{leaves-here}
use Rattle.bm_law_order.specs.Slots.{Contents, named_in}
use Rattle.bm_law_order.proofs.Along.{over-append}
use Rattle.bm_law_objects.specs.Objects.{Owned, OwnedFit, nothing_owned, owned_after}
use Rattle.bm_law_scenario.specs.Declared.{declared_in}
use Rattle.bm_plan.specs.Position.{StandsAt}
use Rattle.bm_exec_levels.specs.Ready.{known_of}
use Rattle.bm_exec_levels.specs.Sound.{Sound}
use Rattle.bm_exec_levels.specs.AtProcessor.{log_of}
use Rattle.bm_world.specs.Contents.{are_apart}
use Rattle.bm_run.proofs.ClosersBoxes.{NoneSends, OrderSendsNone, beyond, log-sends, order-sends, unsent}
use Rattle.std.proofs.lemmas.Bool.{cases_Bool}
use Rattle.std.proofs.lemmas.Bool.Decides.{nat_tests}
use Rattle.bm_run.proofs.ClosersSteps.{AfterSteps, Did, steps-taken}
use Rattle.bm_run.proofs.ClosersTaken.{same-kept}
use Rattle.bm_run.proofs.LogLaw.{RowsKept, here, tells-here}
use Rattle.bm_run.proofs.Sections.{runs-none}
use Rattle.bm_run.proofs.Sums.{sum-none}
use Rattle.bm_run.proofs.WholeInTurns.{first-alone}

-- ---- lists

same-some : {A : Type 0} {x y : A} → Some x ≡ Some y → x ≡ y
same-some q = cc

list-same : (xs ys : List Log) → length xs ≡ length ys → ((q : ℕ) → q < length xs → get_or xs q [] ≡ get_or ys q []) → xs ≡ ys
list-same [] [] e h = refl
list-same [] (y ∷ ys) e h = absurd (omega (arith, e))
list-same (x ∷ xs) [] e h = absurd (omega (arith, e))
list-same (x ∷ xs) (y ∷ ys) e h =
    let first : x ≡ y = h 0 (omega arith) in
    let rest : xs ≡ ys = list-same xs ys (omega (arith, e)) (λ q lt. h (suc q) (omega (arith, lt))) in
    rw (first, rest) refl

get-unmap : (xs : List Log) (q : ℕ) (x : Log) → slice_get (map Some xs) q ≡ Some (Some x) → slice_get xs q ≡ Some x
get-unmap [] q x e = absurd (cc)
get-unmap (y ∷ xs) zero x e = same-some e
get-unmap (y ∷ xs) (suc q) x e = get-unmap xs q x e

length-mapped : {A B : Type 0} (f : A → B) (xs : List A) → length (map f xs) ≡ length xs
length-mapped f [] = refl
length-mapped f (x ∷ xs) = ap suc (length-mapped f xs)

none-replicated : (n q : ℕ) → get_or {A = Log} (replicate n []) q [] ≡ []
none-replicated zero q = refl
none-replicated (suc n) zero = refl
none-replicated (suc n) (suc q) = none-replicated n q

at-append : (a b : Log) → AllAt 0 a → AllAt 0 b → AllAt 0 (a ++ b)
at-append [] b h k = k
at-append (e ∷ a) b h k = (h.0, at-append a b h.1 k)

-- the log that was told
told-final : (finals logs : List Log) (places : List (Option Kept)) (q : ℕ) → map Some finals ≡ map log_kept places → TellsLog places q (get_or logs q []) → get_or finals q [] ≡ get_or logs q []
told-final finals logs places q e t =
    let there : slice_get (map Some finals) q ≡ Some (Some (get_or logs q [])) = ap (λ z. slice_get z q) e ∙ (get-map log_kept places q (Some t.0) t.1 ∙ ap Some t.2) in
    get_or_from_slice_get finals q (get_or logs q []) [] (get-unmap finals q (get_or logs q []) there)

-- ---- periods in progress

in-progress-append : (d : Domain) (o : Option ℕ) (a b : Log) → in_progress d o (a ++ b) ≡ in_progress d (in_progress d o a) b
in-progress-append d o [] b = refl
in-progress-append d o (e ∷ a) b = in-progress-append d _ a b

late-progress : (d : Domain) (front given : Log) → ((o : Option ℕ) → in_progress d o given ≡ o) → in_progress d None ((front ++ (0, entry.Ended) ∷ []) ++ given) ≡ in_progress d None front
late-progress d front given keeps =
    in-progress-append d None (front ++ (0, entry.Ended) ∷ []) given
    ∙ (keeps (in_progress d None (front ++ (0, entry.Ended) ∷ [])) ∙ in-progress-append d None front ((0, entry.Ended) ∷ []))

same-ends : (a b : Log) → ((d : Domain) → in_progress d None a ≡ in_progress d None b) → EndsPeriods a ≡ EndsPeriods b
same-ends a b e = by-both (e Plain) (e Tracing)
  where
    by-both : {v w x y : Option ℕ} → v ≡ w → x ≡ y → Then (EndsOne Plain v) (EndsOne Tracing x) ≡ Then (EndsOne Plain w) (EndsOne Tracing y)
    by-both {v} {w} {x} {y} p q = rw (p, q) refl

-- ---- late entries

periods-late : (front : Log) (s : State ℕ) (part : Log) → EndsPeriods front s part → AllOf IsLate (own_entries 0 part)
periods-late front s part h =
    let plain = in_progress Plain None front in
    let tracing = in_progress Tracing None front in
    part-then IsLate 0 (EndsOne Plain plain) (EndsOne Tracing tracing) (ends-late Plain plain) (ends-late Tracing tracing) s part h

late-append : (a b : Log) → AllOf IsLate (own_entries 0 a) → AllOf IsLate (own_entries 0 b) → AllOf IsLate (own_entries 0 (a ++ b))
late-append a b h k = subst (AllOf IsLate) (sym (own-append 0 a b)) (of-append IsLate (own_entries 0 a) (own_entries 0 b) h k)

-- ---- what processor 0 gives up before

abbrev pub given_of : ℕ → Log → List Log
given_of n gives = gives ∷ replicate (n - 1) []

given-many : (n : ℕ) (gives : Log) → 0 < n → length (given_of n gives) ≡ n
given-many n gives lt = (let l = length-replicate {A = Log} (n - 1) [] in omega (arith, l, lt))

given-at : (n : ℕ) (gives : Log) (p : ℕ) → AllAt 0 gives → AllAt 0 (get_or (given_of n gives) p [])
given-at n gives zero h = h
given-at n gives (suc p) h = subst (AllAt 0) (sym (none-replicated (n - 1) p)) tt

-- ---- one processor's log, in plain words

-- The log of a processor that has stopped and gave something up first, with what it added in the closing.
one-final : (g : Program) (p : ℕ) (seats : List Seat) (world : LivingState) (log : Log) (x : StoppedAt g p seats log world) (m : Processor LivingState) (classes : List ℕ) (given finishes sweeps : Log) →
    let lists : State ℕ = seen number_of (shown x.kept.caches) in
    let front : Log = opening_log g.scenario.now p ++ x.stopped.scripts in
    let final : Log = (log ++ given) ++ (finishes ++ sweeps) in
    Sound knows_living g m → log_of m ≡ Some (log ++ given) → m.handlers.planned.ended ≡ true → (known_of knows_living m).grace.processor ≡ p → AllAt 0 given → GivesFirst (declared_in g.scenario.now) p lists given →
    ClosesAs classes front (after lists given) p final finishes sweeps → classes ≡ opened_classes g.scenario.now.types → IsFinal g.scenario.now p final given finishes sweeps
one-final g p seats world log x m classes given finishes sweeps sound told ended first at_given is_given closes same =
    let s = g.scenario.now in
    let h = x.stopped in
    let more : Log = finishes ++ sweeps in
    let lists : State ℕ = seen number_of (shown x.kept.caches) in
    let front : Log = opening_log s p ++ h.scripts in
    let at : AllAt 0 more = at-append finishes sweeps closes.finishes_at closes.sweeps_at in
    let late : AllOf IsLate (own_entries 0 more) =
    late-append finishes sweeps (periods-late front (after lists given) finishes closes.finishes_are) (sweeps-late classes closes.boxes (after (after lists given) finishes) sweeps closes.sweeps_are) in
    let here-at : LawfulSoFar p (here g m) s (log ++ given) = subst (λ k. LawfulSoFar k (here g m) s (log ++ given)) first (tells-here g m (log ++ given) sound told) in
    let goes : LawfulSoFar p (here g m) s ((log ++ given) ++ more) = late-goes-on p (here g m) s (log ++ given) more (runs-none g m sound) ended at late here-at in
    record {
      scripts = h.scripts;
      final_is = append_assoc log given more ∙ (ap (λ (z : Log). z ++ (given ++ more)) h.log_is ∙ append_assoc front ((0, entry.Ended) ∷ []) (given ++ more));
      are_scripts = h.are_scripts;
      front_stands = h.stands;
      front_done = h.done;
      lists = lists;
      front_leaves = h.leaves;
      given_at = at_given;
      given_is = is_given;
      stands = subst (λ k. HandlersStand s k ((log ++ given) ++ more)) first (stands-whole m ((log ++ given) ++ more) (runs-none g m sound) goes.stands);
      done = goes.done;
      closes = subst (λ cs. ClosesAs cs front (after lists given) p ((log ++ given) ++ more) finishes sweeps) same closes;
    }
  where
    stands-whole : (m : Processor LivingState) (z : Log) → (here g m).running ≡ [] → StandsAt (here g m) z → HandlersStand g.scenario.now (known_of knows_living m).grace.processor z
    stands-whole m z none at = whole (here g m) z none at

-- ---- the world at the end

undriven : (n : ℕ) (here : DomainState) → IsDriven n here → here.number % 2 ≡ 0 → here.driver ≡ None
undriven n here d even = by here.driver refl
  where
    by : (o : Option ℕ) → here.driver ≡ o → here.driver ≡ None
    by None e = e
    by (Some q) e = absurd (let odd : here.number % 2 ≡ 1 = d.parity_is ∙ ap parity e in omega (arith, odd, even))

among-times : (k : ℕ) (cs : List ℕ) → among k cs ≡ true → 0 < times k cs
among-times k [] h = absurd (cc)
among-times k (x ∷ cs) h = by (among-times k cs) (nat_eq k x) refl
  where
    by : (among k cs ≡ true → 0 < times k cs) → (b : Bool) → nat_eq k x ≡ b → 0 < times k (x ∷ cs)
    by more true e = (let same : k ≡ x = grind (arith, nat_tests, e) in rw (eq-eqb k x same) (omega arith))
    by more false e =
        let rest : among k cs ≡ true = subst (λ b. (b || among k cs) ≡ true) e h in
        let l = more rest in
        omega (arith, l)

-- ---- all of them

module _ (g : Program) (turns : List ℕ) (seats : List Seat) (world : LivingState) (b : Between g turns [] seats world) (stopped : AllStopped seats) (rows : RowsKept) (kept later : Kept) (now : LivingState) (keeps : Keeps (kept_by seats) 0 kept) (few-maps : AreFew g world) (begins : BeginsClosing g kept (at_turn 0 world) (get_or b.logs 0 []) later now) (apart : are_apart (map (λ (m : MapDeclaration). m.name) g.scenario.now.maps) ≡ true) (finals : List Log) (histories : List (List ℕ × List Past)) where
  abbrev s : Parts
  s = g.scenario.now

  abbrev n : ℕ
  n = s.processors

  abbrev classes : List ℕ
  classes = opened_classes s.types

  abbrev places : List (Option Kept)
  places = set (kept_by seats) 0 (Some later)

  abbrev gives : Log
  gives = begins.added

  abbrev given : List Log
  given = given_of n gives

  -- what processor 0 gave up is ordinary code's
  first-at : AllAt 0 gives
  first-at = gives-at g turns seats world b stopped rows kept later now keeps few-maps begins

  gives-is : (p : ℕ) (lt : p < n) → GivesFirst (declared_in s) p (seen number_of (shown (stopped-at g turns seats world b stopped p lt).kept.caches)) (get_or given p [])
  gives-is zero lt =
      let x = stopped-at g turns seats world b stopped 0 lt in
      let same : x.kept ≡ kept = same-kept (kept_by seats) 0 x.kept kept x.keeps keeps in
      subst (λ (k : Kept). GivesFirst (declared_in s) 0 (seen number_of (shown k.caches)) gives) (sym same) begins.said
  gives-is (suc p) lt = subst (GivesFirst (declared_in s) (suc p) (seen number_of (shown (stopped-at g turns seats world b stopped (suc p) lt).kept.caches))) (sym (none-replicated (n - 1) p)) (record { one = []; two = []; part_is = refl; is_first = record { from = tt; own_is = refl }; is_second = refl })

  abbrev made : Order
  made = all_openings s ++ b.order

  abbrev one : List Log
  one = set b.logs 0 (get_or b.logs 0 [] ++ gives)

  abbrev crew : Gathered
  crew = record { processors = n; places = places; world = Some now; classes = classes }

  some : 0 < n
  some = some-processors g turns seats world b stopped rows

  began : Stretched n s.pages 0 made b.logs gives world now
  began = begun-stretch g turns seats world b stopped rows kept later now keeps few-maps begins

  one-is : (p : ℕ) → get_or one p [] ≡ get_or b.logs p [] ++ get_or given p []
  one-is zero = get_or-set_same b.logs 0 (get_or b.logs 0 [] ++ gives) [] (subst (λ k. 0 < k) (sym b.so_far.many) some)
  one-is (suc p) =
      get_or-set_other b.logs 0 (suc p) (get_or b.logs 0 [] ++ gives) [] (λ e. absurd (omega (arith, e)))
      ∙ (sym (append-nil (get_or b.logs (suc p) [])) ∙ ap (λ (z : Log). get_or b.logs (suc p) [] ++ z) (sym (none-replicated (n - 1) p)))

  pub crew-as : (ps : List (Option Kept)) (cs : List ℕ) → ps ≡ places → cs ≡ classes → CloseTogether (record { processors = length ps; places = ps; world = Some now; classes = cs }) finals histories → CloseTogether crew finals histories
  crew-as ps cs e f h =
      let many : length places ≡ n = many-now g turns seats world b stopped rows kept later now keeps few-maps begins in
      subst (λ m. CloseTogether (record { processors = m; places = places; world = Some now; classes = classes }) finals histories) many
      (subst (λ (z : List ℕ). CloseTogether (record { processors = length places; places = places; world = Some now; classes = z }) finals histories) f
      (subst (λ (z : List (Option Kept)). CloseTogether (record { processors = length z; places = z; world = Some now; classes = cs }) finals histories) e h))

  module _ (c : CloseTogether crew finals histories) where
    pub ends : AfterSteps Ends n s.pages (made ++ by 0 gives) one now crew c.middle n
    ends = steps-taken Ends n s.pages (made ++ by 0 gives) one now crew c.middle n (omega arith) (many-now g turns seats world b stopped rows kept later now keeps few-maps begins) began.so_far refl (begun-tells g turns seats world b stopped rows kept later now keeps few-maps begins) c.ends

    pub sweeps : AfterSteps Sweeps n s.pages ((made ++ by 0 gives) ++ one_by_one 0 ends.added) ends.now_logs ends.now c.middle c.now n
    sweeps = steps-taken Sweeps n s.pages ((made ++ by 0 gives) ++ one_by_one 0 ends.added) ends.now_logs ends.now c.middle c.now n (omega arith) (ends.length_same ∙ many-now g turns seats world b stopped rows kept later now keeps few-maps begins) ends.so_far ends.now_is ends.tells c.sweeps

    abbrev final_of : ℕ → Log
    final_of p = (get_or b.logs p [] ++ get_or given p []) ++ (get_or ends.added p [] ++ get_or sweeps.added p [])

    ended-is : (p : ℕ) → get_or ends.now_logs p [] ++ get_or sweeps.added p [] ≡ final_of p
    ended-is p =
        ap (λ (z : Log). z ++ get_or sweeps.added p []) (ends.logs_are p ∙ ap (λ (z : Log). z ++ get_or ends.added p []) (one-is p))
        ∙ append_assoc (get_or b.logs p [] ++ get_or given p []) (get_or ends.added p []) (get_or sweeps.added p [])

    told-is : (p : ℕ) → get_or sweeps.now_logs p [] ≡ final_of p
    told-is p = sweeps.logs_are p ∙ ended-is p

    final-is : (p : ℕ) → p < n → get_or finals p [] ≡ final_of p
    final-is p lt = told-final finals sweeps.now_logs c.now.places p c.logs_are (sweeps.tells p lt) ∙ told-is p

    finals-are : finals ≡ sweeps.now_logs
    finals-are =
        let many : length finals ≡ n = sym (length-mapped Some finals) ∙ (ap length c.logs_are ∙ (length-mapped log_kept c.now.places ∙ (sweeps.length_same ∙ (ends.length_same ∙ many-now g turns seats world b stopped rows kept later now keeps few-maps begins)))) in
        list-same finals sweeps.now_logs (many ∙ sym sweeps.so_far.many) (λ q lt. told-final finals sweeps.now_logs c.now.places q c.logs_are (sweeps.tells q (subst (λ k. q < k) many lt)))

    -- ---- one of them

    module _ (p : ℕ) (lt : p < n) where
      abbrev x : StoppedAt g p seats (get_or b.logs p []) world
      x = stopped-at g turns seats world b stopped p lt

      abbrev lists : State ℕ
      lists = seen number_of (shown x.kept.caches)

      abbrev front : Log
      front = opening_log s p ++ x.stopped.scripts

      first : KeptThen g turns seats world b stopped rows kept later now keeps few-maps begins p lt
      first = kept-then g turns seats world b stopped rows kept later now keeps few-maps begins p lt

      -- its lists once it gave something up
      lists-given : seen number_of (shown first.own.caches) ≡ after lists (get_or given p [])
      lists-given = first.lists ∙ ap (after lists) (given-is p)
        where
          given-is : (p : ℕ) → given_by g turns seats world b stopped rows kept later now keeps few-maps begins p ≡ get_or given p []
          given-is zero = refl
          given-is (suc p) = sym (none-replicated (n - 1) p)

      is-given : GivesFirst (declared_in s) p lists (get_or given p [])
      is-given = gives-is p lt

      own : Did Ends classes places c.middle.places p (get_or one p []) (get_or ends.added p [])
      own = ends.each p lt

      swept : Did Sweeps classes c.middle.places c.now.places p (get_or ends.now_logs p []) (get_or sweeps.added p [])
      swept = subst (λ cs. Did Sweeps cs c.middle.places c.now.places p (get_or ends.now_logs p []) (get_or sweeps.added p [])) ends.classes_same (sweeps.each p lt)

      first-lists : shown own.kept.caches ≡ shown first.own.caches
      first-lists = ap (λ (k : Kept). shown k.caches) (same-kept places p own.kept first.own own.keeps first.there_now)

      middle-kept : swept.kept ≡ own.later
      middle-kept = same-kept c.middle.places p swept.kept own.later swept.keeps own.keeps_now

      middle-lists : shown own.later.caches ≡ shown first.own.caches
      middle-lists = own.lists ∙ first-lists

      periods : EndsPeriods front (after lists (get_or given p [])) (get_or ends.added p [])
      periods =
          let said : EndsPeriods (get_or one p []) (seen number_of (shown first.own.caches)) (get_or ends.added p []) = subst (λ (t : State Token). EndsPeriods (get_or one p []) (seen number_of t) (get_or ends.added p [])) first-lists own.said in
          let there : EndsPeriods (get_or one p []) (after lists (get_or given p [])) (get_or ends.added p []) = subst (λ (t : State ℕ). EndsPeriods (get_or one p []) t (get_or ends.added p [])) lists-given said in
          let log_is : get_or one p [] ≡ (front ++ (0, entry.Ended) ∷ []) ++ get_or given p [] = one-is p ∙ ap (λ (z : Log). z ++ get_or given p []) x.stopped.log_is in
          let keeps = given-progress (declared_in s) p lists (get_or given p []) is-given (given-at n gives p first-at) in
          subst (λ (P : Part). P (after lists (get_or given p [])) (get_or ends.added p [])) (same-ends (get_or one p []) front (λ d. ap (in_progress d None) log_is ∙ late-progress d front (get_or given p []) (keeps d))) there

      before-leaves : Leaves p (get_or one p []) (seen number_of (shown first.own.caches))
      before-leaves = leaves-here g p (in_its_turn first.own (at_turn p now)) (get_or one p []) refl first.sound first.told

      lists-then : after (after lists (get_or given p [])) (get_or ends.added p []) ≡ seen number_of (shown swept.kept.caches)
      lists-then =
          ap (λ (t : State ℕ). after t (get_or ends.added p [])) (sym (before-leaves.lists ∙ lists-given))
          ∙ (sym (after-append (opening p) (get_or one p []) (get_or ends.added p []))
          ∙ (own.leaves.lists ∙ ap (λ (k : Kept). seen number_of (shown k.caches)) (sym middle-kept)))

      closes : ClosesAs classes front (after lists (get_or given p [])) p (final_of p) (get_or ends.added p []) (get_or sweeps.added p [])
      closes = record {
        finishes_at = own.at;
        finishes_are = periods;
        boxes = swept.said.0;
        sweeps_at = swept.at;
        sweeps_are = subst (λ (t : State ℕ). SweepsTold classes swept.said.0 t (get_or sweeps.added p [])) (sym lists-then) swept.said.1;
        last = shown swept.later.caches;
        leaves = subst (λ (z : Log). Leaves p z (seen number_of (shown swept.later.caches))) (ended-is p) swept.leaves;
        ready = swept.ready;
        empty = swept.lists.empty;
        others = λ k none. ap (seen_row number_of) (swept.lists.others k none ∙ (ap (λ (h : Kept). (shown h.caches).rows k) middle-kept ∙ ap (λ (t : State Token). t.rows k) middle-lists)) ∙ ap (λ (t : State ℕ). t.rows k) lists-given;
      }

      pub is-final : IsFinal s p (get_or finals p []) (get_or given p []) (get_or ends.added p []) (get_or sweeps.added p [])
      is-final =
          subst (λ (z : Log). IsFinal s p z (get_or given p []) (get_or ends.added p []) (get_or sweeps.added p [])) (sym (final-is p lt))
          (one-final g p seats world (get_or b.logs p []) x (in_its_turn first.own (at_turn p now)) classes (get_or given p []) (get_or ends.added p []) (get_or sweeps.added p []) first.sound (first.told ∙ ap Some (one-is p)) first.ended refl (given-at n gives p first-at) is-given closes refl)

    -- ---- the order

    given-alone : one_by_one 0 given ≡ by 0 gives
    given-alone = first-alone (n - 1) gives

    abbrev last-order : Order
    last-order = ((made ++ by 0 gives) ++ one_by_one 0 ends.added) ++ one_by_one 0 sweeps.added

    abbrev whole-order : Order
    whole-order = (made ++ one_by_one 0 given) ++ (one_by_one 0 ends.added ++ one_by_one 0 sweeps.added)

    order-is : last-order ≡ whole-order
    order-is = append_assoc (made ++ by 0 gives) (one_by_one 0 ends.added) (one_by_one 0 sweeps.added) ∙ ap (λ (z : Order). (made ++ z) ++ (one_by_one 0 ends.added ++ one_by_one 0 sweeps.added)) (sym given-alone)

    so-far : LogsSoFar n s.pages whole-order finals sweeps.now
    so-far = subst (λ (z : Order). LogsSoFar n s.pages z finals sweeps.now) order-is (subst (λ (z : List Log). LogsSoFar n s.pages last-order z sweeps.now) (sym finals-are) sweeps.so_far)

    leads : shared_over whole-order (fresh n s.pages) ≡ plainly (told_living sweeps.now)
    leads = so-far.so_far.leads.now_is

    -- ---- the world

    objects-are : (known_living sweeps.now).objects ≡ (known_living now).objects
    objects-are = sweeps.objects ∙ ends.objects

    -- the slots hold nothing once the maps were emptied
    emptied-slots : (i : ℕ) (m : MapDeclaration) → slice_get s.maps i ≡ Some m → m.kind ≡ Slot → (named_in now.contents m.name).held ≡ None
    emptied-slots i m e slot =
        let x : Owned = over owned_after made nothing_owned in
        let here = begins.said in
        let both = split-at here.one here.two (subst (AllAt 0) here.part_is first-at) in
        let puts = split-puts here.one here.two (subst AllPutNone here.part_is (given-puts (declared_in s) 0 (seen number_of (shown kept.caches)) gives begins.said first-at)) in
        let order : over owned_after (made ++ by 0 gives) nothing_owned ≡ over owned_after (by 0 gives) x = over-append owned_after OwnedFit made (by 0 gives) nothing_owned in
        let parts : over owned_after (by 0 gives) x ≡ over owned_after (by 0 here.two) (over owned_after (by 0 here.one) x) =
        ap (λ (z : Log). over owned_after (by 0 z) x) here.part_is ∙ along-append here.one here.two x in
        let none = emptied s.types s.maps (after (seen number_of (shown kept.caches)) here.one) here.two (over owned_after (by 0 here.one) x) here.is_second both.1 puts.1 i m e slot in
        ap (λ (f : Contents). (f m.name).held) (sym began.so_far.so_far.slots ∙ ap (λ (y : Owned). y.objects.slots) (order ∙ parts)) ∙ none

    -- .. and nothing is in lists and trees
    graphs-are : sweeps.now.graphs ≡ now.graphs
    graphs-are = ap (λ (o : Objects). o.graphs) objects-are

    stocked : AreStocked (declared_in s) (known_living now).objects
    stocked = begins.sound.at.ready.stocked

    histories-are : histories ≡ map history_told sweeps.now.graphs
    histories-are = told c.now.world sweeps.now_is c.histories_are
      where
        told : (w : Option LivingState) → w ≡ Some sweeps.now → TellsHistories w histories → histories ≡ map history_told sweeps.now.graphs
        told None e h = absurd (cc)
        told (Some w) e h = h ∙ ap (λ (x : LivingState). map history_told x.graphs) (same-some e)

    none-lives : (u : ℕ) → in_hands (known_living world).objects u ≡ None
    none-lives u = by (in_hands (known_living world).objects u) refl
      where
        by : (o : Option Living) → in_hands (known_living world).objects u ≡ o → in_hands (known_living world).objects u ≡ None
        by None e = e
        by (Some v) e =
            let none = sum-none g.scenario.now.processors (λ p. owns (b.bases p) (in_hands (known_living world).objects) u) (λ p lt. (let same = ap (λ (f : Lives). count_in (f u)) (stopped-owns g turns seats world b stopped p lt) in omega (arith, same))) in
            let all = b.add_up.sums u in
            let mine = ap count_in e in
            let some = b.add_up.some u v e in
            absurd (omega (arith, none, all, mine, some))

    each-swept : (p : ℕ) → p < c.now.processors → IsAmong (OwnAfter Sweeps) c.now p
    each-swept p lt = c.has p (subst (λ k. p < k) c.same lt)

    some-now : 0 < c.now.processors
    some-now = subst (λ k. 0 < k) (sym c.same) some

    done : AllDone sweeps.now
    done = all-done Sweeps c.now each-swept sweeps.now sweeps.now_is some-now

    driven-last : AllDriven sweeps.now
    driven-last =
        let y = each-swept 0 some-now in
        subst AllDriven (same-some (sym y.world_is ∙ sweeps.now_is)) y.together.driven

    idle : (d : Domain) → (of d (shared_over whole-order (fresh n s.pages)).numbers).driver ≡ None
    idle Plain = ap (λ (x : Shared). x.numbers.plain.driver) leads ∙ undriven sweeps.now.side.grace.processors sweeps.now.side.grace.plain (driven-last Plain) (done Plain)
    idle Tracing = ap (λ (x : Shared). x.numbers.tracing.driver) leads ∙ undriven sweeps.now.side.grace.processors sweeps.now.side.grace.tracing (driven-last Tracing) (done Tracing)

    -- ---- the inboxes

    boxes-are : (shared_over whole-order (fresh n s.pages)).boxes ≡ over boxes_after whole-order (fresh n s.pages).boxes
    boxes-are = boxes-over whole-order (fresh n s.pages)

    swept-box : (p k : ℕ) → p < n → 0 < times k classes → (shared_over whole-order (fresh n s.pages)).boxes p k ≡ []
    swept-box p k lt some =
        let y = c.has p lt in
        let there : 0 < times k c.now.classes = subst (λ (cs : List ℕ). 0 < times k cs) (sym (sweeps.classes_same ∙ ends.classes_same)) some in
        ap (λ (x : Shared). x.boxes p k) leads ∙ (ap (λ (w : LivingState). told_boxes w.side.post p k) (same-some (sym sweeps.now_is ∙ y.world_is)) ∙ y.own.boxes k there)

    none-sent : (k : ℕ) → among k classes ≡ false → (p : ℕ) → p < n → NoneSends k (get_or finals p [])
    none-sent k none p lt =
        let y = stopped-at g turns seats world b stopped p lt in
        let h = y.stopped in
        let front : Log = opening_log s p ++ h.scripts in
        let f = is-final p lt in
        let x = f.closes in
        let late : Log = get_or ends.added p [] ++ get_or sweeps.added p [] in
        let at : AllAt 0 late = at-append (get_or ends.added p []) (get_or sweeps.added p []) x.finishes_at x.sweeps_at in
        let all : AllOf IsLate (own_entries 0 late) = late-append (get_or ends.added p []) (get_or sweeps.added p []) (periods-late (opening_log s p ++ f.scripts) (after f.lists (get_or given p [])) (get_or ends.added p []) x.finishes_are) (sweeps-late classes x.boxes (after (after f.lists (get_or given p [])) (get_or ends.added p [])) (get_or sweeps.added p []) x.sweeps_are) in
        let is : get_or finals p [] ≡ ((front ++ (0, entry.Ended) ∷ []) ++ get_or given p []) ++ late = final-is p lt ∙ ap (λ (z : Log). (z ++ get_or given p []) ++ late) h.log_is in
        subst (NoneSends k) (sym is) (log-sends s p k front (get_or given p []) late none h.stands h.done (front-is s p h.scripts h.are_scripts) (given-sends (declared_in s) p f.lists (get_or given p []) f.given_is f.given_at k) at all)

    unsent-box : (p k : ℕ) → among k classes ≡ false → (shared_over whole-order (fresh n s.pages)).boxes p k ≡ []
    unsent-box p k none =
        let below : AllBelow n whole-order = subst (λ m. AllBelow m whole-order) so-far.many so-far.order_of.below in
        let sends : OrderSendsNone k whole-order = order-sends n k whole-order below (λ q lt. subst (NoneSends k) (sym (so-far.order_of.parts q (subst (λ m. q < m) (sym so-far.many) lt))) (none-sent k none q lt)) in
        ap (λ f. f p k) boxes-are ∙ unsent k whole-order (fresh n s.pages).boxes sends (λ q. refl) p

    beyond-box : (p k : ℕ) → n ≤ p → (shared_over whole-order (fresh n s.pages)).boxes p k ≡ []
    beyond-box p k le = ap (λ f. f p k) boxes-are ∙ beyond n p k le whole-order (fresh n s.pages).boxes (boxes-fit whole-order (fresh n s.pages) so-far.so_far.leads.fit) refl

    inboxes : (p k : ℕ) → (shared_over whole-order (fresh n s.pages)).boxes p k ≡ []
    inboxes p k = elim (cases_lt p n) [
      | inl lt ↦ elim (cases_Bool (among k classes)) [
        | inl y ↦ swept-box p k lt (among-times k classes y)
        | inr z ↦ unsent-box p k z
      ]
      | inr le ↦ beyond-box p k le
    ]

    -- All have closed, whatever order of turns led here.
    pub all-closed : AllClosed s turns finals histories
    all-closed = record {
      order = b.order;
      taken = b.taken;
      ended = ended_of seats;
      front = world;
      turned = b.turned;
      pieces = b.pieces;
      all_ended = λ p lt. stopped-ended g turns seats world b stopped p lt;
      waits = b.waits;
      given = given;
      finishes = ends.added;
      sweeps = sweeps.added;
      given_many = given-many n gives some;
      finishes_many = ends.many;
      sweeps_many = sweeps.many;
      finals_are = λ p lt. final-is p lt ∙ (append_assoc (get_or b.logs p []) (get_or given p []) (get_or ends.added p [] ++ get_or sweeps.added p [])
          ∙ ap (λ (z : Log). z ++ (get_or given p [] ++ (get_or ends.added p [] ++ get_or sweeps.added p []))) (b.logs_are p lt));
      logs = λ p lt. is-final p lt;
      world = sweeps.now;
      so_far = so-far;
      lives = λ u. ap (λ (o : Objects). o.lives u) objects-are ∙ (sym (hands-all (known_living now).objects (declared_in s) stocked apart emptied-slots begins.bare u) ∙ (ap (λ (f : Lives). f u) begins.hands ∙ none-lives u));
      inboxes = inboxes;
      idle = idle;
      names = ap (λ gs. graph_names_in gs) graphs-are ∙ stocked.graphs;
      unused = subst (AreUnused s.maps) (sym graphs-are) stocked.unused;
      bare = λ u. ap (λ gs. standing_from 0 gs u) graphs-are ∙ begins.bare u;
      histories_are = histories-are;
    }
