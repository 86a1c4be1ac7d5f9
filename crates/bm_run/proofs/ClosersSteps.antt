-- What the steps of one phase of the closing make of the order, one processor after the other.
use Rattle.std.specs.Prelude.{◌≢◌, ◌≤◌, get_or, set, slice_get, length}
use Rattle.std.proofs.Common.{◌≡◌, ◌<◌, ◌⊎◌, ◌+◌, ℕ, zero, suc, List, [], ◌∷◌, ◌++◌, Option, None, Some, arith, refl, sym, ◌∙◌, ap, subst, inl, inr, append-nil, append_assoc}
use Rattle.std.proofs.lemmas.Bool.{cases_eq, cases_lt}
use Rattle.std.proofs.lemmas.List.{get_or-set_other, get_or-set_same, length-set}
use Rattle.bm_journal.specs.declared.ids.Domain.{Domain}
use Rattle.bm_law.specs.Alone.{AllAt}
use Rattle.bm_law.specs.Begun.{begun_by}
use Rattle.bm_law.specs.Inboxes.{Inboxes}
use Rattle.bm_law.specs.Kept.{Ready}
use Rattle.bm_law.specs.Lists.{Leaves, Log}
use Rattle.bm_law.specs.Stands.{times}
use Rattle.bm_law.specs.State.{State, seen, seven_lists}
use Rattle.bm_law_logs.specs.SweepsTold.{SweepsTold}
use Rattle.bm_law_order.specs.Orders.{Order, by, part_of}
use Rattle.bm_law_scenario.specs.Closing.{EndsPeriods, in_progress}
use Rattle.bm_law_work.specs.Parts.{Part}
use Rattle.bm_grace.specs.Known.{side}
use Rattle.bm_post.specs.PostState.{told_in}
use Rattle.bm_cache.specs.Shown.{shown}
use Rattle.bm_cache.specs.Tokens.{number_of}
use Rattle.bm_world.specs.LivingState.{LivingState, known_living}
use Rattle.bm_closing.specs.Crews.{StepsBelow}
use Rattle.bm_closing.specs.declared.crew.Phase.{Phase}
use Rattle.bm_closing.specs.declared.crew.Phase.TheVariants.{Ends, Sweeps}
use Rattle.bm_exec_levels.specs.declared.kept.Kept.{Kept}
use Rattle.bm_run.specs.Closers.{Gathered, Keeps, StepOf, TellsLog, TookStep}
use Rattle.bm_run.specs.InTurns.{one_by_one}
use Rattle.bm_run.specs.LogsSoFar.{LogsSoFar, Stretched}
use Rattle.bm_run.specs.SoFar.{at_turn}
use Rattle.bm_run.proofs.Closes.{ends-are}
use Rattle.bm_run.proofs.ClosersTaken.{SteppedSo, added_of, fine-leaves, get-set-other, get-set-same, same-told, so-stepped, took-stretched}
use Rattle.bm_run.proofs.Progress.{order-progress}
use Rattle.bm_run.proofs.WholeInTurns.{one-more}

-- ---- lists that grow at their end

pub get-front : {A : Type 0} (xs : List A) (x d : A) (q : ℕ) → q < length xs → get_or (xs ++ x ∷ []) q d ≡ get_or xs q d
get-front [] x d q lt = absurd (omega (arith, lt))
get-front (y ∷ xs) x d zero lt = refl
get-front (y ∷ xs) x d (suc q) lt = get-front xs x d q (omega (arith, lt))

pub get-last : {A : Type 0} (xs : List A) (x d : A) (q : ℕ) → q ≡ length xs → get_or (xs ++ x ∷ []) q d ≡ x
get-last [] x d zero e = refl
get-last [] x d (suc q) e = absurd (omega (arith, e))
get-last (y ∷ xs) x d zero e = absurd (omega (arith, e))
get-last (y ∷ xs) x d (suc q) e = get-last xs x d q (omega (arith, e))

pub get-beyond : {A : Type 0} (xs : List A) (d : A) (q : ℕ) → length xs ≤ q → get_or xs q d ≡ d
get-beyond [] d q le = refl
get-beyond (y ∷ xs) d zero le = absurd (omega (arith, le))
get-beyond (y ∷ xs) d (suc q) le = get-beyond xs d q (omega (arith, le))

pub length-last : {A : Type 0} (xs : List A) (x : A) → length (xs ++ x ∷ []) ≡ suc (length xs)
length-last [] x = refl
length-last (y ∷ xs) x = ap suc (length-last xs x)

-- ---- what one processor did

abbrev pub PartFor : Phase → List ℕ → Log → State ℕ → Log → Type 0
PartFor Ends classes log s part = EndsPeriods log s part
PartFor Sweeps classes log s part = (boxes : Inboxes) × SweepsTold classes boxes s part

-- what it left in its lists
pub record SweptLists (classes : List ℕ) (kept later : Kept) : Type 0 where
  pub empty : (c : ℕ) → 0 < times c classes → seven_lists ((shown later.caches).rows c) ≡ []
  pub others : (c : ℕ) → times c classes ≡ 0 → (shown later.caches).rows c ≡ (shown kept.caches).rows c

abbrev pub ListsFor : Phase → List ℕ → Kept → Kept → Type 0
ListsFor Ends classes kept later = shown later.caches ≡ shown kept.caches
ListsFor Sweeps classes kept later = SweptLists classes kept later

-- In its step of a phase processor q went from one thing that it kept to another, and its log, which was this one, has grown so.
pub record Did (phase : Phase) (classes : List ℕ) (before now : List (Option Kept)) (q : ℕ) (log added : Log) : Type 0 where
  pub kept : Kept
  pub later : Kept
  pub keeps : Keeps before q kept
  pub keeps_now : Keeps now q later
  pub said : PartFor phase classes log (seen number_of (shown kept.caches)) added
  pub at : AllAt 0 added
  pub lists : ListsFor phase classes kept later
  pub leaves : Leaves q (log ++ added) (seen number_of (shown later.caches))
  pub ready : Ready 0 (shown later.caches)

lists-for : (phase : Phase) (classes : List ℕ) (kept : Kept) (start : LivingState) (log : Log) (later : Kept) (now : LivingState) → StepOf phase classes kept start log later now → ListsFor phase classes kept later
lists-for Ends classes kept start log later now s = s.lists
lists-for Sweeps classes kept start log later now s = record { empty = s.empty; others = s.others }

part-for : (phase : Phase) (classes : List ℕ) (kept : Kept) (start : LivingState) (log : Log) (later : Kept) (now : LivingState) (s : StepOf phase classes kept start log later now) (told : Log) → ((d : Domain) → begun_by (side d (known_living start)).number ≡ in_progress d None told) → PartFor phase classes told (seen number_of (shown kept.caches)) (added_of phase classes kept start log later now s)
part-for Ends classes kept start log later now s told begun = subst (λ (P : Part). P (seen number_of (shown kept.caches)) s.step.added) (ends-are (known_living start) told begun) s.step.said
part-for Sweeps classes kept start log later now s told begun = (told_in start.side.post, s.step.said)

-- ---- all that did

-- The first k processors took their steps of a phase: the order has grown by what each of them added.
pub record AfterSteps (phase : Phase) (n pages : ℕ) (o : Order) (logs : List Log) (world : LivingState) (a b : Gathered) (k : ℕ) : Type 0 where
  pub now : LivingState
  pub now_is : b.world ≡ Some now
  pub added : List Log
  pub many : length added ≡ k
  pub now_logs : List Log
  pub so_far : LogsSoFar n pages (o ++ one_by_one 0 added) now_logs now
  pub logs_are : (q : ℕ) → get_or now_logs q [] ≡ get_or logs q [] ++ get_or added q []
  pub tells : (q : ℕ) → q < n → TellsLog b.places q (get_or now_logs q [])
  pub length_same : length b.places ≡ length a.places
  pub classes_same : b.classes ≡ a.classes
  pub later : (q : ℕ) → k ≤ q → slice_get b.places q ≡ slice_get a.places q
  pub objects : (known_living now).objects ≡ (known_living world).objects
  pub each : (q : ℕ) → q < k → Did phase a.classes a.places b.places q (get_or logs q []) (get_or added q [])

same-some : {A : Type 0} {x y : A} → Some x ≡ Some y → x ≡ y
same-some q = cc

none-taken : (phase : Phase) (n pages : ℕ) (o : Order) (logs : List Log) (world : LivingState) (a b : Gathered) → LogsSoFar n pages o logs world → a.world ≡ Some world → ((q : ℕ) → q < n → TellsLog a.places q (get_or logs q [])) → b ≡ a → AfterSteps phase n pages o logs world a b 0
none-taken phase n pages o logs world a b h is tells e = subst (λ (g : Gathered). AfterSteps phase n pages o logs world a g 0) (sym e) (record {
  now = world;
  now_is = is;
  added = [];
  many = refl;
  now_logs = logs;
  so_far = subst (λ (z : Order). LogsSoFar n pages z logs world) (sym (append-nil o)) h;
  logs_are = λ q. sym (append-nil (get_or logs q []));
  tells = tells;
  length_same = refl;
  classes_same = refl;
  later = λ q le. refl;
  objects = refl;
  each = λ q lt. absurd (omega (arith, lt));
})

module _ (phase : Phase) (n pages : ℕ) (o : Order) (logs : List Log) (world : LivingState) (a m b : Gathered) (k : ℕ) (lt : k < n) (many : length a.places ≡ n) (s : AfterSteps phase n pages o logs world a m k) (t : TookStep phase k m b) where
  abbrev x : Log
  x = added_of phase m.classes t.kept (at_turn k t.world) t.log t.then t.after t.step

  so : SteppedSo t.kept (at_turn k t.world) t.log x t.then t.after
  so = so-stepped phase m.classes t.kept (at_turn k t.world) t.log t.then t.after t.step

  world-is : s.now ≡ t.world
  world-is = same-some (sym s.now_is ∙ t.world_is)

  log-is : get_or s.now_logs k [] ≡ t.log
  log-is = same-told m.places k t.kept t.log t.keeps t.told (get_or s.now_logs k []) (s.tells k lt)

  so-far : LogsSoFar n pages (o ++ one_by_one 0 s.added) s.now_logs t.world
  so-far = subst (λ (w : LivingState). LogsSoFar n pages (o ++ one_by_one 0 s.added) s.now_logs w) world-is s.so_far

  stretch : Stretched n pages k (o ++ one_by_one 0 s.added) s.now_logs x t.world t.after
  stretch = took-stretched phase k m b t n pages (o ++ one_by_one 0 s.added) s.now_logs so-far lt log-is

  nothing-yet : get_or s.added k [] ≡ []
  nothing-yet = get-beyond s.added [] k (let e = s.many in omega (arith, e))

  told-before : get_or s.now_logs k [] ≡ get_or logs k []
  told-before = s.logs_are k ∙ (ap (λ (z : Log). get_or logs k [] ++ z) nothing-yet ∙ append-nil (get_or logs k []))

  order-is : (o ++ one_by_one 0 s.added) ++ by k x ≡ o ++ one_by_one 0 (s.added ++ x ∷ [])
  order-is =
      let place : 0 + length s.added ≡ k = (let e = s.many in omega (arith, e)) in
      append_assoc o (one_by_one 0 s.added) (by k x) ∙ ap (λ (z : Order). o ++ z) (ap (λ q. one_by_one 0 s.added ++ by q x) (sym place) ∙ sym (one-more 0 s.added x))

  there : k < length s.now_logs
  there = (let e = so-far.many in omega (arith, e, lt))

  place : k < length m.places
  place = (let e = s.length_same in omega (arith, e, many, lt))

  own-added : get_or (s.added ++ x ∷ []) k [] ≡ x
  own-added = get-last s.added x [] k (sym s.many)

  before-added : (q : ℕ) → q < k → get_or (s.added ++ x ∷ []) q [] ≡ get_or s.added q []
  before-added q few = get-front s.added x [] q (let e = s.many in omega (arith, e, few))

  other-added : (q : ℕ) → q ≢ k → get_or (s.added ++ x ∷ []) q [] ≡ get_or s.added q []
  other-added q ne = elim (cases_lt q k) [
    | inl few ↦ before-added q few
    | inr le ↦
        let far : length (s.added ++ x ∷ []) ≤ q = (let e = s.many in let l = length-last s.added x in omega (arith, e, l, le, ne)) in
        let near : length s.added ≤ q = (let e = s.many in omega (arith, e, le)) in
        get-beyond (s.added ++ x ∷ []) [] q far ∙ sym (get-beyond s.added [] q near)
  ]

  grown-log : (q : ℕ) → (q ≡ k) ⊎ (q ≢ k) → get_or (set s.now_logs k (get_or s.now_logs k [] ++ x)) q [] ≡ get_or logs q [] ++ get_or (s.added ++ x ∷ []) q []
  grown-log q (inl e) =
      let F : ℕ → Type 0 = λ r. get_or (set s.now_logs k (get_or s.now_logs k [] ++ x)) r [] ≡ get_or logs r [] ++ get_or (s.added ++ x ∷ []) r [] in
      subst F (sym e) (get_or-set_same s.now_logs k (get_or s.now_logs k [] ++ x) [] there ∙ (ap (λ (z : Log). z ++ x) told-before ∙ ap (λ (z : Log). get_or logs k [] ++ z) (sym own-added)))
  grown-log q (inr ne) = get_or-set_other s.now_logs k q (get_or s.now_logs k [] ++ x) [] ne ∙ (s.logs_are q ∙ ap (λ (z : Log). get_or logs q [] ++ z) (sym (other-added q ne)))

  tells-now : (q : ℕ) → q < n → (q ≡ k) ⊎ (q ≢ k) → TellsLog b.places q (get_or (set s.now_logs k (get_or s.now_logs k [] ++ x)) q [])
  tells-now q few (inl e) =
      let own : t.log ++ x ≡ get_or (set s.now_logs k (get_or s.now_logs k [] ++ x)) k [] = ap (λ (z : Log). z ++ x) (sym log-is) ∙ sym (get_or-set_same s.now_logs k (get_or s.now_logs k [] ++ x) [] there) in
      subst (λ r. TellsLog b.places r (get_or (set s.now_logs k (get_or s.now_logs k [] ++ x)) r [])) (sym e)
      (t.then, ap (λ (ps : List (Option Kept)). slice_get ps k) t.places_are ∙ get-set-same m.places k (Some t.then) place, so.rests.told ∙ ap Some own)
  tells-now q few (inr ne) =
      let old = s.tells q few in (
        old.0,
        ap (λ (ps : List (Option Kept)). slice_get ps q) t.places_are ∙ (get-set-other m.places k q (Some t.then) ne ∙ old.1),
        old.2 ∙ ap Some (sym (get_or-set_other s.now_logs k q (get_or s.now_logs k [] ++ x) [] ne)),
      )

  begun-then : (d : Domain) → begun_by (side d (known_living (at_turn k t.world))).number ≡ in_progress d None (get_or logs k [])
  begun-then d =
      let part : part_of k (o ++ one_by_one 0 s.added) ≡ get_or logs k [] = so-far.order_of.parts k there ∙ told-before in
      order-progress n pages k (o ++ one_by_one 0 s.added) (at_turn k t.world) refl so-far.so_far.leads d ∙ ap (in_progress d None) part

  did-own : Did phase a.classes a.places b.places k (get_or logs k []) (get_or (s.added ++ x ∷ []) k [])
  did-own = subst (λ (z : Log). Did phase a.classes a.places b.places k (get_or logs k []) z) (sym own-added) (subst (λ (cs : List ℕ). Did phase cs a.places b.places k (get_or logs k []) x) s.classes_same (record {
    kept = t.kept;
    later = t.then;
    keeps = sym (s.later k (omega arith)) ∙ t.keeps;
    keeps_now = ap (λ (ps : List (Option Kept)). slice_get ps k) t.places_are ∙ get-set-same m.places k (Some t.then) place;
    said = part-for phase m.classes t.kept (at_turn k t.world) t.log t.then t.after t.step (get_or logs k []) begun-then;
    at = so.at;
    lists = lists-for phase m.classes t.kept (at_turn k t.world) t.log t.then t.after t.step;
    leaves = subst (λ (z : Log). Leaves k (z ++ x) (seen number_of (shown t.then.caches))) (sym log-is ∙ told-before) (fine-leaves t.then t.after k (t.log ++ x) so.rests.fine (so.rests.here ∙ so.alike.processor) so.rests.told);
    ready = so.rests.fine.ready;
  }))

  did-each : (q : ℕ) → q < suc k → (q ≡ k) ⊎ (q ≢ k) → Did phase a.classes a.places b.places q (get_or logs q []) (get_or (s.added ++ x ∷ []) q [])
  did-each q few (inl e) = subst (λ r. Did phase a.classes a.places b.places r (get_or logs r []) (get_or (s.added ++ x ∷ []) r [])) (sym e) did-own
  did-each q few (inr ne) =
      let less : q < k = omega (arith, few, ne) in
      let old = s.each q less in
      subst (λ (z : Log). Did phase a.classes a.places b.places q (get_or logs q []) z) (sym (other-added q ne)) (record {
        kept = old.kept;
        later = old.later;
        keeps = old.keeps;
        keeps_now = ap (λ (ps : List (Option Kept)). slice_get ps q) t.places_are ∙ (get-set-other m.places k q (Some t.then) ne ∙ old.keeps_now);
        said = old.said;
        at = old.at;
        lists = old.lists;
        leaves = old.leaves;
        ready = old.ready;
      })

  one-taken : AfterSteps phase n pages o logs world a b (suc k)
  one-taken = record {
    now = t.after;
    now_is = t.after_is;
    added = s.added ++ x ∷ [];
    many = length-last s.added x ∙ ap suc s.many;
    now_logs = set s.now_logs k (get_or s.now_logs k [] ++ x);
    so_far = subst (λ (z : Order). LogsSoFar n pages z (set s.now_logs k (get_or s.now_logs k [] ++ x)) t.after) order-is stretch.so_far;
    logs_are = λ q. grown-log q (cases_eq q k);
    tells = λ q few. tells-now q few (cases_eq q k);
    length_same = ap length t.places_are ∙ (length-set m.places k (Some t.then) ∙ s.length_same);
    classes_same = t.same.1 ∙ s.classes_same;
    later = λ q le. ap (λ (ps : List (Option Kept)). slice_get ps q) t.places_are ∙ (get-set-other m.places k q (Some t.then) (λ e. omega (arith, e, le)) ∙ s.later q (omega (arith, le)));
    objects = so.alike.objects ∙ (ap (λ (w : LivingState). (known_living w).objects) (sym world-is) ∙ s.objects);
    each = λ q few. did-each q few (cases_eq q k);
  }

-- All steps below k, from a crew whose logs an order has.
pub steps-taken : (phase : Phase) (n pages : ℕ) (o : Order) (logs : List Log) (world : LivingState) (a b : Gathered) (k : ℕ) → k ≤ n → length a.places ≡ n → LogsSoFar n pages o logs world → a.world ≡ Some world → ((q : ℕ) → q < n → TellsLog a.places q (get_or logs q [])) → StepsBelow (TookStep phase) k a b → AfterSteps phase n pages o logs world a b k
steps-taken phase n pages o logs world a b zero le many h is tells t = none-taken phase n pages o logs world a b h is tells t
steps-taken phase n pages o logs world a b (suc k) le many h is tells t =
    one-taken phase n pages o logs world a t.0 b k (omega (arith, le)) many (steps-taken phase n pages o logs world a t.0 k (omega (arith, le)) many h is tells t.1) t.2
