-- A handler is taken off those that are planned.
use Rattle.std.specs.Prelude.{All, IfNone, IfSome, slice_get, sum_by}
use Rattle.std.proofs.Common.{◌≡◌, ◌≤◌, ◌<◌, ℕ, ◌+◌, ◌*◌, List, [], ◌∷◌, ◌++◌, length, reverse, Option, Some, None, refl, sym, ap, ◌∙◌, subst, arith}
use Rattle.std.proofs.lemmas.List.{length-append, reverse-append}
use Rattle.std.proofs.lemmas.List.Elements.{All-cons, All-head, All-tail}
use Rattle.std.proofs.lemmas.List.Sums.{sum_by-append, sum_by-cons}
use Rattle.bm_journal.specs.declared.entry.Entry.TheVariants as entry
use Rattle.bm_lang.specs.declared.scenario.AtLine.{AtLine}
use Rattle.bm_lang.specs.declared.scenario.Parts.{Parts}
use Rattle.bm_lang.specs.Limits.{script_cost}
use Rattle.bm_law.specs.Lists.{Log}
use Rattle.bm_cache.specs.Steps.{next_number, steps_in}
use Rattle.bm_due.specs.Plan.{Plan}
use Rattle.bm_due.specs.declared.planned.Due.{Due}
use Rattle.bm_plan.specs.Position.{AboutTo, Position, StandsAt, level_in, within}
use Rattle.bm_plan.specs.Takes.{Takes}
use Rattle.bm_plan.specs.declared.handlers.Handlers.{Handlers}
use Rattle.bm_exec_levels.specs.AtProcessor.{Between, FineAt, IsAt, IsBegun, IsDue, log_of}
use Rattle.bm_exec_levels.specs.Here.{position_of}
use Rattle.bm_exec_levels.specs.Ready.{IsHandlerLine, IsReady, known_of, left_cost, left_of}
use Rattle.bm_exec_levels.specs.declared.processor.Processor.{Processor}
use Rattle.bm_exec_levels.specs.declared.program.Program.{Program}
use Rattle.bm_work.specs.Still.{goes-still}
use Rattle.bm_exec_levels.proofs.Came.{came-none}
use Rattle.bm_grace.specs.declared.grace.Knows.{Ghosts as Knows}

-- the innermost of those that run comes first
pub innermost-first : (dues : List Due) (due : Due) → reverse (dues ++ due ∷ []) ≡ due ∷ reverse dues
innermost-first dues due = reverse-append dues (due ∷ [])

pub one-longer : {A : Type 0} (xs : List A) (x : A) → length (xs ++ x ∷ []) ≡ length xs + 1
one-longer xs x = length-append xs (x ∷ [])

all-without : {A : Type 0} (P : A → Type 0) (front rest : List A) (x : A) → All P (front ++ x ∷ rest) → All P (front ++ rest)
all-without P [] rest x h = All-tail P x rest h
all-without P (y ∷ front) rest x h = All-cons P y (front ++ rest) (All-head P y (front ++ x ∷ rest) h) (all-without P front rest x (All-tail P y (front ++ x ∷ rest) h))

all-here : {A : Type 0} (P : A → Type 0) (front rest : List A) (x : A) → All P (front ++ x ∷ rest) → P x
all-here P [] rest x h = All-head P x rest h
all-here P (y ∷ front) rest x h = all-here P front rest x (All-tail P y (front ++ x ∷ rest) h)

sum-without : {A : Type 0} (f : A → ℕ) (front rest : List A) (x : A) → sum_by f (front ++ x ∷ rest) ≡ sum_by f (front ++ rest) + f x
sum-without f front rest x =
    let a = sum_by-append f front (x ∷ rest) in
    let b = sum_by-cons f x rest in
    let c = sum_by-append f front rest in
    omega (arith, a, b, c)

length-without : {A : Type 0} (front rest : List A) (x : A) → length (front ++ x ∷ rest) ≡ length (front ++ rest) + 1
length-without front rest x =
    let a = length-append front (x ∷ rest) in
    let c = length-append front rest in
    omega (arith, a, c)

pub taken-fewer : (due : Due) (a b : List AtLine) → Takes due a b → length b + 1 ≡ length a
taken-fewer due a b t = (let e = ap (λ (xs : List AtLine). length xs) t.was in let f = ap (λ (xs : List AtLine). length xs) t.now_is in let n = length-without t.front t.rest t.line in omega (arith, e, f, n))

pub taken-cost : (s : Parts) (due : Due) (a b : List AtLine) → Takes due a b → left_cost s b + 3 * script_cost (slice_get s.scripts due.script.0) ≡ left_cost s a
taken-cost s due a b t =
    let f : AtLine → ℕ = λ line. 3 * script_cost (slice_get s.scripts line.script.0) in
    let e = ap (λ (xs : List AtLine). sum_by f xs) t.was in
    let g = ap (λ (xs : List AtLine). sum_by f xs) t.now_is in
    let n = sum-without f t.front t.rest t.line in
    let d = ap (λ (y : Due). 3 * script_cost (slice_get s.scripts y.script.0)) t.told in
    omega (arith, e, g, n, d)

taken-all : (P : AtLine → Type 0) (due : Due) (a b : List AtLine) → Takes due a b → All P a → All P b
taken-all P due a b t h =
    let F : List AtLine → Type 0 = λ xs. All P xs in
    subst F (sym t.now_is) (all-without P t.front t.rest t.line (subst F t.was h))

taken-line : (P : AtLine → Type 0) (due : Due) (a b : List AtLine) (t : Takes due a b) → All P a → P t.line
taken-line P due a b t h = (let F : List AtLine → Type 0 = λ xs. All P xs in all-here P t.front t.rest t.line (subst F t.was h))

pub both : {P Q T : Log → Type 0} (o : Option Log) → ((es : Log) → P es → Q es → T es) → IfSome o P → IfSome o Q → IfSome o T
both None f p q = tt
both (Some es) f p q = f es p q

-- the position within a handler that has begun
within-is : (p : ℕ) (s : Parts) (a b : Plan) (dues : List Due) (due : Due) → within due b (position_of p s a dues) ≡ position_of p s b (dues ++ due ∷ [])
within-is p s a b dues due = ap (λ (r : List Due). let x : Position = record (position_of p s b dues) { running = r } in x) (sym (innermost-first dues due))

module _ {W : Type 0} (knows : Knows W) where
  -- ---- lists

  -- ---- what was reckoned for it

  -- ---- the processor

  abbrev pub with_handlers : Processor W → Handlers → Processor W
  with_handlers m h = record m { handlers = h }

  ready-taken : (p : Program) (m : Processor W) (h : Handlers) (due : Due) → h.scripts ≡ m.handlers.scripts → Takes due (left_of m) h.planned.left → IsReady knows p m → IsReady knows p (with_handlers m h)
  ready-taken p m h due e t r =
      let n = taken-fewer due (left_of m) h.planned.left t in
      let c = taken-cost p.scenario.now due (left_of m) h.planned.left t in
      let asks = r.asks in
      let words = r.words in
      record {
        fits = r.fits;
        here = r.here;
        scripts = e ∙ r.scripts;
        planned = taken-all (IsHandlerLine p.scenario.now) due (left_of m) h.planned.left t r.planned;
        bound = r.bound;
        tables = r.tables;
        room_running = r.room_running;
        room_tables = r.room_tables;
        asks = omega (arith, c, asks);
        words = omega (arith, n, words);
        inside = r.inside;
        calls = r.calls;
        stocked = r.stocked;
      }

  -- The handler that a store of planned ones answered begins with the entry that stands next, by what code knows that is here.
  abbrev pub BegunHere : ℕ → ℕ → Plan → Plan → Option Due → Type 0
  BegunHere l step plan later o = (p : Position) (log : Log) (name : List ℕ) → AboutTo p log → p.plan ≡ plan → level_in p.running ≡ l → step ≡ next_number (steps_in log) → IfSome o (λ due. slice_get p.names due.script.0 ≡ Some name → StandsAt (within due later p) (log ++ (due.level, entry.Handler name) ∷ []))

  module _ (l : ℕ) (p : Program) (m : Processor W) (step : ℕ) where
    some-due : (h : Handlers) (due : Due) → IsAt knows AboutTo l p m → IfSome (log_of m) (λ es. step ≡ next_number (steps_in es)) → BegunHere l step m.handlers.planned h.planned (Some due) → l < due.level → due.level ≤ 3 → Takes due (left_of m) h.planned.left → h.scripts ≡ m.handlers.scripts → IsDue knows l p due (with_handlers m h)
    some-due h due a n f above highest t same =
        let x : Position = position_of (known_of knows m).grace.processor p.scenario.now m.handlers.planned m.running.items in
        let At : Log → List ℕ → Position → Type 0 = λ es name y. StandsAt y (es ++ (due.level, entry.Handler name) ∷ []) in
        let line : IsHandlerLine p.scenario.now t.line = taken-line (IsHandlerLine p.scenario.now) due (left_of m) h.planned.left t a.ready.planned in
        let fewer = taken-fewer due (left_of m) h.planned.left t in
        let cost = taken-cost p.scenario.now due (left_of m) h.planned.left t in
        let asks = a.ready.asks in
        let words = a.ready.words in
        record {
          begins = both (log_of m) (λ es u e name i. subst (At es name) (within-is (known_of knows m).grace.processor p.scenario.now m.handlers.planned h.planned m.running.items due) (f x es name u refl a.at.level e i)) a.at.at n;
          tells = a.tells;
          counts = a.counts;
          level = a.at.level;
          deep = a.at.deep;
          above = omega (arith, above);
          highest = highest;
          script = line.script;
          found = sym (ap (λ (y : Due). slice_get p.scenario.now.scripts y.script.0) t.told) ∙ line.found;
          handles = line.handles;
          ready = ready-taken p m h due same t a.ready;
          asks = omega (arith, cost, asks);
          words = omega (arith, fewer, words);
        }

    -- one is due, and begins
    begun-one : (h : Handlers) (due : Due) → IsAt knows AboutTo l p m → IfSome (log_of m) (λ es. step ≡ next_number (steps_in es)) → BegunHere l step m.handlers.planned h.planned (Some due) → l < due.level → due.level ≤ 3 → Takes due (left_of m) h.planned.left → h.scripts ≡ m.handlers.scripts → IsBegun knows l p due m (with_handlers m h)
    begun-one h due a n f above highest t same =
        let fewer = taken-fewer due (left_of m) h.planned.left t in
        let cost = taken-cost p.scenario.now due (left_of m) h.planned.left t in
        record {
          begins = some-due h due a n f above highest t same;
          fewer = fewer;
          asks = omega (arith, cost);
          words = omega (arith, fewer);
        }

    -- the same of what the store answered
    pub begun-here : (h : Handlers) (o : Option Due) → IsAt knows AboutTo l p m → IfSome (log_of m) (λ es. step ≡ next_number (steps_in es)) → BegunHere l step m.handlers.planned h.planned o → IfSome o (λ due. l < due.level) → IfSome o (λ due. due.level ≤ 3) → IfSome o (λ due. Takes due (left_of m) h.planned.left) → h.scripts ≡ m.handlers.scripts → IfSome o (λ due. IsBegun knows l p due m (with_handlers m h))
    begun-here h None a n f above highest t same = tt
    begun-here h (Some due) a n f above highest t same = begun-one h due a n f above highest t same

  -- what it left, where there are no more than were planned
  between-left : (k : ℕ) (p : Program) (m : Processor W) (h : Handlers) → FineAt knows k m → left_cost p.scenario.now h.planned.left ≤ left_cost p.scenario.now (left_of m) → length h.planned.left ≤ length (left_of m) → Between knows 0 0 k p m (with_handlers m h)
  between-left k p m h f c n = record {
    fine = record { placed = f.placed; ready = f.ready; proper = f.proper; aimed = f.aimed };
    came = came-none knows k m;
    stays = record {
      settled = refl;
      locked = refl;
      running = refl;
      tables = refl;
      inside = refl;
      asks_most = omega (arith, c);
      words_most = omega (arith, n);
      parity = λ d. refl;
      inner = λ h. refl;
      tracing = refl;
      processors = refl;
      processor = refl;
    };
    goes = goes-still (known_of knows m) (known_of knows m) refl;
    fewer = n;
  }

  pub between-asked : (k : ℕ) (p : Program) (m : Processor W) (h : Handlers) (o : Option Due) → FineAt knows k m → IfNone o (h ≡ m.handlers) → IfSome o (λ due. Takes due (left_of m) h.planned.left) → Between knows 0 0 k p m (with_handlers m h)
  between-asked k p m h None f e t =
      let c = ap (λ (x : Handlers). left_cost p.scenario.now x.planned.left) e in
      let n = ap (λ (x : Handlers). length x.planned.left) e in
      between-left k p m h f (omega (arith, c)) (omega (arith, n))
  between-asked k p m h (Some due) f e t =
      let c = taken-cost p.scenario.now due (left_of m) h.planned.left t in
      let n = taken-fewer due (left_of m) h.planned.left t in
      between-left k p m h f (omega (arith, c)) (omega (arith, n))
