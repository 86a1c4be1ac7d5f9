-- What stands in the lists and hands of one processor. Units are of any type: numbers in a log, tokens in the caches.
-- (struct bpf_mem_cache in kernel/bpf/memalloc.c, with these lists: Free is free_llist, Extra free_llist_extra, Delayed
-- free_by_rcu, ExtraDelayed free_llist_extra_rcu, First waiting_for_gp, Ready free_by_rcu_ttrace, Second
-- waiting_for_gp_ttrace. The active number, the free count and the target are active, free_cnt and tgt there; the flag
-- is the pending mark of refill_work; a batch in progress is call_rcu_in_progress or call_rcu_ttrace_in_progress. Stamps,
-- hands and marks are this project's own.)
use Rattle.std.specs.Prelude.{ℕ, Option, None, Bool, false, List, [], ◌++◌, map, if◌then◌else◌, eqb, get_or}
use Rattle.bm_law.specs.declared.mark.Mark.{Mark}
use Rattle.bm_law.specs.declared.mark.Mark.TheVariants as mark

-- What deferred work alone writes: three lists, each with its top first, and the stamps of the plain and the tracing
-- batch in progress. A stamp is none where no batch is in progress, and 0 before the batch has taken it.
pub record Deferred (A : Type 0) : Type 0 where
  pub ready : List A
  pub second : List A
  pub first : List A
  pub plain : Option ℕ
  pub tracing : Option ℕ

-- the cache of one class: its lists, each with its top first, its active number, its free count, its flag, and the
-- processor that its parcels go to
pub record Row (A : Type 0) : Type 0 where
  pub free : List A
  pub extra : List A
  pub delayed : List A
  pub extra_delayed : List A
  pub active : ℕ
  pub count : ℕ
  pub raised : Bool
  pub target : ℕ
  pub deferred : Deferred A

-- one level: the units in hand, in the order in which they came, and what its last step waits for
pub record Side (A : Type 0) : Type 0 where
  pub hand : List A
  pub mark : Mark

-- one processor: the caches by class, the hands by level
pub record State (A : Type 0) : Type 0 where
  pub rows : ℕ → Row A
  pub sides : ℕ → Side A

-- no deferred work is in progress
abbrev pub no_deferred : {A : Type 0} → Deferred A
no_deferred = record { ready = []; second = []; first = []; plain = None; tracing = None }

-- a cache of processor p before its opening
abbrev pub empty_row : {A : Type 0} → ℕ → Row A
empty_row p =
    record {
      free = [];
      extra = [];
      delayed = [];
      extra_delayed = [];
      active = 0;
      count = 0;
      raised = false;
      target = p;
      deferred = no_deferred;
    }

-- nothing in hand
abbrev pub idle_side : {A : Type 0} → Side A
idle_side = record { hand = []; mark = mark.Quiet }

-- processor p before its opening
abbrev pub opening : {A : Type 0} → ℕ → State A
opening p = record { rows = λ _. empty_row p; sides = λ _. idle_side }

-- the state that two lists hold: of caches, by class, and of sides, by level
abbrev pub state_of : {A : Type 0} → ℕ → List (Row A) → List (Side A) → State A
state_of p rows sides =
    record { rows = λ k. get_or rows k (empty_row p); sides = λ k. get_or sides k idle_side }

-- the state with this cache, or this level, changed so
abbrev pub with_row : {A : Type 0} → ℕ → Row A → State A → State A
with_row c r s = record s { rows = λ k. if eqb k c then r else s.rows k }

abbrev pub with_side : {A : Type 0} → ℕ → Side A → State A → State A
with_side l h s = record s { sides = λ k. if eqb k l then h else s.sides k }

abbrev pub on_row : {A : Type 0} → ℕ → (Row A → Row A) → State A → State A
on_row c f s = with_row c (f (s.rows c)) s

abbrev pub on_side : {A : Type 0} → ℕ → (Side A → Side A) → State A → State A
on_side l f s = with_side l (f (s.sides l)) s

-- The units of a cache in the order in which the closing takes them: Free, Extra, Delayed, ExtraDelayed, First, Ready,
-- Second, each from its top. (This project's own rule.)
abbrev pub seven_lists : {A : Type 0} → Row A → List A
seven_lists r =
    r.free
    ++ (r.extra
    ++ (r.delayed
    ++ (r.extra_delayed ++ (r.deferred.first ++ (r.deferred.ready ++ r.deferred.second)))))

-- the same, with each unit seen through f
abbrev pub seen_deferred : {A B : Type 0} → (A → B) → Deferred A → Deferred B
seen_deferred f d =
    record {
      ready = map f d.ready;
      second = map f d.second;
      first = map f d.first;
      plain = d.plain;
      tracing = d.tracing;
    }

abbrev pub seen_row : {A B : Type 0} → (A → B) → Row A → Row B
seen_row f r =
    record {
      free = map f r.free;
      extra = map f r.extra;
      delayed = map f r.delayed;
      extra_delayed = map f r.extra_delayed;
      active = r.active;
      count = r.count;
      raised = r.raised;
      target = r.target;
      deferred = seen_deferred f r.deferred;
    }

abbrev pub seen_side : {A B : Type 0} → (A → B) → Side A → Side B
seen_side f h = record { hand = map f h.hand; mark = h.mark }

abbrev pub seen : {A B : Type 0} → (A → B) → State A → State B
seen f s = record { rows = λ k. seen_row f (s.rows k); sides = λ k. seen_side f (s.sides k) }
