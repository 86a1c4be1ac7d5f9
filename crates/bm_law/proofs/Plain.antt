-- Plain entries leave what deferred work alone writes.
use Rattle.std.proofs.Common.{Option, Some, None, ◌≡◌, ℕ, ◌++◌, Bool, List, [], ◌∷◌, true, false, refl, inl, inr, cond, ◌&&◌}
use Rattle.std.proofs.lemmas.Bool.Decides.{eqb_tells}
use Rattle.bm_journal.specs.declared.entry.Entry.{Entry}
use Rattle.bm_journal.specs.declared.entry.Entry.TheVariants as entry
use Rattle.bm_law.specs.State.{Row, State, with_row}
use Rattle.bm_law.specs.Effect.{effect}
use Rattle.bm_law.specs.Phrases.{raise_below, raise_above, raise_unless, given, overtaken, overtaken_delayed, AllocPhrase, FreePhrase, DelayPhrase, AddPhrase}
use Rattle.bm_law.specs.Plain.{is_plain, all_plain}
use Rattle.std.specs.Prelude.{nat_lt}
use Rattle.bm_class.specs.Sizes.{size_of_class}
use Rattle.bm_class.specs.Watermarks.{low_of_size, high_of_size}

row-still : {A : Type 0} (c k : ℕ) (r : Row A) (s : State A) → r.deferred ≡ (s.rows c).deferred → ((with_row c r s).rows k).deferred ≡ (s.rows k).deferred
row-still c k r s h =
    elim (eqb_tells k c) [
      | inl y ↦ rw (y.0, y.1) h
      | inr y ↦ rw y.0 refl
    ]

false-true : {X : Type 0} → false ≡ true → X
false-true h = absurd (cc)

pub plain-effect : {A : Type 0} (l : ℕ) (e : Entry) (us : List A) (s : State A) (k : ℕ) → is_plain e ≡ true → ((effect l e us s).rows k).deferred ≡ (s.rows k).deferred
plain-effect l (entry.Fill c ns) us s k p = row-still c k _ s refl
plain-effect l (entry.Enter c a) us s k p = row-still c k _ s refl
plain-effect l (entry.Leave c a) us s k p = row-still c k _ s refl
plain-effect l (entry.Pop c u) us s k p = row-still c k _ s refl
plain-effect l (entry.Push c u) us s k p = row-still c k _ s refl
plain-effect l (entry.Count c j) us s k p = row-still c k _ s refl
plain-effect l (entry.Raise c) us s k p = row-still c k _ s refl
plain-effect l (entry.Work c) us s k p = row-still c k _ s refl
plain-effect l (entry.Delayed c u) us s k p = row-still c k _ s refl
plain-effect l (entry.Put c u) us s k p = row-still c k _ s refl
plain-effect l (entry.PutDelayed c u) us s k p = row-still c k _ s refl
plain-effect l (entry.TakeExtra c ns) us s k p = row-still c k _ s refl
plain-effect l (entry.TakeDelayed c ns) us s k p = row-still c k _ s refl
plain-effect l (entry.Receive c ns) us s k p = false-true p
plain-effect l (entry.Ready c u) us s k p = false-true p
plain-effect l (entry.Second c u) us s k p = false-true p
plain-effect l (entry.Send c q ns) us s k p = false-true p
plain-effect l (entry.Batch c ns) us s k p = false-true p
plain-effect l (entry.Stamp c d x) us s k p = false-true p
plain-effect l (entry.BeginSecond c ns) us s k p = false-true p
plain-effect l (entry.Return c ns) us s k p = false-true p
plain-effect l (entry.Sweep c ns) us s k p = false-true p
plain-effect l _ us s k p = refl

-- phrases in parts
pub plain-append : (v w : List Entry) → all_plain (v ++ w) ≡ (all_plain v && all_plain w)
plain-append [] w = refl
plain-append (e ∷ v) w =
    elim (is_plain e) as (λ b. (b && all_plain (v ++ w)) ≡ ((b && all_plain v) && all_plain w)) [ true ↦ plain-append v w | false ↦ refl ]

and-left : (a b : Bool) → (a && b) ≡ true → a ≡ true
and-left true b h = refl
and-left false b h = h

and-right : (a b : Bool) → (a && b) ≡ true → b ≡ true
and-right true b h = h
and-right false b h = false-true h

pub plain-right : (v w : List Entry) → all_plain (v ++ w) ≡ true → all_plain w ≡ true
plain-right v w h = and-right (all_plain v) (all_plain w) (rw (← plain-append v w) h)

pub plain-join : (v w : List Entry) → all_plain v ≡ true → all_plain w ≡ true → all_plain (v ++ w) ≡ true
plain-join v w h k = rw (plain-append v w, h) k

pub plain-below : (c k : ℕ) → all_plain (raise_below c k) ≡ true
plain-below c k = elim (nat_lt k (low_of_size (size_of_class c))) as (λ b. all_plain (cond b (entry.Raise c ∷ []) []) ≡ true) [ true ↦ refl | false ↦ refl ]

pub plain-above : (c k : ℕ) → all_plain (raise_above c k) ≡ true
plain-above c k = elim (nat_lt (high_of_size (size_of_class c)) k) as (λ b. all_plain (cond b (entry.Raise c ∷ []) []) ≡ true) [ true ↦ refl | false ↦ refl ]

pub plain-unless : (b : Bool) (c : ℕ) → all_plain (raise_unless b c) ≡ true
plain-unless true c = refl
plain-unless false c = refl

pub plain-overtaken : (c : ℕ) (xs : List ℕ) → all_plain (overtaken c xs) ≡ true
plain-overtaken c [] = refl
plain-overtaken c (k ∷ ks) = plain-overtaken c ks

pub plain-overtaken_delayed : (c : ℕ) (xs : List ℕ) → all_plain (overtaken_delayed c xs) ≡ true
plain-overtaken_delayed c [] = refl
plain-overtaken_delayed c (k ∷ ks) = plain-overtaken_delayed c ks

-- the phrases of calls
given-plain : (u life : ℕ) (seal : Option (ℕ × ℕ)) → all_plain (given u life seal ∷ []) ≡ true
given-plain u life None = refl
given-plain u life (Some seal) = refl

pub plain-alloc : (c : ℕ) (own : List Entry) → AllocPhrase c own → all_plain own ≡ true
plain-alloc c own (inl y) = rw y.5 (plain-join (raise_below c y.3) (given y.0 y.1 y.2 ∷ []) (plain-below c y.3) (given-plain y.0 y.1 y.2))
plain-alloc c own (inr (inl y)) = rw y.1 (plain-join (raise_below c 0) (entry.Empty ∷ []) (plain-below c 0) refl)
plain-alloc c own (inr (inr y)) = rw y.3 (plain-join (raise_below c 0) (entry.Busy y.0 ∷ []) (plain-below c 0) refl)

pub plain-free : (c u home : ℕ) (own : List Entry) → FreePhrase c u home own → all_plain own ≡ true
plain-free c u home own (inl y) = rw y.2 (plain-above c y.0)
plain-free c u home own (inr y) = rw y.5 (plain-join (overtaken c y.1) (entry.Look c y.2 ∷ entry.Put c u ∷ entry.Leave c y.3 ∷ []) (plain-overtaken c y.1) refl)

pub plain-delay : (c u home : ℕ) (in_progress : Bool) (own : List Entry) → DelayPhrase c u home in_progress own → all_plain own ≡ true
plain-delay c u home b own (inl y) = rw y.1 (plain-unless b c)
plain-delay c u home b own (inr y) =
    rw y.5 (plain-join (overtaken_delayed c y.1) (entry.LookDelayed c y.2 ∷ entry.PutDelayed c u ∷ entry.Leave c y.3 ∷ raise_unless b c) (plain-overtaken_delayed c y.1) (plain-unless b c))

pub plain-add : (c u : ℕ) (own : List Entry) → AddPhrase c u own → all_plain own ≡ true
plain-add c u own y = rw y.2 refl
