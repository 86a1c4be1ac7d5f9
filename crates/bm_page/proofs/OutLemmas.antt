-- Lemmas on the units that are out: a fetch adds to them, and a unit that comes back leaves them.
use Rattle.std.proofs.Common.{◌≡◌, ◌≢◌, ℕ, zero, suc, ◌+◌, ◌*◌, ◌/◌, ◌%◌, ◌<◌, ◌≤◌, ◌⊎◌, inl, inr, true, false, List, [], ◌∷◌, ◌++◌, length, get_or, set, Option, None, Some, refl, sym, ◌∙◌, ap, arith, append-nil, append_assoc, length-set, cond}
use Rattle.std.specs.Prelude.{IsSome, is_none, is_some, All, AllPairs}
use Rattle.std.specs.List.{swap}
use Rattle.std.specs.List.Sorted.{IsPermutation}
use Rattle.std.proofs.lemmas.Bool.{cases_lt, cases_eq, cases_Bool, false≢true}
use Rattle.std.proofs.lemmas.List.Elements.{All-append}
use Rattle.std.proofs.lemmas.List.Quantifiers.{all_pairs_push}
use Rattle.std.proofs.lemmas.List.Sorted.{All-permutation, IsPermutation-keeps, IsPermutation-middle}
use Rattle.std.proofs.lemmas.List.Edits.{length-swap, swapped_from_swap}
use Rattle.std.proofs.lemmas.List.{get_or_at, length-append}
use Rattle.std.proofs.lemmas.List.Sums.{count_by-le-length, sum_by-set}
use Rattle.std.specs.Option.{option_map_or}
use Rattle.bm_class.specs.Sizes.{units_per_page}
use Rattle.bm_page.specs.declared.units.Stocked.{Stocked}
use Rattle.bm_page.specs.UnitState.{UnitState, stocked_of}
use Rattle.bm_page.specs.Stock.{Stock, class_at, stocked_at, unborn, any_out, is_stock_of, least_stock, lowest_page, unit_or_page, next_unit, given, unit_given, fetched, returned}
use Rattle.bm_page.specs.Kept.{IsPool}
use Rattle.bm_page.specs.Out.{IsOut, AreOut, IsFromStock, count_out}
use Rattle.bm_page.proofs.Least.{least_below-Some}
use Rattle.bm_page.proofs.StockLemmas.{is_stock_of-parts, stocked_at-same, stocked_at-other, class_at-same, class_at-other, any_out-false, false_from, out_inside}
use Rattle.bm_page.proofs.FetchLemmas.{fetched-zero, fetched-none, fetched-next, number-unit_given}

-- A stock as a pool keeps it: a unit is out only where its page has a class.
pub record IsSettled (pool : Stock) : Type 0 where
  pub unit_count : length pool.units ≡ 256 * length pool.classes
  pub placed : (u : ℕ) → (stocked_at pool.units u).out ≡ true → IsSome (class_at pool.classes (u / 256))

-- a pool keeps its stock so
pub IsSettled-pool : (classes : List (Option ℕ)) (lows : List ℕ) (units : List Stocked) → IsPool classes lows units → IsSettled (record { classes = classes; units = units })
IsSettled-pool classes lows units is = record {
  unit_count = is.unit_count;
  placed = λ u out. has_class (class_at classes (u / 256)) (u % 256) (is.placed u out);
}
  where
    has_class : (o : Option ℕ) (n : ℕ) → n < option_map_or units_per_page o 0 → IsSome o
    has_class None n lt = absurd (omega arith)
    has_class (Some k) n lt = refl

-- A unit that is given next, as far as who holds units must know.
record IsReady (class : ℕ) (pool : Stock) (number : ℕ) : Type 0 where
  inside : number < length pool.units
  stock : (stocked_at pool.units number).out ≡ false
  page : (c : ℕ) → class_at pool.classes (number / 256) ≡ Some c → c ≡ class

is_none-None : (o : Option ℕ) → is_none o ≡ true → o ≡ None
is_none-None None e = refl
is_none-None (Some n) e = absurd (cc)

next_ready : (class : ℕ) (pool : Stock) (number : ℕ) → IsSettled pool → next_unit class pool ≡ Some number → IsReady class pool number
unfolding next_unit
next_ready class pool number settled e = go (least_stock class pool) (lowest_page pool) refl refl e
  where
    go : (stock page : Option ℕ) → least_stock class pool ≡ stock → lowest_page pool ≡ page → unit_or_page stock page ≡ Some number → IsReady class pool number
    go (Some u) page stock_is page_is is =
        let same : u ≡ number = cc in
        let found = least_below-Some (is_stock_of class pool) (length pool.units) number (stock_is ∙ ap (λ n. Some n) same) in
        let parts = is_stock_of-parts class pool number found.1 in
        record { inside = found.0; stock = parts.2; page = λ c at. cc }
    go None (Some p) stock_is page_is is =
        let same : 256 * p ≡ number = cc in
        let found = least_below-Some (λ q. is_none (class_at pool.classes q)) (length pool.classes) p page_is in
        let p_inside = found.0 in
        let count = settled.unit_count in
        let on_page : number / 256 ≡ p = omega arith in
        let none : class_at pool.classes (number / 256) ≡ None = ap (λ q. class_at pool.classes q) on_page ∙ is_none-None (class_at pool.classes p) found.1 in
        record {
          inside = omega arith;
          stock = false_from _ (λ out. false≢true (sym (ap is_some none) ∙ settled.placed number out));
          page = λ c at. absurd (cc);
        }
    go None None stock_is page_is is = absurd (cc)

-- the stock stays settled
settled-given : (class : ℕ) (pool : Stock) (number : ℕ) → IsSettled pool → IsReady class pool number → IsSettled (given class number pool)
unfolding given
settled-given class pool number settled ready =
    let count = settled.unit_count in
    let inside = ready.inside in
    let page : number / 256 < length pool.classes = omega arith in
    record {
      unit_count = rw (length-set, length-set) count;
      placed = λ u out.
          elim (cases_eq (u / 256) (number / 256)) [
            | inl same ↦ ap (λ q. is_some (class_at (set pool.classes (number / 256) (Some class)) q)) same ∙ ap is_some (class_at-same pool.classes (number / 256) (Some class) page)
            | inr other ↦
                let ne : u ≢ number = λ e. other (ap (λ n. n / 256) e) in
                let was : (stocked_at pool.units u).out ≡ true = sym (ap (λ (s : Stocked). s.out) (stocked_at-other pool.units number u (record (stocked_at pool.units number) { out = true }) ne)) ∙ out in
                ap is_some (class_at-other pool.classes (number / 256) (u / 256) (Some class) other) ∙ settled.placed u was
          ];
    }

-- who was out still is, and the unit that was given is too
out-given : (class : ℕ) (pool : Stock) (number : ℕ) (unit : UnitState) → IsSettled pool → IsReady class pool number → IsOut pool unit → IsOut (given class number pool) unit
unfolding given
out-given class pool number unit settled ready is =
    let count = settled.unit_count in
    let inside = ready.inside in
    let page : number / 256 < length pool.classes = omega arith in
    let ne : unit.number ≢ number = λ e. false≢true (sym ready.stock ∙ (sym (ap (λ n. (stocked_at pool.units n).out) e) ∙ is.out)) in
    record {
      out = ap (λ (s : Stocked). s.out) (stocked_at-other pool.units number unit.number (record (stocked_at pool.units number) { out = true }) ne) ∙ is.out;
      class =
          elim (cases_eq (unit.number / 256) (number / 256)) [
            | inl same ↦
                let was : unit.class ≡ class = ready.page unit.class (sym (ap (λ q. class_at pool.classes q) same) ∙ is.class) in
                ap (λ q. class_at (set pool.classes (number / 256) (Some class)) q) same ∙ (class_at-same pool.classes (number / 256) (Some class) page ∙ ap (λ k. Some k) (sym was))
            | inr other ↦ class_at-other pool.classes (number / 256) (unit.number / 256) (Some class) other ∙ is.class
          ];
    }

out-new : (class : ℕ) (pool : Stock) (number : ℕ) → IsSettled pool → IsReady class pool number → IsOut (given class number pool) (unit_given class number pool)
unfolding given unit_given
out-new class pool number settled ready =
    let count = settled.unit_count in
    let inside = ready.inside in
    let page : number / 256 < length pool.classes = omega arith in
    record {
      out = ap (λ (s : Stocked). s.out) (stocked_at-same pool.units number (record (stocked_at pool.units number) { out = true }) inside);
      class = class_at-same pool.classes (number / 256) (Some class) page;
    }

are_out-given : (class : ℕ) (pool : Stock) (number : ℕ) (held : List UnitState) → IsSettled pool → IsReady class pool number → AreOut pool held → AreOut (given class number pool) (held ++ unit_given class number pool ∷ [])
are_out-given class pool number held settled ready are =
    let unit = unit_given class number pool in
    record {
      each = All-append (IsOut (given class number pool)) held (unit ∷ []) (λ k d lt. out-given class pool number (get_or held k d) settled ready (are.each k d lt)) (λ k d lt. only k d lt);
      distinct = all_pairs_push (λ (a b : UnitState). a.number ≢ b.number) held unit are.distinct (λ k d lt e.
          let out = (are.each k d lt).out in
          let same : (get_or held k d).number ≡ number = e ∙ number-unit_given class number pool in
          false≢true (sym ready.stock ∙ (sym (ap (λ n. (stocked_at pool.units n).out) same) ∙ out)));
    }
  where
    only : (k : ℕ) (d : UnitState) → k < 1 → IsOut (given class number pool) (get_or (unit_given class number pool ∷ []) k d)
    only zero d lt = out-new class pool number settled ready
    only (suc k) d lt = absurd (omega arith)

option_cases : (o : Option ℕ) → (o ≡ None) ⊎ ((n : ℕ) × (o ≡ Some n))
option_cases None = inl refl
option_cases (Some n) = inr (n, refl)

-- a fetch adds its units to those that are out
pub are_out-fetched : (class want : ℕ) (pool : Stock) (held : List UnitState) → IsSettled pool → AreOut pool held → AreOut (fetched class want pool).pool (held ++ (fetched class want pool).units)
are_out-fetched class zero pool held settled are =
    let none = fetched-zero class zero pool refl in
    rw (none, append-nil) are
are_out-fetched class (suc want) pool held settled are =
    elim (option_cases (next_unit class pool)) [
      | inl none ↦ rw (fetched-none class (suc want) pool none, append-nil) are
      | inr (number, next) ↦
          let ready = next_ready class pool number settled next in
          let rest = are_out-fetched class want (given class number pool) (held ++ unit_given class number pool ∷ []) (settled-given class pool number settled ready) (are_out-given class pool number held settled ready are) in
          rw (fetched-next class want number pool next) (rw append_assoc at rest)
    ]

-- units at two places differ in their numbers
apart : (l : List UnitState) (d : UnitState) → AllPairs (λ (a b : UnitState). a.number ≢ b.number) l → (i j : ℕ) → i < length l → j < length l → i ≢ j → (x y : UnitState) → x ≡ get_or l i d → y ≡ get_or l j d → x.number ≢ y.number
apart l d distinct i j i_in j_in ne x y x_is y_is e =
    let same : (get_or l i d).number ≡ (get_or l j d).number = sym (ap (λ (u : UnitState). u.number) x_is) ∙ (e ∙ ap (λ (u : UnitState). u.number) y_is) in
    elim (cases_lt i j) [
      | inl below ↦ distinct i j d below j_in same
      | inr above ↦ distinct j i d (omega arith) i_in (sym same)
    ]

-- the order of those that are out says nothing
distinct-swap : (l : List UnitState) (i j : ℕ) → i < length l → j < length l → AllPairs (λ (a b : UnitState). a.number ≢ b.number) l → AllPairs (λ (a b : UnitState). a.number ≢ b.number) (swap l i j)
distinct-swap l i j i_in j_in distinct a b d a_below b_in =
    let swapped = swapped_from_swap l (swap l i j) i j d i_in j_in refl in
    let b_inside : b < length l = omega (arith, b_in, length-swap l i j) in
    let at_i : get_or (swap l i j) i d ≡ get_or l j d = swapped.0 in
    let at_j : get_or (swap l i j) j d ≡ get_or l i d = swapped.1 in
    elim (cases_eq a i) [
      | inl a_i ↦
          let first : get_or (swap l i j) a d ≡ get_or l j d = ap (λ k. get_or (swap l i j) k d) a_i ∙ at_i in
          elim (cases_eq b j) [
            | inl b_j ↦ apart l d distinct j i j_in i_in (omega arith) _ _ first (ap (λ k. get_or (swap l i j) k d) b_j ∙ at_j)
            | inr b_ne ↦ apart l d distinct j b j_in b_inside (λ e. b_ne (sym e)) _ _ first (swapped.2 b (omega arith) b_ne)
          ]
      | inr a_ne ↦ elim (cases_eq a j) [
        | inl a_j ↦
            let first : get_or (swap l i j) a d ≡ get_or l i d = ap (λ k. get_or (swap l i j) k d) a_j ∙ at_j in
            elim (cases_eq b i) [
              | inl b_i ↦ apart l d distinct i j i_in j_in (omega arith) _ _ first (ap (λ k. get_or (swap l i j) k d) b_i ∙ at_i)
              | inr b_ne ↦ apart l d distinct i b i_in b_inside (λ e. b_ne (sym e)) _ _ first (swapped.2 b b_ne (omega arith))
            ]
        | inr a_other ↦
            let first : get_or (swap l i j) a d ≡ get_or l a d = swapped.2 a a_ne a_other in
            let a_inside : a < length l = omega arith in
            elim (cases_eq b i) [
              | inl b_i ↦ apart l d distinct a j a_inside j_in a_other _ _ first (ap (λ k. get_or (swap l i j) k d) b_i ∙ at_i)
              | inr b_ne ↦ elim (cases_eq b j) [
                | inl b_j ↦ apart l d distinct a i a_inside i_in a_ne _ _ first (ap (λ k. get_or (swap l i j) k d) b_j ∙ at_j)
                | inr b_other ↦ apart l d distinct a b a_inside b_inside (omega arith) _ _ first (swapped.2 b b_ne b_other)
              ]
            ]
      ]
    ]

pub are_out-permutation : (pool : Stock) (units others : List UnitState) → IsPermutation units others → AreOut pool units → AreOut pool others
are_out-permutation pool units others moves are = record {
  each = All-permutation (IsOut pool) units others moves are.each;
  distinct = IsPermutation-keeps units (AllPairs (λ (a b : UnitState). a.number ≢ b.number)) are.distinct distinct-swap others moves;
}

-- a unit that comes back leaves the others out
out-returned : (pool : Stock) (unit other : UnitState) → IsOut pool unit → IsOut pool other → unit.number ≢ other.number → IsOut (returned unit pool) other
unfolding returned
out-returned pool unit other is other_is ne =
    let still : (stocked_at (set pool.units unit.number (stocked_of unit)) other.number).out ≡ true = ap (λ (s : Stocked). s.out) (stocked_at-other pool.units unit.number other.number (stocked_of unit) (λ e. ne (sym e))) ∙ other_is.out in
    record {
      out = still;
      class =
          elim (cases_Bool (any_out (set pool.units unit.number (stocked_of unit)) (unit.number / 256))) [
            | inl any ↦ rw any other_is.class
            | inr none ↦
                let other_page : other.number / 256 ≢ unit.number / 256 = λ e. false≢true (sym (any_out-false (set pool.units unit.number (stocked_of unit)) (unit.number / 256) none other.number e) ∙ still) in
                rw none (class_at-other pool.classes (unit.number / 256) (other.number / 256) None other_page ∙ other_is.class)
          ];
    }

are_out-back : (pool : Stock) (unit : UnitState) (rest : List UnitState) → AreOut pool (unit ∷ rest) → AreOut (returned unit pool) rest
are_out-back pool unit rest are = record {
  each = λ k d lt. out-returned pool unit (get_or rest k d) (are.each 0 d (omega arith)) (are.each (suc k) d (omega arith)) (are.distinct 0 (suc k) d (omega arith) (omega arith));
  distinct = λ i j d i_below j_in. are.distinct (suc i) (suc j) d (omega arith) (omega arith);
}

pub are_out-returned : (pool : Stock) (unit : UnitState) (before after : List UnitState) → AreOut pool (before ++ unit ∷ after) → AreOut (returned unit pool) (before ++ after)
are_out-returned pool unit before after are = are_out-back pool unit (before ++ after) (are_out-permutation pool (before ++ unit ∷ after) (unit ∷ (before ++ after)) (IsPermutation-middle before unit after) are)

-- each of those that are out is
pub is_out-at : (pool : Stock) (unit : UnitState) (before after : List UnitState) → AreOut pool (before ++ unit ∷ after) → IsOut pool unit
is_out-at pool unit before after are =
    let same : get_or (before ++ unit ∷ after) (length before) unit ≡ unit = get_or_at before unit after unit (length before) refl in
    let length_is : length (before ++ unit ∷ after) ≡ length before + length (unit ∷ after) = length-append before (unit ∷ after) in
    rw same at (are.each (length before) unit (omega arith))

-- none are out together
pub are_out_none : (pool : Stock) → AreOut pool []
are_out_none pool = record {
  each = λ k d lt. absurd (omega arith);
  distinct = λ i j d below lt. absurd (omega arith);
}

-- giving a unit changes of it only that it is out
known-given : (class : ℕ) (pool : Stock) (number u : ℕ) → number < length pool.units → (stocked_at (given class number pool).units u ≡ stocked_at pool.units u) ⊎ (stocked_at (given class number pool).units u ≡ record (stocked_at pool.units u) { out = true })
unfolding given
known-given class pool number u inside =
    elim (cases_eq u number) [
      | inl same ↦ inr (rw same (stocked_at-same pool.units number (record (stocked_at pool.units number) { out = true }) inside))
      | inr ne ↦ inl (stocked_at-other pool.units number u (record (stocked_at pool.units number) { out = true }) ne)
    ]

from_stock-before : (class : ℕ) (pool : Stock) (number : ℕ) (unit : UnitState) → number < length pool.units → IsFromStock class (given class number pool) unit → IsFromStock class pool unit
from_stock-before class pool number unit inside is =
    elim (known-given class pool number unit.number inside) [
      | inl same ↦ record {
        stock = sym (ap (λ (s : Stocked). s.out) same) ∙ is.stock;
        of_class = is.of_class;
        home = is.home;
        life = is.life ∙ ap (λ (s : Stocked). s.life) same;
        seal = is.seal ∙ ap (λ (s : Stocked). s.seal) same;
      }
      | inr out ↦ absurd (false≢true (sym is.stock ∙ ap (λ (s : Stocked). s.out) out))
    ]

from_stock-first : (class : ℕ) (pool : Stock) (number : ℕ) → IsReady class pool number → IsFromStock class pool (unit_given class number pool)
unfolding unit_given
from_stock-first class pool number ready = record { stock = ready.stock; of_class = refl; home = refl; life = refl; seal = refl }

-- every unit of a fetch was in stock
pub from_stock-fetched : (class want : ℕ) (pool : Stock) → IsSettled pool → All (IsFromStock class pool) (fetched class want pool).units
from_stock-fetched class zero pool settled =
    let none = fetched-zero class zero pool refl in
    rw none (λ k d lt. absurd (omega arith))
from_stock-fetched class (suc want) pool settled =
    elim (option_cases (next_unit class pool)) [
      | inl none ↦ rw (fetched-none class (suc want) pool none) (λ k d lt. absurd (omega arith))
      | inr (number, next) ↦
          let ready = next_ready class pool number settled next in
          let rest = from_stock-fetched class want (given class number pool) (settled-given class pool number settled ready) in
          rw (fetched-next class want number pool next) (all_cons (IsFromStock class pool) (unit_given class number pool) (fetched class want (given class number pool)).units (from_stock-first class pool number ready)
          (λ k d lt. from_stock-before class pool number (get_or (fetched class want (given class number pool)).units k d) ready.inside (rest k d lt)))
    ]
  where
    all_cons : (P : UnitState → Type 0) (x : UnitState) (xs : List UnitState) → P x → All P xs → All P (x ∷ xs)
    all_cons P x xs first others zero d lt = first
    all_cons P x xs first others (suc k) d lt = others k d (omega arith)

-- one more unit is out once a unit was given, and one less once it is back
count-given : (class : ℕ) (pool : Stock) (number : ℕ) → IsReady class pool number → count_out (given class number pool).units ≡ count_out pool.units + 1
unfolding given
count-given class pool number ready =
    let weight : Stocked → ℕ = λ s. cond s.out 1 0 in
    let was : weight (stocked_at pool.units number) ≡ 0 = ap (λ b. let n : ℕ = cond b 1 0 in n) ready.stock in
    let sums = sum_by-set weight pool.units number (record (stocked_at pool.units number) { out = true }) unborn ready.inside in
    omega (arith, sums, was)

pub count-returned : (unit : UnitState) (pool : Stock) → (stocked_at pool.units unit.number).out ≡ true → count_out (returned unit pool).units + 1 ≡ count_out pool.units
unfolding returned
count-returned unit pool out =
    let inside = out_inside pool.units unit.number out in
    let weight : Stocked → ℕ = λ s. cond s.out 1 0 in
    let was : weight (stocked_at pool.units unit.number) ≡ 1 = ap (λ b. let n : ℕ = cond b 1 0 in n) out in
    let sums = sum_by-set weight pool.units unit.number (stocked_of unit) unborn inside in
    omega (arith, sums, was)

-- as many units more are out after a fetch as it gave
pub count-fetched : (class want : ℕ) (pool : Stock) → IsSettled pool → count_out (fetched class want pool).pool.units ≡ count_out pool.units + length (fetched class want pool).units
count-fetched class zero pool settled = rw (fetched-zero class zero pool refl) (omega arith)
count-fetched class (suc want) pool settled =
    elim (option_cases (next_unit class pool)) [
      | inl none ↦ rw (fetched-none class (suc want) pool none) (omega arith)
      | inr (number, next) ↦
          let ready = next_ready class pool number settled next in
          let first = count-given class pool number ready in
          let rest = count-fetched class want (given class number pool) (settled-given class pool number settled ready) in
          rw (fetched-next class want number pool next) (omega (arith, first, rest))
    ]

-- a fetch gives no more units than there are
length-given : (class number : ℕ) (pool : Stock) → length (given class number pool).units ≡ length pool.units
unfolding given
length-given class number pool = length-set pool.units number (record (stocked_at pool.units number) { out = true })

length_units-fetched : (class want : ℕ) (pool : Stock) → length (fetched class want pool).pool.units ≡ length pool.units
length_units-fetched class zero pool = rw (fetched-zero class zero pool refl)
length_units-fetched class (suc want) pool =
    elim (option_cases (next_unit class pool)) [
      | inl none ↦ rw (fetched-none class (suc want) pool none)
      | inr (number, next) ↦ rw (fetched-next class want number pool next) (length_units-fetched class want (given class number pool) ∙ length-given class number pool)
    ]

pub fetched-le-units : (class want : ℕ) (pool : Stock) → IsSettled pool → length (fetched class want pool).units ≤ length pool.units
fetched-le-units class want pool settled =
    let count = count-fetched class want pool settled in
    let all = count_by-le-length (λ (unit : Stocked). unit.out) (fetched class want pool).pool.units in
    let same = length_units-fetched class want pool in
    omega (arith, count, all, same)

pub fetched-le-want : (class want : ℕ) (pool : Stock) → length (fetched class want pool).units ≤ want
fetched-le-want class zero pool = rw (fetched-zero class zero pool refl) (omega arith)
fetched-le-want class (suc want) pool =
    elim (option_cases (next_unit class pool)) [
      | inl none ↦ rw (fetched-none class (suc want) pool none) (omega arith)
      | inr (number, next) ↦
          let rest = fetched-le-want class want (given class number pool) in
          rw (fetched-next class want number pool next) (omega (arith, rest))
    ]
