-- A stock stays settled, and of one unit a fetch and a return change whether it is out.
use Rattle.std.proofs.Common.{◌≡◌, ◌≢◌, ℕ, zero, suc, ◌+◌, ◌*◌, ◌/◌, ◌<◌, ◌⊎◌, inl, inr, true, false, List, [], ◌∷◌, length, set, Option, None, Some, refl, sym, ◌∙◌, ap, subst, arith, length-set}
use Rattle.std.specs.Prelude.{is_none, is_some, replicate}
use Rattle.std.proofs.lemmas.Bool.{cases_eq, cases_lt, cases_Bool, false≢true}
use Rattle.std.proofs.lemmas.Bool.Decides.{eqb_tells}
use Rattle.std.proofs.lemmas.List.{get_or-replicate, get_or_past, length-replicate}
use Rattle.bm_page.specs.declared.units.Stocked.{Stocked}
use Rattle.bm_page.specs.UnitState.{stocked_of}
use Rattle.bm_page.specs.Stock.{Fetched, Stock, any_out, class_at, fetched, given, is_stock_of, least_stock, lowest_page, next_unit, returned, stocked_at, unborn, unit_given, unit_or_page}
use Rattle.bm_page.proofs.Least.{least_below-Some}
use Rattle.bm_page.proofs.StockLemmas.{any_out-false, class_at-other, class_at-same, false_from, is_stock_of-parts, out_inside, stocked_at-other, stocked_at-same}
use Rattle.bm_page.proofs.FetchLemmas.{fetched-next, fetched-none, fetched-zero, number-unit_given}
use Rattle.bm_law_lives.specs.Together.{times}
use Rattle.bm_law_order.specs.Pages.{AllOut, all_back, bare, fresh_pages, unit_numbers}
use Rattle.bm_law_laid.specs.UnitsOut.{IsSettled, times_out}
use Rattle.bm_law_laid.proofs.Onces.{times-append}

-- ---- the next unit of a fetch

-- It isn't out, and its page has the class of the fetch or none.
record IsNext (class : ℕ) (pool : Stock) (number : ℕ) : Type 0 where
  inside : number < length pool.units
  stock : (stocked_at pool.units number).out ≡ false

is_none-None : (o : Option ℕ) → is_none o ≡ true → o ≡ None
is_none-None None e = refl
is_none-None (Some n) e = absurd (cc)

next-is : (class : ℕ) (pool : Stock) (number : ℕ) → IsSettled pool → next_unit class pool ≡ Some number → IsNext class pool number
unfolding next_unit
next-is class pool number settled e = go (least_stock class pool) (lowest_page pool) refl refl e
  where
    go : (stock page : Option ℕ) → least_stock class pool ≡ stock → lowest_page pool ≡ page → unit_or_page stock page ≡ Some number → IsNext class pool number
    go (Some u) page stock_is page_is is =
        let same : u ≡ number = cc in
        let found = least_below-Some (is_stock_of class pool) (length pool.units) number (stock_is ∙ ap (λ n. Some n) same) in
        let parts = is_stock_of-parts class pool number found.1 in
        record { inside = found.0; stock = parts.2 }
    go None (Some p) stock_is page_is is =
        let same : 256 * p ≡ number = cc in
        let found = least_below-Some (λ q. is_none (class_at pool.classes q)) (length pool.classes) p page_is in
        let p_inside = found.0 in
        let count = settled.unit_count in
        let on_page : number / 256 ≡ p = omega arith in
        let none : class_at pool.classes (number / 256) ≡ None = ap (λ q. class_at pool.classes q) on_page ∙ is_none-None (class_at pool.classes p) found.1 in
        record { inside = omega arith; stock = false_from _ (λ out. false≢true (sym (ap is_some none) ∙ settled.placed number out)) }
    go None None stock_is page_is is = absurd (cc)

settled-given : (class : ℕ) (pool : Stock) (number : ℕ) → IsSettled pool → IsNext class pool number → IsSettled (given class number pool)
unfolding given
settled-given class pool number settled next =
    let count = settled.unit_count in
    let inside = next.inside in
    let page : number / 256 < length pool.classes = omega arith in
    record {
      unit_count = length-set pool.units number (record (stocked_at pool.units number) { out = true }) ∙ (count ∙ ap (λ k. 256 * k) (sym (length-set pool.classes (number / 256) (Some class))));
      placed = λ u out.
          elim (cases_eq (u / 256) (number / 256)) [
            | inl same ↦ ap (λ q. is_some (class_at (set pool.classes (number / 256) (Some class)) q)) same ∙ ap is_some (class_at-same pool.classes (number / 256) (Some class) page)
            | inr other ↦
                let ne : u ≢ number = λ e. other (ap (λ n. n / 256) e) in
                let was : (stocked_at pool.units u).out ≡ true = sym (ap (λ (s : Stocked). s.out) (stocked_at-other pool.units number u (record (stocked_at pool.units number) { out = true }) ne)) ∙ out in
                ap is_some (class_at-other pool.classes (number / 256) (u / 256) (Some class) other) ∙ settled.placed u was
          ];
    }

out-given : (u class : ℕ) (pool : Stock) (number : ℕ) → IsNext class pool number → times u (number ∷ []) + times_out u pool ≡ times_out u (given class number pool)
unfolding given
out-given u class pool number next =
    let x : Stocked = record (stocked_at pool.units number) { out = true } in
    elim (eqb_tells u number) [
      | inl y ↦
          let was : (stocked_at pool.units u).out ≡ false = ap (λ k. (stocked_at pool.units k).out) y.1 ∙ next.stock in
          let now : (stocked_at (set pool.units number x) u).out ≡ true = ap (λ k. (stocked_at (set pool.units number x) k).out) y.1 ∙ ap (λ (s : Stocked). s.out) (stocked_at-same pool.units number x next.inside) in
          rw (y.0, was, now) refl
      | inr y ↦
          let same : (stocked_at (set pool.units number x) u).out ≡ (stocked_at pool.units u).out = ap (λ (s : Stocked). s.out) (stocked_at-other pool.units number u x y.1) in
          rw (y.0, same) (omega arith)
    ]

-- ---- a fetch

option_cases : (o : Option ℕ) → (o ≡ None) ⊎ ((n : ℕ) × (o ≡ Some n))
option_cases None = inl refl
option_cases (Some n) = inr (n, refl)

-- what a fetch answers is so of one unit
pub record Gives (u : ℕ) (pool : Stock) (f : Fetched) : Type 0 where
  pub settled : IsSettled f.pool
  pub out : times u (unit_numbers f.units) + times_out u pool ≡ times_out u f.pool

pub fetch-gives : (u class want : ℕ) (pool : Stock) → IsSettled pool → Gives u pool (fetched class want pool)
fetch-gives u class zero pool settled = subst (Gives u pool) (sym (fetched-zero class zero pool refl)) (record { settled = settled; out = omega arith })
fetch-gives u class (suc want) pool settled =
    elim (option_cases (next_unit class pool)) [
      | inl none ↦ subst (Gives u pool) (sym (fetched-none class (suc want) pool none)) (record { settled = settled; out = omega arith })
      | inr (number, next) ↦
          let is = next-is class pool number settled next in
          let now : Stock = given class number pool in
          let first = out-given u class pool number is in
          let rest = fetch-gives u class want now (settled-given class pool number settled is) in
          let rest_out = rest.out in
          let named = number-unit_given class number pool in
          let both : times u (number ∷ unit_numbers (fetched class want now).units) ≡ times u (number ∷ []) + times u (unit_numbers (fetched class want now).units) = times-append u (number ∷ []) (unit_numbers (fetched class want now).units) in
          let all : times u ((unit_given class number pool).number ∷ unit_numbers (fetched class want now).units) ≡ times u (number ∷ []) + times u (unit_numbers (fetched class want now).units) = ap (λ k. times u (k ∷ unit_numbers (fetched class want now).units)) named ∙ both in
          subst (Gives u pool) (sym (fetched-next class want number pool next)) (record { settled = rest.settled; out = omega (arith, first, rest_out, all) })
    ]

-- ---- a return

settled-back : (n : ℕ) (pool : Stock) → IsSettled pool → IsSettled (returned (bare n) pool)
unfolding returned
settled-back n pool settled =
    let x : Stocked = stocked_of (bare n) in
    let units : List Stocked = set pool.units n x in
    let was : (u : ℕ) → u ≢ n → (stocked_at units u).out ≡ true → (stocked_at pool.units u).out ≡ true = λ u ne out. sym (ap (λ (s : Stocked). s.out) (stocked_at-other pool.units n u x ne)) ∙ out in
    let ne : (u : ℕ) → (stocked_at units u).out ≡ true → u ≢ n = λ u out e. not-here u e out in
    let count = settled.unit_count in
    let many : length units ≡ length pool.units = length-set pool.units n x in
    elim (cases_Bool (any_out units (n / 256))) [
      | inl any ↦ rw any (record { unit_count = many ∙ count; placed = λ u out. settled.placed u (was u (ne u out) out) })
      | inr none ↦ rw none (record {
        unit_count = many ∙ (count ∙ ap (λ k. 256 * k) (sym (length-set pool.classes (n / 256) None)));
        placed = λ u out.
            let other : u / 256 ≢ n / 256 = λ e. false≢true (sym (any_out-false units (n / 256) none u e) ∙ out) in
            ap is_some (class_at-other pool.classes (n / 256) (u / 256) None other) ∙ settled.placed u (was u (ne u out) out);
      })
    ]
  where
    not-here : (u : ℕ) → u ≡ n → (stocked_at (set pool.units n (stocked_of (bare n))) u).out ≡ true → ⊥
    not-here u e out =
        elim (cases_lt n (length pool.units)) [
          | inl inside ↦
              let same : (stocked_at (set pool.units n (stocked_of (bare n))) u).out ≡ false = ap (λ k. (stocked_at (set pool.units n (stocked_of (bare n))) k).out) e ∙ ap (λ (s : Stocked). s.out) (stocked_at-same pool.units n (stocked_of (bare n)) inside) in
              false≢true (sym same ∙ out)
          | inr past ↦
              let there = out_inside (set pool.units n (stocked_of (bare n))) u out in
              let many = length-set pool.units n (stocked_of (bare n)) in
              omega (arith, there, many, past, e)
        ]

out-back : (u n : ℕ) (pool : Stock) → (stocked_at pool.units n).out ≡ true → times u (n ∷ []) + times_out u (returned (bare n) pool) ≡ times_out u pool
unfolding returned
out-back u n pool out =
    let x : Stocked = stocked_of (bare n) in
    let inside = out_inside pool.units n out in
    elim (eqb_tells u n) [
      | inl y ↦
          let was : (stocked_at pool.units u).out ≡ true = ap (λ k. (stocked_at pool.units k).out) y.1 ∙ out in
          let now : (stocked_at (set pool.units n x) u).out ≡ false = ap (λ k. (stocked_at (set pool.units n x) k).out) y.1 ∙ ap (λ (s : Stocked). s.out) (stocked_at-same pool.units n x inside) in
          rw (y.0, was, now) refl
      | inr y ↦
          let same : (stocked_at (set pool.units n x) u).out ≡ (stocked_at pool.units u).out = ap (λ (s : Stocked). s.out) (stocked_at-other pool.units n u x y.1) in
          rw (y.0, same) (omega arith)
    ]

-- units that go back are so of one unit
pub record GoBack (u : ℕ) (ns : List ℕ) (pool : Stock) : Type 0 where
  pub settled : IsSettled (all_back ns pool)
  pub out : times u ns + times_out u (all_back ns pool) ≡ times_out u pool

pub all-go-back : (u : ℕ) (ns : List ℕ) (pool : Stock) → IsSettled pool → AllOut ns pool → GoBack u ns pool
all-go-back u [] pool settled h = record { settled = settled; out = omega arith }
all-go-back u (n ∷ ns) pool settled h =
    let first = out-back u n pool h.0 in
    let rest = all-go-back u ns (returned (bare n) pool) (settled-back n pool settled) h.1 in
    let rest_out = rest.out in
    let both : times u (n ∷ ns) ≡ times u (n ∷ []) + times u ns = times-append u (n ∷ []) ns in
    record { settled = rest.settled; out = omega (arith, first, rest_out, both) }

-- ---- at the outset

in-stock : (n u : ℕ) → (stocked_at (replicate n unborn) u).out ≡ false
in-stock n u =
    elim (cases_lt u n) [
      | inl inside ↦ ap (λ (s : Stocked). s.out) (get_or-replicate n u unborn unborn inside)
      | inr past ↦ let many : length (replicate n unborn) ≡ n = length-replicate n unborn in ap (λ (s : Stocked). s.out) (get_or_past (replicate n unborn) u unborn (omega (arith, many, past)))
    ]

pub none-out : (pages u : ℕ) → times_out u (fresh_pages pages) ≡ 0
none-out pages u = rw (in-stock (256 * pages) u) refl

pub settled-fresh : (pages : ℕ) → IsSettled (fresh_pages pages)
settled-fresh pages = record {
  unit_count = length-replicate (256 * pages) unborn ∙ ap (λ k. 256 * k) (sym (length-replicate pages None));
  placed = λ u out. absurd (false≢true (sym (in-stock (256 * pages) u) ∙ out));
}
