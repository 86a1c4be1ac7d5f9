-- Lemmas on what is in stock, and on the stock after a unit was given or came back.
use Rattle.std.proofs.Common.{◌≡◌, ◌≢◌, ℕ, ◌+◌, ◌*◌, ◌/◌, ◌%◌, ◌<◌, ◌≤◌, inl, inr, Bool, true, false, not, List, length, get_or, set, take, drop, ◌-◌, Option, None, Some, refl, sym, ◌∙◌, ap, arith, get_or-set_same, get_or-set_other, length-set}
use Rattle.std.specs.Prelude.{IsSome, min, nat_lt, ◌&&◌}
use Rattle.std.specs.Option.{option_map_or}
use Rattle.std.proofs.lemmas.Bool.{cases_lt, cases_eq, cases_Bool, and_parts, and_from, not-true, ltb-true, false≢true}
use Rattle.std.proofs.lemmas.List.{get_or_past, get_or_default, get_or-take, get_or-drop, length-take, length-drop}
use Rattle.std.proofs.lemmas.List.Folds.{Any-from_list_any, list_any_at}
use Rattle.std.proofs.lemmas.Bool.Decides.{nat_tests}
use Rattle.bm_class.specs.Sizes.{units_per_page}
use Rattle.bm_page.specs.declared.units.Stocked.{Stocked}
use Rattle.bm_page.specs.UnitState.{UnitState, stocked_of}
use Rattle.bm_page.specs.Stock.{Stock, class_at, stocked_at, unborn, is_of, is_stock_of, returned, any_out}
use Rattle.bm_page.specs.Kept.{IsPool, units_on}

-- a test that can't be true is false
pub false_from : (b : Bool) → (b ≡ true → ⊥) → b ≡ false
false_from b never = elim (cases_Bool b) [ inl holds ↦ absurd (never holds) | inr is ↦ is ]

-- a page of a class has just that class
pub is_of-parts : (class : ℕ) (o : Option ℕ) → is_of class o ≡ true → o ≡ Some class
is_of-parts class None e = absurd (cc)
is_of-parts class (Some other) e = let same : other ≡ class = grind (arith, nat_tests) in ap (λ c. Some c) same

pub is_of-Some : (class : ℕ) → is_of class (Some class) ≡ true
is_of-Some class = grind (arith, nat_tests)

-- what is in stock of a class
pub is_stock_of-true : (class : ℕ) (pool : Stock) (u : ℕ) → class_at pool.classes (u / 256) ≡ Some class → u % 256 < units_per_page class → (stocked_at pool.units u).out ≡ false → is_stock_of class pool u ≡ true
unfolding is_stock_of
is_stock_of-true class pool u page position out = rw (page, out) (and_from _ _ (is_of-Some class) (and_from _ _ (grind (arith, nat_tests)) refl))

pub is_stock_of-parts : (class : ℕ) (pool : Stock) (u : ℕ) → is_stock_of class pool u ≡ true → (class_at pool.classes (u / 256) ≡ Some class) × (u % 256 < units_per_page class) × ((stocked_at pool.units u).out ≡ false)
unfolding is_stock_of
is_stock_of-parts class pool u e =
    let outer = and_parts (is_of class (class_at pool.classes (u / 256))) (nat_lt (u % 256) (units_per_page class) && not (stocked_at pool.units u).out) e in
    let inner = and_parts (nat_lt (u % 256) (units_per_page class)) (not (stocked_at pool.units u).out) outer.1 in
    (is_of-parts class (class_at pool.classes (u / 256)) outer.0, ltb-true (u % 256) (units_per_page class) inner.0, not-true (stocked_at pool.units u).out inner.1)

-- what is out isn't in stock
pub is_stock_of-out : (class : ℕ) (pool : Stock) (u : ℕ) → (stocked_at pool.units u).out ≡ true → is_stock_of class pool u ≡ false
is_stock_of-out class pool u out = false_from _ (λ holds. let parts = is_stock_of-parts class pool u holds in absurd (cc))

-- what is known of a unit after a change of one
pub stocked_at-same : (units : List Stocked) (u : ℕ) (s : Stocked) → u < length units → stocked_at (set units u s) u ≡ s
stocked_at-same units u s inside = get_or-set_same units u s unborn inside

pub stocked_at-other : (units : List Stocked) (u v : ℕ) (s : Stocked) → v ≢ u → stocked_at (set units u s) v ≡ stocked_at units v
stocked_at-other units u v s ne = get_or-set_other units u v s unborn ne

pub class_at-same : (classes : List (Option ℕ)) (p : ℕ) (o : Option ℕ) → p < length classes → class_at (set classes p o) p ≡ o
class_at-same classes p o inside = get_or-set_same classes p o None inside

pub class_at-other : (classes : List (Option ℕ)) (p q : ℕ) (o : Option ℕ) → q ≢ p → class_at (set classes p o) q ≡ class_at classes q
class_at-other classes p q o ne = get_or-set_other classes p q o None ne

-- a unit that is out stays out when another one is
out_more : (units : List Stocked) (u v : ℕ) → u < length units → (stocked_at units v).out ≡ true → (stocked_at (set units u (record (stocked_at units u) { out = true })) v).out ≡ true
out_more units u v inside out =
    elim (cases_eq v u) [
      | inl same ↦ rw (same, stocked_at-same units u (record (stocked_at units u) { out = true }) inside)
      | inr ne ↦ rw (stocked_at-other units u v _ ne) out
    ]

out_before : (units : List Stocked) (u v : ℕ) → v ≢ u → (stocked_at (set units u (record (stocked_at units u) { out = true })) v).out ≡ true → (stocked_at units v).out ≡ true
out_before units u v ne out = sym (ap (λ (s : Stocked). s.out) (stocked_at-other units u v (record (stocked_at units u) { out = true }) ne)) ∙ out

-- a page that can only have one class is carved into that class's units
placed_same : (classes : List (Option ℕ)) (p n class : ℕ) → n < units_on classes p → ((c : ℕ) → class_at classes p ≡ Some c → c ≡ class) → n < units_per_page class
placed_same classes p n class lt only = go (class_at classes p) lt only
  where
    go : (o : Option ℕ) → n < option_map_or units_per_page o 0 → ((c : ℕ) → o ≡ Some c → c ≡ class) → n < units_per_page class
    go None h only_one = absurd (omega arith)
    go (Some c) h only_one = let same : c ≡ class = only_one c refl in rw (← same) h

-- a page with a class is one of the pages
pub class_at-inside : (classes : List (Option ℕ)) (p : ℕ) → IsSome (class_at classes p) → p < length classes
class_at-inside classes p some =
    elim (cases_lt p (length classes)) [
      | inl inside ↦ inside
      | inr past ↦
          let none : class_at classes p ≡ None = get_or_past classes p None past in
          absurd (false≢true (rw none at some))
    ]

-- a unit that is given leaves the pool whole
pub IsPool-given : (classes : List (Option ℕ)) (lows : List ℕ) (units : List Stocked) (class number : ℕ) → IsPool classes lows units → number < length units → number % 256 < units_per_page class → ((c : ℕ) → class_at classes (number / 256) ≡ Some c → c ≡ class) → IsPool (set classes (number / 256) (Some class)) lows (set units number (record (stocked_at units number) { out = true }))
IsPool-given classes lows units class number is inside position same_class =
    let page : number / 256 < length classes = let count = is.unit_count in omega arith in
    let here = class_at-same classes (number / 256) (Some class) page in
    record {
      pages = rw length-set is.pages;
      low_count = rw length-set is.low_count;
      unit_count = rw (length-set, length-set) is.unit_count;
      placed = λ u out.
          elim (cases_eq (u / 256) (number / 256)) [
            | inl same_page ↦
                rw (same_page, here)
                (elim (cases_eq u number) [
                  | inl same ↦ rw same position
                  | inr ne ↦
                      let was = is.placed u (out_before units number u ne out) in
                      placed_same classes (u / 256) (u % 256) class was (λ c at_page. same_class c (sym (ap (λ p. class_at classes p) same_page) ∙ at_page))
                ])
            | inr other_page ↦
                let ne : u ≢ number = λ e. other_page (ap (λ n. n / 256) e) in
                let was = is.placed u (out_before units number u ne out) in
                rw (class_at-other classes (number / 256) (u / 256) (Some class) other_page) was
          ];
      used = λ p some.
          elim (cases_eq p (number / 256)) [
            | inl same ↦ (number, sym same, rw (stocked_at-same units number _ inside))
            | inr ne ↦
                let was = is.used p (rw (class_at-other classes (number / 256) p (Some class) ne) at some) in
                (was.0, was.1, out_more units number was.0 inside was.2)
          ];
      low = λ p k lt. out_more units number (256 * p + k) inside (is.low p k lt);
      low_limit = is.low_limit;
    }

-- what a page's lowest unit in stock may be is settled by looking at it
pub IsPool-low : (classes : List (Option ℕ)) (lows : List ℕ) (units : List Stocked) (page n : ℕ) → IsPool classes lows units → page < length classes → n ≤ 256 → ((k : ℕ) → k < n → (stocked_at units (256 * page + k)).out ≡ true) → IsPool classes (set lows page n) units
IsPool-low classes lows units page n is inside small all_out =
    let count = is.low_count in
    let low_inside : page < length lows = omega arith in
    let here : get_or (set lows page n) page 0 ≡ n = get_or-set_same lows page n 0 low_inside in
    let other : (p : ℕ) → p ≢ page → get_or (set lows page n) p 0 ≡ get_or lows p 0 = λ p ne. get_or-set_other lows page p n 0 ne in
    record {
      pages = is.pages;
      low_count = rw length-set is.low_count;
      unit_count = is.unit_count;
      placed = is.placed;
      used = is.used;
      low = λ p k lt.
          elim (cases_eq p page) [
            | inl same ↦ rw same (all_out k (rw (same, here) at lt))
            | inr ne ↦ is.low p k (rw (other p ne) at lt)
          ];
      low_limit = λ p.
          elim (cases_eq p page) [
            | inl same ↦ rw (same, here) small
            | inr ne ↦ rw (other p ne) (is.low_limit p)
          ];
    }

-- where a unit of a page is out there is one
pub any_out-true : (units : List Stocked) (page : ℕ) → any_out units page ≡ true → (u : ℕ) × (u / 256 ≡ page) × ((stocked_at units u).out ≡ true)
unfolding any_out
any_out-true units page any =
    let part = take (256 * page + 256 - 256 * page) (drop (256 * page) units) in
    let found = Any-from_list_any (λ unit. unit.out) part any in
    let short : found.0 < 256 = omega (arith, found.2, length-take (256 * page + 256 - 256 * page) (drop (256 * page) units)) in
    let inside : found.0 < 256 * page + 256 - 256 * page = omega arith in
    let at : get_or part found.0 found.1 ≡ get_or units (256 * page + found.0) found.1 = get_or-take (256 * page + 256 - 256 * page) (drop (256 * page) units) found.0 found.1 inside ∙ get_or-drop (256 * page) units found.0 found.1 in
    let long : 256 * page + found.0 < length units = omega (arith, found.2, length-take (256 * page + 256 - 256 * page) (drop (256 * page) units), length-drop (256 * page) units) in
    let default : get_or units (256 * page + found.0) found.1 ≡ stocked_at units (256 * page + found.0) = get_or_default units (256 * page + found.0) found.1 unborn long in
    let same : stocked_at units (256 * page + found.0) ≡ found.1 = sym default ∙ (sym at ∙ found.3) in
    (256 * page + found.0, omega arith, ap (λ (s : Stocked). s.out) same ∙ found.4)

-- where none is, none is
pub any_out-false : (units : List Stocked) (page : ℕ) → any_out units page ≡ false → (u : ℕ) → u / 256 ≡ page → (stocked_at units u).out ≡ false
unfolding any_out
any_out-false units page none u on_page =
    elim (cases_lt u (length units)) [
      | inr past ↦ ap (λ (s : Stocked). s.out) (get_or_past units u unborn past)
      | inl inside ↦ false_from _ (λ out.
          let part = take (256 * page + 256 - 256 * page) (drop (256 * page) units) in
          let short : u - 256 * page < 256 * page + 256 - 256 * page = omega arith in
          let place : 256 * page + (u - 256 * page) ≡ u = omega arith in
          let at : get_or part (u - 256 * page) unborn ≡ get_or units (256 * page + (u - 256 * page)) unborn = get_or-take (256 * page + 256 - 256 * page) (drop (256 * page) units) (u - 256 * page) unborn short ∙ get_or-drop (256 * page) units (u - 256 * page) unborn in
          let same : get_or part (u - 256 * page) unborn ≡ stocked_at units u = at ∙ ap (λ n. get_or units n unborn) place in
          let long : u - 256 * page < length part = omega (arith, length-take (256 * page + 256 - 256 * page) (drop (256 * page) units), length-drop (256 * page) units) in
          let any = list_any_at (λ (unit : Stocked). unit.out) part (u - 256 * page) unborn long (ap (λ (s : Stocked). s.out) same ∙ out) in
          false≢true (sym none ∙ any))
    ]

-- a unit that comes back leaves the pool whole: its page keeps its class where another unit is out,
-- and has none where none is
back_before : (units : List Stocked) (u v : ℕ) (s : Stocked) → v ≢ u → (stocked_at (set units u s) v).out ≡ true → (stocked_at units v).out ≡ true
back_before units u v s ne out = sym (ap (λ (t : Stocked). t.out) (stocked_at-other units u v s ne)) ∙ out

back_ne : (units : List Stocked) (u v : ℕ) (s : Stocked) → u < length units → s.out ≡ false → (stocked_at (set units u s) v).out ≡ true → v ≢ u
back_ne units u v s inside is_back out = λ e.
    let same : stocked_at (set units u s) v ≡ s = ap (λ n. stocked_at (set units u s) n) e ∙ stocked_at-same units u s inside in
    false≢true (sym is_back ∙ (sym (ap (λ (t : Stocked). t.out) same) ∙ out))

still_out : (units : List Stocked) (u v : ℕ) (s : Stocked) → v ≢ u → (stocked_at units v).out ≡ true → (stocked_at (set units u s) v).out ≡ true
still_out units u v s ne out = ap (λ (t : Stocked). t.out) (stocked_at-other units u v s ne) ∙ out

min_left : (a b k : ℕ) → k < min a b → k < a
min_left a b k h = omega arith

min_right : (a b k : ℕ) → k < min a b → k < b
min_right a b k h = omega arith

low_back : (classes : List (Option ℕ)) (lows : List ℕ) (units : List Stocked) (number : ℕ) (s : Stocked) → IsPool classes lows units → number < length units → (p k : ℕ) → k < get_or (set lows (number / 256) (min (get_or lows (number / 256) 0) (number % 256))) p 0 → (stocked_at (set units number s) (256 * p + k)).out ≡ true
low_back classes lows units number s is inside p k lt =
    let count = is.low_count in
    let unit_count = is.unit_count in
    let page : number / 256 < length lows = omega arith in
    let below = min (get_or lows (number / 256) 0) (number % 256) in
    elim (cases_eq p (number / 256)) [
      | inl same ↦
          let here : get_or (set lows (number / 256) below) p 0 ≡ below = ap (λ n. get_or (set lows (number / 256) below) n 0) same ∙ get_or-set_same lows (number / 256) below 0 page in
          let low : k < below = rw here at lt in
          let was : k < get_or lows p 0 = rw same (min_left _ _ k low) in
          let position : k < number % 256 = min_right _ _ k low in
          let ne : 256 * p + k ≢ number = omega arith in
          still_out units number (256 * p + k) s ne (is.low p k was)
      | inr other ↦
          let there : get_or (set lows (number / 256) below) p 0 ≡ get_or lows p 0 = get_or-set_other lows (number / 256) p below 0 other in
          let was : k < get_or lows p 0 = rw there at lt in
          let limit = is.low_limit p in
          let short : k < 256 = omega arith in
          let ne : 256 * p + k ≢ number = omega arith in
          still_out units number (256 * p + k) s ne (is.low p k was)
    ]

low_limit_back : (lows : List ℕ) (page n : ℕ) → page < length lows → ((p : ℕ) → get_or lows p 0 ≤ 256) → (p : ℕ) → get_or (set lows page (min (get_or lows page 0) n)) p 0 ≤ 256
low_limit_back lows page n inside limit p =
    elim (cases_eq p page) [
      | inl same ↦
          let here : get_or (set lows page (min (get_or lows page 0) n)) page 0 ≡ min (get_or lows page 0) n = get_or-set_same lows page (min (get_or lows page 0) n) 0 inside in
          let bound = limit page in
          rw (same, here) (omega arith)
      | inr other ↦ rw (get_or-set_other lows page p (min (get_or lows page 0) n) 0 other) (limit p)
    ]

pub IsPool-kept : (classes : List (Option ℕ)) (lows : List ℕ) (units : List Stocked) (number : ℕ) (s : Stocked) → IsPool classes lows units → number < length units → s.out ≡ false → any_out (set units number s) (number / 256) ≡ true → IsPool classes (set lows (number / 256) (min (get_or lows (number / 256) 0) (number % 256))) (set units number s)
IsPool-kept classes lows units number s is inside is_back any =
    let count = is.low_count in
    let unit_count = is.unit_count in
    let page : number / 256 < length lows = omega arith in
    record {
      pages = is.pages;
      low_count = rw length-set is.low_count;
      unit_count = rw length-set is.unit_count;
      placed = λ u out. is.placed u (back_before units number u s (back_ne units number u s inside is_back out) out);
      used = λ p some.
          elim (cases_eq p (number / 256)) [
            | inl same ↦
                let found = any_out-true (set units number s) (number / 256) any in
                (found.0, found.1 ∙ sym same, found.2)
            | inr other ↦
                let was = is.used p some in
                let ne : was.0 ≢ number = λ e. other (sym was.1 ∙ ap (λ n. n / 256) e) in
                (was.0, was.1, still_out units number was.0 s ne was.2)
          ];
      low = low_back classes lows units number s is inside;
      low_limit = low_limit_back lows (number / 256) (number % 256) page is.low_limit;
    }

pub IsPool-emptied : (classes : List (Option ℕ)) (lows : List ℕ) (units : List Stocked) (number : ℕ) (s : Stocked) → IsPool classes lows units → number < length units → s.out ≡ false → any_out (set units number s) (number / 256) ≡ false → IsPool (set classes (number / 256) None) (set lows (number / 256) (min (get_or lows (number / 256) 0) (number % 256))) (set units number s)
IsPool-emptied classes lows units number s is inside is_back none =
    let count = is.low_count in
    let unit_count = is.unit_count in
    let page : number / 256 < length lows = omega arith in
    let page_inside : number / 256 < length classes = omega arith in
    record {
      pages = rw length-set is.pages;
      low_count = rw (length-set, length-set) is.low_count;
      unit_count = rw (length-set, length-set) is.unit_count;
      placed = λ u out.
          let was = is.placed u (back_before units number u s (back_ne units number u s inside is_back out) out) in
          let other : u / 256 ≢ number / 256 = λ e. false≢true (sym (any_out-false (set units number s) (number / 256) none u e) ∙ out) in
          rw (class_at-other classes (number / 256) (u / 256) None other) was;
      used = λ p some.
          elim (cases_eq p (number / 256)) [
            | inl same ↦
                let here : class_at (set classes (number / 256) None) p ≡ None = ap (λ n. class_at (set classes (number / 256) None) n) same ∙ class_at-same classes (number / 256) None page_inside in
                absurd (false≢true (rw here at some))
            | inr other ↦
                let was = is.used p (rw (class_at-other classes (number / 256) p None other) at some) in
                let ne : was.0 ≢ number = λ e. other (sym was.1 ∙ ap (λ n. n / 256) e) in
                (was.0, was.1, still_out units number was.0 s ne was.2)
          ];
      low = low_back classes lows units number s is inside;
      low_limit = low_limit_back lows (number / 256) (number % 256) page is.low_limit;
    }

-- what is out is one of the units
pub out_inside : (units : List Stocked) (u : ℕ) → (stocked_at units u).out ≡ true → u < length units
out_inside units u out =
    elim (cases_lt u (length units)) [
      | inl inside ↦ inside
      | inr past ↦ absurd (false≢true (sym (ap (λ (s : Stocked). s.out) (get_or_past units u unborn past)) ∙ out))
    ]

-- the stock once a unit is back, by whether another unit of its page is out
pub returned-kept : (unit : UnitState) (pool : Stock) → any_out (set pool.units unit.number (stocked_of unit)) (unit.number / 256) ≡ true → returned unit pool ≡ record { classes = pool.classes; units = set pool.units unit.number (stocked_of unit) }
unfolding returned
returned-kept unit pool any = rw any

pub returned-emptied : (unit : UnitState) (pool : Stock) → any_out (set pool.units unit.number (stocked_of unit)) (unit.number / 256) ≡ false → returned unit pool ≡ record { classes = set pool.classes (unit.number / 256) None; units = set pool.units unit.number (stocked_of unit) }
unfolding returned
returned-emptied unit pool any = rw any

-- the same, of the fields of the pool and of what goes into them
pub returned-kept-at : (unit : UnitState) (pool : Stock) (classes : List (Option ℕ)) (units : List Stocked) (number : ℕ) (s : Stocked) → classes ≡ pool.classes → units ≡ pool.units → number ≡ unit.number → s ≡ stocked_of unit → any_out (set units number s) (number / 256) ≡ true → returned unit pool ≡ record { classes = classes; units = set units number s }
returned-kept-at unit pool classes units number s e_classes e_units e_number e_s any =
    let any_there = rw (e_units, e_number, e_s) at any in
    rw (e_classes, e_units, e_number, e_s) (returned-kept unit pool any_there)

pub returned-emptied-at : (unit : UnitState) (pool : Stock) (classes : List (Option ℕ)) (units : List Stocked) (number : ℕ) (s : Stocked) → classes ≡ pool.classes → units ≡ pool.units → number ≡ unit.number → s ≡ stocked_of unit → any_out (set units number s) (number / 256) ≡ false → returned unit pool ≡ record { classes = set classes (number / 256) None; units = set units number s }
returned-emptied-at unit pool classes units number s e_classes e_units e_number e_s any =
    let any_there = rw (e_units, e_number, e_s) at any in
    rw (e_classes, e_units, e_number, e_s) (returned-emptied unit pool any_there)
