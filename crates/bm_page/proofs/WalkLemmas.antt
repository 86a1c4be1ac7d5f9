-- Lemmas on where a fetch still has to look.
use Rattle.std.proofs.Common.{◌≡◌, ◌≢◌, ℕ, ◌+◌, ◌*◌, ◌/◌, ◌%◌, ◌<◌, ◌≤◌, ◌⊎◌, inl, inr, true, false, length, set, Option, None, Some, refl, sym, ◌∙◌, ap, arith, length-set}
use Rattle.std.specs.Prelude.{IsSome, IfSome, IfNone, is_none, is_some}
use Rattle.std.proofs.lemmas.Bool.{cases_eq, false≢true}
use Rattle.bm_class.specs.Sizes.{units_per_page}
use Rattle.bm_page.specs.declared.units.Stocked.{Stocked}
use Rattle.bm_page.specs.declared.pool.Walk.{Walk}
use Rattle.bm_page.specs.Stock.{Stock, class_at, stocked_at, is_of, is_stock_of, least_stock, lowest_page, unit_or_page, next_unit, given}
use Rattle.bm_page.specs.Kept.{CanGive, IsFirstOn, IsFresh, IsLeastOn, IsWalk}
use Rattle.bm_page.proofs.Least.{least_below-is, least_below-none}
use Rattle.bm_page.proofs.StockLemmas.{false_from, is_of-Some, is_of-parts, is_stock_of-true, is_stock_of-parts, is_stock_of-out, class_at-inside, class_at-same, class_at-other, stocked_at-other}

none-from_some : (o : Option ℕ) → IsSome o → is_none o ≡ false
none-from_some None some = absurd (false≢true some)
none-from_some (Some x) some = refl

-- the lowest page without a class
pub lowest_page-is : (pool : Stock) (p : ℕ) → p < length pool.classes → is_none (class_at pool.classes p) ≡ true → ((q : ℕ) → q < p → IsSome (class_at pool.classes q)) → Some p ≡ lowest_page pool
lowest_page-is pool p inside none before = sym (least_below-is (λ page. is_none (class_at pool.classes page)) (length pool.classes) p inside none (λ q lt. none-from_some (class_at pool.classes q) (before q lt)))

pub lowest_page-none : (pool : Stock) (p : ℕ) → length pool.classes ≤ p → ((q : ℕ) → q < p → IsSome (class_at pool.classes q)) → None ≡ lowest_page pool
lowest_page-none pool p all before = sym (least_below-none (λ page. is_none (class_at pool.classes page)) (length pool.classes) (λ q lt. none-from_some (class_at pool.classes q) (before q (omega arith))))

-- a page of another class has no stock of the class
pub no_stock-other : (class : ℕ) (pool : Stock) (page u : ℕ) → is_of class (class_at pool.classes page) ≡ false → u / 256 ≡ page → is_stock_of class pool u ≡ false
no_stock-other class pool page u other on_page = false_from _ (λ holds.
    let parts = is_stock_of-parts class pool u holds in
    let at : class_at pool.classes page ≡ Some class = sym (ap (λ p. class_at pool.classes p) on_page) ∙ parts.0 in
    false≢true (sym other ∙ (ap (is_of class) at ∙ is_of-Some class)))

-- nor has a page all of whose units are out
pub no_stock-out : (class : ℕ) (pool : Stock) (page u : ℕ) → ((k : ℕ) → k < units_per_page class → (stocked_at pool.units (256 * page + k)).out ≡ true) → u / 256 ≡ page → is_stock_of class pool u ≡ false
no_stock-out class pool page u all_out on_page = false_from _ (λ holds.
    let parts = is_stock_of-parts class pool u holds in
    let same : 256 * page + u % 256 ≡ u = omega arith in
    let out = all_out (u % 256) parts.1 in
    let out_u : (stocked_at pool.units u).out ≡ true = sym (ap (λ n. (stocked_at pool.units n).out) same) ∙ out in
    false≢true (sym parts.2 ∙ out_u))

-- the first unit that isn't out on a page of the class is the least-numbered in stock there
pub IsLeastOn-first : (class : ℕ) (pool : Stock) (page number : ℕ) → is_of class (class_at pool.classes page) ≡ true → units_per_page class ≤ 256 → IsFirstOn pool.units page (units_per_page class) number → IsLeastOn class pool page number
IsLeastOn-first class pool page number of_class small first =
    let from = first.from in
    let until = first.until in
    let on_page : number / 256 ≡ page = omega arith in
    let position : number % 256 < units_per_page class = omega arith in
    let at : class_at pool.classes (number / 256) ≡ Some class = ap (λ p. class_at pool.classes p) on_page ∙ is_of-parts class (class_at pool.classes page) of_class in
    record {
      inside = first.inside;
      on_page = on_page;
      stock = is_stock_of-true class pool number at position first.stock;
      least = λ u u_on_page lt.
          let same : 256 * page + u % 256 ≡ u = omega arith in
          let out = first.least (u % 256) (omega arith) in
          is_stock_of-out class pool u (sym (ap (λ n. (stocked_at pool.units n).out) same) ∙ out);
    }

pub IfSome-weaker : (o : Option ℕ) (P Q : ℕ → Type 0) → ((n : ℕ) → P n → Q n) → IfSome o P → IfSome o Q
IfSome-weaker None P Q weaker h = tt
IfSome-weaker (Some n) P Q weaker h = weaker n h

pub IfNone-weaker : (o : Option ℕ) (P Q : Type 0) → (P → Q) → IfNone o P → IfNone o Q
IfNone-weaker None P Q weaker h = weaker h
IfNone-weaker (Some n) P Q weaker h = tt

-- a page without stock is passed
pub IsWalk-next : (class : ℕ) (pool : Stock) (walk : Walk) → IsWalk class pool walk → ((u : ℕ) → u / 256 ≡ walk.from → is_stock_of class pool u ≡ false) → IsWalk class pool (record walk { from = walk.from + 1 })
IsWalk-next class pool walk is none = record {
  small = is.small;
  within = is.within;
  from = λ u holds.
      let was = is.from u holds in
      elim (cases_eq (u / 256) walk.from) [
        | inl same ↦ absurd (false≢true (sym (none u same) ∙ holds))
        | inr ne ↦ omega arith
      ];
  until = is.until;
  fresh = is.fresh;
}

-- the least-numbered unit in stock on the first page that may have some is the least-numbered of all
pub least_stock-is : (class : ℕ) (pool : Stock) (walk : Walk) (number : ℕ) → IsWalk class pool walk → IsLeastOn class pool walk.from number → Some number ≡ least_stock class pool
least_stock-is class pool walk number is least =
    sym (least_below-is (is_stock_of class pool) (length pool.units) number least.inside least.stock (λ u lt.
    false_from _ (λ holds.
    let from = is.from u holds in
    let on_page = least.on_page in
    let same : u / 256 ≡ walk.from = omega arith in
    false≢true (sym (least.least u same lt) ∙ holds))))

pub least_stock-none : (class : ℕ) (pool : Stock) → ((u : ℕ) → is_stock_of class pool u ≡ false) → None ≡ least_stock class pool
least_stock-none class pool none = sym (least_below-none (is_stock_of class pool) (length pool.units) (λ u lt. none u))

-- where the pages that may have stock are none, there is none
pub IsWalk-none : (class : ℕ) (pool : Stock) (walk : Walk) → IsWalk class pool walk → walk.until ≤ walk.from → (u : ℕ) → is_stock_of class pool u ≡ false
IsWalk-none class pool walk is past u = false_from _ (λ holds. let from = is.from u holds in let until = is.until u holds in absurd (omega arith))

-- before the first unit every page may have stock
pub IsWalk-start : (class : ℕ) (pool : Stock) (walk : Walk) → length pool.classes ≤ 256 → walk.from ≡ 0 → walk.until ≡ length pool.classes → walk.fresh ≡ 0 → IsWalk class pool walk
IsWalk-start class pool walk small from until fresh = record {
  small = omega arith;
  within = omega arith;
  from = λ u holds. omega arith;
  until = λ u holds.
      let parts = is_stock_of-parts class pool u holds in
      let inside = class_at-inside pool.classes (u / 256) (ap is_some parts.0) in
      omega arith;
  fresh = λ p lt. absurd (omega arith);
}

-- what is in stock once a unit was given was before, or is on its page
stock_before : (class : ℕ) (pool : Stock) (number u : ℕ) → is_stock_of class (given class number pool) u ≡ true → (u / 256 ≡ number / 256) ⊎ (is_stock_of class pool u ≡ true)
unfolding given
stock_before class pool number u holds =
    let parts = is_stock_of-parts class (given class number pool) u holds in
    elim (cases_eq (u / 256) (number / 256)) [
      | inl same ↦ inl same
      | inr other ↦
          let ne : u ≢ number = λ e. other (ap (λ n. n / 256) e) in
          let page : class_at pool.classes (u / 256) ≡ Some class = sym (class_at-other pool.classes (number / 256) (u / 256) (Some class) other) ∙ parts.0 in
          let out : (stocked_at pool.units u).out ≡ false = sym (ap (λ (s : Stocked). s.out) (stocked_at-other pool.units number u (record (stocked_at pool.units number) { out = true }) ne)) ∙ parts.2 in
          inr (is_stock_of-true class pool u page parts.1 out)
    ]

-- a unit that is given on a page that may have stock leaves the walk right
pub IsWalk-given : (class : ℕ) (pool : Stock) (walk : Walk) (number : ℕ) → IsWalk class pool walk → walk.from ≤ number / 256 → number / 256 < walk.until → IsWalk class (given class number pool) walk
unfolding given
IsWalk-given class pool walk number is from until =
    let within = is.within in
    let page : number / 256 < length pool.classes = omega arith in
    record {
      small = is.small;
      within = rw length-set is.within;
      from = λ u holds.
          elim (stock_before class pool number u holds) [
            | inl same ↦ omega arith
            | inr was ↦ is.from u was
          ];
      until = λ u holds.
          elim (stock_before class pool number u holds) [
            | inl same ↦ omega arith
            | inr was ↦ is.until u was
          ];
      fresh = λ p lt.
          elim (cases_eq p (number / 256)) [
            | inl same ↦ ap (λ q. is_some (class_at (set pool.classes (number / 256) (Some class)) q)) same ∙ ap is_some (class_at-same pool.classes (number / 256) (Some class) page)
            | inr other ↦ ap is_some (class_at-other pool.classes (number / 256) p (Some class) other) ∙ is.fresh p lt
          ];
    }

-- where nothing is in stock, only a page that takes the class has stock
pub IsWalk-fresh : (class : ℕ) (pool : Stock) (walk : Walk) (page : ℕ) → ((u : ℕ) → is_stock_of class pool u ≡ false) → IsFresh pool page → walk.from ≡ page → walk.until ≡ page + 1 → ((p : ℕ) → p < walk.fresh → IsSome (class_at pool.classes p)) → IsWalk class (given class (256 * page) pool) walk
IsWalk-fresh class pool walk page none is from until fresh =
    let small = is.small in
    let inside = is.inside in
    let before : IsWalk class pool walk = record {
      small = omega arith;
      within = omega arith;
      from = λ u holds. absurd (false≢true (sym (none u) ∙ holds));
      until = λ u holds. absurd (false≢true (sym (none u) ∙ holds));
      fresh = fresh;
    } in
    IsWalk-given class pool walk (256 * page) before (omega arith) (omega arith)

-- the unit that is given next
pub next_unit-stock : (class : ℕ) (pool : Stock) (number : ℕ) → Some number ≡ least_stock class pool → Some number ≡ next_unit class pool
unfolding next_unit
next_unit-stock class pool number stock = ap (λ o. unit_or_page o (lowest_page pool)) stock

pub next_unit-page : (class : ℕ) (pool : Stock) (page : ℕ) → None ≡ least_stock class pool → Some page ≡ lowest_page pool → Some (256 * page) ≡ next_unit class pool
unfolding next_unit
next_unit-page class pool page stock lowest = ap (λ o. unit_or_page None o) lowest ∙ ap (λ o. unit_or_page o (lowest_page pool)) stock

pub next_unit-none : (class : ℕ) (pool : Stock) → None ≡ least_stock class pool → None ≡ lowest_page pool → None ≡ next_unit class pool
unfolding next_unit
next_unit-none class pool stock lowest = ap (λ o. unit_or_page None o) lowest ∙ ap (λ o. unit_or_page o (lowest_page pool)) stock

-- it can be given
pub CanGive-stock : (class : ℕ) (pool : Stock) (page number : ℕ) → IsLeastOn class pool page number → CanGive class pool number
CanGive-stock class pool page number least =
    let parts = is_stock_of-parts class pool number least.stock in
    record {
      inside = least.inside;
      stock = parts.2;
      position = parts.1;
      page = λ c at. cc;
    }

pub CanGive-fresh : (class : ℕ) (pool : Stock) (page : ℕ) → 0 < units_per_page class → IsFresh pool page → CanGive class pool (256 * page)
CanGive-fresh class pool page carved is =
    let first : 256 * page % 256 ≡ 0 = omega arith in
    let on_page : 256 * page / 256 ≡ page = omega arith in
    record {
      inside = is.room;
      stock = is.stock;
      position = rw first carved;
      page = λ c at.
          let none : class_at pool.classes (256 * page / 256) ≡ None = ap (λ p. class_at pool.classes p) on_page ∙ is.none in
          absurd (cc);
    }
