-- Which units a fetch gives, and which page loses its class, doesn't depend on lives and seals.
use Rattle.std.proofs.Common.{◌≡◌, ℕ, zero, suc, ◌+◌, ◌*◌, ◌/◌, ◌%◌, Bool, true, false, List, [], ◌∷◌, length, map, set, Option, None, Some, refl, sym, ◌∙◌, ap, ◌⊎◌, inl, inr}
use Rattle.std.specs.Prelude.{if◌then◌else◌, ◌&&◌, ◌||◌, not, nat_lt, slice_range}
use Rattle.std.specs.List.{list_any}
use mathlib.Core.Path.{fun_ext}
use Rattle.std.proofs.lemmas.List.{map-set, length-map, take-map, drop-map}
use Rattle.std.proofs.Math.ListN.{get_or-map}
use Rattle.bm_class.specs.Sizes.{units_per_page}
use Rattle.bm_page.specs.UnitState.{UnitState}
use Rattle.bm_page.specs.declared.units.Stocked.{Stocked}
use Rattle.bm_page.specs.Stock.{Stock, Fetched, any_out, class_at, fetched, given, is_of, is_stock_of, least_below, lowest_page, next_unit, returned, stocked_at, unborn, unit_given, unit_or_page}
use Rattle.bm_page.proofs.FetchLemmas.{fetched-zero, fetched-none, fetched-next, number-unit_given}
use Rattle.bm_law_order.specs.Bare.{bare_pool, bare_unit}
use Rattle.bm_law_order.specs.Pages.{bare, fetches, unit_numbers}

pub stocked-bare : (us : List Stocked) (n : ℕ) → stocked_at (map bare_unit us) n ≡ bare_unit (stocked_at us n)
stocked-bare us n = get_or-map bare_unit us n unborn

stock-bare : (c : ℕ) (pool : Stock) (n : ℕ) → is_stock_of c (bare_pool pool) n ≡ is_stock_of c pool n
unfolding is_stock_of
stock-bare c pool n = ap (λ (u : Stocked). is_of c (class_at pool.classes (n / 256)) && (nat_lt (n % 256) (units_per_page c) && not u.out)) (stocked-bare pool.units n)

next-bare : (c : ℕ) (pool : Stock) → next_unit c (bare_pool pool) ≡ next_unit c pool
unfolding next_unit
next-bare c pool =
    let tests : is_stock_of c (bare_pool pool) ≡ is_stock_of c pool = fun_ext (λ n. stock-bare c pool n) in
    ap (λ t. unit_or_page (least_below t (length (map bare_unit pool.units))) (lowest_page pool)) tests
    ∙ ap (λ n. unit_or_page (least_below (is_stock_of c pool) n) (lowest_page pool)) (length-map pool.units bare_unit)

given-bare : (c n : ℕ) (pool : Stock) → bare_pool (given c n pool) ≡ given c n (bare_pool pool)
unfolding given
given-bare c n pool =
    let F : List Stocked → Stock = λ us. record { classes = set pool.classes (n / 256) (Some c); units = us } in
    let out : Stocked → Stocked = λ u. record u { out = true } in
    ap F (map-set bare_unit pool.units n (out (stocked_at pool.units n)) ∙ ap (λ u. set (map bare_unit pool.units) n (out u)) (sym (stocked-bare pool.units n)))

next_cases : (o : Option ℕ) → (o ≡ None) ⊎ ((n : ℕ) × (o ≡ Some n))
next_cases None = inl refl
next_cases (Some n) = inr (n, refl)

pub record SameFetch (c want : ℕ) (pool : Stock) : Type 0 where
  pub units : unit_numbers (fetched c want pool).units ≡ fetches c want (bare_pool pool)
  pub pools : bare_pool (fetched c want pool).pool ≡ (fetched c want (bare_pool pool)).pool

-- where these are what the fetches answer
same-by : (c want : ℕ) (pool : Stock) (x y : Fetched) → fetched c want pool ≡ x → fetched c want (bare_pool pool) ≡ y → unit_numbers x.units ≡ unit_numbers y.units → bare_pool x.pool ≡ y.pool → SameFetch c want pool
same-by c want pool x y e f us ps = record {
  units = ap (λ (z : Fetched). unit_numbers z.units) e ∙ (us ∙ sym (ap (λ (z : Fetched). unit_numbers z.units) f));
  pools = ap (λ (z : Fetched). bare_pool z.pool) e ∙ (ps ∙ sym (ap (λ (z : Fetched). z.pool) f));
}

pub fetched-bare : (c want : ℕ) (pool : Stock) → SameFetch c want pool
fetched-bare c zero pool = same-by c zero pool _ _ (fetched-zero c zero pool refl) (fetched-zero c zero (bare_pool pool) refl) refl refl
fetched-bare c (suc want) pool =
    elim (next_cases (next_unit c pool)) [
      | inl none ↦ same-by c (suc want) pool _ _ (fetched-none c (suc want) pool none) (fetched-none c (suc want) (bare_pool pool) (next-bare c pool ∙ none)) refl refl
      | inr (n, next) ↦
          let rest = fetched-bare c want (given c n pool) in
          let at : given c n (bare_pool pool) ≡ bare_pool (given c n pool) = sym (given-bare c n pool) in
          same-by c (suc want) pool _ _ (fetched-next c want n pool next) (fetched-next c want n (bare_pool pool) (next-bare c pool ∙ next))
          (ap (λ k. k ∷ unit_numbers (fetched c want (given c n pool)).units) (number-unit_given c n pool ∙ sym (number-unit_given c n (bare_pool pool)))
          ∙ ap (λ ks. (unit_given c n (bare_pool pool)).number ∷ ks) (rest.units ∙ ap (λ p. fetches c want p) (sym at)))
          (rest.pools ∙ ap (λ p. (fetched c want p).pool) (sym at))
    ]

-- ---- back

any-map : (us : List Stocked) → list_any (λ (u : Stocked). u.out) (map bare_unit us) ≡ list_any (λ (u : Stocked). u.out) us
any-map [] = refl
any-map (u ∷ us) = ap (λ b. u.out || b) (any-map us)

any-bare : (us : List Stocked) (page : ℕ) → any_out (map bare_unit us) page ≡ any_out us page
unfolding any_out
any-bare us page =
    let a = 256 * page in
    let n = 256 * page + 256 in
    ap (λ vs. list_any (λ (u : Stocked). u.out) (vs)) (range us a n) ∙ any-map (slice_range us a n)
  where
    range : (us : List Stocked) (a b : ℕ) → slice_range (map bare_unit us) a b ≡ map bare_unit (slice_range us a b)
    range us a b = rw (drop-map bare_unit a us, take-map bare_unit) refl

pub returned-bare : (u : UnitState) (pool : Stock) → bare_pool (returned u pool) ≡ returned (bare u.number) (bare_pool pool)
unfolding returned
returned-bare u pool =
    let now : List Stocked = set pool.units u.number (record { out = false; life = u.life; seal = u.seal }) in
    let page = u.number / 256 in
    let bared : map bare_unit now ≡ set (map bare_unit pool.units) u.number (record { out = false; life = 0; seal = None }) = map-set bare_unit pool.units u.number _ in
    let F : Bool → List Stocked → Stock = λ b us. record { classes = if b then pool.classes else set pool.classes page None; units = us } in
    ap (λ b. F b (map bare_unit now)) (sym (any-bare now page))
    ∙ ap (λ us. F (any_out us page) us) bared
