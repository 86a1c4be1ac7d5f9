-- Which units are out once a fetch is done.
use Rattle.std.proofs.Common.{◌≡◌, ◌≢◌, ◌⊎◌, ℕ, zero, suc, true, ◌∷◌, length, refl, sym, ◌∙◌, ap, subst, inl, inr, arith, eq-eqb, Option, Some, None}
use Rattle.std.proofs.lemmas.Bool.{cases_eq, cases_lt}
use Rattle.std.proofs.lemmas.List.{get_or_past}
use Rattle.bm_law.specs.Stands.{times}
use Rattle.bm_page.specs.declared.units.Stocked.{Stocked}
use Rattle.bm_page.specs.Stock.{Stock, stocked_at, unborn, fetched, next_unit, given, unit_given}
use Rattle.bm_page.proofs.StockLemmas.{stocked_at-same, stocked_at-other}
use Rattle.bm_page.proofs.FetchLemmas.{fetched-zero, fetched-none, fetched-next, number-unit_given}
use Rattle.bm_post.specs.Rights.{numbers}

given-other : (class number n : ℕ) (pool : Stock) → n ≢ number → stocked_at (given class number pool).units n ≡ stocked_at pool.units n
unfolding given
given-other class number n pool ne = stocked_at-other pool.units number n _ ne

given-keeps : (class number n : ℕ) (pool : Stock) → (stocked_at pool.units n).out ≡ true → (stocked_at (given class number pool).units n).out ≡ true
unfolding given
given-keeps class number n pool h =
    elim (cases_eq n number) [
      | inl same ↦
          let there : (stocked_at pool.units number).out ≡ true = subst (λ m. (stocked_at pool.units m).out ≡ true) same h in
          elim (cases_lt number (length pool.units)) [
            | inl less ↦ ap (λ m. (stocked_at (given class number pool).units m).out) same ∙ ap (λ (s : Stocked). s.out) (stocked_at-same pool.units number (record (stocked_at pool.units number) { out = true }) less)
            | inr past ↦ absurd (let none = get_or_past pool.units number unborn past in let f = ap (λ (s : Stocked). s.out) none in cc)
          ]
      | inr other ↦ ap (λ (s : Stocked). s.out) (given-other class number n pool other) ∙ h
    ]

next_cases : (o : Option ℕ) → (o ≡ None) ⊎ ((n : ℕ) × (o ≡ Some n))
next_cases None = inl refl
next_cases (Some n) = inr (n, refl)

-- a unit that was out is out
pub fetch-keeps : (class want n : ℕ) (pool : Stock) → (stocked_at pool.units n).out ≡ true → (stocked_at (fetched class want pool).pool.units n).out ≡ true
fetch-keeps class zero n pool h = rw (fetched-zero class zero pool refl) h
fetch-keeps class (suc want) n pool h =
    elim (next_cases (next_unit class pool)) [
      | inl none ↦ rw (fetched-none class (suc want) pool none) h
      | inr (number, next) ↦ rw (fetched-next class want number pool next) (fetch-keeps class want n (given class number pool) (given-keeps class number n pool h))
    ]

-- a unit that didn't come is as it was
pub fetch-others : (class want n : ℕ) (pool : Stock) → times n (numbers (fetched class want pool).units) ≡ 0 → stocked_at (fetched class want pool).pool.units n ≡ stocked_at pool.units n
fetch-others class zero n pool h = rw (fetched-zero class zero pool refl) refl
fetch-others class (suc want) n pool h =
    elim (next_cases (next_unit class pool)) [
      | inl none ↦ rw (fetched-none class (suc want) pool none) refl
      | inr (number, next) ↦
          let e = fetched-next class want number pool next in
          let rest = fetched class want (given class number pool) in
          let t : times n (numbers (unit_given class number pool ∷ rest.units)) ≡ 0 = sym (ap (λ f. times n (numbers f.units)) e) ∙ h in
          let k = number-unit_given class number pool in
          let ne : n ≢ number = λ q. absurd (let f = rw (eq-eqb n (unit_given class number pool).number (q ∙ sym k)) at t in omega (arith, f)) in
          rw e (fetch-others class want n (given class number pool) (omega (arith, t)) ∙ given-other class number n pool ne)
    ]
