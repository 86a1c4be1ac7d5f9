-- What caches begin with, computed.
use Rattle.std.proofs.Common.{◌≡◌, [], ◌∷◌, refl}
use Rattle.bm_class.specs.Sizes.{size_of_class}
use Rattle.bm_page.specs.Stock.{fetched, given, is_stock_of, least_below, next_unit, unit_given}
use Rattle.bm_law_scenario.specs.Fills.{fresh_stock, numbers_of, opening_stock, prefill}

-- where there is one page, its first four units
pub first-four : numbers_of (fetched 0 (prefill 0) (fresh_stock 1)).units ≡ 0 ∷ 1 ∷ 2 ∷ 3 ∷ []
unfolding size_of_class fetched given is_stock_of least_below next_unit unit_given
first-four = refl

-- where the first processor has taken these, the next four
pub next-four : numbers_of (fetched 0 (prefill 0) (opening_stock (0 ∷ []) 1 1)).units ≡ 4 ∷ 5 ∷ 6 ∷ 7 ∷ []
unfolding size_of_class fetched given is_stock_of least_below next_unit unit_given
next-four = refl

-- where there is no page, none
pub no-page : numbers_of (fetched 0 (prefill 0) (fresh_stock 0)).units ≡ []
unfolding size_of_class fetched given is_stock_of least_below next_unit unit_given
no-page = refl

-- the first four units of 64 bytes, where there is one page
pub first-jobs : numbers_of (fetched 2 (prefill 2) (fresh_stock 1)).units ≡ 0 ∷ 1 ∷ 2 ∷ 3 ∷ []
unfolding size_of_class fetched given is_stock_of least_below next_unit unit_given
first-jobs = refl
