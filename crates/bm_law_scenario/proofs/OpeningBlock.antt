-- What a cache of the greatest class begins with where there are two pages, computed.
use Rattle.std.proofs.Common.{◌≡◌, [], ◌∷◌, refl}
use Rattle.bm_class.specs.Sizes.{size_of_class}
use Rattle.bm_page.specs.Stock.{fetched, given, is_stock_of, least_below, next_unit, unit_given}
use Rattle.bm_law_scenario.specs.Fills.{fresh_stock, numbers_of, prefill}

pub first-block : numbers_of (fetched 10 (prefill 10) (fresh_stock 2)).units ≡ 0 ∷ []
unfolding size_of_class fetched given is_stock_of least_below next_unit unit_given
first-block = refl
