use Rattle.std.proofs.Common.{[], refl}
use Rattle.bm_class.specs.Sizes.{size_of_class}
use Rattle.bm_page.specs.Stock.{fetched, given, is_stock_of, least_below, next_unit, unit_given}
use Rattle.bm_law_scenario.proofs.openings.worked_openings.Goals as goal

pub returns-clause-first : goal.returns-clause-first
unfolding size_of_class fetched given is_stock_of least_below next_unit unit_given
returns-clause-first c = ([], refl, refl)

pub returns-clause-next_page : goal.returns-clause-next_page
unfolding size_of_class fetched given is_stock_of least_below next_unit unit_given
returns-clause-next_page c = ([], refl, refl)

pub returns-clause-none_left : goal.returns-clause-none_left
unfolding size_of_class fetched given is_stock_of least_below next_unit unit_given
returns-clause-none_left c = ([], refl, refl)

pub returns-clause-same_page : goal.returns-clause-same_page
unfolding size_of_class fetched given is_stock_of least_below next_unit unit_given
returns-clause-same_page c = ([], refl, refl)

pub returns-clause-two_classes : goal.returns-clause-two_classes
unfolding size_of_class fetched given is_stock_of least_below next_unit unit_given
returns-clause-two_classes c = (_, refl, ([], refl, refl))

pub returns-clause-page_again : goal.returns-clause-page_again
unfolding size_of_class fetched given is_stock_of least_below next_unit unit_given
returns-clause-page_again c h = (let e = h.1 in absurd (cc))

pub returns-clause-units_again : goal.returns-clause-units_again
unfolding size_of_class fetched given is_stock_of least_below next_unit unit_given
returns-clause-units_again c h = (let e = h.1 in absurd (cc))
