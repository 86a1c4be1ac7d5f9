use Rattle.std.proofs.Common.{◌≡◌, ℕ, List, [], ◌∷◌, Some, ap, arith, sym, subst, ◌∙◌}
use Rattle.std.specs.Prelude.{Option, None}
use Rattle.bm_law_order.specs.Lives.{Dropping}
use Rattle.bm_class.specs.Sizes.{size_of_class}
use Rattle.bm_page.specs.Stock.{any_out, fetched, given, is_stock_of, least_below, next_unit, returned, unit_given}
use Rattle.bm_journal.specs.declared.journal.Journal.{Journal}
use Rattle.bm_lang.specs.declared.scenario.Parts.{Parts}
use Rattle.bm_law.specs.Lists.{Log}
use Rattle.bm_law_order.specs.Orders.{IsLaid, Order}
use Rattle.bm_law_order.specs.Polls.{IsPolled}
use Rattle.bm_law_order.specs.Seals.{IsSealed}
use Rattle.bm_law_order.specs.Whole.{whole}
use Rattle.bm_law_places.specs.Placed.{IsPlaced}
use Rattle.bm_law_graphs.specs.Uncalled.{CallNone}
use Rattle.bm_law_journal.specs.Lawful.{history_of, named_turns, order_of}
use Rattle.bm_law_journal.specs.WorkedTurns.{HasTurns, ended_by_other, ended_in_section, freed_to_itself, given_unsealed, lent, opened_twice, other_turns, sent_in_period, sent_to_itself, turns}
use Rattle.bm_law_journal.proofs.Lent.{lent-laid, lent-placed, lent-polled, lent-sealed, one-waits}
use Rattle.bm_law_journal.proofs.LentLaws.{lent-grace, lent-lives, lent-returns, lent-stamps}
use Rattle.bm_law_objects.specs.Objects.{IsOwned}
use Rattle.bm_law_journal.proofs.Owned.{lent-owned}
use Rattle.bm_law_journal.proofs.turns.worked_turns.Goals as goal

order-is : (ts : List ℕ) (logs : List Log) (s : Parts) (j : Journal) → HasTurns ts logs s j → order_of s j ≡ whole ts logs
order-is ts logs s j x = ap (λ (t : Option (List ℕ)). whole (named_turns t) j.logs) x.turns_are ∙ ap (whole ts) x.logs_are

-- what holds of two processors, one page and this order holds of the journal's, and the other way round
on-journal : (P : ℕ → ℕ → Order → Type 0) (ts : List ℕ) (logs : List Log) (s : Parts) (j : Journal) → HasTurns ts logs s j → P 2 1 (whole ts logs) → P j.processors j.pages (order_of s j)
on-journal P ts logs s j x h = subst (λ o. P j.processors j.pages o) (sym (order-is ts logs s j x)) (subst (λ n. P n j.pages (whole ts logs)) (sym x.processors) (subst (λ n. P 2 n (whole ts logs)) (sym x.pages) h))

of-journal : (P : ℕ → ℕ → Order → Type 0) (ts : List ℕ) (logs : List Log) (s : Parts) (j : Journal) → HasTurns ts logs s j → P j.processors j.pages (order_of s j) → P 2 1 (whole ts logs)
of-journal P ts logs s j x h = subst (λ n. P 2 n (whole ts logs)) x.pages (subst (λ n. P n j.pages (whole ts logs)) x.processors (subst (λ o. P j.processors j.pages o) (order-is ts logs s j x) h))

uncalled : (s : Parts) (j : Journal) → HasTurns turns lent s j → CallNone (order_of s j)
uncalled s j x = subst CallNone (sym (order-is turns lent s j x)) (search tt)

pub returns-clause-lent : goal.returns-clause-lent
returns-clause-lent c s j x g = record {
  laid = on-journal IsLaid turns lent s j x lent-laid;
  placed = on-journal IsPlaced turns lent s j x lent-placed;
  polled = on-journal IsPolled turns lent s j x lent-polled;
  sealed = on-journal (λ n m o. IsSealed o) turns lent s j x lent-sealed;
  owned = on-journal (λ n m o. IsOwned o) turns lent s j x lent-owned;
  shelved = c.uncalled_law.ensures.shelved j.maps (order_of s j) (uncalled s j x);
  histories = λ name. ap (λ graphs. history_of graphs name) g ∙ sym (c.uncalled_law.ensures.histories j.maps (order_of s j) (uncalled s j x) name);
}

first-same : (x y : ℕ) (xs ys : List ℕ) → x ∷ xs ≡ y ∷ ys → x ≡ y
first-same x y xs ys e = ap first e
  where
    first : List ℕ → ℕ
    first [] = 0
    first (z ∷ zs) = z

-- the home of what a drop under way has ended
abbrev or_zero : Option ℕ → ℕ
or_zero None = 0
or_zero (Some x) = x

abbrev home_named : Option Dropping → ℕ
home_named None = 0
home_named (Some d) = or_zero d.ended

not-in_section : IsLaid 2 1 (whole turns ended_in_section) → ⊥
unfolding any_out fetched given is_stock_of least_below next_unit returned size_of_class unit_given
not-in_section h = one-waits h.1.1.1.1.1.1.1.1.1.1.1.1.1.1.1.1.1.1.1.1.1.1.1.1.0.looks.passed.0

pub returns-clause-in_section : goal.returns-clause-in_section
returns-clause-in_section c s j x h = not-in_section (of-journal IsLaid turns ended_in_section s j x h.laid)

not-by_other : IsLaid 2 1 (whole turns ended_by_other) → ⊥
unfolding any_out fetched given is_stock_of least_below next_unit returned size_of_class unit_given
not-by_other h = (let d = h.1.1.1.1.1.1.1.1.1.1.1.1.1.1.1.1.1.1.1.1.1.1.1.1.1.1.1.1.0.numbers.driver in absurd (cc))

pub returns-clause-by_other : goal.returns-clause-by_other
returns-clause-by_other c s j x h = not-by_other (of-journal IsLaid turns ended_by_other s j x h.laid)

not-unsealed : IsSealed (whole turns given_unsealed) → ⊥
not-unsealed h = (let d = h.1.1.1.1.1.1.1.1.1.1.1.1.1.1.1.1.1.1.1.1.1.1.1.1.1.1.1.1.1.1.1.1.1.1.1.1.1.1.1.1.1.1.1.1.1.1.1.1.0 in absurd (cc))

pub returns-clause-unsealed : goal.returns-clause-unsealed
returns-clause-unsealed c s j x h = not-unsealed (of-journal (λ n m o. IsSealed o) turns given_unsealed s j x h.sealed)

not-too_early : IsSealed (whole turns sent_in_period) → ⊥
not-too_early h = (let d = h.1.1.1.1.1.1.1.1.1.1.1.1.1.1.1.1.1.1.1.1.1.1.1.1.1.1.1.1.1.1.1.1.1.1.1.1.1.1.1.1.1.1.1.0.1 in omega (arith, d))

pub returns-clause-too_early : goal.returns-clause-too_early
returns-clause-too_early c s j x h = not-too_early (of-journal (λ n m o. IsSealed o) turns sent_in_period s j x h.sealed)

not-opened : IsLaid 2 1 (whole turns opened_twice) → ⊥
unfolding any_out fetched given is_stock_of least_below next_unit returned size_of_class unit_given
not-opened h = (let d = h.1.0.pages in absurd (cc))

pub returns-clause-opened : goal.returns-clause-opened
returns-clause-opened c s j x h = not-opened (of-journal IsLaid turns opened_twice s j x h.laid)

not-freed : IsLaid 2 1 (whole turns freed_to_itself) → ⊥
unfolding any_out fetched given is_stock_of least_below next_unit returned size_of_class unit_given
not-freed h = (let d : 0 ≡ 1 = ap home_named h.1.1.1.1.1.1.1.1.1.1.1.1.1.0.lives.under in omega (arith, d))

pub returns-clause-freed : goal.returns-clause-freed
returns-clause-freed c s j x h = not-freed (of-journal IsLaid turns freed_to_itself s j x h.laid)

not-sent : IsLaid 2 1 (whole turns sent_to_itself) → ⊥
unfolding any_out fetched given is_stock_of least_below next_unit returned size_of_class unit_given
not-sent h = (let d = h.1.1.1.1.1.1.1.1.1.1.1.1.1.1.1.1.1.1.1.1.1.1.1.1.1.1.1.1.1.1.1.1.1.1.1.1.0.boxes in absurd (cc))

pub returns-clause-sent : goal.returns-clause-sent
returns-clause-sent c s j x h = not-sent (of-journal IsLaid turns sent_to_itself s j x h.laid)

not-turned : IsLaid 2 1 (whole other_turns lent) → ⊥
unfolding any_out fetched given is_stock_of least_below next_unit returned size_of_class unit_given
not-turned h = (let d = first-same 1 3 (2 ∷ []) (2 ∷ []) h.1.1.1.1.1.1.1.1.1.1.1.1.1.1.1.1.1.1.1.1.1.1.1.1.1.1.1.1.1.1.1.0.looks.first in omega (arith, d))

pub returns-clause-turned : goal.returns-clause-turned
returns-clause-turned c s j x h = not-turned (of-journal IsLaid other_turns lent s j x h.laid)

pub returns-clause-lives : goal.returns-clause-lives
returns-clause-lives c = lent-lives

pub returns-clause-returns : goal.returns-clause-returns
returns-clause-returns c = lent-returns

pub returns-clause-grace : goal.returns-clause-grace
returns-clause-grace c = lent-grace

pub returns-clause-stamps : goal.returns-clause-stamps
returns-clause-stamps c = lent-stamps
