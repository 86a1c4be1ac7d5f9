-- Neighbours of the journal in which a unit is lent are refused.
use Rattle.std.proofs.Common.{◌≡◌, ℕ, Option, None, Some, List, [], ◌∷◌, ap, arith, subst, ◌∙◌}
use Rattle.bm_class.specs.Sizes.{size_of_class}
use Rattle.bm_page.specs.Stock.{any_out, fetched, given, is_stock_of, least_below, next_unit, returned, unit_given}
use Rattle.bm_journal.specs.declared.journal.Journal.{Journal}
use Rattle.bm_lang.specs.declared.scenario.Parts.{Parts}
use Rattle.bm_law.specs.Lists.{Log}
use Rattle.bm_law_lives.specs.GraceLaw.{WholeGrace}
use Rattle.bm_law_lives.specs.Lives.{WholeLives}
use Rattle.bm_law_lives.specs.Returns.{ReturnsLaw}
use Rattle.bm_law_lives.specs.StampLaw.{StampLaw}
use Rattle.bm_law_order.specs.Lives.{Dropping}
use Rattle.bm_law_order.specs.Orders.{IsLaid}
use Rattle.bm_law_order.specs.Seals.{IsSealed, Wait, Over}
use Rattle.bm_law_order.specs.Whole.{whole}
use Rattle.bm_law_journal.specs.Lawful.{Laid, Lawful, named_turns, order_of}
use Rattle.bm_law_journal.specs.WorkedLoan.{AreRefused, ended_by_other, ended_in_section, ended_unchanged, freed_to_itself, given_unsealed, loan_logs, seen_outside, sent_in_period, sent_to_itself}
use Rattle.bm_law_journal.specs.WorkedTurns.{HasTurns, other_turns, turns}
use Rattle.bm_law_journal.proofs.Lent.{one-waits}

-- ---- of a journal

abbrev Unlawful : List Log → Type 0
Unlawful logs = (s : Parts) (j : Journal) → j.logs ≡ logs → Lawful s j → ⊥

abbrev Unlaid : List Log → Type 0
Unlaid logs = (s : Parts) (j : Journal) → HasTurns turns logs s j → Laid s j → ⊥

-- what holds of the logs of a lawful journal, and isn't so of these
unlawful-by : (P : List Log → Type 0) → ((s : Parts) (j : Journal) → Lawful s j → P j.logs) →
    (logs : List Log) → (P logs → ⊥) → Unlawful logs
unlawful-by P law logs wrong s j e h = wrong (subst P e (law s j h))

graceless : (logs : List Log) → (WholeGrace logs → ⊥) → Unlawful logs
graceless = unlawful-by WholeGrace (λ s j h. h.grace)

stampless : (logs : List Log) → (StampLaw logs → ⊥) → Unlawful logs
stampless = unlawful-by StampLaw (λ s j h. h.stamps)

-- the same of its order
order-is : (logs : List Log) (s : Parts) (j : Journal) → HasTurns turns logs s j → order_of s j ≡ whole turns logs
order-is logs s j x =
    ap (λ (t : Option (List ℕ)). whole (named_turns t) j.logs) x.turns_are ∙ ap (whole turns) x.logs_are

out-of-order : (logs : List Log) → (IsLaid 2 1 (whole turns logs) → ⊥) → Unlaid logs
out-of-order logs wrong s j x h =
    let here : IsLaid j.processors j.pages (whole turns logs) =
    subst (λ o. IsLaid j.processors j.pages o) (order-is logs s j x) h.laid in
    let two : IsLaid 2 j.pages (whole turns logs) =
    subst (λ n. IsLaid n j.pages (whole turns logs)) x.processors here in
    wrong (subst (λ n. IsLaid 2 n (whole turns logs)) x.pages two)

out-of-seal : (logs : List Log) → (IsSealed (whole turns logs) → ⊥) → Unlaid logs
out-of-seal logs wrong s j x h = wrong (subst IsSealed (order-is logs s j x) h.sealed)

-- ---- what isn't so

none-some : (n : ℕ) → None ≡ Some n → ⊥
none-some n e = absurd (cc)

some-none : (x : Log) (xs : List Log) → x ∷ xs ≡ [] → ⊥
some-none x xs e = absurd (cc)

abbrev value-of : Option ℕ → ℕ
value-of None = 0
value-of (Some n) = n

abbrev first-of : List ℕ → ℕ
first-of [] = 0
first-of (x ∷ xs) = x

-- the number that was seen for what waits
abbrev seen-of : Wait → ℕ
seen-of (Over stamp seen) = seen
seen-of _ = 0

-- the home of what a drop under way has ended
abbrev home-of : Option Dropping → ℕ
home-of None = 0
home-of (Some d) = value-of d.ended

-- ---- periods

unchanged-grace : WholeGrace ended_unchanged → ⊥
unchanged-grace h = one-waits h.law.plain.periods.1.0.1.1.1.1.1.1.1.1.1.1.1.1.1.1.1.1.1.1.1.1.1.1.1.1.1.1.1.1.1.1.1.1.1.1.1.1.1.1.1.1.0.passed.0

unchanged-laid : IsLaid 2 1 (whole turns ended_unchanged) → ⊥
unfolding any_out fetched given is_stock_of least_below next_unit returned size_of_class unit_given
unchanged-laid h = one-waits h.1.1.1.1.1.1.1.1.1.1.1.1.1.1.1.1.1.1.1.1.1.1.1.1.1.1.1.1.1.1.1.1.1.1.1.1.1.1.1.1.1.1.1.1.1.1.1.1.1.1.1.1.1.1.1.1.1.1.1.1.1.1.0.looks.passed.0

pub unchanged-refused : AreRefused ended_unchanged
unchanged-refused = record {
  unlawful = graceless ended_unchanged unchanged-grace;
  unlaid = out-of-order ended_unchanged unchanged-laid;
}

in_section-grace : WholeGrace ended_in_section → ⊥
in_section-grace h = one-waits h.law.plain.periods.1.0.1.1.1.1.1.1.1.1.1.1.1.1.1.1.1.1.1.1.1.1.1.1.1.1.1.1.1.0.passed.0

in_section-laid : IsLaid 2 1 (whole turns ended_in_section) → ⊥
unfolding any_out fetched given is_stock_of least_below next_unit returned size_of_class unit_given
in_section-laid h = one-waits h.1.1.1.1.1.1.1.1.1.1.1.1.1.1.1.1.1.1.1.1.1.1.1.1.1.1.1.1.1.1.1.1.1.1.1.1.1.1.1.1.1.1.1.1.1.1.1.0.looks.passed.0

pub in_section-refused : AreRefused ended_in_section
in_section-refused = record {
  unlawful = graceless ended_in_section in_section-grace;
  unlaid = out-of-order ended_in_section in_section-laid;
}

by_other-grace : WholeGrace ended_by_other → ⊥
by_other-grace h = none-some _ h.law.plain.periods.0.1.1.1.1.1.1.1.1.1.1.1.1.1.1.1.1.1.1.1.1.1.0.begun

by_other-laid : IsLaid 2 1 (whole turns ended_by_other) → ⊥
unfolding any_out fetched given is_stock_of least_below next_unit returned size_of_class unit_given
by_other-laid h = (let e : 1 ≡ 0 = ap value-of h.1.1.1.1.1.1.1.1.1.1.1.1.1.1.1.1.1.1.1.1.1.1.1.1.1.1.1.1.1.1.1.1.1.1.1.1.1.1.1.1.1.1.1.1.1.1.1.1.1.1.1.1.1.1.1.0.numbers.driver in omega (arith, e))

pub by_other-refused : AreRefused ended_by_other
by_other-refused = record {
  unlawful = graceless ended_by_other by_other-grace;
  unlaid = out-of-order ended_by_other by_other-laid;
}

-- ---- stamps

unsealed-stamps : StampLaw given_unsealed → ⊥
unsealed-stamps h = some-none _ _ h.seals.0.1.1.1.1.1.1.1.1.1.1.1.1.1.1.1.1.1.1.1.1.1.1.1.1.1.1.1.1.1.1.1.1.1.1.1.1.1.1.1.1.1.1.1.1.1.0

unsealed-sealed : IsSealed (whole turns given_unsealed) → ⊥
unsealed-sealed h = (let e : 2 ≡ 0 = ap seen-of h.1.1.1.1.1.1.1.1.1.1.1.1.1.1.1.1.1.1.1.1.1.1.1.1.1.1.1.1.1.1.1.1.1.1.1.1.1.1.1.1.1.1.1.1.1.1.1.1.1.1.1.1.1.1.1.1.1.1.1.1.1.1.1.1.1.1.1.1.1.1.1.1.1.1.1.1.1.1.1.1.1.1.1.1.1.1.1.1.1.1.1.1.0 in omega (arith, e))

pub unsealed-refused : AreRefused given_unsealed
unsealed-refused = record {
  unlawful = stampless given_unsealed unsealed-stamps;
  unlaid = out-of-seal given_unsealed unsealed-sealed;
}

in_period-stamps : StampLaw sent_in_period → ⊥
in_period-stamps h = (let e : 1 ≡ 2 = ap value-of h.seals.0.1.1.1.1.1.1.1.1.1.1.1.1.1.1.1.1.1.1.1.1.1.1.1.1.1.1.1.1.1.1.1.1.1.1.1.1.1.1.1.1.1.1.1.1.1.0.1.0 in omega (arith, e))

in_period-sealed : IsSealed (whole turns sent_in_period) → ⊥
in_period-sealed h = (let e : 1 ≡ 2 = ap seen-of h.1.1.1.1.1.1.1.1.1.1.1.1.1.1.1.1.1.1.1.1.1.1.1.1.1.1.1.1.1.1.1.1.1.1.1.1.1.1.1.1.1.1.1.1.1.1.1.1.1.1.1.1.1.1.1.1.1.1.1.1.1.1.1.1.1.1.1.1.1.1.1.1.1.1.1.1.1.1.1.1.1.1.1.1.1.1.1.1.1.1.1.1.0.0 in omega (arith, e))

pub in_period-refused : AreRefused sent_in_period
in_period-refused = record {
  unlawful = stampless sent_in_period in_period-stamps;
  unlaid = out-of-seal sent_in_period in_period-sealed;
}

-- ---- homes and parcels

freed-lives : WholeLives freed_to_itself → ⊥
freed-lives h = (let e : 0 ≡ 1 = ap first-of h.law.homes.1.0.1.1.1.1.0.1 in omega (arith, e))

freed-laid : IsLaid 2 1 (whole turns freed_to_itself) → ⊥
unfolding any_out fetched given is_stock_of least_below next_unit returned size_of_class unit_given
freed-laid h = (let e : 0 ≡ 1 = ap home-of h.1.1.1.1.1.1.1.1.1.1.1.1.1.1.1.1.1.1.1.1.1.1.1.1.1.1.0.lives.under in omega (arith, e))

pub freed-refused : AreRefused freed_to_itself
freed-refused = record {
  unlawful = unlawful-by WholeLives (λ s j h. h.lives) freed_to_itself freed-lives;
  unlaid = out-of-order freed_to_itself freed-laid;
}

sent-returns : ReturnsLaw sent_to_itself → ⊥
sent-returns h = (let e : 0 ≡ 1 = h.arrive.0 10 0 in omega (arith, e))

sent-laid : IsLaid 2 1 (whole turns sent_to_itself) → ⊥
unfolding any_out fetched given is_stock_of least_below next_unit returned size_of_class unit_given
sent-laid h = (let e = h.1.1.1.1.1.1.1.1.1.1.1.1.1.1.1.1.1.1.1.1.1.1.1.1.1.1.1.1.1.1.1.1.1.1.1.1.1.1.1.1.1.1.1.1.1.1.1.1.1.1.1.1.1.1.1.1.1.1.1.1.1.1.1.1.1.1.1.1.1.1.1.1.0.boxes in absurd (cc))

pub sent-refused : AreRefused sent_to_itself
sent-refused = record {
  unlawful = unlawful-by ReturnsLaw (λ s j h. h.returns) sent_to_itself sent-returns;
  unlaid = out-of-order sent_to_itself sent-laid;
}

-- ---- what the order alone refuses

pub outside-wrong : IsLaid 2 1 (whole turns seen_outside.logs) → ⊥
unfolding any_out fetched given is_stock_of least_below next_unit returned size_of_class unit_given
outside-wrong h = (let e : 2 ≡ 1 = ap first-of h.1.1.1.1.1.1.1.1.1.1.1.1.1.1.1.1.1.1.1.1.1.1.1.1.1.1.1.1.1.1.1.1.1.1.1.1.1.1.1.1.1.1.1.1.1.1.1.1.1.1.1.1.1.1.1.1.1.1.1.1.1.1.0.looks.first in omega (arith, e))

pub turned-wrong : IsLaid 2 1 (whole other_turns loan_logs) → ⊥
unfolding any_out fetched given is_stock_of least_below next_unit returned size_of_class unit_given
turned-wrong h = (let e : 1 ≡ 2 = ap first-of h.1.1.1.1.1.1.1.1.1.1.1.1.1.1.1.1.1.1.1.1.1.1.1.1.1.1.1.1.1.1.1.1.1.1.1.1.1.1.1.1.1.1.1.1.1.1.1.1.1.1.1.1.1.1.1.1.1.1.1.1.1.1.0.looks.first in omega (arith, e))
