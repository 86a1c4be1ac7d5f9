use Rattle.std.proofs.Common.{◌≡◌, ℕ, List, [], ◌∷◌, Option, None, Some, ap, arith, sym, subst}
use Rattle.bm_page.specs.Stock.{any_out, fetched, given, is_stock_of, least_below, next_unit, returned, unit_given}
use Rattle.bm_class.specs.Sizes.{size_of_class}
use Rattle.bm_journal.specs.declared.ids.ObjId.{ObjId}
use Rattle.bm_journal.specs.declared.ids.Tag.{Tag}
use Rattle.bm_journal.specs.declared.journal.Journal.{Journal}
use Rattle.bm_law.specs.Lists.{Log}
use Rattle.bm_law_graphs.specs.Uncalled.{CallNone}
use Rattle.bm_law_objects.specs.Objects.{IsOwned}
use Rattle.bm_law_order.specs.Lives.{Dropping}
use Rattle.bm_law_order.specs.Orders.{IsLaid}
use Rattle.bm_law_order.specs.Whole.{whole}
use Rattle.bm_law_scenario.specs.WorkedSlots.{dropped_as_own, emptied_of_other, handed_over, handed_over_journal, taken_at_start, taken_of_other}
use Rattle.bm_law_journal.specs.Lawful.{Laid, named_turns}
use Rattle.bm_law_journal.proofs.HandedOver.{both, both-graphs, both-grace, both-laid, both-lives, both-owned, both-placed, both-polled, both-references, both-returns, both-sealed, both-stamps, both_order}
use Rattle.bm_law_journal.proofs.slots.worked_handover.Goals as goal

uncalled : CallNone both_order
uncalled = search tt

pub returns-clause-lawful : goal.returns-clause-lawful
returns-clause-lawful c = record {
  logs = c.worked_slots.ensures.handed_over;
  lives = both-lives;
  returns = both-returns;
  grace = both-grace;
  stamps = both-stamps;
  references = both-references;
  slots = λ slot. c.slots_law.ensures.logs slot both both_order (c.whole_law.ensures [] both) both-owned;
  reads = c.reads_law.ensures.logs both both_order (c.whole_law.ensures [] both) both-owned;
  graphs = both-graphs;
}

pub returns-clause-laid : goal.returns-clause-laid
returns-clause-laid c = record {
  laid = both-laid;
  placed = both-placed;
  polled = both-polled;
  sealed = both-sealed;
  owned = both-owned;
  shelved = c.uncalled_law.ensures.shelved handed_over_journal.maps both_order uncalled;
  histories = λ name. sym (c.uncalled_law.ensures.histories handed_over_journal.maps both_order uncalled name);
}

-- ---- wrong ones

none-tag : (t : Tag) → None ≡ Some t → ⊥
none-tag t e = absurd (cc)

abbrev serial-of : Option Tag → ℕ
serial-of None = 0
serial-of (Some t) = t.serial

of-owned : (logs : List Log) (j : Journal) → j.logs ≡ logs → Laid handed_over j → IsOwned (whole [] logs)
of-owned logs j e h = subst (λ (x : List Log). IsOwned (whole [] x)) e h.owned

not-at_start : IsOwned (whole [] taken_at_start) → ⊥
not-at_start h = none-tag _ h.1.1.1.1.1.1.1.1.1.1.1.1.1.1.1.1.1.0.by_is

pub returns-clause-at_start : goal.returns-clause-at_start
returns-clause-at_start c j e h = not-at_start (of-owned taken_at_start j e h)

not-of_other : IsOwned (whole [] taken_of_other) → ⊥
not-of_other h = (let d : 1 ≡ 2 = ap serial-of h.1.1.1.1.1.1.1.1.1.1.1.1.1.1.1.1.1.0.by_is in omega (arith, d))

pub returns-clause-of_other : goal.returns-clause-of_other
returns-clause-of_other c j e h = not-of_other (of-owned taken_of_other j e h)

not-emptied : IsOwned (whole [] emptied_of_other) → ⊥
not-emptied h = (let d : 2 ≡ 1 = ap serial-of h.1.1.1.1.1.1.1.1.1.1.1.1.1.1.1.1.1.1.1.1.1.1.1.1.1.1.1.1.1.0.by_is in omega (arith, d))

pub returns-clause-emptied : goal.returns-clause-emptied
returns-clause-emptied c j e h = not-emptied (of-owned emptied_of_other j e h)

-- the home of what a drop under way has ended
abbrev or_zero : Option ℕ → ℕ
or_zero None = 0
or_zero (Some x) = x

abbrev home_named : Option Dropping → ℕ
home_named None = 0
home_named (Some d) = or_zero d.ended

not-as_own : (n m : ℕ) → IsLaid n m (whole [] dropped_as_own) → ⊥
unfolding any_out fetched given is_stock_of least_below next_unit returned size_of_class unit_given
not-as_own n m h = (let d : 0 ≡ 1 = ap home_named h.1.1.1.1.1.1.1.1.1.1.1.1.1.1.1.1.1.1.1.1.0.lives.under in omega (arith, d))

pub returns-clause-as_own : goal.returns-clause-as_own
returns-clause-as_own c j e h = not-as_own j.processors j.pages (subst (λ (x : List Log). IsLaid j.processors j.pages (whole [] x)) e h.laid)

none-object : (o : ObjId) → Some o ≡ None → ⊥
none-object o e = absurd (cc)

not-turned : IsOwned (whole (1 ∷ []) both) → ⊥
not-turned h = none-object _ h.1.1.1.1.0.was_is

pub returns-clause-turned : goal.returns-clause-turned
returns-clause-turned c s e h = not-turned (subst (λ (t : Option (List ℕ)). IsOwned (whole (named_turns t) both)) e h.owned)
