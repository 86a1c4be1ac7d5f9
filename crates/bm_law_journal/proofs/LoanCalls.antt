-- The calls of the scripts that lend a unit and take it.
use Rattle.std.proofs.Common.{◌≡◌, Bool, ℕ, inl, cond, true, false, List, [], ◌∷◌, Some, None, refl, bytes_eq, codes}
use Rattle.std.specs.Prelude.{is_some}
use Rattle.bm_class.specs.Sizes.{class_of_size, size_of_class}
use Rattle.bm_class.specs.Watermarks.{low_of_size, high_of_size}
use Rattle.bm_journal.specs.declared.entry.Entry.TheVariants as entry
use Rattle.bm_page.specs.Stock.{fetched, given, is_stock_of, least_below, next_unit, unit_given}
use Rattle.bm_law.specs.State.{State}
use Rattle.bm_law.specs.Phrases.{FreePhrase}
use Rattle.bm_law_lives.specs.Worked.{frees, pushes}
use Rattle.bm_law_scenario.specs.Calls.{Allocates, RunsDrop, RunsExchange, RunsNew, batch_in}
use Rattle.bm_law_scenario.specs.Declared.{Declared, declared_in}
use Rattle.bm_law_scenario.specs.Fills.{fresh_stock, numbers_of, opening_stock, prefill}
use Rattle.bm_law_scenario.specs.Held.{Names, OwnsNothing, no_names, with_name}
use Rattle.bm_law_scenario.specs.Held as held
use Rattle.bm_law_scenario.specs.Opened.{OfClass}
use Rattle.bm_law_scenario.specs.WorkedJournal.{x_name}
use Rattle.bm_law_scenario.specs.WorkedSlots.{call_of, desk_id, exchanges, o_name}
use Rattle.bm_law_journal.specs.WorkedLoan.{big, big_id, drops_to, loan, sealed, slots, takes_last, the_unit, wide, wide_id}

abbrev pub d : Declared
d = declared_in loan

-- ---- the opening: the first cache gets the one unit that there is, and the other one none

pub first-unit : numbers_of (fetched 10 (prefill 10) (fresh_stock 1)).units ≡ 0 ∷ []
unfolding size_of_class fetched given is_stock_of least_below next_unit unit_given
first-unit = refl

pub no-unit : numbers_of (fetched 10 (prefill 10) (opening_stock (10 ∷ []) 1 1)).units ≡ []
unfolding size_of_class fetched given is_stock_of least_below next_unit unit_given
no-unit = refl

-- ---- the names: x holds the object; it gave it away, and o holds what was found; it gave it up

abbrev pub holding : Names
holding = with_name x_name (held.Object big_id 0 1) no_names

abbrev pub given_away : Names
given_away = with_name o_name held.Null (with_name x_name held.Nothing holding)

abbrev pub given_up : Names
given_up = with_name x_name held.Nothing holding

-- .. of the other type
abbrev pub holding_wide : Names
holding_wide = with_name x_name (held.Object wide_id 0 2) no_names

abbrev pub wide_given_up : Names
wide_given_up = with_name x_name held.Nothing holding_wide

pub given_away-nothing : (y : List ℕ) → OwnsNothing (given_away y)
given_away-nothing y = both (bytes_eq o_name y) (bytes_eq x_name y)
  where
    both : (a b : Bool) → OwnsNothing (cond a held.Null (cond b held.Nothing (cond b (held.Object big_id 0 1) held.Nothing)))
    both true b = tt
    both false true = tt
    both false false = tt

pub given_up-nothing : (y : List ℕ) → OwnsNothing (given_up y)
given_up-nothing y = one (bytes_eq x_name y)
  where
    one : (b : Bool) → OwnsNothing (cond b held.Nothing (cond b (held.Object big_id 0 1) held.Nothing))
    one true = tt
    one false = tt

pub wide_given_up-nothing : (y : List ℕ) → OwnsNothing (wide_given_up y)
wide_given_up-nothing y = one (bytes_eq x_name y)
  where
    one : (b : Bool) → OwnsNothing (cond b held.Nothing (cond b (held.Object wide_id 0 2) held.Nothing))
    one true = tt
    one false = tt

-- ---- the calls

of-big : OfClass d.types 0 10 big
unfolding class_of_size
of-big = record { found = refl; class = refl }

of-wide : OfClass d.types 1 10 wide
unfolding class_of_size
of-wide = record { found = refl; class = refl }

allocates-first : Allocates 10 (takes_last (entry.Given 0 1)) (Some (0, 1))
unfolding size_of_class low_of_size
allocates-first = (None, 0, 0, refl)

allocates-sealed : Allocates 10 (takes_last sealed) (Some (0, 2))
unfolding size_of_class low_of_size
allocates-sealed = (Some (2, 2), 0, 0, refl)

pub new-runs : RunsNew d.types x_name big_id [] no_names (entry.New (codes "big") [] ∷ takes_last (entry.Given 0 1)) holding
new-runs = record {
  class = 10;
  declared = big;
  of_class = of-big;
  own = takes_last (entry.Given 0 1);
  reply = Some (0, 1);
  part_is = refl;
  allocates = allocates-first;
  after_is = refl;
}

pub new-wide-runs : RunsNew d.types x_name wide_id [] no_names (entry.New (codes "wide") [] ∷ takes_last sealed) holding_wide
new-wide-runs = record {
  class = 10;
  declared = wide;
  of_class = of-wide;
  own = takes_last sealed;
  reply = Some (0, 2);
  part_is = refl;
  allocates = allocates-sealed;
  after_is = refl;
}

-- the object is put into the slot, in which nothing is found
pub puts-runs : RunsExchange slots o_name desk_id (Some x_name) holding (exchanges the_unit None None) given_away
puts-runs = record {
  declared = _;
  is_slot = record { found = refl; kind = refl };
  put = the_unit;
  was = None;
  by = None;
  between = with_name x_name held.Nothing holding;
  puts = (record { unit = 0; life = 1 }, refl, refl, refl);
  part_is = refl;
  after_is = refl;
}

-- and taken from there
pub takes-runs : RunsExchange slots x_name desk_id None no_names (exchanges None the_unit (call_of 0 2)) holding
takes-runs = record {
  declared = _;
  is_slot = record { found = refl; kind = refl };
  put = None;
  was = the_unit;
  by = call_of 0 2;
  between = no_names;
  puts = (refl, refl);
  part_is = refl;
  after_is = refl;
}

-- its last reference is given up, where no batch is in progress
pub drop-runs : (s : State ℕ) → false ≡ is_some (s.rows 10).deferred.plain → RunsDrop d.types x_name (batch_in s) holding (drops_to 0) given_up
drop-runs s none = record {
  type = big_id;
  unit = 0;
  life = 1;
  held = refl;
  class = 10;
  declared = big;
  of_class = of-big;
  home = 0;
  batch = false;
  batch_is = none;
  own = entry.Delay 0 0 ∷ entry.Enter 10 1 ∷ entry.Delayed 10 0 ∷ entry.Leave 10 0 ∷ entry.Raise 10 ∷ [];
  part_is = refl;
  frees = inl (0, refl);
  after_is = refl;
}

frees-plainly : FreePhrase 10 0 0 (entry.Free 0 0 ∷ pushes 0)
unfolding size_of_class high_of_size
frees-plainly = inl (1, 0, refl)

-- that to the object of the other type
pub drop-wide-runs : (s : State ℕ) → false ≡ is_some (s.rows 10).deferred.plain → RunsDrop d.types x_name (batch_in s) holding_wide (frees 0 2 0) wide_given_up
drop-wide-runs s none = record {
  type = wide_id;
  unit = 0;
  life = 2;
  held = refl;
  class = 10;
  declared = wide;
  of_class = of-wide;
  home = 0;
  batch = false;
  batch_is = none;
  own = entry.Free 0 0 ∷ pushes 0;
  part_is = refl;
  frees = frees-plainly;
  after_is = refl;
}
