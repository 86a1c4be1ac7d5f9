-- The stock of units, as entries take from it and give back to it. A unit here has no lives and no seal. (Pages are this project's
-- own. In kernel/bpf/memalloc.c alloc_bulk takes memory from the kernel's page allocator, and free_one gives it back.)
use Rattle.std.specs.Prelude.{◌≡◌, ℕ, ◌*◌, true, None, List, [], ◌∷◌, map, replicate, reverse}
use Rattle.bm_journal.specs.declared.entry.Entry.{Entry}
use Rattle.bm_journal.specs.declared.entry.Entry.TheVariants as entry
use Rattle.bm_journal.specs.EntryText.{unit_list}
use Rattle.bm_page.specs.UnitState.{UnitState}
use Rattle.bm_page.specs.Stock.{Stock, fetched, returned, stocked_at, unborn}
use Rattle.bm_law.specs.Pages.{prefill}

-- all units of so many pages, none of which has a class
abbrev pub fresh_pages : ℕ → Stock
fresh_pages pages =
    record { classes = replicate pages None; units = replicate (256 * pages) unborn }

-- a unit as the stock has it here
abbrev pub bare : ℕ → UnitState
bare n = record { number = n; class = 0; home = 0; life = 0; seal = None }

abbrev pub unit_numbers : List UnitState → List ℕ
unit_numbers units = map (λ u. u.number) units

-- the units that a fetch gives, and what it leaves
abbrev pub fetches : (class want : ℕ) → Stock → List ℕ
fetches class want pool = unit_numbers (fetched class want pool).units

abbrev pub less_fetched : (class want : ℕ) → Stock → Stock
less_fetched class want pool = (fetched class want pool).pool

-- one unit after the other goes back
abbrev pub all_back : List ℕ → Stock → Stock
all_back [] pool = pool
all_back (n ∷ ns) pool = all_back ns (returned (bare n) pool)

-- what an entry of level l of processor p makes of the stock: units go back from the last one that is named to the first
abbrev pub pages_after : (p l : ℕ) → Entry → Stock → Stock
pages_after p l (entry.Fill c us) pool = less_fetched c (prefill c) pool
pages_after p l (entry.Fetch c want us) pool = less_fetched c want pool
pages_after p l (entry.Return c us) pool = all_back (reverse (unit_list us)) pool
pages_after p l _ pool = pool

-- each unit is out when it goes back
abbrev pub AllOut : List ℕ → Stock → Type 0
AllOut [] pool = Unit {0}
AllOut (n ∷ ns) pool = ((stocked_at pool.units n).out ≡ true) × AllOut ns (returned (bare n) pool)

-- what such an entry needs of the stock: it names exactly the units that the stock gives
abbrev pub PagesFit : (p l : ℕ) → Entry → Stock → Type 0
PagesFit p l (entry.Fill c us) pool = unit_list us ≡ fetches c (prefill c) pool
PagesFit p l (entry.Fetch c want us) pool = unit_list us ≡ fetches c want pool
PagesFit p l (entry.Return c us) pool = AllOut (reverse (unit_list us)) pool
PagesFit p l _ pool = Unit {0}
