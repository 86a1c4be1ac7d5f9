-- The units that caches begin with. (prefill_mem_cache in kernel/bpf/memalloc.c; the numbers, and which units of the stock
-- they are, are this project's own.)
use Rattle.std.specs.Prelude.{◌≡◌, ℕ, zero, suc, ◌*◌, List, [], ◌∷◌, None, map, replicate}
use Rattle.bm_journal.specs.declared.units.Units.TheVariants.{Whole}
use Rattle.bm_journal.specs.declared.entry.Entry.{Entry}
use Rattle.bm_journal.specs.declared.entry.Entry.TheVariants as entry
pub use Rattle.bm_law.specs.Pages.{prefill}
use Rattle.bm_page.specs.Stock.{Stock, fetched, unborn}
use Rattle.bm_page.specs.UnitState.{UnitState}

-- a stock of so many pages, none of which has a class by now
abbrev pub fresh_stock : ℕ → Stock
fresh_stock pages =
    record { classes = replicate pages None; units = replicate (256 * pages) unborn }

-- the numbers of units
abbrev pub numbers_of : List UnitState → List ℕ
numbers_of units = map (λ (u : UnitState). u.number) units

-- The opening: one class after the other fetches the units that its cache begins with, as far as the stock goes.
abbrev pub AreFills : List ℕ → Stock → List Entry → Type 0
AreFills [] pool own = own ≡ []
AreFills (c ∷ cs) pool own =
    (rest : List Entry)
    × (own ≡ entry.Fill c (Whole (numbers_of (fetched c (prefill c) pool).units)) ∷ rest)
    × AreFills cs (fetched c (prefill c) pool).pool rest

-- what such an opening leaves in the stock
abbrev pub after_fills : List ℕ → Stock → Stock
after_fills [] pool = pool
after_fills (c ∷ cs) pool = after_fills cs (fetched c (prefill c) pool).pool

-- Processors open one after the other, from processor 0 on, out of one stock: what processor p opens with.
abbrev pub opening_stock : (classes : List ℕ) (pages p : ℕ) → Stock
opening_stock classes pages zero = fresh_stock pages
opening_stock classes pages (suc p) = after_fills classes (opening_stock classes pages p)
