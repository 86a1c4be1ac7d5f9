-- Which pages have given units, as entries of a log tell it. (Pages are this project's own. In kernel/bpf/memalloc.c,
-- alloc_bulk and prefill_mem_cache take memory for units from the kernel's page allocator.)
use Rattle.std.specs.Prelude.{◌≡◌, ◌⊎◌, ◌/◌, ◌<◌, ℕ, List, [], ◌∷◌, ◌++◌, length, nat_le, if◌then◌else◌}
use Rattle.bm_class.specs.Sizes.{size_of_class}
use Rattle.bm_journal.specs.declared.entry.Entry.{Entry}
use Rattle.bm_journal.specs.declared.entry.Entry.TheVariants as entry
use Rattle.bm_journal.specs.EntryText.{unit_list}
use Rattle.bm_law.specs.Stands.{times}

-- a cache begins with 4 units of at most 256 bytes, or with 1 greater one
abbrev pub prefill : ℕ → ℕ
prefill c = if nat_le (size_of_class c) 256 then 4 else 1

-- how many units were wanted from the stock
abbrev pub wanted : Entry → ℕ
wanted (entry.Fill c us) = prefill c
wanted (entry.Fetch c want us) = want
wanted _ = 0

-- the units that came
abbrev pub units_given : Entry → List ℕ
units_given (entry.Fill c us) = unit_list us
units_given (entry.Fetch c want us) = unit_list us
units_given _ = []

abbrev pub all_given : List Entry → List ℕ
all_given [] = []
all_given (e ∷ es) = units_given e ++ all_given es

-- fewer came than were wanted
abbrev pub IsShort : Entry → Type 0
IsShort e = length (units_given e) < wanted e

abbrev pub HasShort : List Entry → Type 0
HasShort [] = ⊥
HasShort (e ∷ es) = IsShort e ⊎ HasShort es

-- A unit of a page is among these: its number is 256 times its page, and its position on the page.
pub record NamesPage (page : ℕ) (units : List ℕ) : Type 0 where
  pub unit : ℕ
  pub page_is : unit / 256 ≡ page
  pub stands : 0 < times unit units

-- Fewer units came than were wanted only where each of so many pages has given one.
abbrev pub ShortLaw : ℕ → List Entry → Type 0
ShortLaw pages es = HasShort es → (page : ℕ) → page < pages → NamesPage page (all_given es)
