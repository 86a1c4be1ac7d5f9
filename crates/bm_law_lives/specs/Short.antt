-- Where fewer units come from the stock than were wanted. (This project's own.)
use Rattle.std.specs.Prelude.{ℕ, List, [], ◌∷◌, ◌++◌, map}
use Rattle.bm_journal.specs.declared.entry.Entry.{Entry}
use Rattle.bm_law.specs.Lists.{Log}
pub use Rattle.bm_law.specs.Pages.{NamesPage, ShortLaw}

-- the entries of all logs
abbrev pub all_entries : List Log → List Entry
all_entries [] = []
all_entries (log ∷ logs) = map (λ e. e.1) log ++ all_entries logs

-- A `fill` or `fetch` names fewer units than it wanted only where each page is named by some `fill` or `fetch` of these logs.
abbrev pub JournalShort : ℕ → List Log → Type 0
JournalShort pages logs = ShortLaw pages (all_entries logs)
