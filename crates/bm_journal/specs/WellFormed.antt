-- What every journal keeps.
use Rattle.std.specs.Prelude.{ℕ, Bool, true, false, ◌&&◌, not, List, [], ◌∷◌, nat_lt}
use Rattle.std.specs.List.{list_all, list_any}
use Rattle.std.specs.Str.{bytes_eq}
use Rattle.bm_journal.specs.declared.units.Units.{Units}
use Rattle.bm_journal.specs.declared.units.Units.TheVariants.{Whole, Counted}
use Rattle.bm_journal.specs.declared.entry.Entry.{Entry}
use Rattle.bm_journal.specs.declared.entry.Entry.TheVariants as entry
use Rattle.bm_journal.specs.declared.past.Past.{Past}
use Rattle.bm_journal.specs.declared.past.PastCall.{PastCall}
use Rattle.bm_journal.specs.declared.past.PastCall.TheVariants as past

-- the names differ from each other
abbrev pub all_differ : List (List ℕ) → Bool
all_differ [] = true
all_differ (name ∷ names) = not (list_any (bytes_eq name) names) && all_differ names

-- the owner that a refused push names is one of so many
abbrev pub owner_below : ℕ → PastCall → Bool
owner_below n (past.PushFrontAlready o owner) = nat_lt owner n
owner_below n (past.PushBackAlready o owner) = nat_lt owner n
owner_below n (past.AddAlready o key owner) = nat_lt owner n
owner_below n _ = true

abbrev pub owners_below : ℕ → List (List ℕ × List Past) → Bool
owners_below n graphs =
    list_all (λ graph. list_all (λ past. owner_below n past.call) graph.1) graphs

-- a list of units is there, and not its length alone
abbrev pub is_whole : Units → Bool
is_whole (Whole us) = true
is_whole (Counted n) = false

-- the list of units that the entry names, if it names one, is whole
abbrev pub is_whole_entry : Entry → Bool
is_whole_entry (entry.Fill c us) = is_whole us
is_whole_entry (entry.Receive c us) = is_whole us
is_whole_entry (entry.Fetch c want us) = is_whole us
is_whole_entry (entry.TakeExtra c us) = is_whole us
is_whole_entry (entry.Send c p us) = is_whole us
is_whole_entry (entry.TakeDelayed c us) = is_whole us
is_whole_entry (entry.Batch c us) = is_whole us
is_whole_entry (entry.BeginSecond c us) = is_whole us
is_whole_entry (entry.Return c us) = is_whole us
is_whole_entry (entry.Sweep c us) = is_whole us
is_whole_entry _ = true

abbrev pub is_whole_log : List (ℕ × Entry) → Bool
is_whole_log log = list_all (λ x. is_whole_entry x.1) log

abbrev pub are_whole : List (List (ℕ × Entry)) → Bool
are_whole logs = list_all is_whole_log logs
