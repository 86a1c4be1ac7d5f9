-- The entries that write what deferred work alone writes.
use Rattle.std.specs.Prelude.{Bool, true, false, ◌&&◌, List, [], ◌∷◌}
use Rattle.bm_journal.specs.declared.entry.Entry.{Entry}
use Rattle.bm_journal.specs.declared.entry.Entry.TheVariants as entry

-- the entry moves nothing to or from Ready, Second and First, and no batch
abbrev pub is_plain : Entry → Bool
is_plain (entry.Receive c us) = false
is_plain (entry.Ready c u) = false
is_plain (entry.Second c u) = false
is_plain (entry.Send c p us) = false
is_plain (entry.Batch c us) = false
is_plain (entry.Stamp c d x) = false
is_plain (entry.BeginSecond c us) = false
is_plain (entry.Return c us) = false
is_plain (entry.Sweep c us) = false
is_plain _ = true

abbrev pub all_plain : List Entry → Bool
all_plain [] = true
all_plain (e ∷ es) = is_plain e && all_plain es
