-- Entries of ordinary code alone, which is level 0. (This project's own.)
use Rattle.std.specs.Prelude.{List}
use Rattle.bm_journal.specs.declared.entry.Entry.{Entry}
use Rattle.bm_law.specs.Alone.{at_level}
use Rattle.bm_law.specs.Lists.{Log}

abbrev pub ordinary : List Entry → Log
ordinary own = at_level 0 own
