-- The replies of a stretch of a log. (This project's own.)
use Rattle.std.specs.Prelude.{◌≡◌, List}
use Rattle.bm_journal.specs.declared.entry.Entry.{Entry}
use Rattle.bm_law.specs.Null.{Nothing, RepliesFit, asked_at_end}

-- Each reply stands where an allocation calls for it, and none is owed at the end.
pub record AllReplied (own : List Entry) : Type 0 where
  pub replies : RepliesFit Nothing own
  pub owed : asked_at_end Nothing own ≡ Nothing
