use Rattle.std.proofs.Common.{◌≡◌, ◌++◌, drop}
use Rattle.bm_journal.proofs.log.Log.of.Given as goal

-- what it has so far, and the entries that are still to come
abbrev pub invariant-loop-level : goal.invariant-loop-level
invariant-loop-level l = l.log ++ drop l.level-index l.entries ≡ l.entries
