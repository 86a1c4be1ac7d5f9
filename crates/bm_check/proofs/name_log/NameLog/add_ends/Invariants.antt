use Rattle.std.proofs.Common.{◌≡◌, ◌++◌, map, take}
use Rattle.bm_check.specs.Changes.{names_in, end_of}
use Rattle.bm_check.proofs.name_log.NameLog.add_ends.Given as goal

abbrev pub invariant-loop-change : goal.invariant-loop-change
invariant-loop-change l = l.ends.items ≡ l.initial.ends.items ++ map (end_of (names_in l.self).state) (take l.change-index l.changes)
