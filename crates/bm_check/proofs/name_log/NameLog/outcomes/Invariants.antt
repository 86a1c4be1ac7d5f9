use Rattle.std.proofs.Common.{◌≡◌, map, take}
use Rattle.bm_check.specs.Changes.{names_in, met_at}
use Rattle.bm_check.proofs.name_log.NameLog.outcomes.Given as goal

abbrev pub invariant-loop-end : goal.invariant-loop-end
invariant-loop-end l = l.outcomes.items ≡ map (met_at l.meeting (names_in l.self).state) (take l.end-index l.ends)
