use Rattle.std.proofs.Common.{◌≡◌, take, false}
use Rattle.std.specs.List.{list_any}
use Rattle.bm_check.specs.Changes.{names_in, breaks_at}
use Rattle.bm_check.proofs.name_log.NameLog.breaks.Given as goal

abbrev pub invariant-loop-end : goal.invariant-loop-end
invariant-loop-end l = list_any (breaks_at l.meeting (names_in l.self).state) (take l.end-index l.ends) ≡ false
