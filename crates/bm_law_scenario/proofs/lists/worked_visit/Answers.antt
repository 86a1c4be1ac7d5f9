use Rattle.bm_law_scenario.proofs.VisitedLog.{visited-lawful}
use Rattle.bm_law_scenario.proofs.lists.worked_visit.Goals as goal

pub returns : goal.returns
returns c = record { visited = visited-lawful }
