use Rattle.bm_due.proofs.Counting.{steps-counted}
use Rattle.bm_due.proofs.Standings.{after-append}
use Rattle.bm_due.proofs.laws.standing_law.Goals as goal

pub returns-clause-parts : goal.returns-clause-parts
returns-clause-parts c = after-append

pub returns-clause-counted : goal.returns-clause-counted
returns-clause-counted c = steps-counted
