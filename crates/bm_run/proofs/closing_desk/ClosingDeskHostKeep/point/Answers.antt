use Rattle.bm_journal.specs.Recording.{Kept as Recorded}
use Rattle.bm_cache.proofs.Moments.{came-none}
use Rattle.bm_run.proofs.closing_desk.ClosingDeskHostKeep.point.Goals as goal

pub returns-clause-came : goal.returns-clause-came
returns-clause-came g c = came-none (λ (k : Recorded). k.told) _ _ _
