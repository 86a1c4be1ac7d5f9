use Rattle.std.proofs.Common.{rules}
use Rattle.bm_exec_levels.proofs.calls.release.Goals as goal
use Rattle.bm_exec_levels.proofs.calls.release.Goals.{then-delayed, else-delayed}

pub returns-clause-between : goal.returns-clause-between
returns-clause-between g c = elim c.if-delayed.branch [
  | then-delayed w ↦ (let f = w.free_delayed.ensures in record { fine = search rules; came = search rules; stays = search rules; goes = search rules; fewer = search rules })
  | else-delayed w ↦ (let f = w.free.ensures in record { fine = search rules; came = search rules; stays = search rules; goes = search rules; fewer = search rules })
]
