use Rattle.std.proofs.Common.{arith}
use Rattle.bm_due.proofs.Foremost.{scan-end}
use Rattle.bm_due.proofs.planned.foremost.Goals as goal

pub returns : goal.returns
returns c n e = scan-end _ _ _ _ _ _ (c.loop-i.invariant n e) (omega arith)
