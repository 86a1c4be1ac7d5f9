use Rattle.std.proofs.Common.{refl}
use Rattle.bm_exec_levels.specs.RunsOn.{runs-same}
use Rattle.bm_exec_levels.proofs.code.AtMachine.leave.Goals as goal

pub returns-clause-keeps : goal.returns-clause-keeps
returns-clause-keeps g c = (runs-same g.W.Knows g.L.Rank.number c.args.self.now.program.now c.args.self.now.own.now, refl)
