use Rattle.bm_exec_levels.proofs.Grounds.{both-ok, guarded-same, on-ok}
use Rattle.bm_exec_levels.proofs.Yields.{works-unyielding}
use Rattle.bm_exec_levels.proofs.ground.GroundMachine.settle.Goals as goal

pub returns-clause-yields : goal.returns-clause-yields
returns-clause-yields g c = on-ok c.settle_statement.result _ _ c.settle_statement.ensures.grew (works-unyielding c.in-Some.classes.now _ _ _)

pub returns-clause-guarded : goal.returns-clause-guarded
returns-clause-guarded g c =
    let e = c.settle_statement.ensures in
    on-ok c.settle_statement.result _ _ (both-ok c.settle_statement.result _ _ e.locked e.lives) (λ h. guarded-same g.W.Knows c.args.self.now.own.now c.settle_statement.new.own h.0 h.1.1)
