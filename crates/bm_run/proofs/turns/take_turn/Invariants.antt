use Rattle.std.proofs.Common.{◌≡◌, ◌≤◌}
use Rattle.bm_world.specs.ToldLiving.{knows_living}
use Rattle.bm_exec.specs.Lists.{behind_of}
use Rattle.bm_exec.specs.Yields.{Unyielding}
use Rattle.bm_exec_levels.specs.AtProcessor.{log_of}
use Rattle.bm_exec_levels.specs.AtTie.{TiedAt}
use Rattle.bm_exec_levels.specs.Sound.{Sound}
use Rattle.bm_run.specs.Turns.{Advanced, weight_left}
use Rattle.bm_run.proofs.turns.take_turn.Given as goal

abbrev pub invariant-scripts : goal.invariant-scripts
invariant-scripts g l = record {
  sound : Sound knows_living l.program l.own;
  tied : TiedAt knows_living g.B.Since.since g.B.Since.start l.own;
  advanced : Advanced l.program.scenario.now (behind_of l.deferred.behind) l.initial.own l.initial.remaining l.own l.remaining;
  yields : Unyielding 0 (log_of l.initial.own) (log_of l.own);
  processor : l.remaining.processor ≡ l.initial.remaining.processor;
  light : weight_left l.program.scenario.now l.remaining ≤ weight_left l.program.scenario.now l.initial.remaining;
}

abbrev pub decreases-scripts : goal.decreases-scripts
decreases-scripts g l = weight_left l.program.scenario.now l.remaining
