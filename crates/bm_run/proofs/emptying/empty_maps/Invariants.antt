use Rattle.std.proofs.Common.{◌≡◌, take}
use Rattle.bm_law_scenario.specs.Closing.{EmptiesMaps}
use Rattle.bm_law_work.specs.Grown.{GrewBy}
use Rattle.bm_world.specs.ToldLiving.{knows_living}
use Rattle.bm_exec_levels.specs.AtProcessor.{lists_of, lives_of, log_of}
use Rattle.bm_exec_levels.specs.AtTie.{TiedAt}
use Rattle.bm_exec_levels.specs.Sound.{Sound}
use Rattle.bm_run.proofs.EmptiedMaps.{EmptiedSoFar}
use Rattle.bm_run.proofs.emptying.empty_maps.Given as goal

abbrev pub invariant-loop-index : goal.invariant-loop-index
invariant-loop-index g l = record {
  sound : Sound knows_living l.program l.own;
  tied : TiedAt knows_living g.B.Since.since g.B.Since.start l.own;
  emptied : GrewBy (EmptiesMaps l.program.scenario.now.types (take l.index l.program.scenario.now.maps)) (lists_of l.initial.own) (log_of l.initial.own) (log_of l.own);
  lives : lives_of knows_living l.own ≡ lives_of knows_living l.initial.own;
  so_far : EmptiedSoFar l.program l.index l.initial.own l.own;
}
