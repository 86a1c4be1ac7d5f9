use Rattle.std.proofs.Common.{◌≡◌, length}
use Rattle.bm_law_order.specs.Graphs.{graph_at}
use Rattle.bm_law_scenario.specs.Closing.{EmptiesTree}
use Rattle.bm_world.specs.ToldLiving.{knows_living}
use Rattle.bm_exec_levels.specs.AtProcessor.{graphs_of, lives_of}
use Rattle.bm_exec_levels.specs.AtTie.{TiedAt}
use Rattle.bm_exec_levels.specs.Sound.{Sound}
use Rattle.bm_run.proofs.EmptiedOneByOne.{Emptying}
use Rattle.bm_run.proofs.emptying.empty_tree.Given as goal

abbrev pub invariant-loop-object : goal.invariant-loop-object
invariant-loop-object g l = record {
  sound : Sound knows_living l.program l.own;
  tied : TiedAt knows_living g.B.Since.since g.B.Since.start l.own;
  lives : lives_of knows_living l.own ≡ lives_of knows_living l.initial.own;
  emptying : Emptying (EmptiesTree l.program.scenario.now.types l.tree) l.program l.place.0 l.initial.own l.own;
}

abbrev pub decreases-loop-object : goal.decreases-loop-object
decreases-loop-object g l = length (graph_at l.place.0 (graphs_of knows_living l.own)).nodes
