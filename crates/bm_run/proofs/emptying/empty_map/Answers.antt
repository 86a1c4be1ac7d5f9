use Rattle.std.proofs.Common.{◌+◌, ◌*◌, arith, length, subst, sym}
use Rattle.bm_lang.specs.declared.scenario.MapDeclaration.{MapDeclaration}
use Rattle.bm_lang.specs.declared.scenario.MapKind.{MapKind}
use Rattle.bm_law_order.specs.Graphs.{graph_at}
use Rattle.bm_law_scenario.specs.Closing.{EmptiesMap}
use Rattle.bm_law_work.specs.Grown.{GrewBy}
use Rattle.bm_world.specs.LivingState.{LivingState}
use Rattle.bm_world.specs.ToldLiving.{knows_living}
use Rattle.bm_exec_levels.specs.AtProcessor.{graphs_of, lists_of, log_of}
use Rattle.bm_exec_levels.specs.declared.processor.Processor.{Processor}
use Rattle.bm_exec_levels.proofs.Noted.{between-most}
use Rattle.bm_run.proofs.EmptiedGraphs.{emptied-slot}
use Rattle.bm_run.proofs.emptying.empty_map.Goals as goal

pub empty_slot-requires-clause-slot : goal.empty_slot-requires-clause-slot
empty_slot-requires-clause-slot g c = record { found = c.requires.found; kind = c.in-Slot.is }

pub empty_slot-requires-clause-room : goal.empty_slot-requires-clause-room
empty_slot-requires-clause-room g c = (let room = c.requires.room in omega (arith, room))

pub empty_list-requires-clause-list : goal.empty_list-requires-clause-list
empty_list-requires-clause-list g c = record { found = c.requires.found; kind = c.in-List.is }

pub empty_tree-requires-clause-tree : goal.empty_tree-requires-clause-tree
empty_tree-requires-clause-tree g c = record { found = c.requires.found; kind = c.in-Tree.is }

pub returns-in-Slot-clause-grew : goal.returns-in-Slot-clause-grew
returns-in-Slot-clause-grew g c =
    let m : MapDeclaration = c.args.map.now in
    let a : Processor LivingState = c.args.own.now in
    let b : Processor LivingState = c.empty_slot.new.own in
    subst (λ (k : MapKind). GrewBy (EmptiesMap c.args.program.now.scenario.now.types k m) (lists_of a) (log_of a) (log_of b)) (sym c.in-Slot.is) c.empty_slot.ensures.grew

pub returns-in-Slot-clause-emptied : goal.returns-in-Slot-clause-emptied
returns-in-Slot-clause-emptied g c =
    let e = c.empty_slot.ensures in
    let unused = e.sound.at.ready.stocked.unused c.args.place.0 c.args.map.now c.requires.found c.in-Slot.is in
    emptied-slot c.args.place.0 (graphs_of knows_living c.args.own.now) (graphs_of knows_living c.empty_slot.new.own) e.lives.1.graphs unused.1

pub returns-in-Slot-clause-between : goal.returns-in-Slot-clause-between
returns-in-Slot-clause-between g c =
    let a : Processor LivingState = c.args.own.now in
    let n = length (graph_at c.args.place.0 (graphs_of knows_living a)).nodes in
    between-most knows_living 2 (2 + 3 * n) 0 0 c.args.program.now a c.empty_slot.new.own (omega arith) c.empty_slot.ensures.between

pub returns-in-Slot-clause-lives : goal.returns-in-Slot-clause-lives
returns-in-Slot-clause-lives g c = c.empty_slot.ensures.lives.0
