-- What the closing needs to empty the maps of a program, and what that leaves of lists and trees. (This project's own.)
use Rattle.std.specs.Prelude.{◌≡◌, ◌≢◌, ◌<◌, ◌+◌, ◌*◌, ◌^◌, ℕ, true, IfSome, List, [], None, length}
use Rattle.bm_law.specs.Lists.{Log}
use Rattle.bm_law_order.specs.Calls.{closes}
use Rattle.bm_law_order.specs.Graphs.{NamedGraph, graph_at}
use Rattle.bm_world.specs.Graphs.{items_in}
use Rattle.bm_world.specs.LivingState.{LivingState}
use Rattle.bm_world.specs.ToldLiving.{knows_living}
use Rattle.bm_exec_levels.specs.AtPolls.{home}
use Rattle.bm_exec_levels.specs.AtProcessor.{graphs_of, log_of}
use Rattle.bm_exec_levels.specs.Ready.{asked_of}
use Rattle.bm_exec_levels.specs.declared.processor.Processor.{Processor}
use Rattle.bm_exec_levels.specs.declared.program.Program.{Program}

-- Two calls may be made for each map, and three for each object that is in a list or tree.
abbrev pub HasRoomFor : Program → Processor LivingState → Type 0
HasRoomFor g m =
    asked_of knows_living g.scenario.now m + 2 * length g.scenario.now.maps
    + 3 * items_in (graphs_of knows_living m) < 2 ^ 22

-- It is processor 0, its log has the begin of the closing, and it holds no lock.
pub record IsClosing (m : Processor LivingState) : Type 0 where
  pub begun : IfSome (log_of m) (λ (log : Log). closes log ≡ true)
  pub first : home knows_living m.side ≡ 0
  pub unlocked : m.locked ≡ None

-- All objects were taken out of the list or tree at a place, and the other ones stayed as they were.
pub record EmptiedAt (place : ℕ) (before now : List NamedGraph) : Type 0 where
  pub bare : (graph_at place now).nodes ≡ []
  pub others : (at : ℕ) → at ≢ place → graph_at at now ≡ graph_at at before
  pub fewer : items_in now + length (graph_at place before).nodes ≡ items_in before
