-- What all processors of a run may ask for. (This project's own.)
use Rattle.std.specs.Prelude.{◌+◌, ℕ, List, sum_by}
use Rattle.bm_lang.specs.declared.scenario.Parts.{Parts}
use Rattle.bm_world.specs.LivingState.{LivingState}
use Rattle.bm_exec_levels.specs.Ready.{left_cost}
use Rattle.bm_exec_levels.specs.declared.kept.Kept.{Kept}
use Rattle.bm_exec_levels.specs.declared.processor.Processor.{Processor}

-- a processor in its turn, by what it keeps and its side of the world
abbrev pub in_its_turn : {W : Type 0} → Kept → W → Processor W
in_its_turn k w = record {
  alloc = k.alloc;
  caches = k.caches;
  side = w;
  settled = k.settled;
  inside = k.inside;
  locked = k.locked;
  handlers = k.handlers;
  running = k.running;
  tables = k.tables;
  calls = k.calls;
}

-- how often a processor was asked for works, and what its handlers that haven't run may ask for
abbrev pub own_asks : Parts → Kept → ℕ
own_asks s k = k.settled + left_cost s k.handlers.planned.left

-- how many objects, calls and works were asked for, and how many handlers may ask for that haven't run, on all processors
abbrev pub asked_by_all : Parts → List Kept → LivingState → ℕ
asked_by_all s kept world = world.asked + sum_by (own_asks s) kept
