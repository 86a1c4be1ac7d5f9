use Rattle.std.proofs.Common.{◌≡◌, map, take}
use Rattle.bm_world.specs.NamedSlots.{named_of}
use Rattle.bm_run.specs.Opened.{empty_slots}
use Rattle.bm_run.proofs.opening.empty_slots.Given as goal

abbrev pub invariant-loop-declared : goal.invariant-loop-declared
invariant-loop-declared l = map named_of l.slots.items ≡ empty_slots (take l.declared-index l.maps)
