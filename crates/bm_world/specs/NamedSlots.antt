-- A slot with its name, as it is told.
use Rattle.bm_law_order.specs.Slots.{Named}
use Rattle.bm_world.specs.declared.contents.MapSlot.{MapSlot}

abbrev pub named_of : MapSlot → Named
named_of s = record { name = s.name; slot = record { held = s.held; by = s.by } }
