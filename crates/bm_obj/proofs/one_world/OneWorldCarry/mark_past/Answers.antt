use Rattle.bm_obj.specs.WorldState.{World}
use Rattle.bm_obj.proofs.Told.{told-entered}
use Rattle.bm_obj.proofs.one_world.OneWorldCarry.mark_past.Goals as goal

pub returns-clause-known : goal.returns-clause-known
returns-clause-known c =
    let i = c.self.inside in
    let w : World = record { places = i.places.items; words = i.words.items; slots = i.slots.items; graphs = i.graphs.types; defs = i.defs.items; processor = i.processor; acquires = i.acquires; waits = i.graphs.waits; last = i.last } in
    rw (← c.self.view_is, c.enter.ensures.waits) (told-entered w c.args.graph c.args.at c.args.past.now c.enter.ensures.inside)
