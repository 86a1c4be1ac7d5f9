use Rattle.bm_graph.proofs.Trees.{sound_add, sound_index, adds}
use Rattle.bm_graph.proofs.tree.Tree.add.Goals as goal

pub invariant_of-self-in-Ok-insert : goal.invariant_of-self-in-Ok-insert
invariant_of-self-in-Ok-insert g c =
    let s = sound_index c.self.inside.rows.rows c.self.inside.index c.reserve.new.self c.self.inside.history.items c.self.invariant c.reserve.ensures.same in
    rw (c.append.ensures, c.in-Ok.ensures.same)
    (sound_add c.self.inside.rows.rows c.insert.new.self.rows c.reserve.new.self c.insert-in-Ok-insert.new.self c.self.inside.history.items c.args.tag c.in-Ok-insert.place c.args.item s (rw (← c.self.view_is) at c.requires) c.in-Ok-insert.ensures.ok c.insert-in-Ok-insert.ensures)

pub returns-in-Ok-insert-clause-items : goal.returns-in-Ok-insert-clause-items
returns-in-Ok-insert-clause-items g c =
    rw (← c.self.view_is) (adds c.self.inside.rows.rows c.insert.new.self.rows c.in-Ok-insert.place c.args.item c.self.invariant.keyed c.in-Ok-insert.ensures.ok)
