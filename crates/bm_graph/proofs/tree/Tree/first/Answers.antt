use Rattle.bm_graph.proofs.Trees.{sound_first}
use Rattle.bm_graph.proofs.tree.Tree.first.Goals as goal

pub invariant_of-self-2 : goal.invariant_of-self-2
invariant_of-self-2 g c =
    rw (c.append.ensures, c.in_ok-position.ensures.same, c.looked_first.ensures, c.first_id-first.ensures, ← c.self.view_is)
    (sound_first c.self.inside.rows.rows c.self.inside.index c.self.inside.history.items c.args.tag c.self.invariant)
