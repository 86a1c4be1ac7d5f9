use Rattle.bm_graph.proofs.Trees.{sound_refused}
use Rattle.bm_graph.proofs.tree.Tree.already.Goals as goal

pub invariant_of-self-2 : goal.invariant_of-self-2
invariant_of-self-2 g c =
    rw (c.append.ensures, c.in_ok-position.ensures.same, c.refused.ensures)
    (sound_refused c.self.inside.rows.rows c.self.inside.index c.self.inside.history.items c.args.tag c.args.call c.args.id c.args.owner c.self.invariant c.requires)
