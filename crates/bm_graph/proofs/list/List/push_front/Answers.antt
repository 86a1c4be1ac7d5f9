use Rattle.bm_graph.proofs.Lists.{sound_push_front}
use Rattle.bm_graph.proofs.list.List.push_front.Goals as goal

pub invariant_of-self-in-Ok-push_front : goal.invariant_of-self-in-Ok-push_front
invariant_of-self-in-Ok-push_front g c =
    rw (c.in-Ok-push_front.ensures.items, c.append.ensures, c.in-Ok.ensures.same)
    (sound_push_front c.self.inside.items.items c.self.inside.history.items c.args.tag c.args.item c.self.invariant (rw (← c.self.view_is) at c.requires))
