use Rattle.bm_graph.proofs.Lists.{sound_push_back}
use Rattle.bm_graph.proofs.list.List.push_back.Goals as goal

pub invariant_of-self-in-Ok-push_back : goal.invariant_of-self-in-Ok-push_back
invariant_of-self-in-Ok-push_back g c =
    rw (c.in-Ok-push_back.ensures.items, c.append.ensures, c.in-Ok.ensures.same)
    (sound_push_back c.self.inside.items.items c.self.inside.history.items c.args.tag c.args.item c.self.invariant (rw (← c.self.view_is) at c.requires))
