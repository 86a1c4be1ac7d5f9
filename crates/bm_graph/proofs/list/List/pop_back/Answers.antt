use Rattle.bm_graph.proofs.Lists.{sound_pop_back, takes_last}
use Rattle.bm_graph.proofs.list.List.pop_back.Goals as goal

pub invariant_of-self-2 : goal.invariant_of-self-2
invariant_of-self-2 g c =
    let taken = takes_last c.self.inside.items.items c.pop_back-popped.new.self.items c.pop_back-popped.result _ _ c.pop_back-popped.ensures.items c.pop_back-popped.ensures.rest c.pop_back-popped.ensures.cases in
    rw (c.append.ensures, c.in_ok-position.ensures.same, c.popped_back.ensures)
    (sound_pop_back c.self.inside.items.items c.pop_back-popped.new.self.items c.self.inside.history.items c.args.tag c.pop_back-popped.result c.self.invariant taken)
