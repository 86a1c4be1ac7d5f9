use Rattle.bm_graph.proofs.Lists.{sound_pop_front, takes_first}
use Rattle.bm_graph.proofs.list.List.pop_front.Goals as goal

pub invariant_of-self-2 : goal.invariant_of-self-2
invariant_of-self-2 g c =
    let taken = takes_first c.self.inside.items.items c.pop_front-popped.new.self.items c.pop_front-popped.result c.pop_front-popped.ensures.items c.pop_front-popped.ensures.rest in
    rw (c.append.ensures, c.in_ok-position.ensures.same, c.popped_front.ensures)
    (sound_pop_front c.self.inside.items.items c.pop_front-popped.new.self.items c.self.inside.history.items c.args.tag c.pop_front-popped.result c.self.invariant taken)
