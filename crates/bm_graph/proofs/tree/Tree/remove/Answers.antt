use Rattle.std.proofs.Common.{◌≡◌, sym, ◌∙◌, Some}
use Rattle.bm_graph.specs.Contents.{item_of}
use Rattle.bm_graph.specs.Sound.{items_of}
use Rattle.bm_graph.proofs.Trees.{sound_remove, removes}
use Rattle.bm_graph.proofs.Rows.{some_apart, item_at-place, item_of-absent}
use Rattle.bm_graph.proofs.tree.Tree.remove.Goals as goal

pub unreachable-requires : goal.unreachable-requires
unreachable-requires g c =
    some_apart (item_of (items_of c.self.inside.rows.rows) c.args.id) (rw (← c.self.view_is) at c.requires)
    (item_of-absent c.self.inside.rows.rows c.args.id (sym (c.in_default.ensures ∙ c.self.invariant.indexed c.args.id)))

pub unreachable-requires-in_default-take : goal.unreachable-requires-in_default-take
unreachable-requires-in_default-take g c =
    some_apart (item_of (items_of c.self.inside.rows.rows) c.args.id) (rw (← c.self.view_is) at c.requires)
    (sym (item_at-place c.self.inside.rows.rows c.args.id c.in-Some.place c.len-len.ensures.places_differ (sym (c.in-Some.ensures ∙ c.self.invariant.indexed c.args.id))) ∙ sym c.in_default-take.ensures.value)

pub invariant_of-self-2 : goal.invariant_of-self-2
invariant_of-self-2 g c =
    let found : item_of (items_of c.self.inside.rows.rows) c.args.id ≡ Some c.in-Some-take.item =
    sym (item_at-place c.self.inside.rows.rows c.args.id c.in-Some.place c.len-len.ensures.places_differ (sym (c.in-Some.ensures ∙ c.self.invariant.indexed c.args.id))) ∙ sym c.in-Some-take.ensures.value in
    rw (c.append.ensures, c.in_ok-position.ensures.same)
    (sound_remove c.self.inside.rows.rows c.take.new.self.rows c.self.inside.index c.remove.new.self c.self.inside.history.items c.args.tag c.args.id c.in-Some.place c.in-Some-take.field-0-0 c.in-Some-take.item c.self.invariant found c.in-Some-take.ensures.taken c.remove.ensures)

pub returns-clause-value : goal.returns-clause-value
returns-clause-value g c =
    rw (← c.self.view_is)
    (sym (item_at-place c.self.inside.rows.rows c.args.id c.in-Some.place c.len-len.ensures.places_differ (sym (c.in-Some.ensures ∙ c.self.invariant.indexed c.args.id))) ∙ sym c.in-Some-take.ensures.value)

pub returns-clause-items : goal.returns-clause-items
returns-clause-items g c =
    rw (← c.self.view_is) (removes c.self.inside.rows.rows c.take.new.self.rows c.in-Some.place c.in-Some-take.field-0-0 c.in-Some-take.item c.in-Some-take.ensures.taken)
