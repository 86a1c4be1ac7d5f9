use Rattle.std.proofs.Common.{sym, ◌∙◌}
use Rattle.bm_graph.proofs.Rows.{item_at-place, item_of-absent}
use Rattle.bm_graph.proofs.tree.Tree.item.Goals as goal

pub returns-in-Some : goal.returns-in-Some
returns-in-Some g c =
    rw (← c.self.view_is)
    (c.at.ensures ∙ item_at-place c.self.inside.rows.rows c.args.id c.in-Some.place c.len-len.ensures.places_differ (sym (c.in-Some.ensures ∙ c.self.invariant.indexed c.args.id)))

pub returns-in-None : goal.returns-in-None
returns-in-None g c =
    rw (← c.self.view_is)
    (sym (item_of-absent c.self.inside.rows.rows c.args.id (sym (c.in-None.ensures ∙ c.self.invariant.indexed c.args.id))))
