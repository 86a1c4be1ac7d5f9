use Rattle.std.proofs.Common.{sym, ◌∙◌}
use Rattle.bm_tree.proofs.Callers.{popped_first}
use Rattle.bm_tree.proofs.tree.RedBlack.pop_least.Goals as goal

pub returns-in-Some-clause-popped : goal.returns-in-Some-clause-popped
returns-in-Some-clause-popped g c =
    popped_first _ _ c.in-Some.place c.take.result (sym c.least.ensures ∙ c.in-Some.is) c.len-len.ensures.places_differ c.take.ensures.value c.take.ensures.taken
