use Rattle.bm_law_graphs.proofs.Content.{list-stands, tree-stands}
use Rattle.bm_law_graphs.proofs.laws.content_law.Goals as goal

pub returns-clause-list : goal.returns-clause-list
returns-clause-list c = list-stands

pub returns-clause-tree : goal.returns-clause-tree
returns-clause-tree c = tree-stands
