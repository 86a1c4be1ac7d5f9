use Rattle.bm_law_graphs.proofs.ShelvedAlong.{closing-along, objects-along}
use Rattle.bm_law_graphs.proofs.laws.beside_law.Goals as goal

pub returns-clause-objects : goal.returns-clause-objects
returns-clause-objects c = objects-along

pub returns-clause-closing : goal.returns-clause-closing
returns-clause-closing c = closing-along
