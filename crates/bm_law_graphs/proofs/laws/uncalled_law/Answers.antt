use Rattle.std.proofs.Common.{ap}
use Rattle.bm_law_graphs.specs.Shelves.{nothing_shelved}
use Rattle.bm_law_graphs.proofs.UncalledAlong.{uncalled-fits, uncalled-histories, uncalled-holders, uncalled-within}
use Rattle.bm_law_graphs.proofs.laws.uncalled_law.Goals as goal

pub returns-clause-shelved : goal.returns-clause-shelved
returns-clause-shelved c names o h = uncalled-fits names o nothing_shelved h

pub returns-clause-histories : goal.returns-clause-histories
returns-clause-histories c names o h name = ap (λ f. f name) (uncalled-histories names o nothing_shelved h)

pub returns-clause-within : goal.returns-clause-within
returns-clause-within c names o h u = ap (λ f. f u) (uncalled-within names o nothing_shelved h)

pub returns-clause-unlocked : goal.returns-clause-unlocked
returns-clause-unlocked c names o h name = ap (λ f. f name) (uncalled-holders names o nothing_shelved h)
