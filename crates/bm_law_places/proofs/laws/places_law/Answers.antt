use Rattle.bm_law_places.proofs.Standing.{all-placed, standing-on, standing-outset, standing-over}
use Rattle.bm_law_places.proofs.laws.places_law.Goals as goal

pub returns-clause-outset : goal.returns-clause-outset
returns-clause-outset c = standing-outset

pub returns-clause-entry : goal.returns-clause-entry
returns-clause-entry c = standing-on

pub returns-clause-along : goal.returns-clause-along
returns-clause-along c = standing-over

pub returns-clause-all : goal.returns-clause-all
returns-clause-all c = all-placed
