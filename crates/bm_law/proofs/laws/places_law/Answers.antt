use Rattle.bm_law.proofs.Places.{places-law}
use Rattle.bm_law.proofs.laws.places_law.Goals as goal

pub returns : goal.returns
returns c = places-law
