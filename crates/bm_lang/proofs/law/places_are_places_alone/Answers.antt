use Rattle.bm_lang.proofs.Places.{same_sorts}
use Rattle.bm_lang.proofs.law.places_are_places_alone.Goals as goal

pub returns : goal.returns
returns c = same_sorts
