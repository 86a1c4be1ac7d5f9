use Rattle.bm_word.proofs.RoundTrip.{round_trip}
use Rattle.bm_word.proofs.number.numbers_round_trip.Goals as goal

pub returns : goal.returns
returns c = round_trip
