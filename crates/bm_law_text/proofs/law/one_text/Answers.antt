use Rattle.bm_law_text.proofs.OneText.{one-text}
use Rattle.bm_law_text.proofs.law.one_text.Goals as goal

pub returns : goal.returns
returns c = λ j k hj hk e. one-text c.numbers_round_trip.ensures j k hj hk e
