use Rattle.bm_law_text.proofs.LinesBack.{line-back}
use Rattle.bm_law_text.proofs.LinesSound.{line-sound}
use Rattle.bm_law_text.proofs.law.lines_law.Goals as goal

pub returns : goal.returns
returns c = record {
  back = λ maps l differ fits. line-back c.numbers_round_trip.ensures maps l differ fits;
  only = λ maps ws l said. line-sound c.numbers_round_trip.ensures maps ws l said;
}
