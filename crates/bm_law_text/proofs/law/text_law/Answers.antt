use Rattle.bm_law_text.proofs.TextBack.{text-lines}
use Rattle.bm_law_text.proofs.law.text_law.Goals as goal

pub returns : goal.returns
returns c = λ j. text-lines j
