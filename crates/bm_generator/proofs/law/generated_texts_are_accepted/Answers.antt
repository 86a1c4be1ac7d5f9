use Rattle.bm_generator.proofs.ServedLemmas.{served}
use Rattle.bm_generator.proofs.law.generated_texts_are_accepted.Goals as goal

pub returns : goal.returns
returns c = λ count start few. served count start few
