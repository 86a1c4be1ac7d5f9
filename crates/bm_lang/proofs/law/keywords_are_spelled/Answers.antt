use Rattle.bm_lang.proofs.Spelled.{keywords_spelled}
use Rattle.bm_lang.proofs.law.keywords_are_spelled.Goals as goal

pub returns : goal.returns
returns c = keywords_spelled
