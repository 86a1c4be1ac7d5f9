use Rattle.bm_lang.proofs.Legal.{legal_tokens}
use Rattle.bm_lang.proofs.law.tokens_are_legal.Goals as goal

pub returns : goal.returns
returns c = legal_tokens
