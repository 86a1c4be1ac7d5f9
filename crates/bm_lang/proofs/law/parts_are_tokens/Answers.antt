use Rattle.bm_lang.proofs.TextParts.{parts_have_tokens}
use Rattle.bm_lang.proofs.law.parts_are_tokens.Goals as goal

pub returns : goal.returns
returns c = parts_have_tokens
