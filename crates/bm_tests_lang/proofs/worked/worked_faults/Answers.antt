use Rattle.std.proofs.Common.{refl}
use Rattle.bm_lang.specs.Keywords.{keyword_of}
use Rattle.bm_lang.specs.Machine.{parse, read_token}
use Rattle.bm_lang.specs.Tokens.{tokens}
use Rattle.bm_tests_lang.proofs.worked.worked_faults.Goals as goal

pub returns-clause-empty : goal.returns-clause-empty
unfolding parse read_token tokens keyword_of
returns-clause-empty c = refl

pub returns-clause-separators : goal.returns-clause-separators
unfolding parse read_token tokens keyword_of
returns-clause-separators c = refl

pub returns-clause-behind : goal.returns-clause-behind
unfolding parse read_token tokens keyword_of
returns-clause-behind c = refl

pub returns-clause-twice : goal.returns-clause-twice
unfolding parse read_token tokens keyword_of
returns-clause-twice c = refl

pub returns-clause-stray : goal.returns-clause-stray
unfolding parse read_token tokens keyword_of
returns-clause-stray c = refl
