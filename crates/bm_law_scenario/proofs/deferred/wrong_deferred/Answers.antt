use Rattle.bm_law_scenario.proofs.WrongWork.{left_out-wrong, not_asked-wrong, not_behind-wrong}
use Rattle.bm_law_scenario.proofs.WrongShort.{third_unnamed-wrong}
use Rattle.bm_law_scenario.proofs.deferred.wrong_deferred.Goals as goal

pub returns-clause-left_out : goal.returns-clause-left_out
returns-clause-left_out c = left_out-wrong

pub returns-clause-not_asked : goal.returns-clause-not_asked
returns-clause-not_asked c = not_asked-wrong

pub returns-clause-not_behind : goal.returns-clause-not_behind
returns-clause-not_behind c = not_behind-wrong

pub returns-clause-unnamed : goal.returns-clause-unnamed
returns-clause-unnamed c = third_unnamed-wrong
