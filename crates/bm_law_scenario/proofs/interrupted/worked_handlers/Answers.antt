use Rattle.bm_law_scenario.proofs.InterruptedLog.{interrupted-lawful}
use Rattle.bm_law_scenario.proofs.WorkedHandled.{behind_script-done, behind_script-words, interrupted-done, interrupted-words}
use Rattle.bm_law_scenario.proofs.interrupted.worked_handlers.Goals as goal

pub returns-clause-interrupted : goal.returns-clause-interrupted
returns-clause-interrupted c = interrupted-done

pub returns-clause-words : goal.returns-clause-words
returns-clause-words c = interrupted-words

pub returns-clause-behind : goal.returns-clause-behind
returns-clause-behind c = behind_script-done

pub returns-clause-words_behind : goal.returns-clause-words_behind
returns-clause-words_behind c = behind_script-words

pub returns-clause-journal : goal.returns-clause-journal
returns-clause-journal c = interrupted-lawful
