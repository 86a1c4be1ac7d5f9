use Rattle.bm_law_scenario.proofs.GoneBack.{done-back, done-front, done-grow, done-none}
use Rattle.bm_law_scenario.proofs.EachLevel.{handler-entries}
use Rattle.bm_law_scenario.proofs.Ended.{before-end}
use Rattle.bm_law_scenario.proofs.Levels.{levels}
use Rattle.bm_law_scenario.proofs.handlers.handlers_law.Goals as goal

pub returns-clause-none : goal.returns-clause-none
returns-clause-none c = done-none

pub returns-clause-goes_on : goal.returns-clause-goes_on
returns-clause-goes_on c = done-grow

pub returns-clause-goes_back : goal.returns-clause-goes_back
returns-clause-goes_back c = done-back

pub returns-clause-before : goal.returns-clause-before
returns-clause-before c = done-front

pub returns-clause-levels : goal.returns-clause-levels
returns-clause-levels c = levels

pub returns-clause-entries : goal.returns-clause-entries
returns-clause-entries c = handler-entries

pub returns-clause-closing : goal.returns-clause-closing
returns-clause-closing c = before-end
