use Rattle.bm_law_scenario.proofs.WrongSlept.{no_section-wrong, one_yield-wrong, open_section-wrong, plain-wrong, tracing-wrong, two_sections-wrong, wide_section-wrong}
use Rattle.bm_law_scenario.proofs.sections.wrong_sections.Goals as goal

pub returns-clause-none : goal.returns-clause-none
returns-clause-none c = no_section-wrong

pub returns-clause-two : goal.returns-clause-two
returns-clause-two c = two_sections-wrong

pub returns-clause-wide : goal.returns-clause-wide
returns-clause-wide c = wide_section-wrong

pub returns-clause-open : goal.returns-clause-open
returns-clause-open c = open_section-wrong

pub returns-clause-yields : goal.returns-clause-yields
returns-clause-yields c = one_yield-wrong

pub returns-clause-plain : goal.returns-clause-plain
returns-clause-plain c = plain-wrong

pub returns-clause-tracing : goal.returns-clause-tracing
returns-clause-tracing c = tracing-wrong
