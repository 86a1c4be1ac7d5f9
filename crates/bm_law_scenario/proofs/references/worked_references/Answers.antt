use Rattle.std.proofs.Common.{lit<}
use Rattle.bm_law_scenario.proofs.WorkedShared.{acquires-seen, acquires_none-wrong, acquires_uncounted-wrong, kept-wrong, left-seen, left_uncounted-wrong, none_left-wrong}
use Rattle.bm_law_scenario.proofs.references.worked_references.Goals as goal

pub returns-clause-acquired : goal.returns-clause-acquired
returns-clause-acquired c = acquires-seen 1 (lit< tt)

pub returns-clause-left : goal.returns-clause-left
returns-clause-left c = left-seen 2 (lit< tt)

pub returns-clause-none_there : goal.returns-clause-none_there
returns-clause-none_there c = acquires_none-wrong

pub returns-clause-acquired_uncounted : goal.returns-clause-acquired_uncounted
returns-clause-acquired_uncounted c = acquires_uncounted-wrong

pub returns-clause-none_left : goal.returns-clause-none_left
returns-clause-none_left c = none_left-wrong

pub returns-clause-left_uncounted : goal.returns-clause-left_uncounted
returns-clause-left_uncounted c = left_uncounted-wrong

pub returns-clause-kept : goal.returns-clause-kept
returns-clause-kept c = kept-wrong
