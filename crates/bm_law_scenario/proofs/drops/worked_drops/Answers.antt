use Rattle.bm_law_scenario.proofs.CountedObject.{counted-lawful}
use Rattle.bm_law_scenario.proofs.WorkedDropped.{above-raised, above-raised_again, above-unraised, above-waiting, drops-raised, drops-waiting, plainly-wrong, raised_again-wrong, uncounted-wrong, unraised-wrong}
use Rattle.bm_law_scenario.proofs.drops.worked_drops.Goals as goal

pub returns-clause-raised : goal.returns-clause-raised
returns-clause-raised c = drops-raised

pub returns-clause-waiting : goal.returns-clause-waiting
returns-clause-waiting c = drops-waiting

pub returns-clause-plainly : goal.returns-clause-plainly
returns-clause-plainly c = plainly-wrong

pub returns-clause-unraised : goal.returns-clause-unraised
returns-clause-unraised c = unraised-wrong

pub returns-clause-raised_again : goal.returns-clause-raised_again
returns-clause-raised_again c = raised_again-wrong

pub returns-clause-uncounted : goal.returns-clause-uncounted
returns-clause-uncounted c = uncounted-wrong

pub returns-clause-journal : goal.returns-clause-journal
returns-clause-journal c = counted-lawful

pub returns-clause-above_raised : goal.returns-clause-above_raised
returns-clause-above_raised c = above-raised

pub returns-clause-above_waiting : goal.returns-clause-above_waiting
returns-clause-above_waiting c = above-waiting

pub returns-clause-above_unraised : goal.returns-clause-above_unraised
returns-clause-above_unraised c = above-unraised

pub returns-clause-above_raised_again : goal.returns-clause-above_raised_again
returns-clause-above_raised_again c = above-raised_again
