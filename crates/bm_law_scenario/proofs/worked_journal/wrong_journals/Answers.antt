use Rattle.bm_law_scenario.proofs.Wrong.{two_pages-wrong, other_marks-wrong, one_step_more-wrong, two_logs-wrong, no_log-wrong, null_with_units-wrong, below_the_top-wrong, never_dropped-wrong, object_left-wrong, dropped_twice-wrong, not_counted-wrong, other_order-wrong, one_left_out-wrong, not_swept-wrong, not_closed-wrong, two_processors-wrong, other_type-wrong, other_script-wrong, one_map-wrong, one_history-wrong, other_dropped-wrong, other_value-wrong, other_class-wrong}
use Rattle.bm_law_scenario.proofs.WrongOpening.{not_opened-wrong}
use Rattle.bm_law_scenario.proofs.WrongSweep.{empty_swept-wrong}
use Rattle.bm_law_scenario.proofs.WrongScripts.{main_first-wrong, repeated_once-wrong}
use Rattle.bm_law_scenario.proofs.worked_journal.wrong_journals.Goals as goal

pub returns-clause-pages : goal.returns-clause-pages
returns-clause-pages c = two_pages-wrong

pub returns-clause-marks : goal.returns-clause-marks
returns-clause-marks c = other_marks-wrong

pub returns-clause-totals : goal.returns-clause-totals
returns-clause-totals c = one_step_more-wrong

pub returns-clause-two_logs : goal.returns-clause-two_logs
returns-clause-two_logs c = two_logs-wrong

pub returns-clause-no_log : goal.returns-clause-no_log
returns-clause-no_log c = no_log-wrong

pub returns-clause-null : goal.returns-clause-null
returns-clause-null c = null_with_units-wrong

pub returns-clause-below_the_top : goal.returns-clause-below_the_top
returns-clause-below_the_top c = below_the_top-wrong

pub returns-clause-never_dropped : goal.returns-clause-never_dropped
returns-clause-never_dropped c = never_dropped-wrong

pub returns-clause-object_left : goal.returns-clause-object_left
returns-clause-object_left c = object_left-wrong

pub returns-clause-dropped_twice : goal.returns-clause-dropped_twice
returns-clause-dropped_twice c = dropped_twice-wrong

pub returns-clause-not_counted : goal.returns-clause-not_counted
returns-clause-not_counted c = not_counted-wrong

pub returns-clause-other_order : goal.returns-clause-other_order
returns-clause-other_order c = other_order-wrong

pub returns-clause-one_left_out : goal.returns-clause-one_left_out
returns-clause-one_left_out c = one_left_out-wrong

pub returns-clause-not_swept : goal.returns-clause-not_swept
returns-clause-not_swept c = not_swept-wrong

pub returns-clause-not_closed : goal.returns-clause-not_closed
returns-clause-not_closed c = not_closed-wrong

pub returns-clause-main_first : goal.returns-clause-main_first
returns-clause-main_first c = main_first-wrong

pub returns-clause-repeated_once : goal.returns-clause-repeated_once
returns-clause-repeated_once c = repeated_once-wrong

pub returns-clause-processors : goal.returns-clause-processors
returns-clause-processors c = two_processors-wrong

pub returns-clause-types : goal.returns-clause-types
returns-clause-types c = other_type-wrong

pub returns-clause-maps : goal.returns-clause-maps
returns-clause-maps c = one_map-wrong

pub returns-clause-scripts : goal.returns-clause-scripts
returns-clause-scripts c = other_script-wrong

pub returns-clause-histories : goal.returns-clause-histories
returns-clause-histories c = one_history-wrong

pub returns-clause-value : goal.returns-clause-value
returns-clause-value c = other_value-wrong

pub returns-clause-class : goal.returns-clause-class
returns-clause-class c = other_class-wrong

pub returns-clause-other_dropped : goal.returns-clause-other_dropped
returns-clause-other_dropped c = other_dropped-wrong

pub returns-clause-empty_swept : goal.returns-clause-empty_swept
returns-clause-empty_swept c = empty_swept-wrong

pub returns-clause-opening : goal.returns-clause-opening
returns-clause-opening c = not_opened-wrong
