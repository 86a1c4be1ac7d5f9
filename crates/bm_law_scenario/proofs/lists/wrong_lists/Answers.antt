use Rattle.bm_law_scenario.proofs.WrongLists.{kept-wrong, list_left-wrong, no_work-wrong, null_call-wrong, other_lock-wrong, second_lock-wrong, slot_lock-wrong, soft_popped-wrong, soft_read-wrong, soft_unlocked-wrong, taken_none-wrong, tree_left-wrong, undropped-wrong, unlocked_first-wrong, unlocked_pop-wrong, unlocked_push-wrong, unlocked_remove-wrong, work_under-wrong}
use Rattle.bm_law_scenario.proofs.lists.wrong_lists.Goals as goal

pub returns-clause-unlocked_push : goal.returns-clause-unlocked_push
returns-clause-unlocked_push c = unlocked_push-wrong

pub returns-clause-unlocked_pop : goal.returns-clause-unlocked_pop
returns-clause-unlocked_pop c = unlocked_pop-wrong

pub returns-clause-unlocked_first : goal.returns-clause-unlocked_first
returns-clause-unlocked_first c = unlocked_first-wrong

pub returns-clause-unlocked_remove : goal.returns-clause-unlocked_remove
returns-clause-unlocked_remove c = unlocked_remove-wrong

pub returns-clause-other_lock : goal.returns-clause-other_lock
returns-clause-other_lock c = other_lock-wrong

pub returns-clause-second_lock : goal.returns-clause-second_lock
returns-clause-second_lock c = second_lock-wrong

pub returns-clause-slot_lock : goal.returns-clause-slot_lock
returns-clause-slot_lock c = slot_lock-wrong

pub returns-clause-work_under : goal.returns-clause-work_under
returns-clause-work_under c = work_under-wrong

pub returns-clause-no_work : goal.returns-clause-no_work
returns-clause-no_work c = no_work-wrong

pub returns-clause-kept : goal.returns-clause-kept
returns-clause-kept c = kept-wrong

pub returns-clause-taken_none : goal.returns-clause-taken_none
returns-clause-taken_none c = taken_none-wrong

pub returns-clause-soft_popped : goal.returns-clause-soft_popped
returns-clause-soft_popped c = soft_popped-wrong

pub returns-clause-soft_unlocked : goal.returns-clause-soft_unlocked
returns-clause-soft_unlocked c = soft_unlocked-wrong

pub returns-clause-soft_read : goal.returns-clause-soft_read
returns-clause-soft_read c = soft_read-wrong

pub returns-clause-null_call : goal.returns-clause-null_call
returns-clause-null_call c = null_call-wrong

pub returns-clause-undropped : goal.returns-clause-undropped
returns-clause-undropped c = undropped-wrong

pub returns-clause-list_left : goal.returns-clause-list_left
returns-clause-list_left c = list_left-wrong

pub returns-clause-tree_left : goal.returns-clause-tree_left
returns-clause-tree_left c = tree_left-wrong
