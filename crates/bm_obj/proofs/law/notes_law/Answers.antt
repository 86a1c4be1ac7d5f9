use Rattle.bm_obj.proofs.Undoing.{in-again, life-in-hands, life-in-notes, out-again}
use Rattle.bm_obj.proofs.law.notes_law.Goals as goal

pub returns-clause-out_again : goal.returns-clause-out_again
returns-clause-out_again c = out-again

pub returns-clause-in_again : goal.returns-clause-in_again
returns-clause-in_again c = in-again

pub returns-clause-in_hands : goal.returns-clause-in_hands
returns-clause-in_hands c = life-in-hands

pub returns-clause-in_notes : goal.returns-clause-in_notes
returns-clause-in_notes c = life-in-notes
