use Rattle.std.proofs.Common.{◌≡◌, true, refl}
use Rattle.bm_due.proofs.Selected.{among, capped-all, capped-left, due-above, due-from, due-to, kept-none, none-from, none-to, others, others-from}
use Rattle.bm_due.proofs.laws.due_law.Goals as goal

pub returns-clause-due : goal.returns-clause-due
returns-clause-due c n l left line = (due-to n l left line, due-from n l left line)

pub returns-clause-used_up : goal.returns-clause-used_up
returns-clause-used_up c = others-from

pub returns-clause-none : goal.returns-clause-none
returns-clause-none c n l left = (none-to n l left, none-from n l left)

pub returns-clause-kept : goal.returns-clause-kept
returns-clause-kept c = kept-none

pub returns-clause-ended : goal.returns-clause-ended
returns-clause-ended c n l left = refl

pub returns-clause-above : goal.returns-clause-above
returns-clause-above c = due-above

pub returns-clause-greatest : goal.returns-clause-greatest
returns-clause-greatest c = capped-all

pub returns-clause-greatest_left : goal.returns-clause-greatest_left
returns-clause-greatest_left c = capped-left

pub returns-clause-among : goal.returns-clause-among
returns-clause-among c p = among (λ line. p line ≡ true)

pub returns-clause-others : goal.returns-clause-others
returns-clause-others c p = others (λ line. p line ≡ true)
