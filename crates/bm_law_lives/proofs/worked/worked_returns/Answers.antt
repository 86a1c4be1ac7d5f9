use Rattle.bm_law_lives.proofs.RightJournals.{one_block-returns, both_stages-returns, two_processors-returns, swept_from_inbox-returns}
use Rattle.bm_law_lives.proofs.WrongReturns.{never_returned-wrong, returned_twice-wrong, other_returned-wrong, received_by_other-wrong, never_received-wrong, received_twice-wrong, other_class_received-wrong, other_swept-wrong, sent_to_nobody-wrong}
use Rattle.bm_law_lives.proofs.worked.worked_returns.Goals as goal

pub returns-clause-one_block : goal.returns-clause-one_block
returns-clause-one_block c = one_block-returns

pub returns-clause-both_stages : goal.returns-clause-both_stages
returns-clause-both_stages c = both_stages-returns

pub returns-clause-two_processors : goal.returns-clause-two_processors
returns-clause-two_processors c = two_processors-returns

pub returns-clause-swept_from_inbox : goal.returns-clause-swept_from_inbox
returns-clause-swept_from_inbox c = swept_from_inbox-returns

pub returns-clause-never_returned : goal.returns-clause-never_returned
returns-clause-never_returned c = never_returned-wrong

pub returns-clause-returned_twice : goal.returns-clause-returned_twice
returns-clause-returned_twice c = returned_twice-wrong

pub returns-clause-other_returned : goal.returns-clause-other_returned
returns-clause-other_returned c = other_returned-wrong

pub returns-clause-received_by_other : goal.returns-clause-received_by_other
returns-clause-received_by_other c = received_by_other-wrong

pub returns-clause-never_received : goal.returns-clause-never_received
returns-clause-never_received c = never_received-wrong

pub returns-clause-received_twice : goal.returns-clause-received_twice
returns-clause-received_twice c = received_twice-wrong

pub returns-clause-other_class_received : goal.returns-clause-other_class_received
returns-clause-other_class_received c = other_class_received-wrong

pub returns-clause-other_swept : goal.returns-clause-other_swept
returns-clause-other_swept c = other_swept-wrong

pub returns-clause-sent_to_nobody : goal.returns-clause-sent_to_nobody
returns-clause-sent_to_nobody c = sent_to_nobody-wrong
