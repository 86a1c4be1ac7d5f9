use Rattle.bm_law_lives.proofs.RightJournals.{one_block-stamps, both_stages-stamps, two_processors-stamps, waits_for_next-stamps, interrupted-stamps}
use Rattle.bm_law_lives.proofs.WrongStamps.{odd_stamp-wrong, stamped_within-wrong, stamped_as_seen-wrong, seen_above-wrong, no_seal-wrong, other_stamp-wrong, other_number-wrong, sent_too_early-wrong, sent_unseen-wrong, sealed_though_plain-wrong, returned_before_pass-wrong, returned_too_early-wrong, other_domain_seen-wrong, other_batch-wrong, not_stamped-wrong}
use Rattle.bm_law_lives.proofs.worked.worked_stamps.Goals as goal

pub returns-clause-one_block : goal.returns-clause-one_block
returns-clause-one_block c = one_block-stamps

pub returns-clause-both_stages : goal.returns-clause-both_stages
returns-clause-both_stages c = both_stages-stamps

pub returns-clause-two_processors : goal.returns-clause-two_processors
returns-clause-two_processors c = two_processors-stamps

pub returns-clause-waits_for_next : goal.returns-clause-waits_for_next
returns-clause-waits_for_next c = waits_for_next-stamps

pub returns-clause-interrupted : goal.returns-clause-interrupted
returns-clause-interrupted c = interrupted-stamps

pub returns-clause-odd_stamp : goal.returns-clause-odd_stamp
returns-clause-odd_stamp c = odd_stamp-wrong

pub returns-clause-stamped_within : goal.returns-clause-stamped_within
returns-clause-stamped_within c = stamped_within-wrong

pub returns-clause-stamped_as_seen : goal.returns-clause-stamped_as_seen
returns-clause-stamped_as_seen c = stamped_as_seen-wrong

pub returns-clause-seen_above : goal.returns-clause-seen_above
returns-clause-seen_above c = seen_above-wrong

pub returns-clause-no_seal : goal.returns-clause-no_seal
returns-clause-no_seal c = no_seal-wrong

pub returns-clause-other_stamp : goal.returns-clause-other_stamp
returns-clause-other_stamp c = other_stamp-wrong

pub returns-clause-other_number : goal.returns-clause-other_number
returns-clause-other_number c = other_number-wrong

pub returns-clause-sent_too_early : goal.returns-clause-sent_too_early
returns-clause-sent_too_early c = sent_too_early-wrong

pub returns-clause-sent_unseen : goal.returns-clause-sent_unseen
returns-clause-sent_unseen c = sent_unseen-wrong

pub returns-clause-sealed_though_plain : goal.returns-clause-sealed_though_plain
returns-clause-sealed_though_plain c = sealed_though_plain-wrong

pub returns-clause-returned_before_pass : goal.returns-clause-returned_before_pass
returns-clause-returned_before_pass c = returned_before_pass-wrong

pub returns-clause-returned_too_early : goal.returns-clause-returned_too_early
returns-clause-returned_too_early c = returned_too_early-wrong

pub returns-clause-other_domain_seen : goal.returns-clause-other_domain_seen
returns-clause-other_domain_seen c = other_domain_seen-wrong

pub returns-clause-other_batch : goal.returns-clause-other_batch
returns-clause-other_batch c = other_batch-wrong

pub returns-clause-not_stamped : goal.returns-clause-not_stamped
returns-clause-not_stamped c = not_stamped-wrong
