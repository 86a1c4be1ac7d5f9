-- Journals whose stamps are wrong.
use Rattle.std.proofs.Common.{arith}
use Rattle.bm_law_lives.specs.StampLaw.{StampLaw}
use Rattle.bm_law_lives.specs.Wrong.{odd_stamp, stamped_within, stamped_as_seen, seen_above, no_seal, other_stamp, other_number, sent_too_early, sent_unseen, sealed_though_plain, returned_before_pass, returned_too_early, other_domain_seen, other_batch, not_stamped}

pub odd_stamp-wrong : StampLaw odd_stamp → ⊥
odd_stamp-wrong h = cc

pub stamped_within-wrong : StampLaw stamped_within → ⊥
stamped_within-wrong h = omega (arith, h.plain_stamps)

pub stamped_as_seen-wrong : StampLaw stamped_as_seen → ⊥
stamped_as_seen-wrong h = omega (arith, h.tracing_stamps)

pub seen_above-wrong : StampLaw seen_above → ⊥
seen_above-wrong h = omega (arith, h.plain_seen)

pub no_seal-wrong : StampLaw no_seal → ⊥
no_seal-wrong h = cc

pub other_stamp-wrong : StampLaw other_stamp → ⊥
other_stamp-wrong h = cc

pub other_number-wrong : StampLaw other_number → ⊥
other_number-wrong h = cc

pub sent_too_early-wrong : StampLaw sent_too_early → ⊥
sent_too_early-wrong h = omega (arith, h.seals)

pub sent_unseen-wrong : StampLaw sent_unseen → ⊥
sent_unseen-wrong h = cc

pub sealed_though_plain-wrong : StampLaw sealed_though_plain → ⊥
sealed_though_plain-wrong h = assumption h.seals

pub returned_before_pass-wrong : StampLaw returned_before_pass → ⊥
returned_before_pass-wrong h = assumption h.returns

pub returned_too_early-wrong : StampLaw returned_too_early → ⊥
returned_too_early-wrong h = omega (arith, h.returns)

pub other_domain_seen-wrong : StampLaw other_domain_seen → ⊥
other_domain_seen-wrong h = assumption h.returns

pub other_batch-wrong : StampLaw other_batch → ⊥
other_batch-wrong h = cc

pub not_stamped-wrong : StampLaw not_stamped → ⊥
not_stamped-wrong h = cc
