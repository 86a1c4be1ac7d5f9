-- Journals whose returns are wrong.
use Rattle.std.proofs.Common.{arith}
use Rattle.bm_law_lives.specs.Returns.{ReturnsLaw}
use Rattle.bm_law_lives.specs.Wrong.{never_returned, returned_twice, other_returned, received_by_other, never_received, received_twice, other_class_received, other_swept, sent_to_nobody}

pub never_returned-wrong : ReturnsLaw never_returned → ⊥
never_returned-wrong h = let x = h.returned 0 in cc

pub returned_twice-wrong : ReturnsLaw returned_twice → ⊥
returned_twice-wrong h = let x = h.returned 0 in cc

pub other_returned-wrong : ReturnsLaw other_returned → ⊥
other_returned-wrong h = let x = h.returned 0 in cc

pub received_by_other-wrong : ReturnsLaw received_by_other → ⊥
received_by_other-wrong h = let x = h.arrive.0 10 0 in cc

pub never_received-wrong : ReturnsLaw never_received → ⊥
never_received-wrong h = let x = h.arrive.0 10 0 in cc

pub received_twice-wrong : ReturnsLaw received_twice → ⊥
received_twice-wrong h = let x = h.arrive.0 10 0 in cc

pub other_class_received-wrong : ReturnsLaw other_class_received → ⊥
other_class_received-wrong h = let x = h.arrive.0 10 0 in cc

pub other_swept-wrong : ReturnsLaw other_swept → ⊥
other_swept-wrong h = let x = h.arrive.0 10 0 in cc

pub sent_to_nobody-wrong : ReturnsLaw sent_to_nobody → ⊥
sent_to_nobody-wrong h = omega (arith, h.receivers)
