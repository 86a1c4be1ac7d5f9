-- Journals whose grace periods are wrong.
use Rattle.std.proofs.Common.{arith, inl, inr}
use Rattle.bm_law_lives.specs.GraceLaw.{GraceLaw, WholeGrace}
use Rattle.bm_law_lives.specs.Wrong.{ends_in_section, word_never_named, first_never_named, other_own_first, other_own_later, one_word_alone, section_forgotten, plain_words_alone, domains_apart, begun_by_both, begun_beside, ended_by_other, begun_within, number_left_out, word_jumps, begins_even, ends_odd, not_ended}

pub ends_in_section-wrong : GraceLaw ends_in_section → ⊥
ends_in_section-wrong h = elim h.plain.periods.1.0.1.1.1.0.passed.0 [ inl e ↦ cc | inr e ↦ omega (arith, e) ]

pub word_never_named-wrong : GraceLaw word_never_named → ⊥
word_never_named-wrong h = omega (arith, h.plain.periods.1.0.1.1.1.0.later_named)

pub first_never_named-wrong : GraceLaw first_never_named → ⊥
first_never_named-wrong h = omega (arith, h.plain.periods.1.0.1.1.1.0.first_named)

pub other_own_first-wrong : GraceLaw other_own_first → ⊥
other_own_first-wrong h = cc

pub other_own_later-wrong : GraceLaw other_own_later → ⊥
other_own_later-wrong h = cc

pub one_word_alone-wrong : GraceLaw one_word_alone → ⊥
one_word_alone-wrong h = cc

pub section_forgotten-wrong : GraceLaw section_forgotten → ⊥
section_forgotten-wrong h = elim h.tracing.periods.0.1.1.1.0.passed.1.1.0 [ inl e ↦ cc | inr e ↦ omega (arith, e) ]

pub plain_words_alone-wrong : GraceLaw plain_words_alone → ⊥
plain_words_alone-wrong h = assumption h.tracing.periods.0.1.1.1.0.later_named

pub domains_apart-wrong : GraceLaw domains_apart → ⊥
domains_apart-wrong h = omega (arith, h.tracing.periods.0.1.1.1.0.later_named)

pub begun_by_both-wrong : GraceLaw begun_by_both → ⊥
begun_by_both-wrong h = cc

pub begun_beside-wrong : GraceLaw begun_beside → ⊥
begun_beside-wrong h = omega (arith, h.plain.numbers.in_turn)

pub ended_by_other-wrong : GraceLaw ended_by_other → ⊥
ended_by_other-wrong h = cc

pub begun_within-wrong : GraceLaw begun_within → ⊥
begun_within-wrong h = cc

pub number_left_out-wrong : GraceLaw number_left_out → ⊥
number_left_out-wrong h = cc

pub word_jumps-wrong : GraceLaw word_jumps → ⊥
word_jumps-wrong h = cc

pub begins_even-wrong : GraceLaw begins_even → ⊥
begins_even-wrong h = cc

pub ends_odd-wrong : GraceLaw ends_odd → ⊥
ends_odd-wrong h = cc

pub not_ended-wrong : WholeGrace not_ended → ⊥
not_ended-wrong h = cc
