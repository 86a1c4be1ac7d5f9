use Rattle.bm_law_lives.proofs.RightJournals.{one_block-grace, both_stages-grace, two_processors-grace, sleepable_reader-grace, unended-grace}
use Rattle.bm_law_lives.proofs.WrongGrace.{ends_in_section-wrong, word_never_named-wrong, first_never_named-wrong, other_own_first-wrong, other_own_later-wrong, one_word_alone-wrong, section_forgotten-wrong, plain_words_alone-wrong, domains_apart-wrong, begun_by_both-wrong, begun_beside-wrong, ended_by_other-wrong, begun_within-wrong, number_left_out-wrong, word_jumps-wrong, begins_even-wrong, ends_odd-wrong, not_ended-wrong}
use Rattle.bm_law_lives.proofs.worked.worked_grace.Goals as goal

pub returns-clause-one_block : goal.returns-clause-one_block
returns-clause-one_block c = one_block-grace

pub returns-clause-both_stages : goal.returns-clause-both_stages
returns-clause-both_stages c = both_stages-grace

pub returns-clause-two_processors : goal.returns-clause-two_processors
returns-clause-two_processors c = two_processors-grace

pub returns-clause-sleepable_reader : goal.returns-clause-sleepable_reader
returns-clause-sleepable_reader c = sleepable_reader-grace

pub returns-clause-unended : goal.returns-clause-unended
returns-clause-unended c = unended-grace

pub returns-clause-ends_in_section : goal.returns-clause-ends_in_section
returns-clause-ends_in_section c = ends_in_section-wrong

pub returns-clause-word_never_named : goal.returns-clause-word_never_named
returns-clause-word_never_named c = word_never_named-wrong

pub returns-clause-first_never_named : goal.returns-clause-first_never_named
returns-clause-first_never_named c = first_never_named-wrong

pub returns-clause-other_own_first : goal.returns-clause-other_own_first
returns-clause-other_own_first c = other_own_first-wrong

pub returns-clause-other_own_later : goal.returns-clause-other_own_later
returns-clause-other_own_later c = other_own_later-wrong

pub returns-clause-one_word_alone : goal.returns-clause-one_word_alone
returns-clause-one_word_alone c = one_word_alone-wrong

pub returns-clause-section_forgotten : goal.returns-clause-section_forgotten
returns-clause-section_forgotten c = section_forgotten-wrong

pub returns-clause-plain_words_alone : goal.returns-clause-plain_words_alone
returns-clause-plain_words_alone c = plain_words_alone-wrong

pub returns-clause-domains_apart : goal.returns-clause-domains_apart
returns-clause-domains_apart c = domains_apart-wrong

pub returns-clause-begun_by_both : goal.returns-clause-begun_by_both
returns-clause-begun_by_both c = begun_by_both-wrong

pub returns-clause-begun_beside : goal.returns-clause-begun_beside
returns-clause-begun_beside c = begun_beside-wrong

pub returns-clause-ended_by_other : goal.returns-clause-ended_by_other
returns-clause-ended_by_other c = ended_by_other-wrong

pub returns-clause-begun_within : goal.returns-clause-begun_within
returns-clause-begun_within c = begun_within-wrong

pub returns-clause-number_left_out : goal.returns-clause-number_left_out
returns-clause-number_left_out c = number_left_out-wrong

pub returns-clause-word_jumps : goal.returns-clause-word_jumps
returns-clause-word_jumps c = word_jumps-wrong

pub returns-clause-begins_even : goal.returns-clause-begins_even
returns-clause-begins_even c = begins_even-wrong

pub returns-clause-ends_odd : goal.returns-clause-ends_odd
returns-clause-ends_odd c = ends_odd-wrong

pub returns-clause-not_ended : goal.returns-clause-not_ended
returns-clause-not_ended c = not_ended-wrong
