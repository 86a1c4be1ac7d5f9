use Rattle.bm_law_lives.proofs.RightJournals.{one_block-lives, both_stages-lives, two_processors-lives, unended-lives}
use Rattle.bm_law_lives.proofs.WrongLives.{given_twice-wrong, left_out-wrong, ended_twice-wrong, other_freed-wrong, not_freed-wrong, other_home-wrong, never_given-wrong, never_ended-wrong}
use Rattle.bm_law_lives.proofs.worked.worked_lives.Goals as goal

pub returns-clause-one_block : goal.returns-clause-one_block
returns-clause-one_block c = one_block-lives

pub returns-clause-both_stages : goal.returns-clause-both_stages
returns-clause-both_stages c = both_stages-lives

pub returns-clause-two_processors : goal.returns-clause-two_processors
returns-clause-two_processors c = two_processors-lives

pub returns-clause-unended : goal.returns-clause-unended
returns-clause-unended c = unended-lives

pub returns-clause-given_twice : goal.returns-clause-given_twice
returns-clause-given_twice c = given_twice-wrong

pub returns-clause-left_out : goal.returns-clause-left_out
returns-clause-left_out c = left_out-wrong

pub returns-clause-ended_twice : goal.returns-clause-ended_twice
returns-clause-ended_twice c = ended_twice-wrong

pub returns-clause-other_freed : goal.returns-clause-other_freed
returns-clause-other_freed c = other_freed-wrong

pub returns-clause-not_freed : goal.returns-clause-not_freed
returns-clause-not_freed c = not_freed-wrong

pub returns-clause-other_home : goal.returns-clause-other_home
returns-clause-other_home c = other_home-wrong

pub returns-clause-never_given : goal.returns-clause-never_given
returns-clause-never_given c = never_given-wrong

pub returns-clause-never_ended : goal.returns-clause-never_ended
returns-clause-never_ended c = never_ended-wrong
