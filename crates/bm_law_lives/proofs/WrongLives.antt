-- Journals whose lives are wrong.
use Rattle.std.proofs.Common.{arith}
use Rattle.bm_law_lives.specs.Lives.{LivesLaw, WholeLives}
use Rattle.bm_law_lives.specs.Wrong.{given_twice, left_out, ended_twice, other_freed, not_freed, other_home, never_given, never_ended}

pub given_twice-wrong : LivesLaw given_twice → ⊥
given_twice-wrong h = let x = h.given 0 in cc

pub left_out-wrong : LivesLaw left_out → ⊥
left_out-wrong h = let x = h.given 0 in cc

pub ended_twice-wrong : LivesLaw ended_twice → ⊥
ended_twice-wrong h = let x = h.ended 0 in omega (arith, x)

pub other_freed-wrong : LivesLaw other_freed → ⊥
other_freed-wrong h = cc

pub not_freed-wrong : LivesLaw not_freed → ⊥
not_freed-wrong h = assumption h

pub other_home-wrong : LivesLaw other_home → ⊥
other_home-wrong h = cc

pub never_given-wrong : LivesLaw never_given → ⊥
never_given-wrong h = cc

pub never_ended-wrong : WholeLives never_ended → ⊥
never_ended-wrong h = let x = h.each_ended 0 in cc
