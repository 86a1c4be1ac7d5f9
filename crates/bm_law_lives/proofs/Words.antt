-- What the entries of a log make of the words of sections.
use Rattle.std.specs.Prelude.{◌%◌}
use Rattle.std.proofs.Common.{◌≡◌, ℕ, zero, suc, Bool, true, false, not, [], ◌∷◌, ◌++◌, refl, ◌∙◌, arith}
use Rattle.bm_journal.specs.declared.ids.Domain.{Domain}
use Rattle.bm_law.specs.Lists.{Log}
use Rattle.bm_law_lives.specs.SectionWords.{is_outside, word_next, word_over}

-- a part and then another one
pub word-append : (d : Domain) (w : ℕ) (one two : Log) → word_over d w (one ++ two) ≡ word_over d (word_over d w one) two
word-append d w [] two = refl
word-append d w (e ∷ es) two = word-append d (word_next d w e.1) es two

not-twice : (b : Bool) → not (not b) ≡ b
not-twice true = refl
not-twice false = refl

-- an even word is outside, an odd one inside
pub outside-even : (w : ℕ) → w % 2 ≡ 0 → is_outside w ≡ true
outside-even zero h = refl
outside-even (suc zero) h = absurd (omega (arith, h))
outside-even (suc (suc w)) h = not-twice (is_outside w) ∙ outside-even w (omega (arith, h))

pub inside-odd : (w : ℕ) → w % 2 ≡ 1 → is_outside w ≡ false
inside-odd zero h = absurd (omega (arith, h))
inside-odd (suc zero) h = refl
inside-odd (suc (suc w)) h = not-twice (is_outside w) ∙ inside-odd w (omega (arith, h))
