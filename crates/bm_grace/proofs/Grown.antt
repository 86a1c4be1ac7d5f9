-- Section words only grow.
use Rattle.std.proofs.Common.{◌≡◌, ◌⊎◌, ℕ, zero, suc, ◌+◌, ◌*◌, ◌≤◌, List, [], ◌∷◌, length, take, set, slice_index, inr, subst, sym, arith}
use Rattle.bm_grace.specs.Calls.{first_or}
use Rattle.bm_grace.specs.Kept.{AreAtMost, IsPlain}
use Rattle.bm_grace.specs.PlainState.{DomainState, in_turn, period_looked, word_moved}

pub at_most-refl : (xs : List ℕ) → AreAtMost xs xs
at_most-refl [] = tt
at_most-refl (x ∷ xs) = (omega arith, at_most-refl xs)

pub at_most-trans : (xs ys zs : List ℕ) → AreAtMost xs ys → AreAtMost ys zs → AreAtMost xs zs
at_most-trans [] ys zs h k = tt
at_most-trans (x ∷ xs) [] zs h k = absurd h
at_most-trans (x ∷ xs) (y ∷ ys) [] h k = absurd k
at_most-trans (x ∷ xs) (y ∷ ys) (z ∷ zs) h k = (let a = h.0 in let b = k.0 in omega (arith, a, b), at_most-trans xs ys zs h.1 k.1)

pub at_most-take : (n : ℕ) (xs ys : List ℕ) → AreAtMost xs ys → AreAtMost (take n xs) (take n ys)
at_most-take zero xs ys h = tt
at_most-take (suc n) [] ys h = tt
at_most-take (suc n) (x ∷ xs) [] h = absurd h
at_most-take (suc n) (x ∷ xs) (y ∷ ys) h = (h.0, at_most-take n xs ys h.1)

pub at_most-in_turn : (xs xs' ys ys' : List ℕ) → AreAtMost xs xs' → AreAtMost ys ys' → AreAtMost (in_turn xs ys) (in_turn xs' ys')
at_most-in_turn [] xs' ys ys' h k = tt
at_most-in_turn (x ∷ xs) [] ys ys' h k = absurd h
at_most-in_turn (x ∷ xs) (x' ∷ xs') [] ys' h k = tt
at_most-in_turn (x ∷ xs) (x' ∷ xs') (y ∷ ys) [] h k = absurd k
at_most-in_turn (x ∷ xs) (x' ∷ xs') (y ∷ ys) (y' ∷ ys') h k = (h.0, (k.0, at_most-in_turn xs xs' ys ys' h.1 k.1))

-- a word that is one greater
pub at_most-moved : (xs : List ℕ) (i : ℕ) → AreAtMost xs (set xs i (slice_index xs i + 1))
at_most-moved [] i = tt
at_most-moved (x ∷ xs) zero = (omega arith, at_most-refl xs)
at_most-moved (x ∷ xs) (suc i) = (omega arith, at_most-moved xs i)

pub at_most-first_or : (words first : List ℕ) → AreAtMost first words → AreAtMost (first_or words first) words
at_most-first_or words [] h = at_most-refl words
at_most-first_or words (w ∷ first) h = h

pub at_most-at : (xs ys : List ℕ) (i : ℕ) → AreAtMost xs ys → slice_index xs i ≤ slice_index ys i
at_most-at [] ys i h = omega arith
at_most-at (x ∷ xs) [] i h = absurd h
at_most-at (x ∷ xs) (y ∷ ys) zero h = h.0
at_most-at (x ∷ xs) (y ∷ ys) (suc i) h = at_most-at xs ys i h.1

-- both domains once a word of one is one greater
pub plain-moved : (p q : ℕ) (plain tracing moved : DomainState) → moved ≡ word_moved q plain → IsPlain p q plain tracing → IsPlain p q moved tracing
plain-moved p q plain tracing moved e is = subst (λ here. IsPlain p q here tracing) (sym e) record {
  processor_limit = is.processor_limit;
  turn = is.turn;
  plain_driver = is.plain_driver;
  tracing_driver = is.tracing_driver;
  plain_words = is.plain_words;
  tracing_words = is.tracing_words;
  plain_grown = at_most-trans plain.first (take p plain.words) (take p (word_moved q plain).words) is.plain_grown grown;
  tracing_grown = at_most-trans tracing.first (in_turn (take p plain.words) (take p tracing.words)) (in_turn (take p (word_moved q plain).words) (take p tracing.words)) is.tracing_grown
      (at_most-in_turn (take p plain.words) (take p (word_moved q plain).words) (take p tracing.words) (take p tracing.words) grown (at_most-refl (take p tracing.words)));
}
  where
    grown : AreAtMost (take p plain.words) (take p (word_moved q plain).words)
    grown = at_most-take p plain.words (word_moved q plain).words (at_most-moved plain.words q)

pub tracing-moved : (p q : ℕ) (plain tracing moved : DomainState) → moved ≡ word_moved q tracing → IsPlain p q plain tracing → IsPlain p q plain moved
tracing-moved p q plain tracing moved e is = subst (λ here. IsPlain p q plain here) (sym e) record {
  processor_limit = is.processor_limit;
  turn = is.turn;
  plain_driver = is.plain_driver;
  tracing_driver = is.tracing_driver;
  plain_words = is.plain_words;
  tracing_words = is.tracing_words;
  plain_grown = is.plain_grown;
  tracing_grown = at_most-trans tracing.first (in_turn (take p plain.words) (take p tracing.words)) (in_turn (take p plain.words) (take p (word_moved q tracing).words)) is.tracing_grown
      (at_most-in_turn (take p plain.words) (take p plain.words) (take p tracing.words) (take p (word_moved q tracing).words) (at_most-refl (take p plain.words))
      (at_most-take p tracing.words (word_moved q tracing).words (at_most-moved tracing.words q)));
}

-- as many first words as there are words, whether they were looked at before or not
alike-first_or : (words first : List ℕ) (n : ℕ) → length words ≡ n → (first ≡ []) ⊎ (length first ≡ n) → (first_or words first ≡ []) ⊎ (length (first_or words first) ≡ n)
alike-first_or words [] n e h = inr e
alike-first_or words (w ∷ first) n e h = h

-- .. and once a period of one has looked at its words
pub plain-looked : (p q : ℕ) (plain tracing looked : DomainState) (words : List ℕ) → looked ≡ period_looked words plain → words ≡ take p plain.words → length words ≡ p → IsPlain p q plain tracing → IsPlain p q looked tracing
plain-looked p q plain tracing looked words e w l is = subst (λ here. IsPlain p q here tracing) (sym e) record {
  processor_limit = is.processor_limit;
  turn = is.turn;
  plain_driver = is.plain_driver;
  tracing_driver = is.tracing_driver;
  plain_words = alike-first_or words plain.first p l is.plain_words;
  tracing_words = is.tracing_words;
  plain_grown = subst (λ xs. AreAtMost (first_or words plain.first) xs) w (at_most-first_or words plain.first (subst (λ xs. AreAtMost plain.first xs) (sym w) is.plain_grown));
  tracing_grown = is.tracing_grown;
}

pub tracing-looked : (p q : ℕ) (plain tracing looked : DomainState) (words : List ℕ) → looked ≡ period_looked words tracing → words ≡ in_turn (take p plain.words) (take p tracing.words) → length words ≡ 2 * p → IsPlain p q plain tracing → IsPlain p q plain looked
tracing-looked p q plain tracing looked words e w l is = subst (λ here. IsPlain p q plain here) (sym e) record {
  processor_limit = is.processor_limit;
  turn = is.turn;
  plain_driver = is.plain_driver;
  tracing_driver = is.tracing_driver;
  plain_words = is.plain_words;
  tracing_words = alike-first_or words tracing.first (2 * p) l is.tracing_words;
  plain_grown = is.plain_grown;
  tracing_grown = subst (λ xs. AreAtMost (first_or words tracing.first) xs) w (at_most-first_or words tracing.first (subst (λ xs. AreAtMost tracing.first xs) (sym w) is.tracing_grown));
}
