-- What calls do where all processors on one thread are at rest.
use Rattle.std.proofs.Common.{◌≡◌, ℕ, zero, suc, ◌%◌, ◌≤◌, ◌<◌, ◌==◌, true, Option, None, Some, IfSome, List, [], ◌∷◌, take, slice_index, if◌then◌else◌, refl, sym, ◌∙◌, ap, subst, inl, inr, arith}
use Rattle.std.proofs.lemmas.Bool.{cases_lt}
use Rattle.std.proofs.lemmas.Bool.Decides.{Decides-eqb}
use Rattle.bm_journal.specs.declared.ids.Domain.{Domain}
use Rattle.bm_journal.specs.declared.ids.Domain.TheVariants.{Plain, Tracing}
use Rattle.bm_grace.specs.declared.answer.Look.{Look}
use Rattle.bm_grace.specs.declared.answer.Look.TheVariants.{All, Waits}
use Rattle.bm_grace.specs.Answers.{IsPassed, Verdict}
use Rattle.bm_grace.specs.AtRest.{AreEven, IsAtRest, IsDriven, IsSole}
use Rattle.bm_grace.specs.Kept.{AreAtMost, parity}
use Rattle.bm_grace.specs.Known.{side}
use Rattle.bm_grace.specs.PlainState.{DomainState, PlainState, domain_in, in_turn, is_processor, known_in, period_looked, side_in, words_in}
use Rattle.bm_grace.proofs.Grown.{at_most-at, at_most-first_or}

-- the words of the first n processors are even, and past them there are none
even-taken : (n : ℕ) (xs : List ℕ) → AreEven n xs → (i : ℕ) → slice_index (take n xs) i % 2 ≡ 0
even-taken zero xs h i = refl
even-taken (suc n) [] h i = refl
even-taken (suc n) (x ∷ xs) h zero = h 0 (omega arith)
even-taken (suc n) (x ∷ xs) h (suc i) = even-taken n xs (λ k lt. h (suc k) (omega arith)) i

even-in_turn : (xs ys : List ℕ) → ((i : ℕ) → slice_index xs i % 2 ≡ 0) → ((i : ℕ) → slice_index ys i % 2 ≡ 0) → (i : ℕ) → slice_index (in_turn xs ys) i % 2 ≡ 0
even-in_turn [] ys h k i = refl
even-in_turn (x ∷ xs) [] h k i = refl
even-in_turn (x ∷ xs) (y ∷ ys) h k zero = h 0
even-in_turn (x ∷ xs) (y ∷ ys) h k (suc zero) = k 0
even-in_turn (x ∷ xs) (y ∷ ys) h k (suc (suc i)) = even-in_turn xs ys (λ j. h (suc j)) (λ j. k (suc j)) i

even-words : (domain : Domain) (g : PlainState) (n : ℕ) → IsAtRest g domain n → (i : ℕ) → slice_index (words_in domain g) i % 2 ≡ 0
even-words Plain g n rest = even-taken g.processors g.plain.words rest.plain
even-words Tracing g n rest = even-in_turn (take g.processors g.plain.words) (take g.processors g.tracing.words) (even-taken g.processors g.plain.words rest.plain) (even-taken g.processors g.tracing.words rest.tracing)

-- an even word that is at least what it was has passed
even-passed : (first word : ℕ) → first ≤ word → word % 2 ≡ 0 → IsPassed first word
even-passed first word le even =
    elim (cases_lt first word) [
      | inl less ↦ inr less
      | inr more ↦ let same : first ≡ word = omega arith in inl (ap (λ k. k % 2) same ∙ even)
    ]

all-pass : (r : Look) (domain : Domain) (first words : List ℕ) → Verdict r domain first words → AreAtMost first words → ((i : ℕ) → slice_index words i % 2 ≡ 0) → r ≡ All
all-pass All domain first words v h even = refl
all-pass (Waits p w) domain first words v h even =
    absurd (v.waiting.here (even-passed (slice_index first v.place) (slice_index words v.place) (at_most-at first words v.place h) (even v.place)))

pub look-passes : (r : Look) (domain : Domain) (g : PlainState) (looked : DomainState) (words : List ℕ) → words ≡ words_in domain g → looked ≡ period_looked words (domain_in domain g) → Verdict r domain looked.first words → AreAtMost (domain_in domain g).first (words_in domain g) → (n : ℕ) → IsAtRest g domain n → r ≡ All
look-passes r domain g looked words w e v h n rest =
    let first : AreAtMost looked.first words = subst (λ (s : DomainState). AreAtMost s.first words) (sym e) (at_most-first_or words (domain_in domain g).first (subst (λ xs. AreAtMost (domain_in domain g).first xs) (sym w) h)) in
    all-pass r domain looked.first words v first (subst (λ xs. (i : ℕ) → slice_index xs i % 2 ≡ 0) (sym w) (even-words domain g n rest))

-- ---- any number of processors

none-driven : (o : Option ℕ) (number : ℕ) → number % 2 ≡ parity o → number % 2 ≡ 0 → o ≡ None
none-driven None number p even = refl
none-driven (Some q) number p even = absurd (omega (arith, p, even))

pub all-rest : (g : PlainState) → g.plain.number % 2 ≡ parity g.plain.driver → g.tracing.number % 2 ≡ parity g.tracing.driver → ((d : Domain) → AreEven g.processors (domain_in d g).words) → (d : Domain) → IsAtRest g d (domain_in d g).number
all-rest g p t even d = record {
  plain = even Plain;
  tracing = even Tracing;
  number_is = refl;
  no_driver = undriven d;
}
  where
    undriven : (d : Domain) → (domain_in d g).number % 2 ≡ 0 → (domain_in d g).driver ≡ None
    undriven Plain = none-driven g.plain.driver g.plain.number p
    undriven Tracing = none-driven g.tracing.driver g.tracing.number t

pub all-driven : (g : PlainState) → g.plain.number % 2 ≡ parity g.plain.driver → g.tracing.number % 2 ≡ parity g.tracing.driver → IfSome g.plain.driver (λ q. q < g.processors) → IfSome g.tracing.driver (λ q. q < g.processors) → (d : Domain) → IsDriven g.processors (domain_in d g)
all-driven g p t few many Plain = record { parity_is = p; few = few }
all-driven g p t few many Tracing = record { parity_is = t; few = many }

-- whoever's side it is, all is at rest
pub rests-turned : (g : PlainState) (p : ℕ) (d : Domain) (n : ℕ) → IsAtRest g d n → IsAtRest (record g { processor = p }) d n
rests-turned g p Plain n rest = record { plain = rest.plain; tracing = rest.tracing; number_is = rest.number_is; no_driver = rest.no_driver }
rests-turned g p Tracing n rest = record { plain = rest.plain; tracing = rest.tracing; number_is = rest.number_is; no_driver = rest.no_driver }

left-by : (o : Option ℕ) (number n : ℕ) → number % 2 ≡ parity o → IfSome o (λ q. q < n) → ((p : ℕ) → p < n → (if is_processor p o then number else 0) ≡ 0) → number % 2 ≡ 0
left-by None number n p few none = p
left-by (Some q) number n p few none =
    let same : (q == q) ≡ true = (Decides-eqb q q).1 refl in
    let zero-now = rw same at (none q few) in
    absurd (omega (arith, p, zero-now))

-- where none of the processors has a period of a domain in progress, its number is even
pub none-left : (n : ℕ) (here : DomainState) → IsDriven n here → ((p : ℕ) → p < n → (side_in p here).number ≡ 0) → here.number % 2 ≡ 0
none-left n here d none = left-by here.driver here.number n d.parity_is d.few none

-- ---- one processor

one-even : (processors processor : ℕ) (words : List ℕ) → processors ≡ 1 → processor < processors → slice_index words processor % 2 ≡ 0 → AreEven processors words
one-even processors processor words one turn even i lt = subst (λ k. slice_index words k % 2 ≡ 0) (let e : processor ≡ i = omega (arith, one, turn, lt) in e) even

sole-by : (o : Option ℕ) (number processors processor : ℕ) → processors ≡ 1 → processor < processors → number % 2 ≡ parity o → IfSome o (λ q. q < processors) → IsSole (if is_processor processor o then number else 0) number
sole-by None number processors processor one turn p few = inl (p, refl)
sole-by (Some q) number processors processor one turn p few =
    let same : q ≡ processor = omega (arith, one, turn, few) in
    inr (p, rw (same-yes q processor same) refl)
  where
    same-yes : (a b : ℕ) → a ≡ b → (a == b) ≡ true
    same-yes a b e = (Decides-eqb a b).1 e

pub one-rests : (g : PlainState) → g.processors ≡ 1 → g.processor < g.processors → g.plain.number % 2 ≡ parity g.plain.driver → g.tracing.number % 2 ≡ parity g.tracing.driver → ((d : Domain) → (side d (known_in g)).word % 2 ≡ 0) → (d : Domain) → IsAtRest g d (domain_in d g).number
one-rests g one turn p t out = all-rest g p t even
  where
    even : (d : Domain) → AreEven g.processors (domain_in d g).words
    even Plain = one-even g.processors g.processor g.plain.words one turn (out Plain)
    even Tracing = one-even g.processors g.processor g.tracing.words one turn (out Tracing)

pub one-sole : (g : PlainState) → g.processors ≡ 1 → g.processor < g.processors → g.plain.number % 2 ≡ parity g.plain.driver → g.tracing.number % 2 ≡ parity g.tracing.driver → IfSome g.plain.driver (λ q. q < g.processors) → IfSome g.tracing.driver (λ q. q < g.processors) → (d : Domain) → IsSole (side d (known_in g)).number (domain_in d g).number
one-sole g one turn p t few many Plain = sole-by g.plain.driver g.plain.number g.processors g.processor one turn p few
one-sole g one turn p t few many Tracing = sole-by g.tracing.driver g.tracing.number g.processors g.processor one turn t many
