-- The words of a processor, as its log tells them and as an order does.
use Rattle.std.proofs.Common.{◌≡◌, ◌≢◌, ℕ, ◌<◌, [], ◌∷◌, get_or, length, refl, sym, ◌∙◌, ap, subst, arith, inl, inr, length-set, get_or-set_same, get_or-set_other}
use Rattle.std.proofs.lemmas.Bool.Decides.{eqb_tells}
use Rattle.bm_journal.specs.declared.ids.Domain.{Domain}
use Rattle.bm_journal.specs.declared.ids.Domain.TheVariants.{Plain, Tracing}
use Rattle.bm_journal.specs.declared.entry.Entry.{Entry}
use Rattle.bm_journal.specs.declared.entry.Entry.TheVariants as entry
use Rattle.bm_law_lives.specs.GraceLaw.{SectionFits, SectionsFit, last_word, word_after}
use Rattle.bm_law_order.specs.ByDomain.{of}
use Rattle.bm_law_order.specs.Words.{Words, WordsFit, with_word, words_after}
use Rattle.bm_law_order.specs.Orders.{AllFit, Order, over, part_of}

-- the word of processor p
abbrev pub word_at : Domain → ℕ → Words → ℕ
word_at d p words = get_or (of d words) p 0

-- both domains have words of processor p
pub record Has (p : ℕ) (words : Words) : Type 0 where
  pub plain : p < length words.plain
  pub tracing : p < length words.tracing

has-with : (p q : ℕ) (d : Domain) (w : ℕ) (words : Words) → Has p words → Has p (with_word q d w words)
has-with p q Plain w words h = record { plain = (let many = length-set words.plain q w in let lt = h.plain in omega (arith, many, lt)); tracing = h.tracing }
has-with p q Tracing w words h = record { plain = h.plain; tracing = (let many = length-set words.tracing q w in let lt = h.tracing in omega (arith, many, lt)) }

pub has-after : (p q l : ℕ) (e : Entry) (words : Words) → Has p words → Has p (words_after q l e words)
has-after p q l (entry.In d w) words h = has-with p q d w words h
has-after p q l (entry.Out d w) words h = has-with p q d w words h
has-after p q l _ words h = h

-- ---- an entry of the processor, and of another one

own-in : (d e : Domain) (p n : ℕ) (words : Words) → Has p words → word_at d p (with_word p e n words) ≡ word_after d (word_at d p words) (entry.In e n)
own-in Plain Plain p n words h = get_or-set_same words.plain p n 0 h.plain
own-in Plain Tracing p n words h = refl
own-in Tracing Plain p n words h = refl
own-in Tracing Tracing p n words h = get_or-set_same words.tracing p n 0 h.tracing

own-out : (d e : Domain) (p n : ℕ) (words : Words) → Has p words → word_at d p (with_word p e n words) ≡ word_after d (word_at d p words) (entry.Out e n)
own-out Plain Plain p n words h = get_or-set_same words.plain p n 0 h.plain
own-out Plain Tracing p n words h = refl
own-out Tracing Plain p n words h = refl
own-out Tracing Tracing p n words h = get_or-set_same words.tracing p n 0 h.tracing

pub word-own : (d : Domain) (p l : ℕ) (e : Entry) (words : Words) → Has p words → word_at d p (words_after p l e words) ≡ word_after d (word_at d p words) e
word-own d p l (entry.In e n) words h = own-in d e p n words h
word-own d p l (entry.Out e n) words h = own-out d e p n words h
word-own d p l _ words h = refl

other-with : (d e : Domain) (p q n : ℕ) (words : Words) → p ≢ q → word_at d p (with_word q e n words) ≡ word_at d p words
other-with Plain Plain p q n words ne = get_or-set_other words.plain q p n 0 ne
other-with Plain Tracing p q n words ne = refl
other-with Tracing Plain p q n words ne = refl
other-with Tracing Tracing p q n words ne = get_or-set_other words.tracing q p n 0 ne

pub word-other : (d : Domain) (p q l : ℕ) (e : Entry) (words : Words) → p ≢ q → word_at d p (words_after q l e words) ≡ word_at d p words
word-other d p q l (entry.In e n) words ne = other-with d e p q n words ne
word-other d p q l (entry.Out e n) words ne = other-with d e p q n words ne
word-other d p q l _ words ne = refl

-- ---- sections

section-own : (d : Domain) (p l : ℕ) (e : Entry) (words : Words) → WordsFit p l e words → SectionFits d (word_at d p words) e
section-own Plain p l (entry.In Plain n) words f = (f.next_is, f.parity)
section-own Plain p l (entry.In Tracing n) words f = tt
section-own Tracing p l (entry.In Plain n) words f = tt
section-own Tracing p l (entry.In Tracing n) words f = (f.next_is, f.parity)
section-own Plain p l (entry.Out Plain n) words f = (f.next_is, f.parity)
section-own Plain p l (entry.Out Tracing n) words f = tt
section-own Tracing p l (entry.Out Plain n) words f = tt
section-own Tracing p l (entry.Out Tracing n) words f = (f.next_is, f.parity)
section-own d p l _ words f = tt

pub sections-along : (d : Domain) (p : ℕ) (o : Order) (words : Words) → Has p words → AllFit words_after WordsFit o words → SectionsFit d (word_at d p words) (part_of p o)
sections-along d p [] words h f = tt
sections-along d p (e ∷ o) words h f =
    let now : Words = words_after e.processor e.level e.entry words in
    let rest = sections-along d p o now (has-after p e.processor e.level e.entry words h) f.1 in
    elim (eqb_tells e.processor p) [
      | inl y ↦
          rw y.0 (
            section-own d p e.level e.entry words (subst (λ q. WordsFit q e.level e.entry words) y.1 f.0),
            subst (λ w. SectionsFit d w (part_of p o)) (ap (λ q. word_at d p (words_after q e.level e.entry words)) y.1 ∙ word-own d p e.level e.entry words h) rest,
          )
      | inr y ↦ rw y.0 (subst (λ w. SectionsFit d w (part_of p o)) (word-other d p e.processor e.level e.entry words (λ s. y.1 (sym s))) rest)
    ]

-- the last word of a log is that which the order leaves
pub last-word : (d : Domain) (p : ℕ) (o : Order) (words : Words) → Has p words → last_word d (word_at d p words) (part_of p o) ≡ word_at d p (over words_after o words)
last-word d p [] words h = refl
last-word d p (e ∷ o) words h =
    let now : Words = words_after e.processor e.level e.entry words in
    let rest = last-word d p o now (has-after p e.processor e.level e.entry words h) in
    elim (eqb_tells e.processor p) [
      | inl y ↦ rw y.0 (ap (λ w. last_word d w (part_of p o)) (sym (word-own d p e.level e.entry words h) ∙ ap (λ q. word_at d p (words_after q e.level e.entry words)) (sym y.1)) ∙ rest)
      | inr y ↦ rw y.0 (ap (λ w. last_word d w (part_of p o)) (sym (word-other d p e.processor e.level e.entry words (λ s. y.1 (sym s)))) ∙ rest)
    ]
