-- The words that a period looks at grow.
use Rattle.std.proofs.Common.{◌≡◌, ℕ, zero, suc, ◌+◌, ◌*◌, ◌<◌, List, [], ◌∷◌, get_or, set, take, drop, length, refl, ◌∙◌, ap, arith}
use Rattle.bm_journal.specs.declared.ids.Domain.{Domain}
use Rattle.bm_journal.specs.declared.ids.Domain.TheVariants.{Plain, Tracing}
use Rattle.bm_journal.specs.declared.entry.Entry.{Entry}
use Rattle.bm_journal.specs.declared.entry.Entry.TheVariants as entry
use Rattle.bm_law_lives.specs.GraceLaw.{NoneAbove, words_of}
use Rattle.bm_law_order.specs.Words.{Words, WordsFit, words_after}
use Rattle.bm_law_order.specs.Looks.{in_turn, looked_at}
use Rattle.bm_law_order.specs.Shared.{Shared, found, shared_after}
use Rattle.bm_law_order.specs.Orders.{AllShared, Order, shared_over}
use Rattle.bm_law_laid.proofs.Words.{Has, word_at}

pub above-same : (xs : List ℕ) → NoneAbove xs xs
above-same [] = tt
above-same (x ∷ xs) = (omega arith, above-same xs)

pub above-both : (xs ys zs : List ℕ) → NoneAbove xs ys → NoneAbove ys zs → NoneAbove xs zs
above-both [] [] [] h k = tt
above-both [] [] (z ∷ zs) h k = absurd k
above-both [] (y ∷ ys) zs h k = absurd h
above-both (x ∷ xs) [] zs h k = absurd h
above-both (x ∷ xs) (y ∷ ys) [] h k = absurd k
above-both (x ∷ xs) (y ∷ ys) (z ∷ zs) h k = (let a = h.0 in let b = k.0 in omega (arith, a, b), above-both xs ys zs h.1 k.1)

above-set : (n q w : ℕ) (xs : List ℕ) → w ≡ get_or xs q 0 + 1 → NoneAbove (take n xs) (take n (set xs q w))
above-set zero q w xs e = tt
above-set (suc n) q w [] e = tt
above-set (suc n) zero w (x ∷ xs) e = (omega (arith, e), above-same (take n xs))
above-set (suc n) (suc q) w (x ∷ xs) e = (omega arith, above-set n q w xs e)

above-turn : (a b c d : List ℕ) → NoneAbove a c → NoneAbove b d → NoneAbove (in_turn a b) (in_turn c d)
above-turn [] b [] d h k = tt
above-turn [] b (z ∷ c) d h k = absurd h
above-turn (x ∷ a) b [] d h k = absurd h
above-turn (x ∷ a) [] (z ∷ c) [] h k = tt
above-turn (x ∷ a) [] (z ∷ c) (w ∷ d) h k = absurd k
above-turn (x ∷ a) (y ∷ b) (z ∷ c) [] h k = absurd k
above-turn (x ∷ a) (y ∷ b) (z ∷ c) (w ∷ d) h k = (h.0, (k.0, above-turn a b c d h.1 k.1))

pub found-grows : (n : ℕ) (d : Domain) (q l : ℕ) (e : Entry) (words : Words) → WordsFit q l e words → NoneAbove (looked_at n words d) (looked_at n (words_after q l e words) d)
found-grows n Plain q l (entry.In Plain w) words f = above-set n q w words.plain f.next_is
found-grows n Plain q l (entry.In Tracing w) words f = above-same (take n words.plain)
found-grows n Tracing q l (entry.In Plain w) words f = above-turn (take n words.plain) (take n words.tracing) (take n (set words.plain q w)) (take n words.tracing) (above-set n q w words.plain f.next_is) (above-same (take n words.tracing))
found-grows n Tracing q l (entry.In Tracing w) words f = above-turn (take n words.plain) (take n words.tracing) (take n words.plain) (take n (set words.tracing q w)) (above-same (take n words.plain)) (above-set n q w words.tracing f.next_is)
found-grows n Plain q l (entry.Out Plain w) words f = above-set n q w words.plain f.next_is
found-grows n Plain q l (entry.Out Tracing w) words f = above-same (take n words.plain)
found-grows n Tracing q l (entry.Out Plain w) words f = above-turn (take n words.plain) (take n words.tracing) (take n (set words.plain q w)) (take n words.tracing) (above-set n q w words.plain f.next_is) (above-same (take n words.tracing))
found-grows n Tracing q l (entry.Out Tracing w) words f = above-turn (take n words.plain) (take n words.tracing) (take n words.plain) (take n (set words.tracing q w)) (above-same (take n words.plain)) (above-set n q w words.tracing f.next_is)
found-grows n d q l _ words f = above-same (looked_at n words d)

pub found-over : (d : Domain) (o : Order) (s : Shared) → AllShared o s → NoneAbove (found s d) (found (shared_over o s) d)
found-over d [] s h = above-same (found s d)
found-over d (e ∷ o) s h =
    let now : Shared = shared_after e.processor e.level e.entry s in
    above-both (found s d) (found now d) (found (shared_over o now) d) (found-grows s.processors d e.processor e.level e.entry s.words h.0.words) (found-over d o now h.1)

-- ---- those of a processor

own-plain : (p n : ℕ) (xs : List ℕ) → p < n → p < length xs → take 1 (drop p (take n xs)) ≡ get_or xs p 0 ∷ []
own-plain p zero xs lt k = absurd (omega (arith, lt))
own-plain p (suc n) [] lt k = absurd (omega (arith, k))
own-plain zero (suc n) (x ∷ xs) lt k = refl
own-plain (suc p) (suc n) (x ∷ xs) lt k = own-plain p n xs (omega (arith, lt)) (omega (arith, k))

own-both : (p n : ℕ) (xs ys : List ℕ) → p < n → p < length xs → p < length ys → take 2 (drop (2 * p) (in_turn (take n xs) (take n ys))) ≡ get_or xs p 0 ∷ get_or ys p 0 ∷ []
own-both p zero xs ys lt k m = absurd (omega (arith, lt))
own-both p (suc n) [] ys lt k m = absurd (omega (arith, k))
own-both p (suc n) (x ∷ xs) [] lt k m = absurd (omega (arith, m))
own-both zero (suc n) (x ∷ xs) (y ∷ ys) lt k m = refl
own-both (suc p) (suc n) (x ∷ xs) (y ∷ ys) lt k m =
    let two : 2 * suc p ≡ suc (suc (2 * p)) = omega arith in
    ap (λ i. take 2 (drop i (x ∷ y ∷ in_turn (take n xs) (take n ys)))) two ∙ own-both p n xs ys (omega (arith, lt)) (omega (arith, k)) (omega (arith, m))

-- the words of processor p that a period of a domain looks at
abbrev pub own_words : Domain → ℕ → Words → List ℕ
own_words Plain p words = word_at Plain p words ∷ []
own_words Tracing p words = word_at Plain p words ∷ word_at Tracing p words ∷ []

pub found-own : (d : Domain) (p n : ℕ) (words : Words) → p < n → Has p words → words_of d p (looked_at n words d) ≡ own_words d p words
found-own Plain p n words lt h = own-plain p n words.plain lt h.plain
found-own Tracing p n words lt h = own-both p n words.plain words.tracing lt h.plain h.tracing
