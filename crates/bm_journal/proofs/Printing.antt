-- Printing lines part by part.
use Rattle.std.proofs.Common.{◌≡◌, ℕ, ◌+◌, ◌<◌, List, [], ◌∷◌, ◌++◌, length, drop, get_or, refl, sym, ap, ◌∙◌, append_assoc, append-nil, Result, OnOk}
use Rattle.std.proofs.lemmas.List.{drop_more}
use Rattle.bm_word.specs.declared.memory.NoMemory.{NoMemory}
use Rattle.bm_journal.specs.declared.form.Part.{Part}
use Rattle.bm_journal.specs.Line.{spaced}
use Rattle.bm_journal.specs.EntryText.{Words}
use Rattle.bm_journal.specs.Form.{part_words, parts_words}

-- words are printed one after the other
pub spaced-append : (a b : Words) → spaced (a ++ b) ≡ spaced a ++ spaced b
spaced-append [] b = refl
spaced-append (w ∷ a) b = ap (λ l. (32 ∷ w) ++ l) (spaced-append a b) ∙ sym (append_assoc (32 ∷ w) (spaced a) (spaced b))

-- words that were printed in two, three and four parts
printed_behind : (out : List ℕ) (a b : Words) → (out ++ spaced a) ++ spaced b ≡ out ++ spaced (a ++ b)
printed_behind out a b = append_assoc out (spaced a) (spaced b) ∙ ap (λ l. out ++ l) (sym (spaced-append a b))

pub printed_three : (out one two : List ℕ) (a b c : Words) → one ≡ out ++ spaced a → two ≡ one ++ spaced b → two ++ spaced c ≡ out ++ spaced (a ++ (b ++ c))
printed_three out one two a b c first second =
    ap (λ l. l ++ spaced c) second ∙ printed_behind one b c ∙ ap (λ l. l ++ spaced (b ++ c)) first ∙ printed_behind out a (b ++ c)

pub printed_four : (out one two three : List ℕ) (a b c d : Words) → one ≡ out ++ spaced a → two ≡ one ++ spaced b → three ≡ two ++ spaced c
    → three ++ spaced d ≡ out ++ spaced (a ++ (b ++ (c ++ d)))
printed_four out one two three a b c d first second third =
    printed_three one two three b c d second third ∙ ap (λ l. l ++ spaced (b ++ (c ++ d))) first ∙ printed_behind out a (b ++ (c ++ d))

-- what holds where there is no refusal, with the same list told otherwise
pub on_ok-same : (r : Result (Unit {0}) NoMemory) (new one other : List ℕ) → one ≡ other → OnOk r (new ≡ one) → OnOk r (new ≡ other)
on_ok-same r new one other e h = rw (← e) h

first_part : (p : Part) (ps : List Part) → parts_words (p ∷ ps) ≡ part_words p ++ parts_words ps
first_part p [] = sym (append-nil (part_words p))
first_part p (q ∷ ps) = refl

-- the next part is printed behind what stands there
pub next_part : (out all : List ℕ) (ps : List Part) (i : ℕ) (p : Part) → i < length ps → p ≡ get_or ps i p → out ++ spaced (parts_words (drop i ps)) ≡ all
    → (out ++ spaced (part_words p)) ++ spaced (parts_words (drop (i + 1) ps)) ≡ all
next_part out all ps i p lt is told =
    let rest = drop (i + 1) ps in
    let cut : drop i ps ≡ p ∷ rest = drop_more ps i p lt ∙ ap (λ (q : Part). q ∷ rest) (sym is) in
    append_assoc out (spaced (part_words p)) (spaced (parts_words rest))
    ∙ ap (λ l. out ++ l) (sym (spaced-append (part_words p) (parts_words rest)) ∙ ap spaced (sym (first_part p rest)) ∙ ap (λ l. spaced (parts_words l)) (sym cut))
    ∙ told
