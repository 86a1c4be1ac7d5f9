-- The place of `later` among slices is its place among their texts.
use Rattle.std.proofs.Common.{◌≡◌, ℕ, ◌+◌, Bool, cond, not, List, [], ◌∷◌, Some, None, length, take, drop, refl, ap, ◌∙◌, ltb, Bor}
use Rattle.std.proofs.lemmas.List.{take-map, drop-map}
use Rattle.std.specs.List.{position_or_len}
use Rattle.std.specs.Prelude.{codes, position}
use Rattle.bm_journal_reader.specs.Pieces.{texts}
use Rattle.bm_law_text.specs.Parts.{after, word_is}
use Rattle.bm_law_text.specs.Entries.{both_few, looked_at}
use Rattle.bm_journal_reader.proofs.NumbersRead.{length-texts}

place_of : (p : List ℕ → Bool) (xs : List (Bor (List ℕ))) → position_or_len p (texts xs) ≡ position_or_len (λ x. p x.now) xs
place_of p [] = refl
place_of p (x ∷ xs) = ap (λ n. cond (not (p x.now)) (1 + n) 0) (place_of p xs)

pub position-texts : (p : List ℕ → Bool) (xs : List (Bor (List ℕ))) → position p (texts xs) ≡ position (λ x. p x.now) xs
position-texts p xs =
    ap (λ (n : ℕ). cond (ltb n (length (texts xs))) (Some n) None) (place_of p xs) ∙ ap (λ (n : ℕ). cond (ltb (position_or_len (λ x. p x.now) xs) n) (Some (position_or_len (λ x. p x.now) xs)) None) (length-texts xs)

pub looked_at_texts : (xs : List (Bor (List ℕ))) → looked_at (texts xs) ≡ after (position (λ x. word_is (codes "later") x.now) xs) (λ place. both_few (texts (take place xs)) (texts (drop (place + 1) xs)))
looked_at_texts xs =
    rw (position-texts (λ w. word_is (codes "later") w) xs)
    (ap (after (position (λ x. word_is (codes "later") x.now) xs)) (λ i place. both_few (take-map (λ x. x.now) place xs i) (drop-map (λ x. x.now) (place + 1) xs i)))
