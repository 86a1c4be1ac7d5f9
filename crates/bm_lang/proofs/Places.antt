-- Where a text begins changes no token.
use Rattle.std.proofs.Common.{◌≡◌, ℕ, Bool, true, false, cond, ◌&&◌, List, [], ◌∷◌, refl, sym, ap, ◌∙◌}
use Rattle.bm_word.specs.Word.{is_run_byte}
use Rattle.bm_lang.specs.declared.place.Place.{Place}
use Rattle.bm_lang.specs.Tokens.{Sort, Piece, pieces, extended, after, is_separator, begins_run, marks_of, sort_of, tokens}
use Rattle.bm_lang.specs.Texts.{sorts, PlacesArePlacesAlone}

-- the pieces without their places
abbrev texts : List Piece → List (List ℕ)
texts [] = []
texts (x ∷ xs) = x.bytes ∷ texts xs

abbrev longer : ℕ → List (List ℕ) → List (List ℕ)
longer b [] = []
longer b (x ∷ xs) = (b ∷ x) ∷ xs

texts-extended : (p : Place) (b : ℕ) (xs : List Piece) → texts (extended p b xs) ≡ longer b (texts xs)
texts-extended p b [] = refl
texts-extended p b (x ∷ xs) = refl

texts-cond : (t : Bool) (xs ys xs' ys' : List Piece) → texts xs ≡ texts xs' → texts ys ≡ texts ys' → texts (cond t xs ys) ≡ texts (cond t xs' ys')
texts-cond true xs ys xs' ys' e f = e
texts-cond false xs ys xs' ys' e f = f

same_texts : (bs : List ℕ) (p q : Place) → texts (pieces p bs) ≡ texts (pieces q bs)
same_texts [] p q = refl
same_texts (b ∷ bs) p q =
    let more = same_texts bs (after p b) (after q b) in
    let one = texts-extended p b (pieces (after p b) bs) ∙ ap (longer b) more ∙ sym (texts-extended q b (pieces (after q b) bs)) in
    let two = ap (λ (xs : List (List ℕ)). (b ∷ []) ∷ xs) more in
    texts-cond (is_separator b) _ _ _ _ more (texts-cond (is_run_byte b && begins_run bs) _ _ _ _ one two)

abbrev sorts_of : List (List ℕ) → List Sort
sorts_of [] = []
sorts_of (x ∷ xs) = sort_of x ∷ sorts_of xs

sorts-texts : (xs : List Piece) → sorts (marks_of xs) ≡ sorts_of (texts xs)
sorts-texts [] = refl
sorts-texts (x ∷ xs) = ap (λ (ss : List Sort). sort_of x.bytes ∷ ss) (sorts-texts xs)

pub same_sorts : PlacesArePlacesAlone
unfolding tokens
same_sorts bytes p q = sorts-texts (pieces p bytes) ∙ ap sorts_of (same_texts bytes p q) ∙ sym (sorts-texts (pieces q bytes))
