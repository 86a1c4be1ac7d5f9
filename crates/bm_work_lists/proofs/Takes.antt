-- The takes of a drain, one after the other.
use Rattle.std.proofs.Common.{◌≡◌, ℕ, ◌++◌, true, List, [], ◌∷◌, map, refl, sym, subst, inl, inr, ◌∙◌, ap, arith}
use Rattle.std.specs.List.{All}
use Rattle.std.proofs.lemmas.List.Elements.{All-cons, All-nil, All-append}
use Rattle.std.proofs.lemmas.List.{map-append}
use Rattle.std.proofs.lemmas.Grind.{common_steps}
use Rattle.bm_journal.specs.declared.entry.Entry.{Entry}
use Rattle.bm_law.specs.Plain.{all_plain}
use Rattle.bm_cache.specs.Tokens.{Token, number_of}
use Rattle.bm_law_work.specs.WorkPhrases.{IsLastTake, Moved, Unloads, take_of, takes}
use Rattle.bm_work_lists.specs.Takes.{popped}

-- one more
pub takes-more : (c : ℕ) (xs : List Moved) (x : Moved) → takes c xs ++ take_of c x ≡ takes c (xs ++ x ∷ [])
takes-more c [] x = refl
takes-more c (y ∷ xs) x = ap (λ es. take_of c y ++ es) (takes-more c xs x)

-- they move nothing of deferred work's own
pub takes-plain : (c : ℕ) (xs : List Moved) → all_plain (takes c xs) ≡ true
takes-plain c [] = refl
takes-plain c (x ∷ xs) = takes-plain c xs

-- what they take, and others after them
pub popped-more : (c : ℕ) (xs : List Moved) (es : List Entry) → popped (takes c xs ++ es) ≡ popped (takes c xs) ++ popped es
popped-more c [] es = refl
popped-more c (x ∷ xs) es = ap (λ us. x.unit ∷ us) (popped-more c xs es)

pub popped-last : (c : ℕ) (xs : List Moved) (es : List Entry) (us vs : List Token) → popped (takes c xs) ≡ map number_of us → popped es ≡ map number_of vs → popped (takes c xs ++ es) ≡ map number_of (us ++ vs)
popped-last c xs es us vs h k = popped-more c xs es ∙ ap (λ ns. ns ++ popped es) h ∙ ap (λ ns. map number_of us ++ ns) k ∙ sym (map-append number_of us vs)

-- what holds of each, and of one more
pub all-more : {A : Type 0} (P : A → Type 0) (xs : List A) (x : A) → All P xs → P x → All P (xs ++ x ∷ [])
all-more P xs x h p = All-append P xs (x ∷ []) h (All-cons P x [] p (All-nil P))

-- nothing is taken yet
pub hand-end : (us : List Token) → us ≡ us ++ []
hand-end us = grind (arith, common_steps)

pub popped-none : (c : ℕ) (xs : List Moved) (es : List Entry) (us : List Token) → popped (takes c xs) ≡ map number_of us → popped es ≡ [] → popped (takes c xs ++ es) ≡ map number_of us
popped-none c xs es us h k = popped-more c xs es ∙ ap (λ ns. popped (takes c xs) ++ ns) k ∙ sym (numbers-end (popped (takes c xs))) ∙ h
  where
    numbers-end : (ns : List ℕ) → ns ≡ ns ++ []
    numbers-end ns = grind (arith, common_steps)

-- and so are the entries of a whole drain of Free
takes-plain-then : (c : ℕ) (xs : List Moved) (last : List Entry) → all_plain last ≡ true → all_plain (takes c xs ++ last) ≡ true
takes-plain-then c [] last h = h
takes-plain-then c (x ∷ xs) last h = takes-plain-then c xs last h

last-plain : (c middle : ℕ) (own : List Entry) → IsLastTake c middle own → all_plain own ≡ true
last-plain c middle own (inl h) = (let P : List Entry → Type 0 = λ es. all_plain es ≡ true in subst P (sym h.2) refl)
last-plain c middle own (inr h) = (let P : List Entry → Type 0 = λ es. all_plain es ≡ true in subst P (sym h.1) refl)

pub unloads-plain : (c middle : ℕ) (own : List Entry) → Unloads c middle own → all_plain own ≡ true
unloads-plain c middle own h =
    let P : List Entry → Type 0 = λ es. all_plain es ≡ true in
    subst P (sym h.own_is) (takes-plain-then c h.over h.last (last-plain c middle h.last h.is_last))
