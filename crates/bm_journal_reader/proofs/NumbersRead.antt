-- Numbers read one after the other.
use Rattle.std.proofs.Common.{◌≡◌, ℕ, zero, suc, ◌+◌, ◌<◌, ◌≤◌, ◌^◌, true, false, List, [], ◌∷◌, ◌++◌, Option, Some, None, length, take, get_or, refl, sym, ◌∙◌, ap, arith, add-one, Bor}
use Rattle.std.proofs.lemmas.Bool.Decides.{nat_tests}
use Rattle.std.specs.Prelude.{nat_le}
use Rattle.bm_journal.specs.EntryText.{Words}
use Rattle.bm_journal_reader.specs.Pieces.{texts}
use Rattle.bm_law_text.specs.Parts.{after, only_if, each_read, number, numbers, few}
use Rattle.bm_law_text.proofs.Options.{after-some}

more_suc : {A : Type 0} (f : List ℕ → Option A) (xs : List (Bor (List ℕ))) (i : ℕ) (d : Bor (List ℕ)) (ys : List A) (a : A) → i < length xs → each_read f (texts (take i xs)) ≡ Some ys → f (get_or xs i d).now ≡ Some a → each_read f (texts (take (suc i) xs)) ≡ Some (ys ++ a ∷ [])
more_suc f [] i d ys a lt so_far here = absurd (omega arith)
more_suc f (x ∷ xs) zero d ys a lt so_far here = let none : [] ≡ ys = cc in rw here (ap (λ bs. Some (bs ++ a ∷ [])) none)
more_suc f (x ∷ xs) (suc i) d ys a lt so_far here =
    let p = after-some (f x.now) (λ n. after (each_read f (texts (take i xs))) (λ ns. Some (n ∷ ns))) ys so_far in
    let q = after-some (each_read f (texts (take i xs))) (λ ms. Some (p.0 ∷ ms)) ys p.2 in
    let whole : p.0 ∷ q.0 ≡ ys = cc (q.2) in
    let rest = more_suc f xs i d q.0 a (omega arith) q.1 here in
    rw (p.1) (rw rest (ap (λ ms. Some (ms ++ a ∷ [])) whole))

pub each-more : {A : Type 0} (f : List ℕ → Option A) (xs : List (Bor (List ℕ))) (i : ℕ) (d : Bor (List ℕ)) (ys : List A) (a : A) → i < length xs → each_read f (texts (take i xs)) ≡ Some ys → f (get_or xs i d).now ≡ Some a → each_read f (texts (take (i + 1) xs)) ≡ Some (ys ++ a ∷ [])
each-more f xs i d ys a lt so_far here = rw add-one (more_suc f xs i d ys a lt so_far here)

after_none : {A B : Type 0} (o : Option A) → after o (λ x. let none : Option B = None in none) ≡ None
after_none None = refl
after_none (Some x) = refl

pub each-none : {A : Type 0} (f : List ℕ → Option A) (xs : List (Bor (List ℕ))) (i : ℕ) (d : Bor (List ℕ)) → i < length xs → f (get_or xs i d).now ≡ None → None ≡ each_read f (texts xs)
each-none f [] i d lt here = absurd (omega arith)
each-none f (x ∷ xs) zero d lt here = rw here refl
each-none f (x ∷ xs) (suc i) d lt here = rw (← each-none f xs i d (omega arith) here) (sym (after_none (f x.now)))

take_all : {A : Type 0} (xs : List A) (i : ℕ) → length xs ≤ i → take i xs ≡ xs
take_all [] zero le = refl
take_all [] (suc i) le = refl
take_all (x ∷ xs) zero le = absurd (omega arith)
take_all (x ∷ xs) (suc i) le = rw (take_all xs i (omega arith)) refl

pub each-all : {A : Type 0} (f : List ℕ → Option A) (xs : List (Bor (List ℕ))) (i : ℕ) (ys : List A) → length xs ≤ i → each_read f (texts (take i xs)) ≡ Some ys → Some ys ≡ each_read f (texts xs)
each-all f xs i ys le so_far = sym so_far ∙ ap (λ zs. each_read f (texts zs)) (take_all xs i le)

pub each-length : {A : Type 0} (f : List ℕ → Option A) (ws : Words) (ys : List A) → each_read f ws ≡ Some ys → length ys ≡ length ws
each-length f [] ys h = let e : [] ≡ ys = cc in ap length (sym e)
each-length f (w ∷ ws) ys h =
    let a = after-some (f w) (λ n. after (each_read f ws) (λ ns. Some (n ∷ ns))) ys h in
    let b = after-some (each_read f ws) (λ ms. Some (a.0 ∷ ms)) ys a.2 in
    let whole : a.0 ∷ b.0 ≡ ys = cc (b.2) in
    sym (ap length whole) ∙ ap suc (each-length f ws b.0 b.1)

-- ---- numbers

pub numbers-more : (limit : ℕ) (xs : List (Bor (List ℕ))) (i : ℕ) (d : Bor (List ℕ)) (ns : List ℕ) (n : ℕ) → i < length xs → numbers limit (texts (take i xs)) ≡ Some ns → number limit (get_or xs i d).now ≡ Some n → numbers limit (texts (take (i + 1) xs)) ≡ Some (ns ++ n ∷ [])
unfolding numbers
numbers-more limit xs i d ns n lt so_far here = each-more (number limit) xs i d ns n lt so_far here

pub numbers-none : (limit : ℕ) (xs : List (Bor (List ℕ))) (i : ℕ) (d : Bor (List ℕ)) → i < length xs → number limit (get_or xs i d).now ≡ None → None ≡ numbers limit (texts xs)
unfolding numbers
numbers-none limit xs i d lt here = each-none (number limit) xs i d lt here

pub numbers-all : (limit : ℕ) (xs : List (Bor (List ℕ))) (i : ℕ) (ns : List ℕ) → length xs ≤ i → numbers limit (texts (take i xs)) ≡ Some ns → Some ns ≡ numbers limit (texts xs)
unfolding numbers
numbers-all limit xs i ns le so_far = each-all (number limit) xs i ns le so_far

pub numbers-length : (limit : ℕ) (ws : Words) (ns : List ℕ) → numbers limit ws ≡ Some ns → length ns ≡ length ws
unfolding numbers
numbers-length limit ws ns h = each-length (number limit) ws ns h

-- too many words are no few numbers
pub few-long : (most : ℕ) (ws : Words) → most < length ws → None ≡ few most ws
few-long most ws lt =
    let case : (o : Option (List ℕ)) → numbers (2 ^ 32) ws ≡ o → None ≡ after o (λ ns. only_if (nat_le (length ns) most) (Some ns)) = λ o.
    elim o as (λ o. numbers (2 ^ 32) ws ≡ o → None ≡ after o (λ ns. only_if (nat_le (length ns) most) (Some ns))) [
      | None ↦ λ e. refl
      | Some ns ↦ λ e.
          let same = numbers-length (2 ^ 32) ws ns e in
          let no : nat_le (length ns) most ≡ false = grind (arith, nat_tests) in
          rw no refl
    ]
    in case (numbers (2 ^ 32) ws) refl

pub few-none : (most : ℕ) (ws : Words) → None ≡ numbers (2 ^ 32) ws → None ≡ few most ws
few-none most ws none = rw (← none) refl

pub few-some : (most : ℕ) (ws : Words) (ns : List ℕ) → length ws ≤ most → Some ns ≡ numbers (2 ^ 32) ws → Some ns ≡ few most ws
few-some most ws ns le some =
    let same = numbers-length (2 ^ 32) ws ns (sym some) in
    let yes : nat_le (length ns) most ≡ true = grind (arith, nat_tests) in
    rw (← some) (rw yes refl)

pub length-texts : (xs : List (Bor (List ℕ))) → length (texts xs) ≡ length xs
length-texts [] = refl
length-texts (x ∷ xs) = ap suc (length-texts xs)
