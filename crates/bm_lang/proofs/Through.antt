-- Words that are said, taken by the machine one after the other.
use Rattle.std.proofs.Common.{◌≡◌, ℕ, zero, suc, Bool, true, false, cond, not, List, [], ◌∷◌, ◌++◌, refl, sym, ap, ◌∙◌, subst, append_assoc, Option, Some}
use Rattle.std.specs.Prelude.{is_some, find, slice_get}
use Rattle.std.specs.List.{flat_map}
use Rattle.std.specs.Str.{bytes_eq}
use Rattle.std.proofs.lemmas.Slice.Eq.{bytes_eq-Decides}
use Rattle.bm_lang.specs.Tokens.{Sort, Mark}
use Rattle.bm_lang.specs.Names.{Names}
use Rattle.bm_lang.specs.Grammar.{Symbol, Pass, Shift, next}
use Rattle.bm_lang.specs.Machine.{parse}
use Rattle.bm_lang.specs.Spelling.{Word}
use Rattle.bm_lang.specs.Reads.{mark, Says}
use Rattle.bm_lang.proofs.Steps.{shifts, passes}

-- these words are said, and tokens stand behind them
pub record Said (a : List Mark) (ws : List Word) (c : List Mark) : Type 0 where
  pub it : Says a ws c

-- The machine goes from the symbols f through some tokens a to the symbols g, and behind them the words `rest` are said.
pub record Through (names : Names) (f : List Symbol) (after : Names) (g : List Symbol) (a : List Mark) (rest : List Word) (c : List Mark) : Type 0 where
  pub middle : List Mark
  pub says : Said middle rest c
  pub runs : (k : List Symbol) → parse a names (f ++ k) ≡ parse middle after (g ++ k)

pub stay : {a c : List Mark} {rest : List Word} (names : Names) (f : List Symbol) → Said a rest c → Through names f names f a rest c
stay {a = a} names f p = record { middle = a; says = p; runs = λ k. refl }

-- one word
pub take_word : {a c : List Mark} {ws rest : List Word} {names n n' : Names} {g : List Symbol} (x : Symbol) (ys f : List Symbol) (w : Word) → Said a (w ∷ ws) c → next names x w.sort ≡ Shift n ys
    → ((m : List Mark) → Said m ws c → Through n (ys ++ f) n' g m rest c) → Through names (x ∷ f) n' g a rest c
take_word {a = a} {names = names} {n = n} x ys f w p e go =
    let q = p.it in
    let t = go q.1 (record { it = q.3 }) in
    record { middle = t.middle; says = t.says; runs = λ k. shifts a q.1 (mark w.sort q.0) names n x ys (f ++ k) q.2 e ∙ ap (parse q.1 n) (sym (append_assoc ys f k)) ∙ t.runs k }

-- whether the first of some words doesn't pass a test
abbrev pub first_isnt : (Sort → Bool) → List Word → Bool
first_isnt test [] = false
first_isnt test (w ∷ ws) = not (test w.sort)

not_true : (b : Bool) → not b ≡ true → b ≡ false
not_true true h = cc
not_true false h = refl

-- a symbol that is left out
pub leave_out : {a c : List Mark} {ws rest : List Word} {names n' : Names} {f g : List Symbol} (x : Symbol) (test : Sort → Bool) → Said a ws c → first_isnt test ws ≡ true → ((t : Sort) → test t ≡ false → next names x t ≡ Pass)
    → Through names f n' g a rest c → Through names (x ∷ f) n' g a rest c
leave_out {ws = []} x test p h e t = cc
leave_out {a = a} {ws = w ∷ ws} {names = names} {f = f} x test p h e t =
    let q = p.it in
    record { middle = t.middle; says = t.says; runs = λ k. passes a q.1 (mark w.sort q.0) names x (f ++ k) q.2 (e w.sort (not_true (test w.sort) h)) ∙ t.runs k }

-- one after the other
pub then : {a c : List Mark} {ws rest : List Word} {names n n' : Names} {f g h : List Symbol} → Through names f n g a ws c → ((m : List Mark) → Said m ws c → Through n g n' h m rest c) → Through names f n' h a rest c
then t go =
    let u = go t.middle t.says in
    record { middle = u.middle; says = u.says; runs = λ k. t.runs k ∙ u.runs k }

-- further symbols behind
pub behind_it : {a c : List Mark} {rest : List Word} {names n : Names} {f g : List Symbol} (h : List Symbol) → Through names f n g a rest c → Through names (f ++ h) n (g ++ h) a rest c
behind_it {a = a} {names = names} {n = n} {f = f} {g = g} h t =
    record { middle = t.middle; says = t.says; runs = λ k. ap (parse a names) (append_assoc f h k) ∙ t.runs (h ++ k) ∙ ap (parse t.middle n) (sym (append_assoc g h k)) }

pub regroup : {a c : List Mark} (xs ys zs : List Word) → Said a ((xs ++ ys) ++ zs) c → Said a (xs ++ (ys ++ zs)) c
regroup {a = a} {c = c} xs ys zs p = let P : List Word → Type 0 = λ ws. Said a ws c in subst P (append_assoc xs ys zs) p

pub first-append : (test : Sort → Bool) (xs ys : List Word) → first_isnt test xs ≡ true → first_isnt test (xs ++ ys) ≡ true
first-append test [] ys h = cc
first-append test (x ∷ xs) ys h = h

-- the first of some lines, or of what stands behind them
pub first_of_lines : {X : Type 0} (test : Sort → Bool) (f : X → List Word) (xs : List X) (rest : List Word) → ((x : X) → first_isnt test (f x) ≡ true) → first_isnt test rest ≡ true → first_isnt test (flat_map f xs ++ rest) ≡ true
first_of_lines test f [] rest h e = e
first_of_lines test f (x ∷ xs) rest h e = first-append test (f x ++ flat_map f xs) rest (first-append test (f x) (flat_map f xs) (h x))

-- names of which none stands twice
abbrev pub Distinct : {X : Type 0} → (X → List ℕ) → List X → List X → Type 0
Distinct name before [] = Unit {0}
Distinct name before (x ∷ xs) = (is_some (find (λ y. bytes_eq (name y) (name x)) before) ≡ false) × Distinct name (before ++ x ∷ []) xs

find_on : {X : Type 0} (b : Bool) (x : X) (o u r : Option X) → (is_some o ≡ false → u ≡ r) → is_some (cond b (Some x) o) ≡ false → cond b (Some x) u ≡ r
find_on true x o u r f e = cc
find_on false x o u r f e = f e

find-behind : {X : Type 0} (p : X → Bool) (xs ys : List X) → is_some (find p xs) ≡ false → find p (xs ++ ys) ≡ find p ys
find-behind p [] ys h = refl
find-behind p (x ∷ xs) ys h = find_on (p x) x (find p xs) (find p (xs ++ ys)) (find p ys) (find-behind p xs ys) h

pub bytes_same : (a : List ℕ) → bytes_eq a a ≡ true
bytes_same a = (bytes_eq-Decides a a).1 refl

-- the name of the i-th means the i-th
pub means : {X : Type 0} (name : X → List ℕ) (before xs : List X) (i : ℕ) (x : X) → Distinct name before xs → slice_get xs i ≡ Some x → find (λ y. bytes_eq (name y) (name x)) (before ++ xs) ≡ Some x
means name before [] i x d h = cc
means name before (y ∷ xs) zero x d h =
    let e : y ≡ x = cc in
    let P : _ → Type 0 = λ z. find (λ u. bytes_eq (name u) (name z)) (before ++ y ∷ xs) ≡ Some z in
    subst P e (find-behind (λ u. bytes_eq (name u) (name y)) before (y ∷ xs) d.0 ∙ rw (bytes_same (name y)) refl)
means name before (y ∷ xs) (suc i) x d h = ap (find (λ u. bytes_eq (name u) (name x))) (sym (append_assoc before (y ∷ []) xs)) ∙ means name (before ++ y ∷ []) xs i x d.1 h
