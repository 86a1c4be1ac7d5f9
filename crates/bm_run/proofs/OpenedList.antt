-- The classes that a scenario's types use, as a list.
use Rattle.std.proofs.Common.{◌≡◌, ◌≤◌, ◌<◌, ℕ, suc, zero, ◌+◌, Bool, true, false, ◌&&◌, List, [], ◌∷◌, length, refl, sym, ap, ◌∙◌, Option, Some, None, arith, inl, inr, eqb, ne_eqb, nat_lt, if◌then◌else◌, cond, lit<}
use Rattle.std.specs.List.{list_any, filter}
use Rattle.std.proofs.lemmas.Bool.Decides.{nat_tests, Decides-eqb}
use Rattle.bm_class.specs.Sizes.{class_of_size}
use Rattle.bm_class.proofs.SizeLemmas.{class_below, class_of_size-least}
use Rattle.bm_lang.specs.declared.scenario.TypeDeclaration.{TypeDeclaration}
use Rattle.bm_law.specs.Stands.{times}
use Rattle.std.proofs.lemmas.Bool.{cases_eq}
use Rattle.bm_law_scenario.specs.Opened.{object_size, is_class, uses_class, opened_classes}
use Rattle.bm_run.specs.Opened.{ascends}

abbrev pub all : List ℕ
all = 0 ∷ 1 ∷ 2 ∷ 3 ∷ 4 ∷ 5 ∷ 6 ∷ 7 ∷ 8 ∷ 9 ∷ 10 ∷ []

both : (a b : Bool) → a ≡ true → b ≡ true → (a && b) ≡ true
both true b e f = f
both false b e f = cc

left : (a b : Bool) → (a && b) ≡ true → a ≡ true
left true b e = refl
left false b e = cc

right : (a b : Bool) → (a && b) ≡ true → b ≡ true
right true b e = e
right false b e = cc

-- ---- ascending lists

tail : (x : ℕ) (xs : List ℕ) → ascends (x ∷ xs) ≡ true → ascends xs ≡ true
tail x [] h = refl
tail x (y ∷ ys) h = right (nat_lt x y) (ascends (y ∷ ys)) h

skip : (b y : ℕ) (ys : List ℕ) → ascends (b ∷ y ∷ ys) ≡ true → ascends (b ∷ ys) ≡ true
skip b y [] h = let one = left (nat_lt b y) (nat_lt y 11) h in let two = right (nat_lt b y) (nat_lt y 11) h in grind (arith, nat_tests, one, two)
skip b y (z ∷ zs) h =
    let one = left (nat_lt b y) (nat_lt y z && ascends (z ∷ zs)) h in
    let more = right (nat_lt b y) (nat_lt y z && ascends (z ∷ zs)) h in
    let two = left (nat_lt y z) (ascends (z ∷ zs)) more in
    both (nat_lt b z) (ascends (z ∷ zs)) (grind (arith, nat_tests, one, two)) (right (nat_lt y z) (ascends (z ∷ zs)) more)

from : (P : ℕ → Bool) (b : ℕ) (xs : List ℕ) → ascends (b ∷ xs) ≡ true → ascends (b ∷ filter P xs) ≡ true
from P b [] h = h
from P b (y ∷ ys) h = by (P y) (from P y ys (right (nat_lt b y) (ascends (y ∷ ys)) h)) (from P b ys (skip b y ys h))
  where
    by : (t : Bool) → ascends (y ∷ filter P ys) ≡ true → ascends (b ∷ filter P ys) ≡ true → ascends (b ∷ cond t (y ∷ filter P ys) (filter P ys)) ≡ true
    by true one two = both (nat_lt b y) (ascends (y ∷ filter P ys)) (left (nat_lt b y) (ascends (y ∷ ys)) h) one
    by false one two = two

ascends-filter : (P : ℕ → Bool) (xs : List ℕ) → ascends xs ≡ true → ascends (filter P xs) ≡ true
ascends-filter P [] h = refl
ascends-filter P (x ∷ xs) h = by (P x) (from P x xs h) (ascends-filter P xs (tail x xs h))
  where
    by : (t : Bool) → ascends (x ∷ filter P xs) ≡ true → ascends (filter P xs) ≡ true → ascends (cond t (x ∷ filter P xs) (filter P xs)) ≡ true
    by true one two = one
    by false one two = two

absent : (c x : ℕ) (xs : List ℕ) → ascends (x ∷ xs) ≡ true → c < x → times c (x ∷ xs) ≡ 0
absent c x [] h lt = rw (ne_eqb c x (λ e. absurd (omega (arith, e, lt)))) refl
absent c x (y ∷ ys) h lt =
    let one = left (nat_lt x y) (ascends (y ∷ ys)) h in
    let below : x < y = grind (arith, nat_tests, one) in
    let rest = absent c y ys (right (nat_lt x y) (ascends (y ∷ ys)) h) (omega (arith, lt, below)) in
    rw (ne_eqb c x (λ e. absurd (omega (arith, e, lt)))) (omega (arith, rest))

-- ---- kept elements

times-kept : (P : ℕ → Bool) (c : ℕ) (xs : List ℕ) → P c ≡ true → times c (filter P xs) ≡ times c xs
times-kept P c [] e = refl
times-kept P c (x ∷ xs) e =
    let rest = times-kept P c xs e in
    elim (cases_eq c x) [
      | inl same ↦ (let p : P x ≡ true = ap P (sym same) ∙ e in rw p (ap (λ k. (if eqb c x then 1 else 0) + k) rest))
      | inr other ↦ by (P x) (ne_eqb c x other) rest
    ]
  where
    by : (t : Bool) → eqb c x ≡ false → times c (filter P xs) ≡ times c xs → times c (cond t (x ∷ filter P xs) (filter P xs)) ≡ times c (x ∷ xs)
    by true q rest = ap (λ k. (if eqb c x then 1 else 0) + k) rest
    by false q rest = rw q (omega (arith, rest))

times-none : (P : ℕ → Bool) (c : ℕ) (xs : List ℕ) → P c ≡ false → times c (filter P xs) ≡ 0
times-none P c [] e = refl
times-none P c (x ∷ xs) e = by (P x) refl (times-none P c xs e)
  where
    no-truth : {b : Bool} → b ≡ true → b ≡ false → ⊥
    no-truth q f = cc

    by : (t : Bool) → P x ≡ t → times c (filter P xs) ≡ 0 → times c (cond t (x ∷ filter P xs) (filter P xs)) ≡ 0
    by true q rest = rw (ne_eqb c x (λ same. no-truth (ap P same ∙ q) e)) (omega (arith, rest))
    by false q rest = rest

kept-length : (P : ℕ → Bool) (xs : List ℕ) → length (filter P xs) ≤ length xs
kept-length P [] = omega arith
kept-length P (x ∷ xs) = by (P x) (kept-length P xs)
  where
    by : (t : Bool) → length (filter P xs) ≤ length xs → length (cond t (x ∷ filter P xs) (filter P xs)) ≤ length (x ∷ xs)
    by true h = omega (arith, h)
    by false h = omega (arith, h)

-- ---- the opened classes

low : (c : ℕ) → c < 11 → 0 < times c all
low zero h = lit< tt
low (suc zero) h = lit< tt
low (suc (suc zero)) h = lit< tt
low (suc (suc (suc zero))) h = lit< tt
low (suc (suc (suc (suc zero)))) h = lit< tt
low (suc (suc (suc (suc (suc zero))))) h = lit< tt
low (suc (suc (suc (suc (suc (suc zero)))))) h = lit< tt
low (suc (suc (suc (suc (suc (suc (suc zero))))))) h = lit< tt
low (suc (suc (suc (suc (suc (suc (suc (suc zero)))))))) h = lit< tt
low (suc (suc (suc (suc (suc (suc (suc (suc (suc zero))))))))) h = lit< tt
low (suc (suc (suc (suc (suc (suc (suc (suc (suc (suc zero)))))))))) h = lit< tt
low (suc (suc (suc (suc (suc (suc (suc (suc (suc (suc (suc k))))))))))) h = absurd (omega (arith, h))

class-low : (c : ℕ) (o : Option ℕ) (n : ℕ) → class_of_size n ≡ o → is_class c o ≡ true → c < 11
class-low c None n e h = cc
class-low c (Some d) n e h =
    let same : d ≡ c = (Decides-eqb d c).0 h in
    let is = class_of_size-least n d e in
    let f = is.1.fits in
    let lt : d < 11 = class_below d (omega (arith, f)) in
    omega (arith, same, lt)

used-low : (types : List TypeDeclaration) (c : ℕ) → list_any (uses_class c) types ≡ true → c < 11
used-low [] c h = cc
used-low (t ∷ ts) c h = by (uses_class c t) refl (used-low ts c) h
  where
    by : (b : Bool) → uses_class c t ≡ b → (list_any (uses_class c) ts ≡ true → c < 11) → list_any (uses_class c) (t ∷ ts) ≡ true → c < 11
    by true e rest g = class-low c (class_of_size (object_size t)) (object_size t) refl e
    by false e rest g = rest (rw e at g)

pub opened-has : (types : List TypeDeclaration) (c : ℕ) → list_any (uses_class c) types ≡ true → 0 < times c (opened_classes types)
opened-has types c h =
    let k = times-kept (λ d. list_any (uses_class d) types) c all h in
    let l = low c (used-low types c h) in
    omega (arith, k, l)

pub opened-none : (types : List TypeDeclaration) (c : ℕ) → list_any (uses_class c) types ≡ false → times c (opened_classes types) ≡ 0
opened-none types c h = times-none (λ d. list_any (uses_class d) types) c all h

pub opened-ascend : (types : List TypeDeclaration) → ascends (opened_classes types) ≡ true
opened-ascend types = ascends-filter (λ d. list_any (uses_class d) types) all refl

pub opened-few : (types : List TypeDeclaration) → length (opened_classes types) ≤ 11
opened-few types = kept-length (λ d. list_any (uses_class d) types) all
