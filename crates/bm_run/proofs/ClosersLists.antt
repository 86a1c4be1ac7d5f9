-- Lists that lose their last element, and logs that are taken from the last one on.
use Rattle.std.specs.Prelude.{length}
use Rattle.std.specs.List.{All}
use Rattle.std.proofs.Common.{◌≡◌, ◌<◌, ℕ, zero, suc, List, [], ◌∷◌, ◌++◌, Option, Some, arith, append_assoc, map, reverse, refl, sym, ◌∙◌, ap, subst, inl, inr}
use Rattle.std.proofs.lemmas.Bool.{cases_eq}
use Rattle.std.proofs.lemmas.Grind.{common_steps}
use Rattle.bm_law.specs.Lists.{Log}
use Rattle.bm_exec_levels.specs.declared.kept.Kept.{Kept}
use Rattle.bm_closing.specs.Crews.{StepsBelow}
use Rattle.bm_closing.specs.declared.crew.Phase.{Phase}
use Rattle.bm_run.specs.Closers.{TookStep}
use Rattle.bm_run.specs.ClosersCrew.{gathered}
use Rattle.bm_run.specs.declared.closers.Closers.{Closers}
use Rattle.bm_run.proofs.ClosersSteps.{get-front, get-last, length-last}

all-last-of : {A : Type 0} (P : A → Type 0) (rest : List A) (x : A) → All P (rest ++ x ∷ []) → P x
all-last-of P rest x h = subst P (get-last rest x x (length rest) refl) (h (length rest) x (let l = length-last rest x in omega (arith, l)))

pub all-last : {A : Type 0} (P : A → Type 0) (xs rest : List A) (x : A) → xs ≡ rest ++ x ∷ [] → All P xs → P x
all-last P xs rest x e h = all-last-of P rest x (subst (All P) e h)

pub all-first : {A : Type 0} (P : A → Type 0) (xs rest : List A) (x : A) → xs ≡ rest ++ x ∷ [] → All P xs → All P rest
all-first P xs rest x e h k d lt =
    let all : All P (rest ++ x ∷ []) = subst (All P) e h in
    subst P (get-front rest x d k lt) (all k d (let l = length-last rest x in omega (arith, l, lt)))

pub all-more : {A : Type 0} (P : A → Type 0) (xs more : List A) (x : A) → more ≡ xs ++ x ∷ [] → All P xs → P x → All P more
all-more P xs more x e h p = subst (All P) (sym e) there
  where
    there : All P (xs ++ x ∷ [])
    there k d lt = elim (cases_eq k (length xs)) [
      | inl same ↦ subst P (sym (get-last xs x d k same)) p
      | inr ne ↦ (let few : k < length xs = (let l = length-last xs x in omega (arith, l, lt, ne)) in subst P (sym (get-front xs x d k few)) (h k d few))
    ]

map-append : {A B : Type 0} (f : A → B) (xs ys : List A) → map f (xs ++ ys) ≡ map f xs ++ map f ys
map-append f [] ys = refl
map-append f (x ∷ xs) ys = ap (λ z. f x ∷ z) (map-append f xs ys)

reverse-last : {A : Type 0} (xs : List A) (x : A) → reverse (xs ++ x ∷ []) ≡ x ∷ reverse xs
reverse-last xs x = grind (arith, common_steps)

pub told-more : (f : Option Kept → Option Log) (places rest : List (Option Kept)) (place : Option Kept) (logs more : List Log) (log : Log) (all : List (Option Log)) → places ≡ rest ++ place ∷ [] → more ≡ logs ++ log ∷ [] → f place ≡ Some log → map f places ++ map Some (reverse logs) ≡ all → map f rest ++ map Some (reverse more) ≡ all
told-more f places rest place logs more log all e g h t =
    let back : reverse more ≡ log ∷ reverse logs = ap reverse g ∙ reverse-last logs log in
    let front : map f places ≡ map f rest ++ Some log ∷ [] = ap (map f) e ∙ (map-append f rest (place ∷ []) ∙ ap (λ (z : Option Log). map f rest ++ z ∷ []) h) in
    ap (λ (z : List Log). map f rest ++ map Some z) back ∙ (sym (append_assoc (map f rest) (Some log ∷ []) (map Some (reverse logs))) ∙ (ap (λ (z : List (Option Log)). z ++ map Some (reverse logs)) (sym front) ∙ t))

-- ---- the crew

pub steps-gathered : (phase : Phase) (n : ℕ) (a b : Closers) → StepsBelow (λ p x y. TookStep phase p (gathered x) (gathered y)) n a b → StepsBelow (TookStep phase) n (gathered a) (gathered b)
steps-gathered phase zero a b h = ap gathered h
steps-gathered phase (suc n) a b h = (gathered h.0, steps-gathered phase n a h.0 h.1, h.2)
