-- What the store's least steps tell, and what the store answers and keeps.
use Rattle.std.proofs.Common.{◌≡◌, ◌∙◌, ℕ, zero, suc, ◌+◌, ◌-◌, ◌^◌, ◌<◌, ◌≤◌, Bool, true, false, cond, ltb, min, List, [], ◌∷◌, ◌++◌, Some, None, length, get_or, take, drop, add-one, refl, sym, ap, subst, inl, inr, arith}
use Rattle.std.specs.List.{fold, All, position, position_or_len, remove}
use Rattle.std.proofs.lemmas.Bool.{le-ltb, cond_both, cond-true, cond-false, lt-ltb, cases_lt, and_parts}
use Rattle.std.proofs.lemmas.List.Elements.{All-filter}
use Rattle.std.proofs.lemmas.List.Quantifiers.{position-Some}
use Rattle.bm_lang.specs.declared.scenario.AtLine.{AtLine}
use Rattle.bm_lang.specs.declared.scenario.Parts.{Parts}
use Rattle.bm_lang.specs.Fine.{FineAt}
use Rattle.bm_lang.specs.Spelling.{declared}
use Rattle.bm_lang.specs.Scenarios.{IsFine}
use Rattle.bm_due.specs.Due.{may_interrupt, is_foremost, due_handler, left_after, planned_for}
use Rattle.bm_due.specs.Plan.{IsPlan, Plan, due_of, least_above, plan_after}
use Rattle.bm_due.proofs.Foremost.{may-not, may-says, due-none, left-none, past-due, past-left, due-at}

-- ---- the least steps

abbrev lower : ℕ → ℕ → AtLine → ℕ
lower l a x = cond (ltb l x.level) (min a x.step) a

lower-le : (l a : ℕ) (x : AtLine) → lower l a x ≤ a
lower-le l a x = cond_both (ltb l x.level) (min a x.step) a (λ z. z ≤ a) (λ e. omega arith) (λ e. omega arith)

lower-here : (l a : ℕ) (x : AtLine) → l < x.level → lower l a x ≤ x.step
lower-here l a x h = rw (cond-true (ltb l x.level) (min a x.step) a (lt-ltb l x.level h)) (omega arith)

fold-le : (l : ℕ) (xs : List AtLine) (a : ℕ) → fold (lower l) a xs ≤ a
fold-le l [] a = omega arith
fold-le l (x ∷ xs) a = let u : fold (lower l) (lower l a x) xs ≤ lower l a x = fold-le l xs (lower l a x) in let v : lower l a x ≤ a = lower-le l a x in omega arith

fold-at : (l : ℕ) (xs : List AtLine) (a k : ℕ) (d : AtLine) → k < length xs → l < (get_or xs k d).level → fold (lower l) a xs ≤ (get_or xs k d).step
fold-at l [] a k d h up = absurd (omega arith)
fold-at l (x ∷ xs) a zero d h up = let u : fold (lower l) (lower l a x) xs ≤ lower l a x = fold-le l xs (lower l a x) in let v : lower l a x ≤ x.step = lower-here l a x up in omega arith
fold-at l (x ∷ xs) a (suc k) d h up = fold-at l xs (lower l a x) k d (omega arith) up

least-at : (xs : List AtLine) (l : ℕ) → l ≤ 3 → get_or (least_above 0 xs ∷ least_above 1 xs ∷ least_above 2 xs ∷ least_above 3 xs ∷ []) l 0 ≡ least_above l xs
least-at xs zero h = refl
least-at xs (suc zero) h = refl
least-at xs (suc (suc zero)) h = refl
least-at xs (suc (suc (suc zero))) h = refl
least-at xs (suc (suc (suc (suc l)))) h = absurd (omega arith)

-- at a step below the least one no handler may interrupt
pub early : (n l : ℕ) (xs : List AtLine) (least : List ℕ) → IsPlan xs least → l ≤ 3 → n < get_or least l 0 → (k : ℕ) (d : AtLine) → k < length xs → may_interrupt n l (get_or xs k d) ≡ false
early n l xs least p h before k d u =
    let e : get_or least l 0 ≡ least_above l xs = ap (λ z. get_or z l 0) p.least_is ∙ least-at xs l h in
    may-not n l (get_or xs k d) (λ reached up.
    let v : least_above l xs ≤ (get_or xs k d).step = fold-at l xs (2 ^ 64 - 1) k d u up in
    absurd (omega arith))

-- the same for a number of steps that stays at the greatest one
pub early-any : (n step l : ℕ) (xs : List AtLine) (least : List ℕ) → IsPlan xs least → l ≤ 3 → step < get_or least l 0 → step ≡ min n (2 ^ 64 - 1) → (k : ℕ) (d : AtLine) → k < length xs → may_interrupt n l (get_or xs k d) ≡ false
early-any n step l xs least p h before e =
    let u : get_or least l 0 ≡ least_above l xs = ap (λ z. get_or z l 0) p.least_is ∙ least-at xs l h in
    let v : least_above l xs ≤ 2 ^ 64 - 1 = fold-le l xs (2 ^ 64 - 1) in
    let same : step ≡ n = omega arith in
    early n l xs least p h (subst (λ z. z < get_or least l 0) same before)

-- ---- the answers

pub ended-due : (n l : ℕ) (xs : List AtLine) (ended : Bool) → ended ≡ true → due_handler ended n l xs ≡ None
ended-due n l xs ended e = rw e refl

pub ended-left : (n l : ℕ) (xs : List AtLine) (ended : Bool) → ended ≡ true → left_after ended n l xs ≡ xs
ended-left n l xs ended e = rw e refl

pub no-place : (p : AtLine → Bool) (xs : List AtLine) → None ≡ position p xs → length xs ≤ position_or_len p xs
no-place p xs e = elim (cases_lt (position_or_len p xs) (length xs)) [
  | inl h ↦ let q : None ≡ Some (position_or_len p xs) = e ∙ cond-true _ _ _ (lt-ltb _ _ h) in absurd cc
  | inr h ↦ h
]

-- ---- the levels of planned handlers

pub fine-ats : (s : Parts) (p : ℕ) → IsFine s → All (FineAt s.processors (declared s).scripts) (planned_for p s)
fine-ats s p f = All-filter _ (FineAt s.processors (declared s).scripts) s.ats f.1.conditions.ats

pub fine-levels : (s : Parts) (p : ℕ) → IsFine s → All (λ (line : AtLine). line.level ≤ 3) (planned_for p s)
fine-levels s p f = All-filter _ (λ (line : AtLine). line.level ≤ 3) s.ats (λ k d h. (f.1.conditions.ats k d h).highest)

-- ---- where none is due

pub idle-due : (plan : Plan) (n l : ℕ) (xs : List AtLine) (ended : Bool) → record { left = xs; ended = ended } ≡ plan → ((k : ℕ) (d : AtLine) → k < length xs → may_interrupt n l (get_or xs k d) ≡ false) → due_of n l plan ≡ None
idle-due plan n l xs ended e h = subst (λ (p : Plan). due_of n l p ≡ None) e (due-none ended n l xs h)

pub idle-after : (plan : Plan) (n l : ℕ) (xs : List AtLine) (ended : Bool) → record { left = xs; ended = ended } ≡ plan → ((k : ℕ) (d : AtLine) → k < length xs → may_interrupt n l (get_or xs k d) ≡ false) → plan ≡ plan_after n l plan
idle-after plan n l xs ended e h =
    subst (λ (p : Plan). p ≡ plan_after n l p) e (ap (λ (z : List AtLine). let p : Plan = record { left = z; ended = ended } in p) (sym (left-none ended n l xs h)))

pub over-due : (plan : Plan) (n l : ℕ) (xs : List AtLine) (ended : Bool) → record { left = xs; ended = ended } ≡ plan → ended ≡ true → due_of n l plan ≡ None
over-due plan n l xs ended e h = subst (λ (p : Plan). due_of n l p ≡ None) e (ended-due n l xs ended h)

pub over-after : (plan : Plan) (n l : ℕ) (xs : List AtLine) (ended : Bool) → record { left = xs; ended = ended } ≡ plan → ended ≡ true → plan ≡ plan_after n l plan
over-after plan n l xs ended e h =
    subst (λ (p : Plan). p ≡ plan_after n l p) e (ap (λ (z : List AtLine). let p : Plan = record { left = z; ended = ended } in p) (sym (ended-left n l xs ended h)))

pub none-due : (plan : Plan) (n l : ℕ) (xs : List AtLine) (ended : Bool) → record { left = xs; ended = ended } ≡ plan → None ≡ position (is_foremost n l xs) xs → due_of n l plan ≡ None
none-due plan n l xs ended e h = subst (λ (p : Plan). due_of n l p ≡ None) e (past-due ended n l xs (no-place (is_foremost n l xs) xs h))

-- ---- where one is due

-- the place of the first that passes
pub place-is : (p : AtLine → Bool) (xs : List AtLine) (i : ℕ) → Some i ≡ position p xs → (position_or_len p xs ≡ i) × (i < length xs)
place-is p xs i e = elim (cases_lt (position_or_len p xs) (length xs)) [
  | inl h ↦
      let q : Some i ≡ Some (position_or_len p xs) = e ∙ cond-true _ _ _ (lt-ltb _ _ h) in
      let r : position_or_len p xs ≡ i = cc in
      (r, subst (λ z. z < length xs) r h)
  | inr h ↦ let q : Some i ≡ None = e ∙ cond-false _ _ _ (le-ltb (position_or_len p xs) (length xs) h) in absurd cc
]

pub taken-due : (plan : Plan) (n l : ℕ) (xs : List AtLine) (ended : Bool) (i : ℕ) (x : AtLine) → record { left = xs; ended = ended } ≡ plan → ended ≡ false → Some i ≡ position (is_foremost n l xs) xs → x ≡ get_or xs i x → due_of n l plan ≡ Some x
taken-due plan n l xs ended i x e live h read =
    let q : (position_or_len (is_foremost n l xs) xs ≡ i) × (i < length xs) = place-is (is_foremost n l xs) xs i h in
    let u : due_handler ended n l xs ≡ Some x = rw live (due-at n l xs i x q.0 q.1 ∙ ap (λ (z : AtLine). Some z) (sym read)) in
    subst (λ (p : Plan). due_of n l p ≡ Some x) e u

pub taken-above : (n l : ℕ) (xs : List AtLine) (i : ℕ) (x : AtLine) → Some i ≡ position (is_foremost n l xs) xs → x ≡ get_or xs i x → l < x.level
taken-above n l xs i x h read =
    let q : (i < length xs) × (is_foremost n l xs (get_or xs i x) ≡ true) × ((k : ℕ) → k < i → is_foremost n l xs (get_or xs k x) ≡ false) = position-Some (is_foremost n l xs) xs i x (sym h) in
    let m : may_interrupt n l x ≡ true = subst (λ (z : AtLine). may_interrupt n l z ≡ true) (sym read) (and_parts _ _ q.1).0 in
    (may-says n l x m).1

pub taken-after : (plan : Plan) (n l : ℕ) (xs : List AtLine) (ended : Bool) (i : ℕ) → record { left = xs; ended = ended } ≡ plan → ended ≡ false → Some i ≡ position (is_foremost n l xs) xs → record { left = remove xs i; ended = ended } ≡ plan_after n l plan
taken-after plan n l xs ended i e live h =
    let q : (position_or_len (is_foremost n l xs) xs ≡ i) × (i < length xs) = place-is (is_foremost n l xs) xs i h in
    let u : left_after ended n l xs ≡ remove xs i =
    ap (λ b. left_after b n l xs) live ∙ ap (λ k. take k xs ++ drop (k + 1) xs) q.0 ∙ ap (λ k. take i xs ++ drop k xs) (add-one i) in
    subst (λ (p : Plan). record { left = remove xs i; ended = ended } ≡ plan_after n l p) e (ap (λ (z : List AtLine). let p : Plan = record { left = z; ended = ended } in p) (sym u))

pub none-after : (plan : Plan) (n l : ℕ) (xs : List AtLine) (ended : Bool) → record { left = xs; ended = ended } ≡ plan → None ≡ position (is_foremost n l xs) xs → plan ≡ plan_after n l plan
none-after plan n l xs ended e h =
    subst (λ (p : Plan). p ≡ plan_after n l p) e (ap (λ (z : List AtLine). let p : Plan = record { left = z; ended = ended } in p) (sym (past-left ended n l xs (no-place (is_foremost n l xs) xs h))))
