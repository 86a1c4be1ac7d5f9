-- What the selection of the due handler finds: by the place of a line, where it has one.
use Rattle.std.proofs.Common.{◌≡◌, ◌∙◌, ℕ, zero, suc, ◌+◌, ◌<◌, ◌≤◌, Bool, true, false, cond, ◌&&◌, eqb, ltb, leb, List, [], ◌∷◌, ◌++◌, Option, Some, None, length, get_or, take, drop, refl, sym, ap, subst, inl, inr, arith}
use Rattle.std.specs.List.{filter, position, position_or_len, slice_get}
use Rattle.std.proofs.lemmas.Bool.{le-ltb, cond-true, cond-false, cases_eq, cases_lt, false_from_ne_true, lt-ltb, ltb-true, leb-true, le-leb, eq-eqb, ne_eqb, and_from, and_left, and_parts, both_ways}
use Rattle.std.proofs.lemmas.List.{take_all, append-nil, drop_all, get_or_default}
use Rattle.std.proofs.lemmas.List.Folds.{find_at}
use Rattle.std.proofs.lemmas.List.Sums.{position_or_len_is}
use Rattle.std.proofs.lemmas.Option.{slice_get-get_or}
use Rattle.bm_lang.specs.declared.scenario.AtLine.{AtLine}
use Rattle.bm_due.specs.Due.{may_interrupt, highest_level, is_foremost, due_handler, left_after}

-- ---- the highest level of what passes a test

pick-le : (b : Bool) (x : AtLine) (rest : List AtLine) (m : ℕ) → (b ≡ true → x.level ≤ m) → highest_level rest ≤ m → highest_level (cond b (x ∷ rest) rest) ≤ m
pick-le true x rest m h k = let e : x.level ≤ m = h refl in omega arith
pick-le false x rest m h k = k

pick-here : (b : Bool) (x : AtLine) (rest : List AtLine) → b ≡ true → x.level ≤ highest_level (cond b (x ∷ rest) rest)
pick-here true x rest e = omega arith
pick-here false x rest e = absurd (both_ways false refl e)

pick-rest : (b : Bool) (x : AtLine) (rest : List AtLine) (m : ℕ) → m ≤ highest_level rest → m ≤ highest_level (cond b (x ∷ rest) rest)
pick-rest true x rest m h = omega arith
pick-rest false x rest m h = h

-- none that passes is above m
highest-le : (p : AtLine → Bool) (xs : List AtLine) (m : ℕ) → ((k : ℕ) (d : AtLine) → k < length xs → p (get_or xs k d) ≡ true → (get_or xs k d).level ≤ m) → highest_level (filter p xs) ≤ m
highest-le p [] m h = omega arith
highest-le p (x ∷ xs) m h = pick-le (p x) x (filter p xs) m (λ e. h 0 x (omega arith) e) (highest-le p xs m (λ k d l e. h (suc k) d (omega arith) e))

-- one that passes is at most the highest
pub highest-ge : (p : AtLine → Bool) (xs : List AtLine) (i : ℕ) (d : AtLine) → i < length xs → p (get_or xs i d) ≡ true → (get_or xs i d).level ≤ highest_level (filter p xs)
highest-ge p [] i d h e = absurd (omega arith)
highest-ge p (x ∷ xs) zero d h e = pick-here (p x) x (filter p xs) e
highest-ge p (x ∷ xs) (suc i) d h e = pick-rest (p x) x (filter p xs) _ (highest-ge p xs i d (omega arith) e)

-- ---- the first of the highest level

-- A line that may interrupt, such that none that may is above it, and each one before it that may is below it.
pub record IsBest (n l : ℕ) (xs : List AtLine) (i : ℕ) : Type 0 where
  pub within : i < length xs
  pub may : (d : AtLine) → may_interrupt n l (get_or xs i d) ≡ true
  pub above : (k : ℕ) (d : AtLine) → k < length xs → may_interrupt n l (get_or xs k d) ≡ true → (get_or xs k d).level ≤ (get_or xs i d).level
  pub first : (k : ℕ) (d : AtLine) → k < i → may_interrupt n l (get_or xs k d) ≡ true → (get_or xs k d).level < (get_or xs i d).level

below-test : (a : Bool) (x y m : ℕ) → (a ≡ true → x < y) → y ≡ m → (a && eqb x m) ≡ false
below-test true x y m h e = let l : x < y = h refl in ne_eqb x m (λ q. absurd (omega arith))
below-test false x y m h e = refl

pub position-best : (n l : ℕ) (xs : List AtLine) (i : ℕ) (d : AtLine) → IsBest n l xs i → position_or_len (is_foremost n l xs) xs ≡ i
position-best n l xs i d b =
    let p : AtLine → Bool = may_interrupt n l in
    let top : (get_or xs i d).level ≡ highest_level (filter p xs) =
    (let u : highest_level (filter p xs) ≤ (get_or xs i d).level = highest-le p xs _ (λ k e h m. subst (λ (z : AtLine). (get_or xs k e).level ≤ z.level) (get_or_default xs i e d b.within) (b.above k e h m)) in
    let v : (get_or xs i d).level ≤ highest_level (filter p xs) = highest-ge p xs i d b.within (b.may d) in
    omega arith) in
    let w : i < length xs = b.within in
    position_or_len_is (is_foremost n l xs) xs i d (omega arith)
    (λ k h. below-test (p (get_or xs k d)) _ _ _ (b.first k d h) top)
    (λ h. and_from _ _ (b.may d) (eq-eqb _ _ top))

-- the i-th line is the due one, and the others are left
pub due-at : (n l : ℕ) (xs : List AtLine) (i : ℕ) (d : AtLine) → position_or_len (is_foremost n l xs) xs ≡ i → i < length xs → due_handler false n l xs ≡ Some (get_or xs i d)
due-at n l xs i d e h = find_at (is_foremost n l xs) xs ∙ ap (slice_get xs) e ∙ slice_get-get_or xs i d h

-- ---- none may interrupt

-- some line, where a default is asked for
pub nobody : AtLine
nobody = record { line = 0; processor = 0; step = 0; level = 0; script = record { 0 = 0 } }

pub position-none : (n l : ℕ) (xs : List AtLine) → ((k : ℕ) (d : AtLine) → k < length xs → may_interrupt n l (get_or xs k d) ≡ false) → position_or_len (is_foremost n l xs) xs ≡ length xs
position-none n l xs h =
    position_or_len_is (is_foremost n l xs) xs (length xs) nobody (omega arith) (λ k u. and_left _ _ (h k nobody u)) (λ u. absurd (omega arith))

slice_get-past : (xs : List AtLine) (k : ℕ) → length xs ≤ k → slice_get xs k ≡ None
slice_get-past [] k h = refl
slice_get-past (x ∷ xs) zero h = absurd (omega arith)
slice_get-past (x ∷ xs) (suc k) h = slice_get-past xs k (omega arith)

pub past-due : (ended : Bool) (n l : ℕ) (xs : List AtLine) → length xs ≤ position_or_len (is_foremost n l xs) xs → due_handler ended n l xs ≡ None
past-due true n l xs h = refl
past-due false n l xs h = find_at (is_foremost n l xs) xs ∙ slice_get-past xs _ h

pub due-none : (ended : Bool) (n l : ℕ) (xs : List AtLine) → ((k : ℕ) (d : AtLine) → k < length xs → may_interrupt n l (get_or xs k d) ≡ false) → due_handler ended n l xs ≡ None
due-none true n l xs h = refl
due-none false n l xs h = let e : position_or_len (is_foremost n l xs) xs ≡ length xs = position-none n l xs h in past-due false n l xs (omega arith)

left-past : (xs : List AtLine) (k : ℕ) → length xs ≤ k → take k xs ++ drop (k + 1) xs ≡ xs
left-past xs k e =
    let u : take k xs ≡ xs = take_all k xs (omega arith) in
    let v : drop (k + 1) xs ≡ [] = drop_all (k + 1) xs (omega arith) in
    rw (u, v) (append-nil xs)

pub past-left : (ended : Bool) (n l : ℕ) (xs : List AtLine) → length xs ≤ position_or_len (is_foremost n l xs) xs → left_after ended n l xs ≡ xs
past-left true n l xs h = refl
past-left false n l xs h = left-past xs _ h

pub left-none : (ended : Bool) (n l : ℕ) (xs : List AtLine) → ((k : ℕ) (d : AtLine) → k < length xs → may_interrupt n l (get_or xs k d) ≡ false) → left_after ended n l xs ≡ xs
left-none true n l xs h = refl
left-none false n l xs h = let e : position_or_len (is_foremost n l xs) xs ≡ length xs = position-none n l xs h in past-left false n l xs (omega arith)

-- ---- one line's test

pub may-true : (n l : ℕ) (x : AtLine) → x.step ≤ n → l < x.level → may_interrupt n l x ≡ true
may-true n l x s h = and_from _ _ (le-leb x.step n s) (lt-ltb l x.level h)

pub may-says : (n l : ℕ) (x : AtLine) → may_interrupt n l x ≡ true → (x.step ≤ n) × (l < x.level)
may-says n l x e = let p = and_parts (leb x.step n) (ltb l x.level) e in (leb-true x.step n p.0, ltb-true l x.level p.1)

pub may-not : (n l : ℕ) (x : AtLine) → (x.step ≤ n → l < x.level → ⊥) → may_interrupt n l x ≡ false
may-not n l x h = false_from_ne_true _ (λ e. let p = may-says n l x e in h p.0 p.1)

-- ---- a look at one line after the other

-- a place that was found among the first i lines, with the highest level so far
pub record Found (n l : ℕ) (xs : List AtLine) (i highest b : ℕ) : Type 0 where
  pub within : b < i
  pub reached : (d : AtLine) → (get_or xs b d).step ≤ n
  pub level : (d : AtLine) → (get_or xs b d).level ≡ highest
  pub above : l < highest
  pub first : (k : ℕ) (d : AtLine) → k < b → may_interrupt n l (get_or xs k d) ≡ true → (get_or xs k d).level < highest

abbrev pub IsPlace : ℕ → ℕ → List AtLine → ℕ → ℕ → Option ℕ → Type 0
IsPlace n l xs i highest None = highest ≡ l
IsPlace n l xs i highest (Some b) = Found n l xs i highest b

pub record Scan (n l : ℕ) (xs : List AtLine) (i highest : ℕ) (place : Option ℕ) : Type 0 where
  pub at_most : (k : ℕ) (d : AtLine) → k < i → may_interrupt n l (get_or xs k d) ≡ true → (get_or xs k d).level ≤ highest
  pub from : l ≤ highest
  pub is_place : IsPlace n l xs i highest place

pub scan-start : (n l : ℕ) (xs : List AtLine) → Scan n l xs 0 l None
scan-start n l xs = record { at_most = λ k d h. absurd (omega arith); from = omega arith; is_place = refl }

pub scan-better : (n l : ℕ) (xs : List AtLine) (i highest : ℕ) (place : Option ℕ) (x : AtLine) → Scan n l xs i highest place → i < length xs → x ≡ get_or xs i x → highest < x.level → x.step ≤ n → Scan n l xs (i + 1) x.level (Some i)
scan-better n l xs i highest place x s h e up reached =
    let at : (d : AtLine) → get_or xs i d ≡ x = λ (d : AtLine). get_or_default xs i d x h ∙ sym e in
    let f : l ≤ highest = s.from in
    record {
      at_most = λ k d u m. elim (cases_eq k i) [
        | inl q ↦ let w : (get_or xs k d).level ≡ x.level = ap (λ j. (get_or xs j d).level) q ∙ ap (λ (z : AtLine). z.level) (at d) in omega arith
        | inr q ↦ let w : (get_or xs k d).level ≤ highest = s.at_most k d (omega arith) m in omega arith
      ];
      from = omega arith;
      is_place = record {
        within = omega arith;
        reached = λ d. subst (λ (z : AtLine). z.step ≤ n) (sym (at d)) reached;
        level = λ d. ap (λ (z : AtLine). z.level) (at d);
        above = omega arith;
        first = λ k d u m. let w : (get_or xs k d).level ≤ highest = s.at_most k d u m in omega arith;
      };
    }

pub wider : (n l : ℕ) (xs : List AtLine) (i highest : ℕ) (place : Option ℕ) → IsPlace n l xs i highest place → IsPlace n l xs (i + 1) highest place
wider n l xs i highest None p = p
wider n l xs i highest (Some b) p = record { within = omega arith; reached = p.reached; level = p.level; above = p.above; first = p.first }

pub scan-same : (n l : ℕ) (xs : List AtLine) (i highest : ℕ) (place : Option ℕ) (x : AtLine) → Scan n l xs i highest place → i < length xs → x ≡ get_or xs i x → (highest < x.level → x.step ≤ n → ⊥) → Scan n l xs (i + 1) highest place
scan-same n l xs i highest place x s h e denied =
    let at : (d : AtLine) → get_or xs i d ≡ x = λ (d : AtLine). get_or_default xs i d x h ∙ sym e in
    record {
      at_most = λ k d u m. elim (cases_eq k i) [
        | inl q ↦
            let w : get_or xs k d ≡ x = ap (λ j. get_or xs j d) q ∙ at d in
            let y : (x.step ≤ n) × (l < x.level) = may-says n l x (subst (λ (z : AtLine). may_interrupt n l z ≡ true) w m) in
            subst (λ (z : AtLine). z.level ≤ highest) (sym w) (elim (cases_lt highest x.level) [ inl t ↦ absurd (denied t y.0) | inr t ↦ t ])
        | inr q ↦ s.at_most k d (omega arith) m
      ];
      from = s.from;
      is_place = wider n l xs i highest place s.is_place;
    }

pub position-at : (p : AtLine → Bool) (xs : List AtLine) (i : ℕ) → position_or_len p xs ≡ i → i < length xs → position p xs ≡ Some i
position-at p xs i e h = rw e (cond-true _ _ _ (lt-ltb i (length xs) h))

pub position-past : (p : AtLine → Bool) (xs : List AtLine) → position_or_len p xs ≡ length xs → position p xs ≡ None
position-past p xs e = rw e (cond-false _ _ _ (le-ltb (length xs) (length xs) (omega arith)))

pub scan-position : (n l : ℕ) (xs : List AtLine) (i highest b : ℕ) → Scan n l xs i highest (Some b) → i ≡ length xs → position_or_len (is_foremost n l xs) xs ≡ b
scan-position n l xs i highest b s e =
    let f : Found n l xs i highest b = s.is_place in
    let here : b < i = f.within in
    let best : IsBest n l xs b = record {
      within = omega arith;
      may = λ d. may-true n l (get_or xs b d) (f.reached d) (let q : (get_or xs b d).level ≡ highest = f.level d in let a : l < highest = f.above in omega arith);
      above = λ k d h m. let q : (get_or xs b d).level ≡ highest = f.level d in let u : (get_or xs k d).level ≤ highest = s.at_most k d (omega arith) m in omega arith;
      first = λ k d h m. let q : (get_or xs b d).level ≡ highest = f.level d in let u : (get_or xs k d).level < highest = f.first k d h m in omega arith;
    } in
    position-best n l xs b nobody best

pub scan-end : (n l : ℕ) (xs : List AtLine) (i highest : ℕ) (place : Option ℕ) → Scan n l xs i highest place → i ≡ length xs → place ≡ position (is_foremost n l xs) xs
scan-end n l xs i highest None s e =
    let none : (k : ℕ) (d : AtLine) → k < length xs → may_interrupt n l (get_or xs k d) ≡ false =
    λ (k : ℕ) (d : AtLine) (h : k < length xs). false_from_ne_true _ (λ m.
    let u : (get_or xs k d).level ≤ highest = s.at_most k d (omega arith) m in
    let v : (_ ≤ n) × (l < (get_or xs k d).level) = may-says n l (get_or xs k d) m in
    let w : l < (get_or xs k d).level = v.1 in
    let q : highest ≡ l = s.is_place in
    absurd (omega arith)) in
    sym (position-past _ xs (position-none n l xs none))
scan-end n l xs i highest (Some b) s e =
    let f : Found n l xs i highest b = s.is_place in
    let here : b < i = f.within in
    sym (position-at _ xs b (scan-position n l xs i highest b s e) (omega arith))
