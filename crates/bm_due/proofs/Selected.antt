-- The due handler in other words.
use Rattle.std.proofs.Common.{◌≡◌, ◌∙◌, ℕ, zero, suc, ◌+◌, ◌-◌, ◌^◌, ◌<◌, ◌≤◌, min, Bool, true, false, ◌&&◌, eqb, List, [], ◌∷◌, ◌++◌, Option, Some, None, length, get_or, take, drop, refl, sym, ap, subst, inl, inr, arith, add-one, length-append, length-take, length-drop, ◌≢◌}
use Rattle.std.specs.List.{All, filter, position_or_len, slice_get, before_first, after_first}
use Rattle.std.proofs.lemmas.Bool.{both_ways, eq-eqb, and_from, and_parts, eqb-true, cases_lt, cases_eq}
use Rattle.std.proofs.lemmas.List.{get_or_append_left, get_or_at, get_or-append_right, get_or-append-add, get_or-take, get_or-drop, get_or_default}
use Rattle.std.proofs.lemmas.List.Elements.{All-append}
use Rattle.std.proofs.lemmas.List.Folds.{find_at}
use Rattle.std.proofs.lemmas.List.Sums.{split_at_first, fails_before_first, passes_at_first}
use Rattle.std.proofs.lemmas.Option.{slice_get-get_or, slice_get_within}
use Rattle.bm_lang.specs.declared.scenario.AtLine.{AtLine}
use Rattle.bm_due.specs.Due.{IsDue, NoneIsDue, due_handler, highest_level, is_foremost, left_after, may_interrupt}
use Rattle.bm_due.proofs.Foremost.{IsBest, Found, Scan, due-at, due-none, highest-ge, left-none, may-not, may-says, may-true, nobody, position-best, scan-better, scan-position, scan-same, scan-start}

-- ---- a line of which the words hold is the due one

tail-at : (before behind : List AtLine) (line d : AtLine) (k : ℕ) → length before < k → get_or (before ++ line ∷ behind) k d ≡ get_or behind (k - length before - 1) d
tail-at before behind line d k h =
    let e : k - length before ≡ (k - length before - 1) + 1 = omega arith in
    get_or-append_right before (line ∷ behind) (length before) k d refl (omega arith)
    ∙ ap (λ j. get_or (line ∷ behind) j d) (e ∙ add-one _)

length-within : (before : List AtLine) (line : AtLine) (behind : List AtLine) → length before < length (before ++ line ∷ behind)
length-within before line behind = omega (arith, length-append before (line ∷ behind))

behind-within : (before : List AtLine) (line : AtLine) (behind : List AtLine) (k : ℕ) → k < length (before ++ line ∷ behind) → length before < k → k - length before - 1 < length behind
behind-within before line behind k u v = omega (arith, length-append before (line ∷ behind))

is-best : (n l : ℕ) (left : List AtLine) (line : AtLine) → (h : IsDue n l left line) → IsBest n l (h.before ++ line ∷ h.behind) (length h.before)
is-best n l left line h =
    let xs : List AtLine = h.before ++ line ∷ h.behind in
    let at : (d : AtLine) → get_or xs (length h.before) d ≡ line = λ (d : AtLine). get_or_at h.before line h.behind d (length h.before) refl in
    let lower : (k : ℕ) (d : AtLine) → k < length h.before → may_interrupt n l (get_or xs k d) ≡ true → (get_or xs k d).level < line.level =
    λ (k : ℕ) (d : AtLine) (u : k < length h.before) (m : may_interrupt n l (get_or xs k d) ≡ true).
    let e : get_or xs k d ≡ get_or h.before k d = get_or_append_left h.before (line ∷ h.behind) d k u in
    subst (λ (z : AtLine). z.level < line.level) (sym e) (h.first k d u (may-says n l (get_or h.before k d) (subst (λ (z : AtLine). may_interrupt n l z ≡ true) e m)).0) in
    record {
      within = length-within h.before line h.behind;
      may = λ d. subst (λ (z : AtLine). may_interrupt n l z ≡ true) (sym (at d)) (may-true n l line h.reached h.above);
      above = λ k d u m. subst (λ (z : AtLine). (get_or xs k d).level ≤ z.level) (sym (at d)) (elim (cases_lt k (length h.before)) [
        | inl v ↦ let w : (get_or xs k d).level < line.level = lower k d v m in omega arith
        | inr v ↦ elim (cases_eq k (length h.before)) [
          | inl q ↦ let w : get_or xs k d ≡ line = ap (λ j. get_or xs j d) q ∙ at d in let y : (get_or xs k d).level ≡ line.level = ap (λ (z : AtLine). z.level) w in omega arith
          | inr q ↦
              let e : get_or xs k d ≡ get_or h.behind (k - length h.before - 1) d = tail-at h.before h.behind line d k (omega arith) in
              subst (λ (z : AtLine). z.level ≤ line.level) (sym e) (h.highest _ d (behind-within h.before line h.behind k u (omega arith)) (may-says n l (get_or h.behind (k - length h.before - 1) d) (subst (λ (z : AtLine). may_interrupt n l z ≡ true) e m)).0)
        ]
      ]);
      first = λ k d u m. subst (λ (z : AtLine). (get_or xs k d).level < z.level) (sym (at d)) (lower k d u m);
    }

dropped-rest : (before : List AtLine) (line : AtLine) (behind : List AtLine) → drop (suc (length before)) (before ++ line ∷ behind) ≡ behind
dropped-rest [] line behind = refl
dropped-rest (x ∷ before) line behind = dropped-rest before line behind

taken-front : (before rest : List AtLine) → take (length before) (before ++ rest) ≡ before
taken-front [] rest = refl
taken-front (x ∷ before) rest = ap (λ (z : List AtLine). x ∷ z) (taken-front before rest)

without : (before : List AtLine) (line : AtLine) (behind : List AtLine) → take (length before) (before ++ line ∷ behind) ++ drop (length before + 1) (before ++ line ∷ behind) ≡ before ++ behind
without before line behind =
    ap (λ k. take (length before) (before ++ line ∷ behind) ++ drop k (before ++ line ∷ behind)) (add-one (length before))
    ∙ ap (λ (z : List AtLine). z ++ drop (suc (length before)) (before ++ line ∷ behind)) (taken-front before (line ∷ behind))
    ∙ ap (λ (z : List AtLine). before ++ z) (dropped-rest before line behind)

pub due-from : (n l : ℕ) (left : List AtLine) (line : AtLine) → IsDue n l left line → due_handler false n l left ≡ Some line
due-from n l left line h =
    let b : IsBest n l (h.before ++ line ∷ h.behind) (length h.before) = is-best n l left line h in
    subst (λ (xs : List AtLine). due_handler false n l xs ≡ Some line) (sym h.left_is)
    (due-at n l _ (length h.before) line (position-best n l _ _ line b) b.within ∙ ap (λ (z : AtLine). Some z) (get_or_at h.before line h.behind line (length h.before) refl))

pub others-from : (n l : ℕ) (left : List AtLine) (line : AtLine) → (h : IsDue n l left line) → left_after false n l left ≡ h.before ++ h.behind
others-from n l left line h =
    let b : IsBest n l (h.before ++ line ∷ h.behind) (length h.before) = is-best n l left line h in
    subst (λ (xs : List AtLine). left_after false n l xs ≡ h.before ++ h.behind) (sym h.left_is)
    (ap (λ k. take k (h.before ++ line ∷ h.behind) ++ drop (k + 1) (h.before ++ line ∷ h.behind)) (position-best n l _ _ line b) ∙ without h.before line h.behind)

-- ---- of the due line the words hold

-- what may not interrupt is of no higher level
lower-or-late : (n l m : ℕ) (x : AtLine) → l < m → (may_interrupt n l x ≡ true → x.level < m) → x.step ≤ n → x.level < m
lower-or-late n l m x h k s = elim (cases_lt l x.level) [ inl u ↦ k (may-true n l x s u) | inr u ↦ omega arith ]

below-top : (a : Bool) (x m : ℕ) → (a && eqb x m) ≡ false → a ≡ true → x ≢ m
below-top a x m e t q = absurd (both_ways _ e (and_from _ _ t (eq-eqb x m q)))

some-same : {x y : AtLine} → Some x ≡ Some y → x ≡ y
some-same e = cc

pub due-to : (n l : ℕ) (left : List AtLine) (line : AtLine) → due_handler false n l left ≡ Some line → IsDue n l left line
due-to n l left line e =
    let p : AtLine → Bool = is_foremost n l left in
    let i : ℕ = position_or_len p left in
    let top : ℕ = highest_level (filter (may_interrupt n l) left) in
    let g : slice_get left i ≡ Some line = sym (find_at p left) ∙ e in
    let h : i < length left = slice_get_within left i line g in
    let at : get_or left i line ≡ line = some-same (sym (slice_get-get_or left i line h) ∙ g) in
    let pass : p line ≡ true = subst (λ (z : AtLine). p z ≡ true) at (passes_at_first p left line h) in
    let both : (may_interrupt n l line ≡ true) × (eqb line.level top ≡ true) = and_parts _ _ pass in
    let says : (line.step ≤ n) × (l < line.level) = may-says n l line both.0 in
    let is_top : line.level ≡ top = eqb-true _ _ both.1 in
    record {
      before = before_first p left;
      behind = after_first p left;
      left_is = split_at_first p left line h ∙ ap (λ (z : AtLine). before_first p left ++ (z ∷ after_first p left)) at;
      reached = says.0;
      above = says.1;
      first = λ k d u s.
          let short : k < i = omega (arith, length-take i left) in
          let w : get_or (before_first p left) k d ≡ get_or left k d = get_or-take i left k d short in
          let t : (get_or left k d).step ≤ n = subst (λ (z : AtLine). z.step ≤ n) w s in
          subst (λ (z : AtLine). z.level < line.level) (sym w) (lower-or-late n l line.level (get_or left k d) says.1 (λ m.
          let y : (get_or left k d).level ≤ top = highest-ge (may_interrupt n l) left k d (omega arith) m in
          let z : (get_or left k d).level ≢ top = below-top _ _ _ (fails_before_first p left k d short) m in
          omega arith) t);
      highest = λ k d u s.
          let w : get_or (after_first p left) k d ≡ get_or left (i + 1 + k) d = get_or-drop (i + 1) left k d in
          let t : (get_or left (i + 1 + k) d).step ≤ n = subst (λ (z : AtLine). z.step ≤ n) w s in
          let within : i + 1 + k < length left = omega (arith, length-drop (i + 1) left) in
          subst (λ (z : AtLine). z.level ≤ line.level) (sym w) (elim (cases_lt l (get_or left (i + 1 + k) d).level) [
            | inl v ↦ let y : (get_or left (i + 1 + k) d).level ≤ top = highest-ge (may_interrupt n l) left (i + 1 + k) d within (may-true n l (get_or left (i + 1 + k) d) t v) in omega arith
            | inr v ↦ let y : l < line.level = says.1 in omega arith
          ]);
    }

-- ---- where none is due

pub none-from : (n l : ℕ) (left : List AtLine) → NoneIsDue n l left → due_handler false n l left ≡ None
none-from n l left h = due-none false n l left (λ k d u. may-not n l (get_or left k d) (λ s up. let w : (get_or left k d).level ≤ l = h k d u s in absurd (omega arith)))

-- all lines were looked at
record Scanned (n l : ℕ) (left : List AtLine) (i : ℕ) : Type 0 where
  pub highest : ℕ
  pub place : Option ℕ
  pub scan : Scan n l left i highest place

scanned : (n l : ℕ) (left : List AtLine) (i : ℕ) → i ≤ length left → Scanned n l left i
scanned n l left zero h = record { highest = l; place = None; scan = scan-start n l left }
scanned n l left (suc i) h =
    let w : Scanned n l left i = scanned n l left i (omega arith) in
    let x : AtLine = get_or left i nobody in
    let within : i < length left = omega arith in
    let at : x ≡ get_or left i x = get_or_default left i nobody x within in
    elim (cases_lt w.highest x.level) [
      | inl u ↦ elim (cases_lt n x.step) [
        | inl v ↦ record { highest = w.highest; place = w.place; scan = subst (λ j. Scan n l left j w.highest w.place) (add-one i) (scan-same n l left i w.highest w.place x w.scan within at (λ a b. absurd (omega arith))) }
        | inr v ↦ record { highest = x.level; place = Some i; scan = subst (λ j. Scan n l left j x.level (Some i)) (add-one i) (scan-better n l left i w.highest w.place x w.scan within at u v) }
      ]
      | inr u ↦ record { highest = w.highest; place = w.place; scan = subst (λ j. Scan n l left j w.highest w.place) (add-one i) (scan-same n l left i w.highest w.place x w.scan within at (λ a b. absurd (omega arith))) }
    ]

none-scanned : (n l : ℕ) (left : List AtLine) (highest : ℕ) (place : Option ℕ) → Scan n l left (length left) highest place → due_handler false n l left ≡ None → NoneIsDue n l left
none-scanned n l left highest None s e = λ k d u t. elim (cases_lt l (get_or left k d).level) [
  | inl v ↦ let w : (get_or left k d).level ≤ highest = s.at_most k d u (may-true n l (get_or left k d) t v) in let q : highest ≡ l = s.is_place in omega arith
  | inr v ↦ v
]
none-scanned n l left highest (Some b) s e =
    let f : Found n l left (length left) highest b = s.is_place in
    let q : position_or_len (is_foremost n l left) left ≡ b = scan-position n l left (length left) highest b s refl in
    let w : due_handler false n l left ≡ Some (get_or left b nobody) = due-at n l left b nobody q f.within in
    let bad : None ≡ Some (get_or left b nobody) = sym e ∙ w in
    absurd cc

pub none-to : (n l : ℕ) (left : List AtLine) → due_handler false n l left ≡ None → NoneIsDue n l left
none-to n l left e = let w : Scanned n l left (length left) = scanned n l left (length left) (omega arith) in none-scanned n l left w.highest w.place w.scan e

-- ---- numbers of steps that stay at the greatest one

capped : (n l : ℕ) (left : List AtLine) (line : AtLine) → All (λ (line : AtLine). line.step < 2 ^ 32) left → IsDue n l left line → IsDue (min n (2 ^ 64 - 1)) l left line
capped n l left line h d =
    let at : get_or (d.before ++ line ∷ d.behind) (length d.before) line ≡ line = get_or_at d.before line d.behind line (length d.before) refl in
    let small : line.step < 2 ^ 32 = subst (λ (z : AtLine). z.step < 2 ^ 32) at (subst (λ (xs : List AtLine). All (λ (line : AtLine). line.step < 2 ^ 32) xs) d.left_is h (length d.before) line (length-within d.before line d.behind)) in
    let reached : line.step ≤ n = d.reached in
    record {
      before = d.before;
      behind = d.behind;
      left_is = d.left_is;
      reached = omega arith;
      above = d.above;
      first = λ k e u s. d.first k e u (omega arith);
      highest = λ k e u s. d.highest k e u (omega arith);
    }

pub capped-due : (n : ℕ) (l : ℕ) (left : List AtLine) → All (λ (line : AtLine). line.step < 2 ^ 32) left → (o : Option AtLine) → due_handler false n l left ≡ o → due_handler false (min n (2 ^ 64 - 1)) l left ≡ o
capped-due n l left h None e = none-from _ l left (λ k d u s. none-to n l left e k d u (omega arith))
capped-due n l left h (Some line) e = due-from _ l left line (capped n l left line h (due-to n l left line e))

pub capped-all : (ended : Bool) (n l : ℕ) (left : List AtLine) → All (λ (line : AtLine). line.step < 2 ^ 32) left → due_handler ended (min n (2 ^ 64 - 1)) l left ≡ due_handler ended n l left
capped-all true n l left h = refl
capped-all false n l left h = capped-due n l left h (due_handler false n l left) refl

pub kept-none : (ended : Bool) (n l : ℕ) (left : List AtLine) → due_handler ended n l left ≡ None → left_after ended n l left ≡ left
kept-none true n l left e = refl
kept-none false n l left e =
    left-none false n l left (λ k d u. may-not n l (get_or left k d) (λ s up. let w : (get_or left k d).level ≤ l = none-to n l left e k d u s in absurd (omega arith)))

capped-same : (n l : ℕ) (left : List AtLine) → All (λ (line : AtLine). line.step < 2 ^ 32) left → (o : Option AtLine) → due_handler false n l left ≡ o → left_after false (min n (2 ^ 64 - 1)) l left ≡ left_after false n l left
unfolding capped
capped-same n l left h None e = kept-none false _ l left (capped-due n l left h None e) ∙ sym (kept-none false n l left e)
capped-same n l left h (Some line) e =
    let d : IsDue n l left line = due-to n l left line e in
    others-from _ l left line (capped n l left line h d) ∙ sym (others-from n l left line d)

pub capped-left : (ended : Bool) (n l : ℕ) (left : List AtLine) → All (λ (line : AtLine). line.step < 2 ^ 32) left → left_after ended (min n (2 ^ 64 - 1)) l left ≡ left_after ended n l left
capped-left true n l left h = refl
capped-left false n l left h = capped-same n l left h (due_handler false n l left) refl

pub due-above : (ended : Bool) (n l : ℕ) (left : List AtLine) (line : AtLine) → due_handler ended n l left ≡ Some line → l < line.level
due-above true n l left line e = absurd cc
due-above false n l left line e = (due-to n l left line e).above

-- ---- what all of them meet

-- the due line is one of them
all-due : (P : AtLine → Type 0) (n l : ℕ) (left : List AtLine) (line : AtLine) → All P left → IsDue n l left line → P line
all-due P n l left line all d =
    subst P (get_or_at d.before line d.behind line (length d.before) refl)
    (subst (λ (xs : List AtLine). All P xs) d.left_is all (length d.before) line (length-within d.before line d.behind))

pub among : (P : AtLine → Type 0) (ended : Bool) (n l : ℕ) (left : List AtLine) (line : AtLine) → All P left → due_handler ended n l left ≡ Some line → P line
among P true n l left line all e = absurd cc
among P false n l left line all e = all-due P n l left line all (due-to n l left line e)

front-within : (before : List AtLine) (line : AtLine) (behind : List AtLine) (k : ℕ) → k < length before → k < length (before ++ line ∷ behind)
front-within before line behind k h = omega (arith, length-append before (line ∷ behind))

back-within : (before : List AtLine) (line : AtLine) (behind : List AtLine) (k : ℕ) → k < length behind → length before + suc k < length (before ++ line ∷ behind)
back-within before line behind k h = omega (arith, length-append before (line ∷ behind))

-- the others too
all-others : (P : AtLine → Type 0) (n l : ℕ) (left : List AtLine) → All P left → (o : Option AtLine) → due_handler false n l left ≡ o → All P (left_after false n l left)
all-others P n l left all None e = subst (λ (xs : List AtLine). All P xs) (sym (kept-none false n l left e)) all
all-others P n l left all (Some line) e =
    let d : IsDue n l left line = due-to n l left line e in
    let parts : All P (d.before ++ line ∷ d.behind) = subst (λ (xs : List AtLine). All P xs) d.left_is all in
    subst (λ (xs : List AtLine). All P xs) (sym (others-from n l left line d))
    (All-append P d.before d.behind
    (λ k e h. subst P (get_or_append_left d.before (line ∷ d.behind) e k h) (parts k e (front-within d.before line d.behind k h)))
    (λ k e h. subst P (get_or-append-add d.before (line ∷ d.behind) (suc k) e) (parts (length d.before + suc k) e (back-within d.before line d.behind k h))))

pub others : (P : AtLine → Type 0) (ended : Bool) (n l : ℕ) (left : List AtLine) → All P left → All P (left_after ended n l left)
others P true n l left all = all
others P false n l left all = all-others P n l left all (due_handler false n l left) refl
