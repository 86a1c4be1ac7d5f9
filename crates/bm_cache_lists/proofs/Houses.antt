-- Units in their places, when a list or a place is written.
use Rattle.std.proofs.Common.{◌≡◌, ◌≢◌, ◌<◌, ◌≤◌, ℕ, zero, suc, ◌+◌, ◌++◌, Option, Some, None, is_some, true, List, [], ◌∷◌, length, drop, map, set, get_or, get_or-set_other, get_or-set_same, refl, sym, ◌∙◌, ap, arith, eqb, cond, subst, inl, inr, eq-eqb, MatchOption}
use Rattle.std.proofs.lemmas.List.{map-set, get_or-map, get_or_read, get_or_past, length-map, length-set, drop-map, map-append}
use Rattle.std.proofs.lemmas.Bool.Decides.{eqb_tells}
use Rattle.std.proofs.lemmas.Bool.{cases_lt}
use mathlib.Core.Path.{fun_ext}
use Rattle.bm_page.specs.UnitState.{UnitState}
use Rattle.bm_law.specs.State.{Row, seen_row, empty_row}
use Rattle.bm_law.specs.Stands.{times, in_row}
use Rattle.bm_law.proofs.Stands.{times-append}
use Rattle.bm_law.specs.Places.{list_at}
use Rattle.bm_cache_lists.specs.Stacks.{with_list, head_of}
use Rattle.bm_cache_lists.specs.Housed.{unit_or, unit_at, rows_of, all_in, taken, Housed, row_at, number_of}
use Rattle.bm_journal.specs.declared.change.Stack.{Stack}
use Rattle.bm_journal.specs.declared.change.Stack.TheVariants.{Free, Extra, Delayed, ExtraDelayed, First, Ready, Second}
use Rattle.bm_cache_lists.specs.Chain.{IsLonger}
use Rattle.bm_cache_lists.proofs.Chains.{not-first, not-below}
use Rattle.bm_cache_lists.proofs.Heads.{row_of-set, list_at-row_of, index-two}

-- LISTS BY THEIR KIND
pub seen-with : {A B : Type 0} (f : A → B) (k : Stack) (xs : List A) (r : Row A) → seen_row f (with_list k xs r) ≡ with_list k (map f xs) (seen_row f r)
seen-with f Free xs r = refl
seen-with f Extra xs r = refl
seen-with f Delayed xs r = refl
seen-with f ExtraDelayed xs r = refl
seen-with f First xs r = refl
seen-with f Ready xs r = refl
seen-with f Second xs r = refl

pub seen-in : {A B : Type 0} (f : A → B) (k : Stack) (r : Row A) → map f (list_at k r) ≡ list_at k (seen_row f r)
seen-in f Free r = refl
seen-in f Extra r = refl
seen-in f Delayed r = refl
seen-in f ExtraDelayed r = refl
seen-in f First r = refl
seen-in f Ready r = refl
seen-in f Second r = refl

pub in-with : (n : ℕ) (k : Stack) (xs : List ℕ) (r : Row ℕ) → in_row n (with_list k xs r) + times n (list_at k r) ≡ in_row n r + times n xs
in-with n Free xs r = omega arith
in-with n Extra xs r = omega arith
in-with n Delayed xs r = omega arith
in-with n ExtraDelayed xs r = omega arith
in-with n First xs r = omega arith
in-with n Ready xs r = omega arith
in-with n Second xs r = omega arith

-- MAPS THAT AGREE
pub map-other : {A : Type 0} (f g : ℕ → A) (n : ℕ) (xs : List ℕ) → ((m : ℕ) → m ≢ n → g m ≡ f m) → times n xs ≡ 0 → map g xs ≡ map f xs
map-other f g n [] h t = refl
map-other f g n (x ∷ xs) h t =
    ap (λ y. y ∷ map g xs) (h x (not-first n x xs t)) ∙ ap (λ ys. f x ∷ ys) (map-other f g n xs h (not-below n x xs t))

module _ {A : Type 0} (f g : ℕ → A) (n : ℕ) (h : (m : ℕ) → m ≢ n → g m ≡ f m) where
  row-other : (r : Row ℕ) → in_row n r ≡ 0 → seen_row g r ≡ seen_row f r
  row-other r t =
      let a = map-other f g n r.free h (omega (arith, t)) in
      let b = map-other f g n r.extra h (omega (arith, t)) in
      let c = map-other f g n r.delayed h (omega (arith, t)) in
      let d = map-other f g n r.extra_delayed h (omega (arith, t)) in
      let e = map-other f g n r.deferred.first h (omega (arith, t)) in
      let i = map-other f g n r.deferred.ready h (omega (arith, t)) in
      let j = map-other f g n r.deferred.second h (omega (arith, t)) in
      rw (a, b, c, d, e, i, j) refl

  pub rows-other : (rs : List (Row ℕ)) → all_in n rs ≡ 0 → map (seen_row g) rs ≡ map (seen_row f) rs
  rows-other [] t = refl
  rows-other (r ∷ rs) t =
      ap (λ y. y ∷ map (seen_row g) rs) (row-other r (omega (arith, t))) ∙ ap (λ ys. seen_row f r ∷ ys) (rows-other rs (omega (arith, t)))

-- SUMS OVER ROWS
pub all-set : (n : ℕ) (rs : List (Row ℕ)) (c : ℕ) (r : Row ℕ) → c < length rs → all_in n (set rs c r) + in_row n (row_at rs c) ≡ all_in n rs + in_row n r
all-set n [] c r h = absurd (omega (arith, h))
all-set n (x ∷ rs) zero r h = omega arith
all-set n (x ∷ rs) (suc c) r h = omega (arith, all-set n rs c r (let l : c < length rs = omega (arith, h) in l))

pub in-all : (n : ℕ) (rs : List (Row ℕ)) (c : ℕ) → c < length rs → in_row n (row_at rs c) ≤ all_in n rs
in-all n [] c h = absurd (omega (arith, h))
in-all n (x ∷ rs) zero h = omega arith
in-all n (x ∷ rs) (suc c) h = omega (arith, in-all n rs c (let l : c < length rs = omega (arith, h) in l))

pub all-none : (n : ℕ) (rs : List (Row ℕ)) → ((c : ℕ) → in_row n (row_at rs c) ≡ 0) → all_in n rs ≡ 0
all-none n [] h = refl
all-none n (x ∷ rs) h = omega (arith, h 0, all-none n rs (λ c. h (suc c)))

-- another list of a row is as it was
lists_of : Row ℕ → List (List ℕ)
lists_of r = r.free ∷ r.extra ∷ r.delayed ∷ r.extra_delayed ∷ r.deferred.first ∷ r.deferred.ready ∷ r.deferred.second ∷ [] ∷ []

pub with-other : (j k : Stack) (xs : List ℕ) (r : Row ℕ) → j ≢ k → list_at j (with_list k xs r) ≡ list_at j r
unfolding lists_of
with-other j k xs r d =
    let ls : List (List ℕ) = lists_of r in
    let a = ap (λ (s : Row ℕ). list_at j s) (row_of-set r.active r.count r.raised r.target r.deferred.plain r.deferred.tracing k ls xs refl) in
    let b = list_at-row_of r.active r.count r.raised r.target r.deferred.plain r.deferred.tracing j (set ls (head_of k) xs) in
    let c = get_or-set_other ls (head_of k) (head_of j) xs [] (index-two j k d) in
    let e = list_at-row_of r.active r.count r.raised r.target r.deferred.plain r.deferred.tracing j ls in
    sym a ∙ b ∙ c ∙ sym e

-- there are eleven rows
pub eleven-rows : (places : List (Option UnitState)) (lines : List (Row ℕ)) (rows : List (Row UnitState)) → Housed places lines → rows_of places lines ≡ rows → length rows ≡ 11
eleven-rows places lines rows h v = ap (λ (rs : List (Row UnitState)). length rs) (sym v) ∙ length-map lines (seen_row (unit_at places)) ∙ h.eleven

-- WRITES THAT LEAVE THE PLACES
pub line-is : (places : List (Option UnitState)) (lines : List (Row ℕ)) (c : ℕ) (x : Row ℕ) → Housed places lines → c < 11 → x ≡ get_or lines c x → x ≡ row_at lines c
line-is places lines c x h l e = get_or_read lines c x (let b : c < length lines = omega (arith, h.eleven, l) in b) e (empty_row 0)

pub row-seen : (places : List (Option UnitState)) (lines : List (Row ℕ)) (c : ℕ) → Housed places lines → c < 11 → row_at (rows_of places lines) c ≡ seen_row (unit_at places) (row_at lines c)
row-seen places lines c h l = get_or-map (seen_row (unit_at places)) lines c (empty_row 0) (empty_row 0) (let b : c < length lines = omega (arith, h.eleven, l) in b)

pub wrote : (places : List (Option UnitState)) (lines : List (Row ℕ)) (c : ℕ) (x y : Row ℕ) (F : Row ℕ → Row ℕ) (G : Row UnitState → Row UnitState) → Housed places lines → c < 11 → x ≡ get_or lines c x → y ≡ F x → ((r : Row ℕ) → seen_row (unit_at places) (F r) ≡ G (seen_row (unit_at places) r)) → rows_of places (set lines c y) ≡ set (rows_of places lines) c (G (row_at (rows_of places lines) c))
wrote places lines c x y F G h l e q s =
    let f = unit_at places in
    map-set (seen_row f) lines c y
    ∙ ap (λ (r : Row UnitState). set (rows_of places lines) c r) (ap (seen_row f) (q ∙ ap F (line-is places lines c x h l e)) ∙ s (row_at lines c) ∙ ap G (sym (row-seen places lines c h l)))

pub kept : (places : List (Option UnitState)) (lines : List (Row ℕ)) (c : ℕ) (x y : Row ℕ) (F : Row ℕ → Row ℕ) → Housed places lines → c < 11 → x ≡ get_or lines c x → y ≡ F x → ((n : ℕ) (r : Row ℕ) → in_row n (F r) ≡ in_row n r) → Housed places (set lines c y)
kept places lines c x y F h l e q s = record {
  room = h.room;
  eleven = length-set lines c y ∙ h.eleven;
  housed = λ n.
      let a : in_row n y ≡ in_row n (row_at lines c) = ap (in_row n) q ∙ s n x ∙ ap (in_row n) (line-is places lines c x h l e) in
      let b = all-set n lines c y (let b : c < length lines = omega (arith, h.eleven, l) in b) in
      omega (arith, a, b, h.housed n);
  own = h.own;
}

-- a list goes on another: with what `f` makes of it, of the same numbers
module _ (from to : Stack) (d : from ≢ to) where
  onto : {A : Type 0} → (List A → List A) → Row A → Row A
  onto t r = with_list from [] (with_list to (t (list_at from r) ++ list_at to r) r)

  pub onto-same : (t : List ℕ → List ℕ) → ((n : ℕ) (xs : List ℕ) → times n (t xs) ≡ times n xs) → (n : ℕ) (r : Row ℕ) → in_row n (with_list from [] (with_list to (t (list_at from r) ++ list_at to r) r)) ≡ in_row n r
  onto-same t s n r =
      let xs : List ℕ = t (list_at from r) ++ list_at to r in
      let a = in-with n from [] (with_list to xs r) in
      let b = in-with n to xs r in
      let c = times-append n (t (list_at from r)) (list_at to r) in
      let e = ap (times n) (with-other from to xs r d) in
      omega (arith, a, b, c, e, s n (list_at from r))

  pub onto-seen : {A B : Type 0} (f : A → B) (t : List A → List A) (u : List B → List B) → ((xs : List A) → map f (t xs) ≡ u (map f xs)) → (r : Row A) → seen_row f (with_list from [] (with_list to (t (list_at from r) ++ list_at to r) r)) ≡ with_list from [] (with_list to (u (list_at from (seen_row f r)) ++ list_at to (seen_row f r)) (seen_row f r))
  onto-seen f t u m r =
      let xs = t (list_at from r) ++ list_at to r in
      let p = map-append f (t (list_at from r)) (list_at to r) ∙ ap (λ ys. ys ++ map f (list_at to r)) (m (list_at from r) ∙ ap u (seen-in f from r)) ∙ ap (λ ys. u (list_at from (seen_row f r)) ++ ys) (seen-in f to r) in
      seen-with f from [] (with_list to xs r) ∙ ap (λ s. with_list from [] s) (seen-with f to xs r ∙ ap (λ ys. with_list to ys (seen_row f r)) p)

-- numbers go back
pub back : (f : ℕ → UnitState) → ((n : ℕ) → (f n).number ≡ n) → (xs : List ℕ) → map number_of (map f xs) ≡ xs
back f h [] = refl
back f h (x ∷ xs) = ap (λ y. y ∷ map number_of (map f xs)) (h x) ∙ ap (λ ys. x ∷ ys) (back f h xs)

pub row-back : (f : ℕ → UnitState) → ((n : ℕ) → (f n).number ≡ n) → (r : Row ℕ) → seen_row number_of (seen_row f r) ≡ r
row-back f h r =
    let a = back f h r.free in
    let b = back f h r.extra in
    let c = back f h r.delayed in
    let d = back f h r.extra_delayed in
    let e = back f h r.deferred.first in
    let i = back f h r.deferred.ready in
    let j = back f h r.deferred.second in
    rw (a, b, c, d, e, i, j) refl

-- A PLACE IS WRITTEN
self-once : (n : ℕ) (xs : List ℕ) → times n (n ∷ xs) ≡ 1 + times n xs
self-once n xs =
    let u : eqb n n ≡ true = eq-eqb n n refl in
    let v : ◌≡◌ {A = ℕ} (cond (eqb n n) 1 0) 1 = rw u refl in
    omega (arith, v)

other-once : (m n : ℕ) (xs : List ℕ) → m ≢ n → times m (n ∷ xs) ≡ times m xs
other-once m n xs d =
    elim (eqb_tells m n) [
      | inl s ↦ absurd (d s.1)
      | inr s ↦ let e : ◌≡◌ {A = ℕ} (cond (eqb m n) 1 0) 0 = rw s.0 refl in omega (arith, e)
    ]

taken-one : (places : List (Option UnitState)) (n : ℕ) → taken places n ≤ 1
taken-one places n = one (get_or places n None)
  where
    one : (o : Option UnitState) → cond (is_some o) 1 0 ≤ 1
    one None = omega arith
    one (Some u) = omega arith

taken-set : (places : List (Option UnitState)) (n : ℕ) (o : Option UnitState) → n < length places → taken (set places n o) n ≡ cond (is_some o) 1 0
taken-set places n o h = ap (λ (p : Option UnitState). cond (is_some p) 1 0) (get_or-set_same places n o None h)

taken-other : (places : List (Option UnitState)) (n m : ℕ) (o : Option UnitState) → m ≢ n → taken (set places n o) m ≡ taken places m
taken-other places n m o d = ap (λ (p : Option UnitState). cond (is_some p) 1 0) (get_or-set_other places n m o None d)

unit-other : (places : List (Option UnitState)) (n : ℕ) (o : Option UnitState) (m : ℕ) → m ≢ n → unit_at (set places n o) m ≡ unit_at places m
unit-other places n o m d = ap (unit_or m) (get_or-set_other places n m o None d)

unit-same : (places : List (Option UnitState)) (n : ℕ) (o : Option UnitState) → n < length places → unit_at (set places n o) n ≡ unit_or n o
unit-same places n o h = ap (unit_or n) (get_or-set_same places n o None h)

own-set : (places : List (Option UnitState)) (n : ℕ) (o : Option UnitState) → n < length places → (unit_or n o).number ≡ n → ((m : ℕ) → (unit_at places m).number ≡ m) → (m : ℕ) → (unit_at (set places n o) m).number ≡ m
own-set places n o h e q m =
    elim (eqb_tells m n) [
      | inl s ↦ let a : (unit_at (set places n o) n).number ≡ n = ap (λ (u : UnitState). u.number) (unit-same places n o h) ∙ e in subst (λ (k : ℕ). (unit_at (set places n o) k).number ≡ k) (sym s.1) a
      | inr s ↦ ap (λ (u : UnitState). u.number) (unit-other places n o m s.1) ∙ q m
    ]

-- a place that has a unit is there
taken-in : (places : List (Option UnitState)) (n : ℕ) → taken places n ≡ 1 → n < length places
taken-in places n t =
    elim (cases_lt n (length places)) [
      | inl i ↦ i
      | inr j ↦ let z : taken places n ≡ 0 = ap (λ (o : Option UnitState). cond (is_some o) 1 0) (get_or_past places n None j) in absurd (omega (arith, z, t))
    ]

-- places that grew: what they have is what they had
module _ (was is : List (Option UnitState)) (g : IsLonger None was is) where
  units-longer : unit_at is ≡ unit_at was
  units-longer = fun_ext (λ n. ap (unit_or n) (g.same n))

  pub rows-longer : (lines : List (Row ℕ)) → rows_of is lines ≡ rows_of was lines
  rows-longer lines = ap (λ (f : ℕ → UnitState). map (seen_row f) lines) units-longer

  pub housed-longer : (lines : List (Row ℕ)) → length is ≤ 65536 → Housed was lines → Housed is lines
  housed-longer lines r h = record {
    room = r;
    eleven = h.eleven;
    housed = λ n. h.housed n ∙ ap (λ (o : Option UnitState). cond (is_some o) 1 0) (sym (g.same n));
    own = λ n. ap (λ (f : ℕ → UnitState). (f n).number) units-longer ∙ h.own n;
  }

-- POP: the number n leaves the top of list k of row c, and its unit leaves the place
module _ (places : List (Option UnitState)) (lines : List (Row ℕ)) (c n : ℕ) (k : Stack) (x y : Row ℕ) (h : Housed places lines) (l : c < 11)
    (e : x ≡ get_or lines c x) (q : y ≡ with_list k (drop 1 (list_at k x)) x) (t : list_at k x ≡ n ∷ drop 1 (list_at k x)) (g : in_row n y ≡ 0) where
  inside : c < length lines
  inside = omega (arith, h.eleven, l)

  pop-in : (m : ℕ) → in_row m y + times m (n ∷ drop 1 (list_at k x)) ≡ in_row m (row_at lines c) + times m (drop 1 (list_at k x))
  pop-in m =
      let a = in-with m k (drop 1 (list_at k x)) x in
      let d : in_row m y ≡ in_row m (with_list k (drop 1 (list_at k x)) x) = ap (in_row m) q in
      let u : times m (list_at k x) ≡ times m (n ∷ drop 1 (list_at k x)) = ap (times m) t in
      let v : in_row m x ≡ in_row m (row_at lines c) = ap (in_row m) (line-is places lines c x h l e) in
      omega (arith, a, d, u, v)

  pop-all : (m : ℕ) → all_in m (set lines c y) + times m (n ∷ drop 1 (list_at k x)) ≡ all_in m lines + times m (drop 1 (list_at k x))
  pop-all m = omega (arith, pop-in m, all-set m lines c y inside)

  pub pop-was : taken places n ≡ 1
  pop-was = omega (arith, pop-all n, self-once n (drop 1 (list_at k x)), h.housed n, taken-one places n)

  pub place : n < length places
  place = taken-in places n pop-was

  pub pop-none : all_in n (set lines c y) ≡ 0
  pop-none = omega (arith, pop-all n, self-once n (drop 1 (list_at k x)), h.housed n, taken-one places n)

  pub popped-housed : Housed (set places n None) (set lines c y)
  popped-housed = record {
    room = rw (length-set places n None) h.room;
    eleven = length-set lines c y ∙ h.eleven;
    housed = λ m. elim (eqb_tells m n) [
      | inl s ↦ let a : all_in n (set lines c y) ≡ taken (set places n None) n = pop-none ∙ sym (taken-set places n None place) in subst (λ (i : ℕ). all_in i (set lines c y) ≡ taken (set places n None) i) (sym s.1) a
      | inr s ↦ let o = other-once m n (drop 1 (list_at k x)) s.1 in omega (arith, o, pop-all m, h.housed m, taken-other places n m None s.1)
    ];
    own = own-set places n None place refl h.own;
  }

  pub popped-view : rows_of (set places n None) (set lines c y) ≡ set (rows_of places lines) c (with_list k (drop 1 (list_at k (row_at (rows_of places lines) c))) (row_at (rows_of places lines) c))
  popped-view =
      let f = unit_at places in
      rows-other f (unit_at (set places n None)) n (unit-other places n None) (set lines c y) pop-none
      ∙ wrote places lines c x y (λ r. with_list k (drop 1 (list_at k r)) r) (λ r. with_list k (drop 1 (list_at k r)) r) h l e q
      (λ r. seen-with f k (drop 1 (list_at k r)) r ∙ ap (λ xs. with_list k xs (seen_row f r)) (sym (drop-map f 1 (list_at k r)) ∙ ap (λ (xs : List UnitState). drop 1 xs) (seen-in f k r)))

  -- the list of units has the unit in the place on top
  pub popped-top : list_at k (row_at (rows_of places lines) c) ≡ unit_at places n ∷ drop 1 (list_at k (row_at (rows_of places lines) c))
  popped-top =
      let f = unit_at places in
      let a : list_at k (row_at (rows_of places lines) c) ≡ map f (list_at k x) = ap (λ (r : Row UnitState). list_at k r) (row-seen places lines c h l) ∙ sym (seen-in f k (row_at lines c)) ∙ ap (λ (r : Row ℕ). map f (list_at k r)) (sym (line-is places lines c x h l e)) in
      let d : map f (list_at k x) ≡ f n ∷ map f (drop 1 (list_at k x)) = ap (map f) t in
      a ∙ d ∙ ap (λ (xs : List UnitState). f n ∷ xs) (sym (ap (λ (xs : List UnitState). drop 1 xs) (a ∙ d)))

  pub popped-unit : (r : Option UnitState) → r ≡ get_or places n None → MatchOption r (list_at k (row_at (rows_of places lines) c) ≡ []) (λ u. list_at k (row_at (rows_of places lines) c) ≡ u ∷ drop 1 (list_at k (row_at (rows_of places lines) c)))
  popped-unit None p = absurd (let z : taken places n ≡ 0 = ap (λ (o : Option UnitState). cond (is_some o) 1 0) (sym p) in omega (arith, z, pop-was))
  popped-unit (Some u) p = let z : unit_at places n ≡ u = ap (unit_or n) (sym p) in popped-top ∙ ap (λ (v : UnitState). v ∷ drop 1 (list_at k (row_at (rows_of places lines) c))) z

-- PUSH
module _ (places : List (Option UnitState)) (lines : List (Row ℕ)) (c : ℕ) (k : Stack) (u : UnitState) (x y : Row ℕ) (h : Housed places lines) (l : c < 11)
    (f : (i : ℕ) → in_row u.number (seen_row number_of (row_at (rows_of places lines) i)) ≡ 0) (e : x ≡ get_or lines c x) where
  fresh-row : (i : ℕ) → i < 11 → in_row u.number (row_at lines i) ≡ 0
  fresh-row i j = sym (ap (in_row u.number) (ap (seen_row number_of) (row-seen places lines i h j) ∙ row-back (unit_at places) h.own (row_at lines i))) ∙ f i

  past-row : (i : ℕ) → 11 ≤ i → in_row u.number (row_at lines i) ≡ 0
  past-row i j = ap (in_row u.number) (get_or_past lines i (empty_row 0) (let w : length lines ≤ i = omega (arith, h.eleven, j) in w))

  pub fresh-all : all_in u.number lines ≡ 0
  fresh-all = all-none u.number lines (λ i. elim (cases_lt i 11) [ inl j ↦ fresh-row i j | inr j ↦ past-row i j ])

  pub fresh-line : in_row u.number x ≡ 0
  fresh-line = ap (in_row u.number) (line-is places lines c x h l e) ∙ fresh-row c l

  pub fresh-place : get_or places u.number None ≡ None
  fresh-place = none (get_or places u.number None) (sym (h.housed u.number) ∙ fresh-all)
    where
      none : (o : Option UnitState) → ◌≡◌ {A = ℕ} (cond (is_some o) 1 0) 0 → o ≡ None
      none None z = refl
      none (Some v) z = absurd (omega (arith, z))

  module _ (b : u.number < length places) (q : y ≡ with_list k (u.number ∷ list_at k x) x) where
    push-all : (m : ℕ) → all_in m (set lines c y) + times m (list_at k x) ≡ all_in m lines + times m (u.number ∷ list_at k x)
    push-all m =
        let a = in-with m k (u.number ∷ list_at k x) x in
        let d : in_row m y ≡ in_row m (with_list k (u.number ∷ list_at k x) x) = ap (in_row m) q in
        let v : in_row m x ≡ in_row m (row_at lines c) = ap (in_row m) (line-is places lines c x h l e) in
        omega (arith, a, d, v, all-set m lines c y (let i : c < length lines = omega (arith, h.eleven, l) in i))

    pub pushed-housed : Housed (set places u.number (Some u)) (set lines c y)
    pushed-housed =
        record {
          room = rw (length-set places u.number (Some u)) h.room;
          eleven = length-set lines c y ∙ h.eleven;
          housed = λ m. elim (eqb_tells m u.number) [
            | inl s ↦ let a : all_in u.number (set lines c y) ≡ taken (set places u.number (Some u)) u.number = omega (arith, push-all u.number, self-once u.number (list_at k x), fresh-all, taken-set places u.number (Some u) b) in subst (λ (i : ℕ). all_in i (set lines c y) ≡ taken (set places u.number (Some u)) i) (sym s.1) a
            | inr s ↦ let o = other-once m u.number (list_at k x) s.1 in omega (arith, o, push-all m, h.housed m, taken-other places u.number m (Some u) s.1)
          ];
          own = own-set places u.number (Some u) b refl h.own;
        }

    pub pushed-view : rows_of (set places u.number (Some u)) (set lines c y) ≡ set (rows_of places lines) c (with_list k (u ∷ list_at k (row_at (rows_of places lines) c)) (row_at (rows_of places lines) c))
    pushed-view =
        let n = u.number in
        let ps : List (Option UnitState) = set places n (Some u) in
        let g = unit_at ps in
        let gu : g n ≡ u = unit-same places n (Some u) b in
        let same : rows_of ps lines ≡ rows_of places lines = rows-other (unit_at places) g n (unit-other places n (Some u)) lines fresh-all in
        let d : seen_row g y ≡ with_list k (u ∷ list_at k (seen_row g x)) (seen_row g x) =
        ap (seen_row g) q ∙ seen-with g k (n ∷ list_at k x) x ∙ ap (λ (v : UnitState). with_list k (v ∷ map g (list_at k x)) (seen_row g x)) gu ∙ ap (λ (xs : List UnitState). with_list k (u ∷ xs) (seen_row g x)) (seen-in g k x) in
        let r : seen_row g x ≡ row_at (rows_of places lines) c =
        ap (seen_row g) (line-is places lines c x h l e) ∙ sym (get_or-map (seen_row g) lines c (empty_row 0) (empty_row 0) (let i : c < length lines = omega (arith, h.eleven, l) in i)) ∙ ap (λ (rs : List (Row UnitState)). row_at rs c) same in
        map-set (seen_row g) lines c y
        ∙ ap (λ (rs : List (Row UnitState)). set rs c (seen_row g y)) same
        ∙ ap (λ (s : Row UnitState). set (rows_of places lines) c s) (d ∙ ap (λ (s : Row UnitState). with_list k (u ∷ list_at k s) s) r)

-- the numbers of a list's units
pub names-back : (places : List (Option UnitState)) (lines : List (Row ℕ)) (c : ℕ) (k : Stack) (x : Row ℕ) → Housed places lines → c < 11 → x ≡ get_or lines c x → list_at k x ≡ map number_of (list_at k (row_at (rows_of places lines) c))
names-back places lines c k x h l e =
    let f = unit_at places in
    let a : list_at k (row_at (rows_of places lines) c) ≡ map f (list_at k x) = ap (λ (r : Row UnitState). list_at k r) (row-seen places lines c h l) ∙ sym (seen-in f k (row_at lines c)) ∙ ap (λ (r : Row ℕ). map f (list_at k r)) (sym (line-is places lines c x h l e)) in
    sym (ap (λ (us : List UnitState). map number_of us) a ∙ back f h.own (list_at k x))

-- a list is written by what has the same numbers
pub with-times : (k : Stack) (t : List ℕ → List ℕ) → ((n : ℕ) (xs : List ℕ) → times n (t xs) ≡ times n xs) → (n : ℕ) (r : Row ℕ) → in_row n (with_list k (t (list_at k r)) r) ≡ in_row n r
with-times k t s n r = omega (arith, in-with n k (t (list_at k r)) r, s n (list_at k r))

pub with-seen : {A B : Type 0} (f : A → B) (k : Stack) (t : List A → List A) (u : List B → List B) → ((xs : List A) → map f (t xs) ≡ u (map f xs)) → (r : Row A) → seen_row f (with_list k (t (list_at k r)) r) ≡ with_list k (u (list_at k (seen_row f r))) (seen_row f r)
with-seen f k t u m r = seen-with f k (t (list_at k r)) r ∙ ap (λ ys. with_list k ys (seen_row f r)) (m (list_at k r) ∙ ap u (seen-in f k r))
