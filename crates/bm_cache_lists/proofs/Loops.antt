-- A list that is written unit by unit.
use Rattle.std.proofs.Common.{◌≡◌, ◌<◌, ◌≤◌, ℕ, ◌+◌, ◌++◌, List, [], ◌∷◌, length, drop, reverse, map, set, get_or-set_other, get_or-set_same, set-set, append_assoc, refl, sym, ◌∙◌, ap, arith, eqb, subst, inl, inr, cond}
use Rattle.std.proofs.lemmas.List.{length-set, set-get_or, reverse-append, reverse-reverse, map-append}
use Rattle.bm_law.proofs.Seen.{map-reverse}
use Rattle.bm_law.proofs.Stands.{times-append, times-reverse}
use Rattle.std.proofs.lemmas.Bool.Decides.{eqb_tells}
use Rattle.bm_page.specs.UnitState.{UnitState}
use Rattle.bm_law.specs.State.{Row, seen_row, empty_row}
use Rattle.bm_law.specs.Stands.{times, in_row}
use Rattle.bm_law.specs.Places.{list_at}
use Rattle.bm_cache_lists.specs.Stacks.{with_list}
use Rattle.bm_cache_lists.specs.Housed.{row_at, number_of}
use Rattle.bm_journal.specs.declared.change.Stack.{Stack}
use Rattle.bm_journal.specs.declared.change.Stack.TheVariants.{Free, Extra, Delayed, ExtraDelayed, First, Ready, Second}
use Rattle.bm_cache_lists.proofs.Houses.{seen-with, seen-in, in-with}

pub in-same : {A : Type 0} (k : Stack) (xs : List A) (r : Row A) → list_at k (with_list k xs r) ≡ xs
in-same Free xs r = refl
in-same Extra xs r = refl
in-same Delayed xs r = refl
in-same ExtraDelayed xs r = refl
in-same First xs r = refl
in-same Ready xs r = refl
in-same Second xs r = refl

pub with-same : {A : Type 0} (k : Stack) (r : Row A) → with_list k (list_at k r) r ≡ r
with-same Free r = refl
with-same Extra r = refl
with-same Delayed r = refl
with-same ExtraDelayed r = refl
with-same First r = refl
with-same Ready r = refl
with-same Second r = refl

pub with-with : {A : Type 0} (k : Stack) (xs ys : List A) (r : Row A) → with_list k ys (with_list k xs r) ≡ with_list k ys r
with-with Free xs ys r = refl
with-with Extra xs ys r = refl
with-with Delayed xs ys r = refl
with-with ExtraDelayed xs ys r = refl
with-with First xs ys r = refl
with-with Ready xs ys r = refl
with-with Second xs ys r = refl

-- the rows `now` are those before with another list k of row c
pub record Written (c : ℕ) (k : Stack) (before now : List (Row UnitState)) : Type 0 where
  pub eleven : length before ≡ 11
  pub is : now ≡ set before c (with_list k (list_at k (row_at now c)) (row_at before c))

pub written-none : (c : ℕ) (k : Stack) (now : List (Row UnitState)) → length now ≡ 11 → Written c k now now
written-none c k now e = record {
  eleven = e;
  is = sym (ap (λ (r : Row UnitState). set now c r) (with-same k (row_at now c)) ∙ set-get_or now c (empty_row 0));
}

row-now : (c : ℕ) (k : Stack) (before now : List (Row UnitState)) → c < 11 → Written c k before now → row_at now c ≡ with_list k (list_at k (row_at now c)) (row_at before c)
row-now c k before now l w =
    let xs = list_at k (row_at now c) in
    let b : c < length before = omega (arith, l, w.eleven) in
    ap (λ (rs : List (Row UnitState)). row_at rs c) w.is ∙ get_or-set_same before c (with_list k xs (row_at before c)) (empty_row 0) b

-- another list is written over it
pub written-over : (c : ℕ) (k : Stack) (before now : List (Row UnitState)) (ys : List UnitState) → c < 11 → Written c k before now → set now c (with_list k ys (row_at now c)) ≡ set before c (with_list k ys (row_at before c))
written-over c k before now ys l w =
    let xs = list_at k (row_at now c) in
    ap (λ (r : Row UnitState). set now c (with_list k ys r)) (row-now c k before now l w)
    ∙ ap (λ (r : Row UnitState). set now c r) (with-with k xs ys (row_at before c))
    ∙ ap (λ (rs : List (Row UnitState)). set rs c (with_list k ys (row_at before c))) w.is
    ∙ set-set before c (with_list k xs (row_at before c)) (with_list k ys (row_at before c))

-- what is in the list then
pub list-now : (c : ℕ) (k : Stack) (now next : List (Row UnitState)) (ys : List UnitState) → c < length now → next ≡ set now c (with_list k ys (row_at now c)) → list_at k (row_at next c) ≡ ys
list-now c k now next ys b e =
    ap (λ (rs : List (Row UnitState)). list_at k (row_at rs c)) e
    ∙ ap (λ (r : Row UnitState). list_at k r) (get_or-set_same now c (with_list k ys (row_at now c)) (empty_row 0) b)
    ∙ in-same k ys (row_at now c)

pub written-length : (c : ℕ) (k : Stack) (before now : List (Row UnitState)) → Written c k before now → length now ≡ 11
written-length c k before now w = ap length w.is ∙ length-set before c (with_list k (list_at k (row_at now c)) (row_at before c)) ∙ w.eleven

pub written-step : (c : ℕ) (k : Stack) (before now next : List (Row UnitState)) (ys : List UnitState) → c < 11 → Written c k before now → next ≡ set now c (with_list k ys (row_at now c)) → Written c k before next
written-step c k before now next ys l w e =
    let b : c < length now = omega (arith, l, written-length c k before now w) in
    let n = list-now c k now next ys b e in
    record {
      eleven = w.eleven;
      is = e ∙ written-over c k before now ys l w ∙ ap (λ (zs : List UnitState). set before c (with_list k zs (row_at before c))) (sym n);
    }

-- PUSH ALL
pub record Pushing (c : ℕ) (k : Stack) (us rest : List UnitState) (before now : List (Row UnitState)) : Type 0 where
  pub written : Written c k before now
  pub moved : reverse rest ++ list_at k (row_at now c) ≡ reverse us ++ list_at k (row_at before c)
  pub fresh : (n : ℕ) → (i : ℕ) → in_row n (seen_row number_of (row_at now i)) + times n (map number_of rest) ≤ 1

pub fresh-head : (n i : ℕ) (u : UnitState) (rest : List UnitState) (now : List (Row UnitState)) → n ≡ u.number → in_row n (seen_row number_of (row_at now i)) + times n (map number_of (u ∷ rest)) ≤ 1 → in_row n (seen_row number_of (row_at now i)) ≡ 0
fresh-head n i u rest now e h =
    elim (eqb_tells n u.number) [
      | inl s ↦ let v : ◌≡◌ {A = ℕ} (cond (eqb n u.number) 1 0) 1 = rw s.0 refl in omega (arith, v, h)
      | inr s ↦ absurd (s.1 e)
    ]

pub pushing-step : (c : ℕ) (k : Stack) (us rest : List UnitState) (u : UnitState) (before now next : List (Row UnitState)) → c < 11 → Pushing c k us (u ∷ rest) before now → next ≡ set now c (with_list k (u ∷ list_at k (row_at now c)) (row_at now c)) → Pushing c k us rest before next
pushing-step c k us rest u before now next l p e =
    let X = list_at k (row_at now c) in
    let ln = written-length c k before now p.written in
    let b : c < length now = omega (arith, l, ln) in
    let n = list-now c k now next (u ∷ X) b e in
    let turn : reverse (u ∷ rest) ++ X ≡ reverse rest ++ (u ∷ X) = ap (λ (zs : List UnitState). zs ++ X) (reverse-append (u ∷ []) rest) ∙ append_assoc (reverse rest) (u ∷ []) X in
    record {
      written = written-step c k before now next (u ∷ X) l p.written e;
      moved = ap (λ (zs : List UnitState). reverse rest ++ zs) n ∙ sym turn ∙ p.moved;
      fresh = λ m i.
          elim (eqb_tells i c) [
            | inl s ↦
                let r = row_at now c in
                let a : row_at next c ≡ with_list k (u ∷ X) r = ap (λ (rs : List (Row UnitState)). row_at rs c) e ∙ get_or-set_same now c (with_list k (u ∷ X) r) (empty_row 0) b in
                let d : seen_row number_of (row_at next c) ≡ with_list k (u.number ∷ map number_of X) (seen_row number_of r) = ap (seen_row number_of) a ∙ seen-with number_of k (u ∷ X) r in
                let f = in-with m k (u.number ∷ map number_of X) (seen_row number_of r) in
                let g : times m (list_at k (seen_row number_of r)) ≡ times m (map number_of X) = ap (times m) (sym (seen-in number_of k r)) in
                let t : in_row m (seen_row number_of (row_at next c)) ≡ in_row m (with_list k (u.number ∷ map number_of X) (seen_row number_of r)) = ap (in_row m) d in
                let z : in_row m (seen_row number_of (row_at next c)) + times m (map number_of rest) ≤ 1 = omega (arith, t, f, g, p.fresh m c) in
                subst (λ (j : ℕ). in_row m (seen_row number_of (row_at next j)) + times m (map number_of rest) ≤ 1) (sym s.1) z
            | inr s ↦
                let a : row_at next i ≡ row_at now i = ap (λ (rs : List (Row UnitState)). row_at rs i) e ∙ get_or-set_other now c i (with_list k (u ∷ X) (row_at now c)) (empty_row 0) s.1 in
                let t : in_row m (seen_row number_of (row_at next i)) ≡ in_row m (seen_row number_of (row_at now i)) = ap (λ (r : Row UnitState). in_row m (seen_row number_of r)) a in
                omega (arith, t, p.fresh m i)
          ];
    }

pub pushing-all : (c : ℕ) (k : Stack) (us : List UnitState) (before now : List (Row UnitState)) → c < 11 → Pushing c k us [] before now → now ≡ set before c (with_list k (reverse us ++ list_at k (row_at before c)) (row_at before c))
pushing-all c k us before now l p = p.written.is ∙ ap (λ (zs : List UnitState). set before c (with_list k zs (row_at before c))) p.moved

-- MOVE OUT
pub record Leaving (c : ℕ) (k : Stack) (start out : List UnitState) (before now : List (Row UnitState)) : Type 0 where
  pub written : Written c k before now
  pub moved : out ++ list_at k (row_at now c) ≡ start ++ list_at k (row_at before c)

pub leaving-step : (c : ℕ) (k : Stack) (start out : List UnitState) (u : UnitState) (before now next : List (Row UnitState)) → c < 11 → Leaving c k start out before now → list_at k (row_at now c) ≡ u ∷ drop 1 (list_at k (row_at now c)) → next ≡ set now c (with_list k (drop 1 (list_at k (row_at now c))) (row_at now c)) → Leaving c k start (out ++ u ∷ []) before next
leaving-step c k start out u before now next l p t e =
    let X = list_at k (row_at now c) in
    let ln = written-length c k before now p.written in
    let b : c < length now = omega (arith, l, ln) in
    let n = list-now c k now next (drop 1 X) b e in
    record {
      written = written-step c k before now next (drop 1 X) l p.written e;
      moved = ap (λ (zs : List UnitState). (out ++ u ∷ []) ++ zs) n ∙ append_assoc out (u ∷ []) (drop 1 X) ∙ ap (λ (zs : List UnitState). out ++ zs) (sym t) ∙ p.moved;
    }

pub leaving-all : (c : ℕ) (k : Stack) (start out : List UnitState) (before now next : List (Row UnitState)) → c < 11 → Leaving c k start out before now → list_at k (row_at now c) ≡ [] → next ≡ set now c (with_list k (drop 1 (list_at k (row_at now c))) (row_at now c)) → next ≡ set before c (with_list k [] (row_at before c))
leaving-all c k start out before now next l p t e =
    e ∙ ap (λ (zs : List UnitState). set now c (with_list k (drop 1 zs) (row_at now c))) t ∙ written-over c k before now [] l p.written

-- a row is written twice
pub twice : (c : ℕ) (F : Row UnitState → Row UnitState) (r : Row UnitState) (before mid now : List (Row UnitState)) → c < length before → mid ≡ set before c r → now ≡ set mid c (F (row_at mid c)) → now ≡ set before c (F r)
twice c F r before mid now b e q =
    let a : row_at mid c ≡ r = ap (λ (rs : List (Row UnitState)). row_at rs c) e ∙ get_or-set_same before c r (empty_row 0) b in
    q ∙ ap (λ (s : Row UnitState). set mid c (F s)) a ∙ ap (λ (rs : List (Row UnitState)). set rs c (F r)) e ∙ set-set before c r (F r)

-- PARCELS
pub pushing-many : (c : ℕ) (k : Stack) (us ps rest : List UnitState) (before now next : List (Row UnitState)) → c < 11 → Pushing c k us (ps ++ rest) before now → next ≡ set now c (with_list k (reverse ps ++ list_at k (row_at now c)) (row_at now c)) → Pushing c k us rest before next
pushing-many c k us ps rest before now next l p e =
    let X = list_at k (row_at now c) in
    let Y : List UnitState = reverse ps ++ X in
    let ln = written-length c k before now p.written in
    let b : c < length now = omega (arith, l, ln) in
    let n = list-now c k now next Y b e in
    let turn : reverse (ps ++ rest) ++ X ≡ reverse rest ++ (reverse ps ++ X) = ap (λ (zs : List UnitState). zs ++ X) (reverse-append ps rest) ∙ append_assoc (reverse rest) (reverse ps) X in
    let q : (m : ℕ) → times m (map number_of (ps ++ rest)) ≡ times m (map number_of ps) + times m (map number_of rest) = λ m. ap (times m) (map-append number_of ps rest) ∙ times-append m (map number_of ps) (map number_of rest) in
    record {
      written = written-step c k before now next Y l p.written e;
      moved = ap (λ (zs : List UnitState). reverse rest ++ zs) n ∙ sym turn ∙ p.moved;
      fresh = λ m i.
          elim (eqb_tells i c) [
            | inl s ↦
                let r = row_at now c in
                let a : row_at next c ≡ with_list k Y r = ap (λ (rs : List (Row UnitState)). row_at rs c) e ∙ get_or-set_same now c (with_list k Y r) (empty_row 0) b in
                let d : seen_row number_of (row_at next c) ≡ with_list k (map number_of Y) (seen_row number_of r) = ap (seen_row number_of) a ∙ seen-with number_of k Y r in
                let f = in-with m k (map number_of Y) (seen_row number_of r) in
                let g : times m (list_at k (seen_row number_of r)) ≡ times m (map number_of X) = ap (times m) (sym (seen-in number_of k r)) in
                let t : in_row m (seen_row number_of (row_at next c)) ≡ in_row m (with_list k (map number_of Y) (seen_row number_of r)) = ap (in_row m) d in
                let y : times m (map number_of Y) ≡ times m (map number_of (reverse ps)) + times m (map number_of X) = ap (times m) (map-append number_of (reverse ps) X) ∙ times-append m (map number_of (reverse ps)) (map number_of X) in
                let w : times m (map number_of (reverse ps)) ≡ times m (map number_of ps) = ap (times m) (map-reverse number_of ps) ∙ times-reverse m (map number_of ps) in
                let z : in_row m (seen_row number_of (row_at next c)) + times m (map number_of rest) ≤ 1 = omega (arith, t, f, g, y, w, q m, p.fresh m c) in
                subst (λ (j : ℕ). in_row m (seen_row number_of (row_at next j)) + times m (map number_of rest) ≤ 1) (sym s.1) z
            | inr s ↦
                let a : row_at next i ≡ row_at now i = ap (λ (rs : List (Row UnitState)). row_at rs i) e ∙ get_or-set_other now c i (with_list k Y (row_at now c)) (empty_row 0) s.1 in
                let t : in_row m (seen_row number_of (row_at next i)) ≡ in_row m (seen_row number_of (row_at now i)) = ap (λ (r : Row UnitState). in_row m (seen_row number_of r)) a in
                omega (arith, t, q m, p.fresh m i)
          ];
    }

pub fresh-many : (n i : ℕ) (ps rest : List UnitState) (now : List (Row UnitState)) → in_row n (seen_row number_of (row_at now i)) + times n (map number_of (ps ++ rest)) ≤ 1 → in_row n (seen_row number_of (row_at now i)) + times n (map number_of ps) ≤ 1
fresh-many n i ps rest now h =
    let q : times n (map number_of (ps ++ rest)) ≡ times n (map number_of ps) + times n (map number_of rest) = ap (times n) (map-append number_of ps rest) ∙ times-append n (map number_of ps) (map number_of rest) in
    omega (arith, q, h)

-- a list was turned over: the same numbers stand in the rows
pub turned-in : (c : ℕ) (k : Stack) (old now : List (Row UnitState)) → c < length old → now ≡ set old c (with_list k (reverse (list_at k (row_at old c))) (row_at old c)) → (n i : ℕ) → in_row n (seen_row number_of (row_at now i)) ≡ in_row n (seen_row number_of (row_at old i))
turned-in c k old now b e n i =
    let r = row_at old c in
    let L = list_at k r in
    elim (eqb_tells i c) [
      | inl s ↦
          let a : row_at now c ≡ with_list k (reverse L) r = ap (λ (rs : List (Row UnitState)). row_at rs c) e ∙ get_or-set_same old c (with_list k (reverse L) r) (empty_row 0) b in
          let d : seen_row number_of (row_at now c) ≡ with_list k (map number_of (reverse L)) (seen_row number_of r) = ap (seen_row number_of) a ∙ seen-with number_of k (reverse L) r in
          let f = in-with n k (map number_of (reverse L)) (seen_row number_of r) in
          let g : times n (list_at k (seen_row number_of r)) ≡ times n (map number_of L) = ap (times n) (sym (seen-in number_of k r)) in
          let w : times n (map number_of (reverse L)) ≡ times n (map number_of L) = ap (times n) (map-reverse number_of L) ∙ times-reverse n (map number_of L) in
          let t : in_row n (seen_row number_of (row_at now c)) ≡ in_row n (with_list k (map number_of (reverse L)) (seen_row number_of r)) = ap (in_row n) d in
          let z : in_row n (seen_row number_of (row_at now c)) ≡ in_row n (seen_row number_of (row_at old c)) = omega (arith, t, f, g, w) in
          subst (λ (j : ℕ). in_row n (seen_row number_of (row_at now j)) ≡ in_row n (seen_row number_of (row_at old j))) (sym s.1) z
      | inr s ↦
          ap (λ (rs : List (Row UnitState)). in_row n (seen_row number_of (row_at rs i))) e ∙ ap (λ (x : Row UnitState). in_row n (seen_row number_of x)) (get_or-set_other old c i (with_list k (reverse L) r) (empty_row 0) s.1)
    ]

pub two-turns : (xs ys : List UnitState) → reverse (reverse ys ++ reverse xs) ≡ xs ++ ys
two-turns xs ys = reverse-append (reverse ys) (reverse xs) ∙ ap (λ (zs : List UnitState). zs ++ reverse (reverse ys)) (reverse-reverse xs) ∙ ap (λ (zs : List UnitState). xs ++ zs) (reverse-reverse ys)

pub seven-below : (a b c d e f g h : List UnitState) → a ++ (b ++ (c ++ (d ++ (e ++ (f ++ (g ++ h)))))) ≡ (a ++ (b ++ (c ++ (d ++ (e ++ (f ++ g)))))) ++ h
seven-below a b c d e f g h =
    rw (append_assoc a (b ++ (c ++ (d ++ (e ++ (f ++ g))))) h, append_assoc b (c ++ (d ++ (e ++ (f ++ g)))) h, append_assoc c (d ++ (e ++ (f ++ g))) h, append_assoc d (e ++ (f ++ g)) h, append_assoc e (f ++ g) h, append_assoc f g h) refl
