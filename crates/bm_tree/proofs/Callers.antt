-- What a caller can use of an insert and of a take.
use Rattle.std.proofs.Common.{◌≡◌, ℕ, ◌+◌, cond, List, [], ◌∷◌, ◌++◌, length, Some, None, refl, sym, ap, ◌∙◌, arith, length-append}
use Rattle.std.proofs.Common.{inl, inr, ◌-◌, ◌≤◌, min, subst, true, false, Option}
use Rattle.std.specs.Prelude.{option_map, IfSome, MatchOption, OnErr, is_err, Result, Ok, Err}
use Rattle.std.proofs.lemmas.Bool.{eq-eqb, cases_Bool}
use Rattle.std.proofs.lemmas.List.{nil_from_length}
use Rattle.std.specs.Prelude.{◌==◌}
use Rattle.bm_tree.specs.Row.{Row, first_place, item_at, Inserted, Taken, IsFirst, PlacesDiffer}

module _ {T : Type 0} where
  pub Inserted-length : (old new : List (Row T)) (p k : ℕ) (t : T) → Inserted old new p k t → length new ≡ length old + 1
  Inserted-length old new p k t i =
      omega (arith, ap length i.was, ap length i.is, length-append i.before i.after, length-append i.before (record { place = p; key = k; item = t } ∷ i.after))

  pub Taken-length : (old new : List (Row T)) (p k : ℕ) (t : T) → Taken old new p k t → length old ≡ length new + 1
  Taken-length old new p k t i =
      omega (arith, ap length i.was, ap length i.is, length-append i.before i.after, length-append i.before (record { place = p; key = k; item = t } ∷ i.after))

  item_past : (xs ys : List (Row T)) (p k : ℕ) (t : T) → item_at (xs ++ ys) p ≡ None → item_at (xs ++ record { place = p; key = k; item = t } ∷ ys) p ≡ Some t
  item_past [] ys p k t e = ap (λ b. cond b (Some t) (item_at ys p)) (eq-eqb p p refl)
  item_past (x ∷ xs) ys p k t e = elim (cases_Bool (x.place == p)) [
    | inl same ↦ absurd (some_none x.item (sym (ap (λ b. cond b (Some x.item) (item_at (xs ++ ys) p)) same) ∙ e))
    | inr other ↦
        ap (λ b. cond b (Some x.item) (item_at (xs ++ record { place = p; key = k; item = t } ∷ ys) p)) other
        ∙ item_past xs ys p k t (sym (ap (λ b. cond b (Some x.item) (item_at (xs ++ ys) p)) other) ∙ e)
  ]
    where
      some_none : (t : T) → Some t ≡ None → ⊥
      some_none t e = cc

  -- the item is at its place
  pub Inserted-item : (old new : List (Row T)) (p k : ℕ) (t : T) → Inserted old new p k t → item_at new p ≡ Some t
  Inserted-item old new p k t i =
      ap (λ rs. item_at rs p) i.is ∙ item_past i.before i.after p k t (sym (ap (λ rs. item_at rs p) i.was) ∙ i.was_free)

  -- one item in an empty tree, and out again
  pub in_and_out : (one none_left : List (Row T)) (p q k l : ℕ) (t u : T) → Inserted [] one p k t → Taken one none_left q l u → none_left ≡ []
  in_and_out one none_left p q k l t u i j =
      nil_from_length none_left (omega (arith, Inserted-length [] one p k t i, Taken-length one none_left q l u j))

  first_item : (r : Row T) (rs : List (Row T)) (p : ℕ) → r.place ≡ p → item_at (r ∷ rs) p ≡ Some r.item
  first_item r rs p e = ap (λ b. cond b (Some r.item) (item_at rs p)) (eq-eqb r.place p e)

  later_item : (xs ys : List (Row T)) (p k : ℕ) (t : T) → item_at (xs ++ record { place = p; key = k; item = t } ∷ ys) p ≡ None → ⊥
  later_item [] ys p k t e = absurd (some_none t (sym (first_item (record { place = p; key = k; item = t }) ys p refl) ∙ e))
    where
      some_none : (t : T) → Some t ≡ None → ⊥
      some_none t e = cc
  later_item (x ∷ xs) ys p k t e = elim (cases_Bool (x.place == p)) [
    | inl same ↦ absurd (some_none x.item (sym (ap (λ b. cond b (Some x.item) (item_at (xs ++ record { place = p; key = k; item = t } ∷ ys) p)) same) ∙ e))
    | inr other ↦ later_item xs ys p k t (sym (ap (λ b. cond b (Some x.item) (item_at (xs ++ record { place = p; key = k; item = t } ∷ ys) p)) other) ∙ e)
  ]
    where
      some_none : (t : T) → Some t ≡ None → ⊥
      some_none t e = cc

  -- nothing stands before the row at the first place
  nothing_before : (before after : List (Row T)) (p k : ℕ) (t : T) → first_place (before ++ record { place = p; key = k; item = t } ∷ after) ≡ Some p → PlacesDiffer (before ++ record { place = p; key = k; item = t } ∷ after) → before ≡ []
  nothing_before [] after p k t e d = refl
  nothing_before (b ∷ bs) after p k t e d =
      let at : b.place ≡ p = cc in
      absurd (later_item bs after p k t (subst (λ (x : ℕ). item_at (bs ++ record { place = p; key = k; item = t } ∷ after) x ≡ None) at d.0))

  -- what is taken at the first place is the first row
  pub Taken-first : (old new : List (Row T)) (p k : ℕ) (t : T) → first_place old ≡ Some p → PlacesDiffer old → Taken old new p k t → IsFirst old new (k, t)
  Taken-first old new p k t e d i =
      let none_before : i.before ≡ [] = nothing_before i.before i.after p k t (subst (λ (rs : List (Row T)). first_place rs ≡ Some p) i.was e) (subst PlacesDiffer i.was d) in
      (p, i.was ∙ ap (λ xs. xs ++ record { place = p; key = k; item = t } ∷ i.after) none_before ∙ ap (λ rs. record { place = p; key = k; item = t } ∷ rs) (sym (i.is ∙ ap (λ xs. xs ++ i.after) none_before)))

  pub first_absent : (rs : List (Row T)) → first_place rs ≡ None → rs ≡ []
  first_absent [] e = refl
  first_absent (r ∷ rs) e = absurd (cc)

  first_present : (rs : List (Row T)) (p : ℕ) → first_place rs ≡ Some p → item_at rs p ≡ None → ⊥
  first_present [] p e n = cc
  first_present (r ∷ rs) p e n = some_none r.item (sym (first_item r rs p (cc)) ∙ n)
    where
      some_none : (t : T) → Some t ≡ None → ⊥
      some_none t e = cc

  -- what `take` answers at the first place
  pub popped_first : (old new : List (Row T)) (p : ℕ) (r : Option (ℕ × T)) → first_place old ≡ Some p → PlacesDiffer old → option_map (λ (x : ℕ × T). x.1) r ≡ item_at old p → IfSome r (λ (x : ℕ × T). Taken old new p x.0 x.1) → MatchOption r (old ≡ []) (IsFirst old new)
  popped_first old new p None e d v i = absurd (first_present old p e (sym v))
  popped_first old new p (Some x) e d v i = Taken-first old new p x.0 x.1 e d i

pub no_room_left : (a b n : ℕ) → a ≤ n → min a b - n ≡ 0
no_room_left a b n l = omega arith

pub no_room_right : (a b n : ℕ) → b ≤ n → min a b - n ≡ 0
no_room_right a b n l = omega arith

pub err_then : {A E : Type 0} (r : Result A E) (P : Type 0) → is_err r ≡ true → OnErr r P → P
err_then (Ok x) P e o = absurd (false_true e)
  where
    false_true : false ≡ true → ⊥
    false_true e = cc
err_then (Err x) P e o = o
