-- Rows and the places that hold them.
use Rattle.std.proofs.Common.{◌≡◌, ◌≢◌, ℕ, zero, suc, ◌<◌, ◌≤◌, cond, true, false, List, [], ◌∷◌, ◌++◌, length, set, Option, Some, None, refl, sym, ap, ◌∙◌, subst, inl, inr, arith, append_assoc}
use Rattle.std.proofs.lemmas.Bool.{cases_eq, eq-eqb, ne_eqb}
use Rattle.std.proofs.Common.{get_or, Bor, is_some}
use Rattle.std.specs.Prelude.{option_copied}
use Rattle.std.proofs.lemmas.Option.{slice_get_read}
use Rattle.std.specs.Prelude.{slice_get}
use Rattle.bm_tree.specs.declared.arena.Slot.{Slot}
use Rattle.bm_tree.specs.declared.arena.Slot.TheVariants.{Free, Full}
use Rattle.bm_tree.specs.Shape.{count, Sorted}
use Rattle.bm_tree.specs.Row.{item_at, KeysAtMost, KeysAtLeast, KeysAbove, KeysAscend, PlacesDiffer}
use Rattle.bm_tree.specs.Rows.{key_in, key_of, full_in, item_in, row_in, rows, Chain}
use Rattle.bm_tree.proofs.Trees.{same-eq, same-cases, some_or_none}

module _ {T : Type 0} where
  pub get-set_same : (xs : List T) (p : ℕ) (v : T) → p < length xs → slice_get (set xs p v) p ≡ Some v
  get-set_same [] p v l = absurd (omega (arith, l))
  get-set_same (x ∷ xs) zero v l = refl
  get-set_same (x ∷ xs) (suc p) v l = get-set_same xs p v (omega (arith, l))

  pub get-set_other : (xs : List T) (p q : ℕ) (v : T) → q ≢ p → slice_get (set xs p v) q ≡ slice_get xs q
  get-set_other [] p q v d = refl
  get-set_other (x ∷ xs) zero zero v d = absurd (d refl)
  get-set_other (x ∷ xs) zero (suc q) v d = refl
  get-set_other (x ∷ xs) (suc p) zero v d = refl
  get-set_other (x ∷ xs) (suc p) (suc q) v d = get-set_other xs p q v (λ e. d (ap (λ n. suc n) e))

  pub get-push_same : (xs : List T) (v : T) → slice_get (xs ++ v ∷ []) (length xs) ≡ Some v
  get-push_same [] v = refl
  get-push_same (x ∷ xs) v = get-push_same xs v

  pub get-push_other : (xs : List T) (q : ℕ) (v : T) → q ≢ length xs → slice_get (xs ++ v ∷ []) q ≡ slice_get xs q
  get-push_other [] zero v d = absurd (d refl)
  get-push_other [] (suc q) v d = refl
  get-push_other (x ∷ xs) zero v d = refl
  get-push_other (x ∷ xs) (suc q) v d = get-push_other xs q v (λ e. d (ap (λ n. suc n) e))

  pub get_past : (xs : List T) (q : ℕ) → length xs ≤ q → slice_get xs q ≡ None
  get_past [] q l = refl
  get_past (x ∷ xs) zero l = absurd (omega (arith, l))
  get_past (x ∷ xs) (suc q) l = get_past xs q (omega (arith, l))

module _ {T : Type 0} where
  -- a slot that counts as full
  pub record IsFull (o : Option (Slot T)) : Type 0 where
    pub key : ℕ
    pub item : T
    pub is : o ≡ Some (Full key item)

  pub full_cases : (o : Option (Slot T)) → full_in o ≡ 1 → IsFull o
  full_cases (Some (Full k t)) e = record { key = k; item = t; is = refl }
  full_cases (Some (Free n)) e = absurd (omega (arith, e))
  full_cases None e = absurd (omega (arith, e))

  abbrev pub Filled : List (Slot T) → List ℕ → Type 0
  Filled slots xs = (q : ℕ) → 1 ≤ count q xs → full_in (slice_get slots q) ≡ 1

  pub filled_tail : (slots : List (Slot T)) (p : ℕ) (ps : List ℕ) → Filled slots (p ∷ ps) → Filled slots ps
  filled_tail slots p ps f = λ q i. f q (omega (arith, i))

  pub rows-append : (slots : List (Slot T)) (xs ys : List ℕ) → rows slots (xs ++ ys) ≡ rows slots xs ++ rows slots ys
  rows-append slots [] ys = refl
  rows-append slots (x ∷ xs) ys = ap (λ zs. row_in x (slice_get slots x) ++ zs) (rows-append slots xs ys) ∙ sym (append_assoc (row_in x (slice_get slots x)) (rows slots xs) (rows slots ys))

  pub rows-same : (old new : List (Slot T)) (xs : List ℕ) → ((q : ℕ) → 1 ≤ count q xs → slice_get new q ≡ slice_get old q) → rows new xs ≡ rows old xs
  rows-same old new [] e = refl
  rows-same old new (x ∷ xs) e =
      let first : slice_get new x ≡ slice_get old x = e x (omega (arith, same-eq x x refl)) in
      let rest : rows new xs ≡ rows old xs = rows-same old new xs (λ q i. e q (omega (arith, i))) in
      ap (λ o. row_in x o ++ rows new xs) first ∙ ap (λ zs. row_in x (slice_get old x) ++ zs) rest

  pub row_full : (slots : List (Slot T)) (p k : ℕ) (t : T) → slice_get slots p ≡ Some (Full k t) → row_in p (slice_get slots p) ≡ record { place = p; key = k; item = t } ∷ []
  row_full slots p k t e = ap (λ o. row_in p o) e

  pub rows-cons : (slots : List (Slot T)) (p k : ℕ) (t : T) (ps : List ℕ) → slice_get slots p ≡ Some (Full k t) → rows slots (p ∷ ps) ≡ record { place = p; key = k; item = t } ∷ rows slots ps
  rows-cons slots p k t ps e = ap (λ zs. zs ++ rows slots ps) (row_full slots p k t e)

  pub length-rows : (slots : List (Slot T)) (xs : List ℕ) → Filled slots xs → length (rows slots xs) ≡ length xs
  length-rows slots [] f = refl
  length-rows slots (x ∷ xs) f =
      let o = full_cases (slice_get slots x) (f x (omega (arith, same-eq x x refl))) in
      ap length (rows-cons slots x o.key o.item xs o.is) ∙ ap (λ n. suc n) (length-rows slots xs (filled_tail slots x xs f))

  pub item_at-absent : (slots : List (Slot T)) (xs : List ℕ) (p : ℕ) → Filled slots xs → count p xs ≡ 0 → item_at (rows slots xs) p ≡ None
  item_at-absent slots [] p f z = refl
  item_at-absent slots (x ∷ xs) p f z =
      let o = full_cases (slice_get slots x) (f x (omega (arith, same-eq x x refl))) in
      let other : x ≢ p = λ e. omega (arith, z, same-eq p x (sym e)) in
      ap (λ rs. item_at rs p) (rows-cons slots x o.key o.item xs o.is)
      ∙ ap (λ b. cond b (Some o.item) (item_at (rows slots xs) p)) (ne_eqb x p other)
      ∙ item_at-absent slots xs p (filled_tail slots x xs f) (omega (arith, z))

  pub item_at-present : (slots : List (Slot T)) (xs : List ℕ) (p : ℕ) → Filled slots xs → 1 ≤ count p xs → item_at (rows slots xs) p ≡ item_in (slice_get slots p)
  item_at-present slots [] p f i = absurd (omega (arith, i))
  item_at-present slots (x ∷ xs) p f i =
      let o = full_cases (slice_get slots x) (f x (omega (arith, same-eq x x refl))) in
      let opened = ap (λ rs. item_at rs p) (rows-cons slots x o.key o.item xs o.is) in
      elim (same-cases p x) [
        | inl e ↦
            opened ∙ ap (λ b. cond b (Some o.item) (item_at (rows slots xs) p)) (eq-eqb x p (sym e.0))
            ∙ sym (ap (λ z. item_in (slice_get slots z)) e.0 ∙ ap item_in o.is)
        | inr d ↦
            opened ∙ ap (λ b. cond b (Some o.item) (item_at (rows slots xs) p)) (ne_eqb x p (λ e. d.0 (sym e)))
            ∙ item_at-present slots xs p (filled_tail slots x xs f) (omega (arith, i, d.1))
      ]

  item_empty : (o : Option (Slot T)) → full_in o ≡ 0 → item_in o ≡ None
  item_empty (Some (Full k t)) e = absurd (omega (arith, e))
  item_empty (Some (Free n)) e = refl
  item_empty None e = refl

  -- the item at a place of the arena is the one that the rows have
  pub item_at-rows : (slots : List (Slot T)) (xs : List ℕ) (p : ℕ) → ((q : ℕ) → count q xs ≡ full_in (slice_get slots q)) → ((q : ℕ) → count q xs ≤ 1) → item_at (rows slots xs) p ≡ item_in (slice_get slots p)
  item_at-rows slots xs p full once =
      let f : Filled slots xs = λ q i. omega (arith, full q, once q, i) in
      elim (some_or_none (count p xs)) [
        | inl i ↦ item_at-present slots xs p f i
        | inr z ↦ item_at-absent slots xs p f z ∙ sym (item_empty (slice_get slots p) (omega (arith, full p, z)))
      ]

  key_full : (slots : List (Slot T)) (p k : ℕ) (t : T) → slice_get slots p ≡ Some (Full k t) → key_of slots p ≡ k
  key_full slots p k t e = ap key_in e

  pub rows-low : (slots : List (Slot T)) (xs : List ℕ) (key : ℕ) → Filled slots xs → ((q : ℕ) → 1 ≤ count q xs → key_of slots q ≤ key) → KeysAtMost key (rows slots xs)
  rows-low slots [] key f low = tt
  rows-low slots (x ∷ xs) key f low =
      let o = full_cases (slice_get slots x) (f x (omega (arith, same-eq x x refl))) in
      let at = low x (omega (arith, same-eq x x refl)) in
      subst (KeysAtMost key) (sym (rows-cons slots x o.key o.item xs o.is))
      (omega (arith, at, key_full slots x o.key o.item o.is), rows-low slots xs key (filled_tail slots x xs f) (λ q i. low q (omega (arith, i))))

  pub rows-high : (slots : List (Slot T)) (xs : List ℕ) (key : ℕ) → Filled slots xs → ((q : ℕ) → 1 ≤ count q xs → key < key_of slots q) → KeysAbove key (rows slots xs)
  rows-high slots [] key f high = tt
  rows-high slots (x ∷ xs) key f high =
      let o = full_cases (slice_get slots x) (f x (omega (arith, same-eq x x refl))) in
      let at = high x (omega (arith, same-eq x x refl)) in
      subst (KeysAbove key) (sym (rows-cons slots x o.key o.item xs o.is))
      (omega (arith, at, key_full slots x o.key o.item o.is), rows-high slots xs key (filled_tail slots x xs f) (λ q i. high q (omega (arith, i))))

  -- the chain of free places
  pub chain_free : (slots : List (Slot T)) (at : ℕ) (xs : List ℕ) (q : ℕ) → Chain slots at xs → 1 ≤ count q xs → full_in (slice_get slots q) ≡ 0
  chain_free slots at [] q c i = absurd (omega (arith, i))
  chain_free slots at (x ∷ xs) q c i =
      elim (same-cases q x) [
        | inl e ↦ ap (λ z. full_in (slice_get slots z)) e.0 ∙ ap full_in c.1.1
        | inr d ↦ chain_free slots c.1.0 xs q c.1.2 (omega (arith, i, d.1))
      ]

  pub Chain-same : (old new : List (Slot T)) (at : ℕ) (xs : List ℕ) → ((q : ℕ) → 1 ≤ count q xs → slice_get new q ≡ slice_get old q) → Chain old at xs → Chain new at xs
  Chain-same old new at [] e c = c
  Chain-same old new at (x ∷ xs) e c =
      (c.0, (c.1.0, e x (omega (arith, same-eq x x refl)) ∙ c.1.1, Chain-same old new c.1.0 xs (λ q i. e q (omega (arith, i))) c.1.2))

  -- what a read of a slot and a `replace` say together
  pub slot_read : (slots : List (Slot T)) (p : ℕ) (x y z : Slot T) → p < length slots → x ≡ get_or slots p x → y ≡ get_or slots p x → y ≡ z → slice_get slots p ≡ Some z
  slot_read slots p x y z l e f h = slice_get_read slots (length slots) p x refl l e ∙ ap Some (e ∙ sym f ∙ h)

  pub free_full : (o : Option (Slot T)) (n k : ℕ) (t : T) → o ≡ Some (Free n) → o ≡ Some (Full k t) → ⊥
  free_full o n k t e f = cc

  pub full_free : (o : Option (Slot T)) (n : ℕ) → full_in o ≡ 1 → o ≡ Some (Free n) → ⊥
  full_free o n e f = omega (arith, e, ap full_in f)

  pub some_full : (r : Option (Bor T)) (o : Option (Slot T)) → option_copied r ≡ item_in o → is_some r ≡ true → full_in o ≡ 1
  some_full r (Some (Full k t)) e i = refl
  some_full (Some b) (Some (Free n)) e i = absurd (cc)
  some_full (Some b) None e i = absurd (cc)
  some_full None (Some (Free n)) e i = absurd (cc)
  some_full None None e i = absurd (cc)

  pub none_free : (r : Option (Bor T)) (o : Option (Slot T)) → option_copied r ≡ item_in o → is_some r ≡ false → item_in o ≡ None
  none_free None o e i = sym e
  none_free (Some b) o e i = absurd (cc)

  pub full_within : (os : List (Slot T)) (q : ℕ) → full_in (slice_get os q) ≡ 1 → q < length os
  full_within [] q e = absurd (omega (arith, e))
  full_within (o ∷ os) zero e = omega arith
  full_within (o ∷ os) (suc q) e = omega (arith, full_within os q e)

  rows-least : (slots : List (Slot T)) (xs : List ℕ) (key : ℕ) → Filled slots xs → ((q : ℕ) → 1 ≤ count q xs → key ≤ key_of slots q) → KeysAtLeast key (rows slots xs)
  rows-least slots [] key f low = tt
  rows-least slots (x ∷ xs) key f low =
      let o = full_cases (slice_get slots x) (f x (omega (arith, same-eq x x refl))) in
      let at = low x (omega (arith, same-eq x x refl)) in
      subst (KeysAtLeast key) (sym (rows-cons slots x o.key o.item xs o.is))
      (omega (arith, at, key_full slots x o.key o.item o.is), rows-least slots xs key (filled_tail slots x xs f) (λ q i. low q (omega (arith, i))))

  pub rows-ascend : (slots : List (Slot T)) (xs : List ℕ) → Filled slots xs → Sorted (key_of slots) xs → KeysAscend (rows slots xs)
  rows-ascend slots [] f s = tt
  rows-ascend slots (x ∷ xs) f s =
      let o = full_cases (slice_get slots x) (f x (omega (arith, same-eq x x refl))) in
      let tail = filled_tail slots x xs f in
      subst KeysAscend (sym (rows-cons slots x o.key o.item xs o.is))
      (rows-least slots xs o.key tail (λ q i. omega (arith, s.0 q i, key_full slots x o.key o.item o.is)), rows-ascend slots xs tail s.1)

  pub rows-differ : (slots : List (Slot T)) (xs : List ℕ) → Filled slots xs → ((q : ℕ) → count q xs ≤ 1) → PlacesDiffer (rows slots xs)
  rows-differ slots [] f once = tt
  rows-differ slots (x ∷ xs) f once =
      let o = full_cases (slice_get slots x) (f x (omega (arith, same-eq x x refl))) in
      let tail = filled_tail slots x xs f in
      subst PlacesDiffer (sym (rows-cons slots x o.key o.item xs o.is))
      (item_at-absent slots xs x tail (omega (arith, once x, same-eq x x refl)), rows-differ slots xs tail (λ q. omega (arith, once q)))

  -- no slot holds an item
  abbrev pub AllFree : List (Slot T) → Type 0
  AllFree slots = (q : ℕ) → full_in (slice_get slots q) ≡ 0

  pub free_front : (slots : List (Slot T)) (x : Slot T) → AllFree (slots ++ x ∷ []) → AllFree slots
  free_front slots x f q = elim (cases_eq q (length slots)) [
    | inl e ↦ ap full_in (get_past slots q (omega (arith, e)))
    | inr d ↦ sym (ap full_in (get-push_other slots q x d)) ∙ f q
  ]

  pub free_last : (slots : List (Slot T)) (k : ℕ) (t : T) → AllFree (slots ++ Full k t ∷ []) → ⊥
  free_last slots k t f = omega (arith, f (length slots), ap full_in (get-push_same slots (Full k t)))
