-- What a look-up among declarations finds.
use Rattle.std.specs.Bool.{one_answer}
use Rattle.std.proofs.Common.{◌||◌, ◌≡◌, ℕ, suc, ◌+◌, not, get_or, ◌<◌, ◌≤◌, Bool, true, false, cond, ltb, List, [], ◌∷◌, length, refl, sym, ap, ◌∙◌, arith, Option, Some, None, inl, inr}
use Rattle.std.specs.Prelude.{map, slice_get, position, find, is_some, option_map}
use Rattle.std.specs.List.{list_any, position_or_len}
use Rattle.std.specs.Str.{bytes_eq}
use Rattle.std.proofs.lemmas.Option.{slice_get_cases, slice_get-map, slice_get_read}
use Rattle.std.proofs.lemmas.List.Folds.{find_at}
use Rattle.std.proofs.lemmas.Slice.Eq.{bytes_eq-Decides}
use Rattle.std.proofs.lemmas.Bool.Decides.{nat_tests}
use Rattle.bm_lang.specs.declared.scenario.TypeDeclaration.{TypeDeclaration}
use Rattle.bm_lang.specs.declared.scenario.MapDeclaration.{MapDeclaration}
use Rattle.bm_lang.specs.declared.scenario.Script.{Script}
use Rattle.bm_lang.specs.Names.{type_named, map_named, script_named}
use Rattle.bm_lang.specs.Spelling.{type_form, map_form, script_form}
use Rattle.bm_lang.proofs.Scanning.{bool_cases}

pub record Found {X : Type 0} (p : X → Bool) (xs : List X) (i : ℕ) (x : X) : Type 0 where
  pub at : slice_get xs i ≡ Some x
  pub first : find p xs ≡ Some x
  pub fits : p x ≡ true

chosen : (b : Bool) (m i : ℕ) → cond b (Some m) None ≡ Some i → (b ≡ true) × (m ≡ i)
chosen true m i h = (refl, cc)
chosen false m i h = cc

left_out : (b : Bool) (m : ℕ) → cond b (Some m) None ≡ None → b ≡ false
left_out true m h = cc
left_out false m h = refl

find_passes : {X : Type 0} (p : X → Bool) (xs : List X) (x : X) → find p xs ≡ Some x → p x ≡ true
find_passes p [] x h = cc
find_passes p (y ∷ xs) x h =
    bool_cases (p y)
    (λ e. let k : Some y ≡ Some x = sym (ap (λ b. cond b (Some y) (find p xs)) e) ∙ h in let s : y ≡ x = cc in ap p (sym s) ∙ e)
    (λ e. find_passes p xs x (sym (ap (λ b. cond b (Some y) (find p xs)) e) ∙ h))

pub found_at : {X : Type 0} (p : X → Bool) (xs : List X) (i : ℕ) → position p xs ≡ Some i → (x : X) × Found p xs i x
found_at p xs i h =
    let c = chosen (ltb (position_or_len p xs) (length xs)) (position_or_len p xs) i h in
    let lt : i < length xs = grind (arith, nat_tests, c.0, c.1) in
    let f : find p xs ≡ slice_get xs i = find_at p xs ∙ ap (slice_get xs) c.1 in
    elim (slice_get_cases xs i).1 [
      | inl w ↦ (w.0, record { at = w.2; first = f ∙ w.2; fits = find_passes p xs w.0 (f ∙ w.2) })
      | inr w ↦ absurd (omega (arith, w.0))
    ]

pub none_found : {X : Type 0} (p : X → Bool) (xs : List X) → position p xs ≡ None → find p xs ≡ None
none_found p xs h =
    let c = left_out (ltb (position_or_len p xs) (length xs)) (position_or_len p xs) h in
    let le : length xs ≤ position_or_len p xs = grind (arith, nat_tests, c) in
    let f : find p xs ≡ slice_get xs (position_or_len p xs) = find_at p xs in
    elim (slice_get_cases xs (position_or_len p xs)).1 [
      | inl w ↦ absurd (omega (arith, w.1))
      | inr w ↦ f ∙ w.1
    ]

place-map : {X Y : Type 0} (v : X → Y) (q : Y → Bool) (xs : List X) → position_or_len (λ x. q (v x)) xs ≡ position_or_len q (map v xs)
place-map v q [] = refl
place-map v q (x ∷ xs) = ap (λ (n : ℕ). cond (not (q (v x))) (1 + n) 0) (place-map v q xs)

length-mapped : {X Y : Type 0} (v : X → Y) (xs : List X) → length xs ≡ length (map v xs)
length-mapped v [] = refl
length-mapped v (x ∷ xs) = ap suc (length-mapped v xs)

pub position-map : {X Y : Type 0} (v : X → Y) (q : Y → Bool) (xs : List X) → position (λ x. q (v x)) xs ≡ position q (map v xs)
position-map v q xs =
    let a = place-map v q xs in
    let b = length-mapped v xs in
    ap (λ (n : ℕ). cond (ltb n (length xs)) (Some n) None) a ∙ ap (λ (n : ℕ). cond (ltb (position_or_len q (map v xs)) n) (Some (position_or_len q (map v xs))) None) b

-- what is found among declarations, seen as their forms
pub found_form : {X Y : Type 0} (v : X → Y) (q : Y → Bool) (xs : List X) (i : ℕ) → position (λ x. q (v x)) xs ≡ Some i → (y : Y) × Found q (map v xs) i y
found_form v q xs i h = found_at q (map v xs) i (sym (position-map v q xs) ∙ h)

pub none_form : {X Y : Type 0} (v : X → Y) (q : Y → Bool) (xs : List X) → position (λ x. q (v x)) xs ≡ None → find q (map v xs) ≡ None
none_form v q xs h = none_found q (map v xs) (sym (position-map v q xs) ∙ h)

-- whether something is found
pub is_form : {X Y : Type 0} (v : X → Y) (q : Y → Bool) (xs : List X) → is_some (find q (map v xs)) ≡ is_some (position (λ x. q (v x)) xs)
is_form v q xs = by_place (position (λ x. q (v x)) xs) refl
  where
    by_place : (o : Option ℕ) → position (λ x. q (v x)) xs ≡ o → is_some (find q (map v xs)) ≡ is_some o
    by_place None h = ap is_some (none_form v q xs h)
    by_place (Some i) h = ap is_some (found_form v q xs i h).1.first

-- the declaration at the place that was found
pub read_form : {X Y : Type 0} (v : X → Y) (xs : List X) (i : ℕ) (x : X) (y : Y) → x ≡ get_or xs i x → slice_get (map v xs) i ≡ Some y → y ≡ v x
read_form v xs i x y e h =
    elim (slice_get_cases xs i).1 [
      | inl w ↦
          let s : slice_get xs i ≡ Some x = slice_get_read xs (length xs) i x refl w.1 e in
          let t : Some y ≡ Some (v x) = sym h ∙ slice_get-map v xs i ∙ ap (option_map v) s in
          cc
      | inr w ↦
          let t : Some y ≡ None = sym h ∙ slice_get-map v xs i ∙ ap (option_map v) w.1 in
          cc
    ]

pub same_bytes : (a b : List ℕ) → bytes_eq a b ≡ true → a ≡ b
same_bytes a b h = (bytes_eq-Decides a b).0 h

none_any : {X : Type 0} (p q : X → Bool) (xs : List X) → ((x : X) → q x ≡ p x) → find p xs ≡ None → list_any q xs ≡ false
none_any p q [] s h = refl
none_any p q (x ∷ xs) s h =
    bool_cases (p x)
    (λ e. let k : Some x ≡ None = sym (ap (λ b. cond b (Some x) (find p xs)) e) ∙ h in cc)
    (λ e. rw (s x, e) (none_any p q xs s (sym (ap (λ b. cond b (Some x) (find p xs)) e) ∙ h)))

-- what no place was found for isn't there
pub absent_any : {X : Type 0} (p q : X → Bool) (xs : List X) → ((x : X) → q x ≡ p x) → position p xs ≡ None → list_any q xs ≡ false
absent_any p q xs s h = none_any p q xs s (none_found p xs h)

pub eq_swap : (a b : List ℕ) → bytes_eq a b ≡ bytes_eq b a
eq_swap a b = one_answer (bytes_eq a b) (bytes_eq b a) (bytes_eq-Decides a b) (λ h. sym ((bytes_eq-Decides b a).0 h), λ e. (bytes_eq-Decides b a).1 (sym e))

or_some : (b : Bool) (x : List ℕ) (o : Option (List ℕ)) → b || is_some o ≡ is_some (cond b (Some x) o)
or_some true x o = refl
or_some false x o = refl

any_found : (n : List ℕ) (xs : List (List ℕ)) → list_any (λ x. bytes_eq x n) xs ≡ is_some (find (λ x. bytes_eq x n) xs)
any_found n [] = refl
any_found n (x ∷ xs) = ap (λ t. bytes_eq x n || t) (any_found n xs) ∙ or_some (bytes_eq x n) x (find (λ x. bytes_eq x n) xs)

-- whether a name is among some
pub any_place : (n : List ℕ) (xs : List (List ℕ)) → list_any (λ x. bytes_eq x n) xs ≡ is_some (position (λ x. bytes_eq x n) xs)
any_place n xs = any_found n xs ∙ by_place (position (λ x. bytes_eq x n) xs) refl
  where
    by_place : (o : Option ℕ) → position (λ x. bytes_eq x n) xs ≡ o → is_some (find (λ x. bytes_eq x n) xs) ≡ is_some o
    by_place None h = ap is_some (none_found (λ x. bytes_eq x n) xs h)
    by_place (Some i) h = ap is_some (found_at (λ x. bytes_eq x n) xs i h).1.first

pub not_some : {X : Type 0} (o : Option X) → is_some o ≡ false → o ≡ None
not_some None h = refl
not_some (Some x) h = cc

same_if : {Y Z : Type 0} (t : Bool) (y : Y) (z : Z) (o : Option Y) (u : Option Z) → is_some o ≡ is_some u → is_some (cond t (Some y) o) ≡ is_some (cond t (Some z) u)
same_if true y z o u h = refl
same_if false y z o u h = h

same_find : {X Y Z : Type 0} (a : X → Y) (b : X → Z) (f : Y → Bool) (g : Z → Bool) (xs : List X) → ((x : X) → f (a x) ≡ g (b x)) → is_some (find f (map a xs)) ≡ is_some (find g (map b xs))
same_find a b f g [] s = refl
same_find a b f g (x ∷ xs) s = ap (λ t. is_some (cond t (Some (a x)) (find f (map a xs)))) (s x) ∙ same_if (g (b x)) (a x) (b x) (find f (map a xs)) (find g (map b xs)) (same_find a b f g xs s)

-- a name that no declared thing has is among none of their names
unplaced : {X Y : Type 0} (v : X → Y) (nm : X → List ℕ) (q : Y → Bool) (xs : List X) (names : List (List ℕ)) (m : List ℕ) → ((x : X) → bytes_eq (nm x) m ≡ q (v x)) → names ≡ map nm xs → is_some (find q (map v xs)) ≡ false → position (λ n. bytes_eq n m) names ≡ None
unplaced v nm q xs names m s e h =
    let k : is_some (find (λ n. bytes_eq n m) (map nm xs)) ≡ is_some (position (λ x. bytes_eq (nm x) m) xs) = is_form nm (λ n. bytes_eq n m) xs in
    let p : position (λ n. bytes_eq n m) names ≡ position (λ x. bytes_eq (nm x) m) xs = ap (position (λ n. bytes_eq n m)) e ∙ sym (position-map nm (λ n. bytes_eq n m) xs) in
    not_some (position (λ n. bytes_eq n m) names) (ap is_some p ∙ sym k ∙ same_find nm v (λ n. bytes_eq n m) q xs s ∙ h)

pub unplaced_type : (ts : List TypeDeclaration) (names : List (List ℕ)) (m : List ℕ) → names ≡ map (λ t. t.name) ts → is_some (type_named (map type_form ts) m) ≡ false → position (λ n. bytes_eq n m) names ≡ None
unplaced_type ts names m e h = unplaced type_form (λ (t : TypeDeclaration). t.name) (λ f. bytes_eq f.name m) ts names m (λ x. refl) e h

pub unplaced_map : (ms : List MapDeclaration) (names : List (List ℕ)) (m : List ℕ) → names ≡ map (λ t. t.name) ms → is_some (map_named (map map_form ms) m) ≡ false → position (λ n. bytes_eq n m) names ≡ None
unplaced_map ms names m e h = unplaced map_form (λ (t : MapDeclaration). t.name) (λ f. bytes_eq f.name m) ms names m (λ x. refl) e h

pub unplaced_script : (ss : List Script) (names : List (List ℕ)) (m : List ℕ) → names ≡ map (λ t. t.name) ss → is_some (script_named (map script_form ss) m) ≡ false → position (λ n. bytes_eq n m) names ≡ None
unplaced_script ss names m e h = unplaced script_form (λ (t : Script). t.name) (λ f. bytes_eq f.name m) ss names m (λ x. refl) e h
