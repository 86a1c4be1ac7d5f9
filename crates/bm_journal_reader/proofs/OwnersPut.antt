-- Names among vectors.
use Rattle.std.proofs.Common.{◌≡◌, ℕ, zero, suc, ◌+◌, ◌<◌, ◌≤◌, Bool, true, false, cond, not, ◌||◌, ◌&&◌, List, [], ◌∷◌, ◌++◌, Option, Some, None, length, take, drop, get_or, refl, sym, ap, ◌∙◌, ◌^◌, Bor, ltb, arith, add-one}
use Rattle.std.proofs.lemmas.Slice.Eq.{bytes_eq-Decides}
use Rattle.std.specs.List.{list_any, position_or_len}
use Rattle.std.specs.Prelude.{position, nat_lt, map}
use Rattle.std.specs.Str.{bytes_eq}
use Rattle.bm_journal.specs.WellFormed.{all_differ}
use Rattle.bm_journal_reader.specs.Pieces.{texts}
use Rattle.bm_law_text.specs.Parts.{after, only_if}
use Rattle.bm_law_text.specs.Reading.{owner_place}
use Rattle.bm_journal_reader.specs.Owning.{Puts}

abbrev pub below_byte : Option ℕ → Option ℕ
below_byte o = after o (λ place. only_if (nat_lt place (2 ^ 8)) (Some place))

place_of : {V : Type 0} (v : V → List ℕ) (p : List ℕ → Bool) (xs : List V) → position_or_len p (map v xs) ≡ position_or_len (λ x. p (v x)) xs
place_of v p [] = refl
place_of v p (x ∷ xs) = ap (λ n. cond (not (p (v x))) (1 + n) 0) (place_of v p xs)

length_of : {V : Type 0} (v : V → List ℕ) (xs : List V) → length (map v xs) ≡ length xs
length_of v [] = refl
length_of v (x ∷ xs) = ap suc (length_of v xs)

pub owner_texts : {V : Type 0} (v : V → List ℕ) (ks : List V) (w : List ℕ) → owner_place (map v ks) w ≡ below_byte (position (λ k. bytes_eq w (v k)) ks)
unfolding owner_place
owner_texts v ks w =
    let p : List ℕ → Bool = λ m. bytes_eq w m in
    ap below_byte (ap (λ (n : ℕ). cond (ltb n (length (map v ks))) (Some n) None) (place_of v p ks) ∙ ap (λ (n : ℕ). cond (ltb (position_or_len (λ x. p (v x)) ks) n) (Some (position_or_len (λ x. p (v x)) ks)) None) (length_of v ks))

any_texts : {V : Type 0} (v : V → List ℕ) (p : List ℕ → Bool) (ks : List V) → list_any p (map v ks) ≡ list_any (λ k. p (v k)) ks
any_texts v p [] = refl
any_texts v p (k ∷ ks) = ap (λ b. p (v k) || b) (any_texts v p ks)

texts_push : {V : Type 0} (v : V → List ℕ) (ks : List V) (n : V) → map v (ks ++ n ∷ []) ≡ map v ks ++ v n ∷ []
texts_push v [] n = refl
texts_push v (k ∷ ks) n = ap (λ ts. v k ∷ ts) (texts_push v ks n)

pub puts : {V : Type 0} (v : V → List ℕ) (ks : List V) (n : V) (new : List V) (d : Bool) → d ≡ not (list_any (λ k. bytes_eq (v n) (v k)) ks) → new ≡ cond (list_any (λ k. bytes_eq (v n) (v k)) ks) ks (ks ++ n ∷ []) → Puts d (map v ks) (v n) (map v new)
puts {V} v ks n new d told made =
    let any = any_texts v (bytes_eq (v n)) ks in
    let test = list_any (λ k. bytes_eq (v n) (v k)) ks in
    let case : (b : Bool) (d : Bool) → test ≡ b → d ≡ not b → new ≡ cond b ks (ks ++ n ∷ []) → Puts d (map v ks) (v n) (map v new) = λ b.
    elim b as (λ b. (d : Bool) → test ≡ b → d ≡ not b → new ≡ cond b ks (ks ++ n ∷ []) → Puts d (map v ks) (v n) (map v new)) [
      | true ↦ λ d. elim d as (λ d. test ≡ true → d ≡ false → new ≡ ks → Puts d (map v ks) (v n) (map v new))
          [ true ↦ λ e f g. absurd (cc) | false ↦ λ e f g. any ∙ e ]
      | false ↦ λ d. elim d as (λ d. test ≡ false → d ≡ true → new ≡ ks ++ n ∷ [] → Puts d (map v ks) (v n) (map v new))
          [ true ↦ λ e f g. (any ∙ e, ap (map v) g ∙ texts_push v ks n) | false ↦ λ e f g. absurd (cc) ]
    ]
    in case test d refl told made

-- ---- names put one after the other differ

both : (a b : Bool) → (a && b) ≡ true → (a ≡ true) × (b ≡ true)
both true b h = (refl, h)
both false b h = cc

neither : (a b : Bool) → (a || b) ≡ false → (a ≡ false) × (b ≡ false)
neither true b h = cc
neither false b h = (refl, h)

no_not : (a : Bool) → not a ≡ true → a ≡ false
no_not true h = cc
no_not false h = refl

swapped : (x w : List ℕ) → bytes_eq x w ≡ false → bytes_eq w x ≡ false
swapped x w apart =
    let case : (b : Bool) → bytes_eq w x ≡ b → bytes_eq w x ≡ false = λ b.
    elim b as (λ b. bytes_eq w x ≡ b → bytes_eq w x ≡ false) [
      | true ↦ λ e. let same : w ≡ x = (bytes_eq-Decides w x).0 e in let yes : bytes_eq x w ≡ true = (bytes_eq-Decides x w).1 (sym same) in cc
      | false ↦ λ e. e
    ]
    in case (bytes_eq w x) refl

any_push : (x w : List ℕ) (xs : List (List ℕ)) → list_any (bytes_eq x) xs ≡ false → bytes_eq x w ≡ false → list_any (bytes_eq x) (xs ++ w ∷ []) ≡ false
any_push x w [] none other = rw other refl
any_push x w (y ∷ xs) none other =
    let h = neither (bytes_eq x y) (list_any (bytes_eq x) xs) none in
    rw h.0 (any_push x w xs h.1 other)

pub differ-push : (xs : List (List ℕ)) (w : List ℕ) → all_differ xs ≡ true → list_any (bytes_eq w) xs ≡ false → all_differ (xs ++ w ∷ []) ≡ true
differ-push [] w d n = refl
differ-push (x ∷ xs) w d n =
    let ds = both (not (list_any (bytes_eq x) xs)) (all_differ xs) d in
    let ns = neither (bytes_eq w x) (list_any (bytes_eq w) xs) n in
    rw (any_push x w xs (no_not (list_any (bytes_eq x) xs) ds.0) (swapped w x ns.0)) (differ-push xs w ds.1 ns.1)

any_has : (x w : List ℕ) (xs rest : List (List ℕ)) → x ≡ w → list_any (bytes_eq x) (xs ++ w ∷ rest) ≡ true
any_has x w [] rest e = rw ((bytes_eq-Decides x w).1 e) refl
any_has x w (y ∷ xs) rest e = rw (any_has x w xs rest e) (or_true (bytes_eq x y))
  where
    or_true : (b : Bool) → (b || true) ≡ true
    or_true true = refl
    or_true false = refl

and_false : (b : Bool) → (b && false) ≡ false
and_false true = refl
and_false false = refl

pub differ-over : (xs rest : List (List ℕ)) (w : List ℕ) → list_any (bytes_eq w) xs ≡ true → all_differ (xs ++ w ∷ rest) ≡ false
differ-over [] rest w h = cc
differ-over (x ∷ xs) rest w h =
    let case : (b : Bool) → bytes_eq w x ≡ b → (b || list_any (bytes_eq w) xs) ≡ true → all_differ ((x ∷ xs) ++ w ∷ rest) ≡ false = λ b.
    elim b as (λ b. bytes_eq w x ≡ b → (b || list_any (bytes_eq w) xs) ≡ true → all_differ ((x ∷ xs) ++ w ∷ rest) ≡ false) [
      | true ↦ λ e h. rw (any_has x w xs rest (sym ((bytes_eq-Decides w x).0 e))) refl
      | false ↦ λ e h. rw (differ-over xs rest w h) (and_false (not (list_any (bytes_eq x) (xs ++ w ∷ rest))))
    ]
    in case (bytes_eq w x) refl h

-- a slice among others
pub texts-cut : (xs : List (Bor (List ℕ))) (i : ℕ) (d : Bor (List ℕ)) → i < length xs → texts xs ≡ texts (take i xs) ++ (get_or xs i d).now ∷ texts (drop (i + 1) xs)
texts-cut [] i d lt = absurd (omega arith)
texts-cut (x ∷ xs) zero d lt = refl
texts-cut (x ∷ xs) (suc i) d lt = rw add-one (ap (λ ts. x.now ∷ ts) (texts-cut xs i d (omega arith) ∙ rw add-one refl))

more_suc : (xs : List (Bor (List ℕ))) (i : ℕ) (d : Bor (List ℕ)) → i < length xs → texts (take (suc i) xs) ≡ texts (take i xs) ++ (get_or xs i d).now ∷ []
more_suc [] i d lt = absurd (omega arith)
more_suc (x ∷ xs) zero d lt = refl
more_suc (x ∷ xs) (suc i) d lt = ap (λ ts. x.now ∷ ts) (more_suc xs i d (omega arith))

pub texts-more : (xs : List (Bor (List ℕ))) (i : ℕ) (d : Bor (List ℕ)) → i < length xs → texts (take (i + 1) xs) ≡ texts (take i xs) ++ (get_or xs i d).now ∷ []
texts-more xs i d lt = rw add-one (more_suc xs i d lt)

-- what a put says of a name that differs, or doesn't
pub put-yes : (d : Bool) (xs ys : List (List ℕ)) (w : List ℕ) → d ≡ true → Puts d xs w ys → (list_any (bytes_eq w) xs ≡ false) × (ys ≡ xs ++ w ∷ [])
put-yes true xs ys w e h = h
put-yes false xs ys w e h = absurd (cc)

pub put-no : (d : Bool) (xs ys : List (List ℕ)) (w : List ℕ) → d ≡ false → Puts d xs w ys → list_any (bytes_eq w) xs ≡ true
put-no true xs ys w e h = absurd (cc)
put-no false xs ys w e h = h

pub take_all : {A : Type 0} (xs : List A) (i : ℕ) → length xs ≤ i → take i xs ≡ xs
take_all [] zero le = refl
take_all [] (suc i) le = refl
take_all (x ∷ xs) zero le = absurd (omega arith)
take_all (x ∷ xs) (suc i) le = rw (take_all xs i (omega arith)) refl

pub differ-kept : (ws : List (Bor (List ℕ))) (i : ℕ) (d : Bor (List ℕ)) (owners new : List (List ℕ)) (b : Bool) → i < length ws → (owners ≡ texts (take i ws)) × (all_differ (texts (take i ws)) ≡ true) → b ≡ true → Puts b owners (get_or ws i d).now new → (new ≡ texts (take (i + 1) ws)) × (all_differ (texts (take (i + 1) ws)) ≡ true)
differ-kept ws i d owners new b lt so e put =
    let w = (get_or ws i d).now in
    let more = texts-more ws i d lt in
    let h = put-yes b owners new w e put in
    let apart = ap (list_any (bytes_eq w)) (sym so.0) ∙ h.0 in
    (h.1 ∙ ap (λ xs. xs ++ w ∷ []) so.0 ∙ sym more, ap all_differ more ∙ differ-push (texts (take i ws)) w so.1 apart)
