-- One graph of a shelf is lent and comes back.
use Rattle.std.proofs.Common.{◌≡◌, ◌≢◌, ◌∙◌, ℕ, zero, suc, ◌+◌, ◌<◌, List, [], ◌∷◌, ◌++◌, length, length-set, length-append, refl, sym, ap, inl, inr, Some, arith, set, slice_get, get_or}
use Rattle.std.proofs.lemmas.Bool.Decides.{eqb_tells}
use Rattle.std.proofs.lemmas.List.{get_or-set_other, get_or_append_left, get_or_push}
use Rattle.std.proofs.lemmas.Grind.{get_or-set_at}
use Rattle.bm_graph.specs.declared.graph.Graph.{Graph}
use Rattle.bm_graph.specs.Shelved.{is_tree, kinds_of}

-- lists of one length that have the same everywhere
same-each : {A : Type 0} (xs ys : List A) (d : A) → length xs ≡ length ys → ((k : ℕ) → k < length xs → get_or xs k d ≡ get_or ys k d) → xs ≡ ys
same-each [] [] d e h = refl
same-each [] (y ∷ ys) d e h = absurd (omega (arith, e))
same-each (x ∷ xs) [] d e h = absurd (omega (arith, e))
same-each (x ∷ xs) (y ∷ ys) d e h =
    let first : x ≡ y = h 0 (omega arith) in
    let rest = same-each xs ys d (omega (arith, e)) (λ k lt. h (suc k) (omega (arith, lt))) in
    ap (λ z. z ∷ xs) first ∙ ap (λ zs. y ∷ zs) rest

-- What was taken out of a place, the last one in its stead, comes back: at the end, and then it changes places with the one there.
pub put-back : {A : Type 0} (xs ys ws : List A) (i n : ℕ) (y : A) → n + 1 ≡ length xs → i < length xs → length ys ≡ n → ((d : A) → i + 1 < length xs → get_or ys i d ≡ get_or xs n d) → ((k : ℕ) (d : A) → k ≢ i → k + 1 < length xs → get_or ys k d ≡ get_or xs k d) → ws ≡ set (set (ys ++ y ∷ []) i (get_or (ys ++ y ∷ []) n y)) n (get_or (ys ++ y ∷ []) i y) → ws ≡ set xs i y
put-back {A} xs ys ws i n y count inside long at_place elsewhere is = is ∙ same-each left right y lengths each
  where
    zs : List A
    zs = ys ++ y ∷ []

    left : List A
    left = set (set zs i (get_or zs n y)) n (get_or zs i y)

    right : List A
    right = set xs i y

    long_zs : length zs ≡ n + 1
    long_zs = let h = length-append ys (y ∷ []) in omega (arith, h, long)

    lengths : length left ≡ length right
    lengths = length-set (set zs i (get_or zs n y)) n (get_or zs i y) ∙ (length-set zs i (get_or zs n y) ∙ (long_zs ∙ (count ∙ sym (length-set xs i y))))

    long_left : length left ≡ length xs
    long_left = lengths ∙ length-set xs i y

    last : get_or zs n y ≡ y
    last = get_or_push ys y y n long

    before : (k : ℕ) → k < n → get_or zs k y ≡ get_or ys k y
    before k lt = get_or_append_left ys (y ∷ []) y k (omega (arith, lt, long))

    each : (k : ℕ) → k < length left → get_or left k y ≡ get_or right k y
    each k lt = elim (eqb_tells k n) [
      | inl at_end ↦ (
          let k_is = at_end.1 in
          let here : get_or left k y ≡ get_or zs i y = get_or-set_at (set zs i (get_or zs n y)) n k (get_or zs i y) y k_is (let h = length-set zs i (get_or zs n y) in omega (arith, h, long_zs)) in
          elim (eqb_tells i n) [
            | inl same ↦ (here ∙ (ap (λ j. get_or zs j y) same.1 ∙ (last ∙ sym (get_or-set_at xs i k y y (k_is ∙ sym same.1) inside))))
            | inr apart ↦ (
                let low : i < n = (let ne = apart.1 in omega (arith, ne, inside, count)) in
                let ne : k ≢ i = (λ e. apart.1 (sym e ∙ k_is)) in
                here ∙ (before i low ∙ (at_place y (omega (arith, low, count)) ∙ (ap (λ j. get_or xs j y) (sym k_is) ∙ sym (get_or-set_other xs i k y y ne)))))
          ])
      | inr not_end ↦ (
          let low : k < n = (let ne = not_end.1 in omega (arith, ne, lt, long_left, count)) in
          let here : get_or left k y ≡ get_or (set zs i (get_or zs n y)) k y = get_or-set_other (set zs i (get_or zs n y)) n k (get_or zs i y) y not_end.1 in
          elim (eqb_tells k i) [
            | inl same ↦ (here ∙ (get_or-set_at zs i k (get_or zs n y) y same.1 (omega (arith, inside, count, long_zs)) ∙ (last ∙ sym (get_or-set_at xs i k y y same.1 inside))))
            | inr apart ↦ (here ∙ (get_or-set_other zs i k (get_or zs n y) y apart.1 ∙ (before k low ∙ (elsewhere k y apart.1 (omega (arith, low, count)) ∙ sym (get_or-set_other xs i k y y apart.1)))))
          ])
    ]

module _ {T : Type 0} where
  -- a graph that is put for one of its kind leaves all kinds
  pub kinds-set : (xs : List (Graph T × T)) (i : ℕ) (x y : Graph T × T) → slice_get xs i ≡ Some y → is_tree x.0 ≡ is_tree y.0 → kinds_of (set xs i x) ≡ kinds_of xs
  kinds-set [] i x y at same = refl
  kinds-set (z ∷ zs) zero x y at same = (let h : z ≡ y = cc in ap (λ b. b ∷ kinds_of zs) (same ∙ ap (λ (w : Graph T × T). is_tree w.0) (sym h)))
  kinds-set (z ∷ zs) (suc i) x y at same = ap (λ bs. is_tree z.0 ∷ bs) (kinds-set zs i x y at same)
