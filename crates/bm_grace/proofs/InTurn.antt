-- One more word of each of two lists, in turn.
use Rattle.std.proofs.Common.{◌≡◌, ℕ, zero, suc, ◌+◌, ◌<◌, List, [], ◌∷◌, ◌++◌, length, take, slice_index, arith, ap, add-one}
use Rattle.std.proofs.lemmas.Grind.{common_steps}
use Rattle.bm_grace.specs.PlainState.{in_turn}

in_turn-suc : (n : ℕ) (xs ys : List ℕ) → n < length xs → n < length ys →
    in_turn (take (suc n) xs) (take (suc n) ys) ≡ (in_turn (take n xs) (take n ys) ++ slice_index xs n ∷ []) ++ slice_index ys n ∷ []
in_turn-suc n [] ys h k = absurd (omega arith)
in_turn-suc n (x ∷ xs) [] h k = absurd (omega arith)
in_turn-suc zero (x ∷ xs) (y ∷ ys) h k = grind (arith, common_steps)
in_turn-suc (suc n) (x ∷ xs) (y ∷ ys) h k =
    let deeper : in_turn (take (suc n) xs) (take (suc n) ys) ≡ (in_turn (take n xs) (take n ys) ++ slice_index xs n ∷ []) ++ slice_index ys n ∷ []
    = in_turn-suc n xs ys (omega arith) (omega arith) in
    ap (λ (l : List ℕ). x ∷ y ∷ l) deeper

pub in_turn-more : (n : ℕ) (xs ys : List ℕ) → n < length xs → n < length ys →
    in_turn (take (n + 1) xs) (take (n + 1) ys) ≡ (in_turn (take n xs) (take n ys) ++ slice_index xs n ∷ []) ++ slice_index ys n ∷ []
in_turn-more n xs ys h k = rw add-one (in_turn-suc n xs ys h k)
