-- Lemmas on the sizes of units, and on the class of an object.
use Rattle.std.proofs.Common.{◌≡◌, ℕ, zero, suc, ◌+◌, ◌<◌, ◌≤◌, ◌⊎◌, Bool, true, false, get_or, refl, arith, ap, lit<, cond, nat_lt, nat_le, Some, None}
use Rattle.std.specs.Prelude.{position, AllPairs, Option, ◌==◌}
use Rattle.std.specs.List.{position_or_len}
use Rattle.std.specs.List.Sorted.{IsStrictlyIncreasing}
use Rattle.std.proofs.lemmas.List.Kept.{AllPairs-from_increasing}
use Rattle.std.proofs.lemmas.List.Quantifiers.{position-Some}
use Rattle.std.proofs.lemmas.List.Sums.{position_or_len_is}
use Rattle.std.proofs.lemmas.Bool.Decides.{nat_tests}
use Rattle.std.proofs.lemmas.List.{get_or_default, get_or_past}
use Rattle.bm_class.specs.Sizes.{sizes, size_of_class, class_of_size, IsClassOf}

-- the sizes ascend
pub sizes_increase : IsStrictlyIncreasing sizes
sizes_increase zero h = lit< tt
sizes_increase (suc zero) h = lit< tt
sizes_increase (suc (suc zero)) h = lit< tt
sizes_increase (suc (suc (suc zero))) h = lit< tt
sizes_increase (suc (suc (suc (suc zero)))) h = lit< tt
sizes_increase (suc (suc (suc (suc (suc zero))))) h = lit< tt
sizes_increase (suc (suc (suc (suc (suc (suc zero)))))) h = lit< tt
sizes_increase (suc (suc (suc (suc (suc (suc (suc zero))))))) h = lit< tt
sizes_increase (suc (suc (suc (suc (suc (suc (suc (suc zero)))))))) h = lit< tt
sizes_increase (suc (suc (suc (suc (suc (suc (suc (suc (suc zero))))))))) h = lit< tt
sizes_increase (suc (suc (suc (suc (suc (suc (suc (suc (suc (suc k)))))))))) h = absurd (omega arith)

-- a class below another has the smaller size
pub sizes_ordered : AllPairs (λ x y. x < y) sizes
sizes_ordered = AllPairs-from_increasing sizes sizes_increase

-- what has a size is one of the eleven classes
pub class_below : (c : ℕ) → 0 < size_of_class c → c < 11
unfolding size_of_class
class_below c h =
    let past : 11 ≤ c → size_of_class c ≡ 0 = λ le. get_or_past sizes c 0 le in
    grind arith

-- a choice that gives Some went the second way
some_when : (b : Bool) (o : Option ℕ) (c : ℕ) → cond b None o ≡ Some c → (b ≡ false) × (o ≡ Some c)
some_when true o c h = absurd (cc)
some_when false o c h = (refl, h)

-- what the test of a size tells
fits_from : (n size : ℕ) → nat_le (n + 8) size ≡ true → n + 8 ≤ size
fits_from n size h = grind (arith, nat_tests)

short_from : (n size : ℕ) → nat_le (n + 8) size ≡ false → size < n + 8
short_from n size h = grind (arith, nat_tests)

positive_from : (n : ℕ) → (n == 0) ≡ false → 0 < n
positive_from n h = grind (arith, nat_tests)

-- a size with room is not below one where each smaller size has none
least_from : (n c k size other : ℕ) → n + 8 ≤ other → (k < c → other < n + 8) → (c < k → size < other) → (k ≡ c → other ≡ size) → size ≤ other
least_from n c k size other room below above same = grind arith

-- the class that is found is the least with room for the object
pub class_of_size-least : (n c : ℕ) → class_of_size n ≡ Some c → (0 < n) × IsClassOf n c
unfolding class_of_size size_of_class
class_of_size-least n c h =
    let test : ℕ → Bool = λ size. nat_le (n + 8) size in
    let w = some_when (n == 0) (position test sizes) c h in
    let found = λ (d : ℕ). position-Some test sizes c d w.1 in (
      positive_from n w.0,
      record {
        fits = fits_from n _ (found 0).1;
        least = λ k d k_in room.
            let default : size_of_class c ≡ get_or sizes c d = get_or_default sizes c 0 d (found 0).0 in
            let below : k < c → get_or sizes k d < n + 8 = λ lt. short_from n _ ((found d).2 k lt) in
            let above : c < k → get_or sizes c d < get_or sizes k d = λ lt. sizes_ordered c k d lt k_in in
            let same : k ≡ c → get_or sizes k d ≡ get_or sizes c d = λ e. ap (λ i. get_or sizes i d) e in
            let bound = least_from n c k _ _ room below above same in
            omega (arith, default, bound);
      },
    )

-- the least class with room for the object is found
pub class_of_size-is : (n c : ℕ) → 0 < n → IsClassOf n c → class_of_size n ≡ Some c
unfolding class_of_size size_of_class
class_of_size-is n c some is =
    let test : ℕ → Bool = λ size. nat_le (n + 8) size in
    let c_in : c < 11 = class_below c (omega (arith, is.fits)) in
    let short : (k : ℕ) → k < c → test (get_or sizes k 0) ≡ false = λ k lt.
    let k_in : k < 11 = omega arith in
    let ordered = sizes_ordered k c 0 lt c_in in
    let least = is.least k 0 k_in in
    grind (arith, nat_tests) in
    let room : c < 11 → test (get_or sizes c 0) ≡ true = λ _. let fits = is.fits in grind (arith, nat_tests) in
    let at : position_or_len test sizes ≡ c = position_or_len_is test sizes c 0 (omega arith) short room in
    let positive : (n == 0) ≡ false = grind (arith, nat_tests) in
    let inside : nat_lt c 11 ≡ true = grind (arith, nat_tests) in
    rw (positive, at, inside)

-- an object from 1 byte to 4088 has a class
pub class_of_size-some : (n : ℕ) → class_of_size n ≡ None → (n ≡ 0) ⊎ (4088 < n)
unfolding class_of_size
class_of_size-some n h = grind (arith, nat_tests)

-- no other object has one
pub class_of_size-none : (n : ℕ) → (n ≡ 0) ⊎ (4088 < n) → class_of_size n ≡ None
unfolding class_of_size
class_of_size-none n h = grind (arith, nat_tests)
