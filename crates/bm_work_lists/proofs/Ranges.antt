-- Units with numbers in ranges, for tests.
use Rattle.std.proofs.Common.{◌≡◌, ◌<◌, ◌≤◌, ℕ, ◌+◌, ◌-◌, ◌++◌, List, [], ◌∷◌, map, refl, ◌∙◌, ap, arith, inl, inr, ne_eqb}
use Rattle.std.specs.List.{All}
use Rattle.std.proofs.lemmas.List.Elements.{All-head, All-tail}
use Rattle.std.proofs.lemmas.List.{map-append}
use Rattle.std.proofs.lemmas.Bool.Decides.{eqb_tells, leb_tells}
use Rattle.bm_law.specs.Kept.{Ready}
use Rattle.bm_law.specs.State.{Row, State, with_row}
use Rattle.bm_law.specs.Stands.{times}
use Rattle.bm_law.proofs.Stands.{times-append}
use Rattle.bm_cache.specs.Tokens.{Token, number_of}

-- a number outside a range stands in no list of it
pub none-below : (n k : ℕ) (us : List Token) → n < k → All (λ (u : Token). k ≤ u.number) us → times n (map number_of us) ≡ 0
none-below n k [] h a = refl
none-below n k (u ∷ us) h a =
    let x : k ≤ u.number = All-head (λ (u : Token). k ≤ u.number) u us a in
    let r : times n (map number_of us) ≡ 0 = none-below n k us h (All-tail (λ (u : Token). k ≤ u.number) u us a) in
    rw (ne_eqb n u.number (λ q. omega (arith, q, h, x))) (omega (arith, r))

pub none-above : (n k : ℕ) (us : List Token) → k ≤ n → All (λ (u : Token). u.number < k) us → times n (map number_of us) ≡ 0
none-above n k [] h a = refl
none-above n k (u ∷ us) h a =
    let x : u.number < k = All-head (λ (u : Token). u.number < k) u us a in
    let r : times n (map number_of us) ≡ 0 = none-above n k us h (All-tail (λ (u : Token). u.number < k) u us a) in
    rw (ne_eqb n u.number (λ q. omega (arith, q, h, x))) (omega (arith, r))

-- one more unit, with a lower number
pub once-more : (n k : ℕ) (us : List Token) (u : Token) → u.number < k → All (λ (u : Token). k ≤ u.number) us → times n (map number_of us) ≤ 1 → times n (map number_of (us ++ u ∷ [])) ≤ 1
once-more n k us u h a o =
    let e : times n (map number_of (us ++ u ∷ [])) ≡ times n (map number_of us) + times n (u.number ∷ []) = ap (times n) (map-append number_of us (u ∷ [])) ∙ times-append n (map number_of us) (u.number ∷ []) in
    elim (eqb_tells n u.number) [
      | inl y ↦ let z : times n (map number_of us) ≡ 0 = none-below n k us (let q : n ≡ u.number = y.1 in omega (arith, q, h)) a in omega (arith, e, z, one-at-most n u.number)
      | inr y ↦ let z : times n (u.number ∷ []) ≡ 0 = rw y.0 refl in omega (arith, e, z, o)
    ]
  where
    one-at-most : (n m : ℕ) → times n (m ∷ []) ≤ 1
    one-at-most n m =
        elim (eqb_tells n m) [
          | inl y ↦ rw y.0 (omega arith)
          | inr y ↦ rw y.0 (omega arith)
        ]

-- two ranges, and three
pub apart : (n k : ℕ) (us vs : List Token) → All (λ (u : Token). k ≤ u.number) us → All (λ (u : Token). u.number < k) vs → times n (map number_of us) ≤ 1 → times n (map number_of vs) ≤ 1 → times n (map number_of us) + times n (map number_of vs) ≤ 1
apart n k us vs a b o p = elim (leb_tells k n) [
  | inl y ↦ omega (arith, none-above n k vs y.1 b, o)
  | inr y ↦ omega (arith, none-below n k us y.1 a, p)
]

pub three-apart : (n j k : ℕ) (us vs ws : List Token) → j ≤ k → All (λ (u : Token). k ≤ u.number) us → All (λ (u : Token). u.number < k) vs → All (λ (u : Token). j ≤ u.number) vs → All (λ (u : Token). u.number < j) ws → times n (map number_of us) ≤ 1 → times n (map number_of vs) ≤ 1 → times n (map number_of ws) ≤ 1 → times n (map number_of us) + times n (map number_of vs) + times n (map number_of ws) ≤ 1
three-apart n j k us vs ws h a b d e o p q = elim (leb_tells j n) [
  | inl y ↦ omega (arith, none-above n j ws y.1 e, apart n k us vs a b o p)
  | inr y ↦ omega (arith, none-below n j vs y.1 d, none-below n k us (let x : n < k = omega (arith, y.1, h) in x) a, q)
]

-- caches that no call is in
pub ready-row : (c : ℕ) (r : Row Token) (s : State Token) → r.active ≡ (s.rows c).active → Ready 0 s → Ready 0 (with_row c r s)
ready-row c r s e h = record {
  active = λ k. elim (eqb_tells k c) [
    | inl y ↦ rw y.0 (omega (arith, e, h.active c))
    | inr y ↦ rw y.0 (h.active k)
  ];
  sides = h.sides;
}

-- a lower bound
pub lower : (k : ℕ) (us : List Token) → All (λ (u : Token). k ≤ u.number) us → All (λ (u : Token). k - 1 ≤ u.number) us
lower k us h i u n = let x : k ≤ _ = h i u n in omega (arith, x)
