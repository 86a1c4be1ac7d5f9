-- Which lists of words are a command's.
use Rattle.std.proofs.Common.{◌≡◌, ◌≤◌, ◌⊎◌, inl, inr, ℕ, Bool, true, false, List, [], ◌∷◌, None, is_some, length, filter, refl, arith, codes}
use Rattle.std.specs.Borrow.{Bor}
use Rattle.std.specs.Str.{bytes_eq}
use Rattle.std.proofs.lemmas.Slice.Eq.{bytes_eq-Decides}
use Rattle.bm_command.specs.Words.{texts, is_flag, is_argument, replay_of, check_of, reading_of}

pub is_or_not : (b : Bool) → (b ≡ true) ⊎ (b ≡ false)
is_or_not true = inl refl
is_or_not false = inr refl

pub same_word : (x y : List ℕ) → bytes_eq x y ≡ true → x ≡ y
same_word x y = (bytes_eq-Decides x y).0

-- ---- `replay`

no_argument : (flags : List (List ℕ)) (x : List ℕ) (more : List (List ℕ)) → replay_of flags (x ∷ more) ≡ None
no_argument [] x more = refl
no_argument (flag ∷ []) x more = refl
no_argument (flag ∷ other ∷ flags) x more = refl

no_second_flag : (x y : List ℕ) (flags arguments : List (List ℕ)) → replay_of (x ∷ y ∷ flags) arguments ≡ None
no_second_flag x y flags [] = refl
no_second_flag x y flags (argument ∷ arguments) = refl

-- two words or more behind `replay` are too many
pub too_many : (x y : List ℕ) (more : List (List ℕ)) → replay_of (filter is_flag (x ∷ y ∷ more)) (filter is_argument (x ∷ y ∷ more)) ≡ None
too_many x y more = elim (is_or_not (is_flag x)) [
  | inl first ↦ elim (is_or_not (is_flag y)) [
    | inl second ↦ rw (first, second) (no_second_flag x y (filter is_flag more) (filter is_argument more))
    | inr second ↦ rw (first, second) (no_argument (x ∷ filter is_flag more) y (filter is_argument more))
  ]
  | inr first ↦ rw first (no_argument (filter is_flag (y ∷ more)) x (filter is_argument (y ∷ more)))
]

pub too_many_behind : (rest : List (Bor (List ℕ))) → 2 ≤ length rest
    → false ≡ is_some (replay_of (filter is_flag (texts rest)) (filter is_argument (texts rest)))
too_many_behind [] h = absurd (omega arith)
too_many_behind (x ∷ []) h = absurd (omega arith)
too_many_behind (x ∷ y ∷ more) h = rw (too_many x.now y.now (texts more)) refl

-- one word behind `replay` is its flag
flag_alone : (x : List ℕ) → is_some (replay_of (filter is_flag (x ∷ [])) (filter is_argument (x ∷ []))) ≡ true → x ≡ codes "--totals"
flag_alone x h = elim (is_or_not (is_flag x)) [
  | inl flag ↦ elim (is_or_not (bytes_eq x (codes "--totals"))) [
    | inl same ↦ same_word _ _ same
    | inr other ↦ absurd (let bad : false ≡ true = rw (flag, other) at h in cc)
  ]
  | inr argument ↦ absurd (let bad : false ≡ true = rw argument at h in cc)
]

behind_replay : (rest : List (List ℕ)) → is_some (replay_of (filter is_flag rest) (filter is_argument rest)) ≡ true
    → (rest ≡ []) ⊎ (rest ≡ codes "--totals" ∷ [])
behind_replay [] h = inl refl
behind_replay (x ∷ []) h = inr (rw (flag_alone x h) refl)
behind_replay (x ∷ y ∷ more) h = absurd (let bad : false ≡ true = rw (too_many x y more) at h in cc)

-- ---- `check`

no_flag : (x : List ℕ) (flags arguments : List (List ℕ)) → check_of (x ∷ flags) arguments ≡ None
no_flag x flags [] = refl
no_flag x flags (argument ∷ arguments) = refl

no_word : (flags : List (List ℕ)) (x : List ℕ) (arguments : List (List ℕ)) → check_of flags (x ∷ arguments) ≡ None
no_word [] x arguments = refl
no_word (flag ∷ flags) x arguments = refl

pub one_too_many : (x : List ℕ) (more : List (List ℕ)) → check_of (filter is_flag (x ∷ more)) (filter is_argument (x ∷ more)) ≡ None
one_too_many x more = elim (is_or_not (is_flag x)) [
  | inl flag ↦ rw flag (no_flag x (filter is_flag more) (filter is_argument more))
  | inr argument ↦ rw argument (no_word (filter is_flag more) x (filter is_argument more))
]

behind_check : (rest : List (List ℕ)) → is_some (check_of (filter is_flag rest) (filter is_argument rest)) ≡ true → rest ≡ []
behind_check [] h = refl
behind_check (x ∷ more) h = absurd (let bad : false ≡ true = rw (one_too_many x more) at h in cc)

-- ---- all commands

-- the words of a command are one of three lists
pub are_known : (words : List (List ℕ)) → is_some (reading_of words) ≡ true
    → (words ≡ codes "replay" ∷ []) ⊎ ((words ≡ codes "replay" ∷ codes "--totals" ∷ []) ⊎ (words ≡ codes "check" ∷ []))
are_known [] h = absurd (let bad : false ≡ true = h in cc)
are_known (word ∷ rest) h = elim (is_or_not (bytes_eq word (codes "replay"))) [
  | inl replay ↦ (let is : word ≡ codes "replay" = same_word _ _ replay in
      let given : is_some (replay_of (filter is_flag rest) (filter is_argument rest)) ≡ true = rw replay at h in
      elim (behind_replay rest given) [
        | inl none ↦ inl (rw (is, none) refl)
        | inr flag ↦ inr (inl (rw (is, flag) refl))
      ])
  | inr other ↦ elim (is_or_not (bytes_eq word (codes "check"))) [
    | inl check ↦ (let is : word ≡ codes "check" = same_word _ _ check in
        let given : is_some (check_of (filter is_flag rest) (filter is_argument rest)) ≡ true = rw (other, check) at h in
        let none : rest ≡ [] = behind_check rest given in
        inr (inr (rw (is, none) refl)))
    | inr none ↦ absurd (let bad : false ≡ true = rw (other, none) at h in cc)
  ]
]
