-- The states of names, by the places of the names.
use Rattle.std.proofs.Common.{◌≡◌, ◌≢◌, ℕ, zero, suc, ◌+◌, ◌<◌, ◌≤◌, Bool, true, false, List, [], ◌∷◌, ◌++◌, length, get_or, refl, sym, ap, ◌∙◌, inl, inr, ◌⊎◌, arith, Bor, if◌then◌else◌, below_more, get_or-set_other, get_or-set_same}
use Rattle.std.proofs.Math.ListN.{set}
use mathlib.Core.Path.{fun_ext}
use Rattle.std.specs.List.{list_any, IsDistinct}
use Rattle.std.specs.Str.{bytes_eq}
use Rattle.std.proofs.lemmas.Slice.Eq.{bytes_eq-Decides}
use Rattle.std.proofs.lemmas.Map.Keys.{IsDistinct-head, IsDistinct-tail}
use Rattle.std.specs.List as list
use Rattle.bm_check.specs.declared.name_state.NameState.{NameState}
use Rattle.bm_check.specs.declared.name_state.NameState.TheVariants.{Unbound}
use Rattle.bm_check.specs.Names.{Names, put}
use Rattle.bm_check.specs.Tables.{looked_up, words_of}

pub is_or_not : (b : Bool) → (b ≡ true) ⊎ (b ≡ false)
is_or_not true = inl refl
is_or_not false = inr refl

pub same_word : (x y : List ℕ) → bytes_eq x y ≡ true → x ≡ y
same_word x y = (bytes_eq-Decides x y).0

pub word_is_itself : (x : List ℕ) → bytes_eq x x ≡ true
word_is_itself x = (bytes_eq-Decides x x).1 refl

pub other_word : (x y z : List ℕ) → bytes_eq x y ≡ false → bytes_eq x z ≡ true → bytes_eq z y ≡ false
other_word x y z isnt isit = let e : x ≡ z = same_word x z isit in rw e at isnt

pub flipped : (x y : List ℕ) → bytes_eq x y ≡ bytes_eq y x
flipped x y = elim (is_or_not (bytes_eq x y)) [
  | inl isit ↦ (let e : x ≡ y = same_word x y isit in rw (isit, e) (sym (word_is_itself y)))
  | inr isnt ↦ elim (is_or_not (bytes_eq y x)) [
    | inl isit ↦ (let e : y ≡ x = same_word y x isit in let h : bytes_eq x x ≡ false = rw e at isnt in let t : bytes_eq x x ≡ true = word_is_itself x in cc)
    | inr also ↦ isnt ∙ sym also
  ]
]

no_state : (met : List (List ℕ)) (x : List ℕ) → looked_up met [] x ≡ Unbound
no_state [] x = refl
no_state (y ∷ met) x = refl

-- a list of words that hasn't a word
pub no_head : (p : List ℕ → Bool) (y : List ℕ) (met : List (List ℕ)) → list_any p (y ∷ met) ≡ false → p y ≡ false
no_head p y met isnt = elim (is_or_not (p y)) [ inl isit ↦ (let h : true ≡ false = rw isit at isnt in cc) | inr h ↦ h ]

pub no_tail : (p : List ℕ → Bool) (y : List ℕ) (met : List (List ℕ)) → list_any p (y ∷ met) ≡ false → list_any p met ≡ false
no_tail p y met isnt = rw (no_head p y met isnt) at isnt

-- a name that isn't there is unbound
pub absent : (met : List (List ℕ)) (ss : List NameState) (x : List ℕ) → list_any (bytes_eq x) met ≡ false → looked_up met ss x ≡ Unbound
absent [] ss x isnt = refl
absent (y ∷ met) [] x isnt = refl
absent (y ∷ met) (s ∷ ss) x isnt = rw (no_head (bytes_eq x) y met isnt) (absent met ss x (no_tail (bytes_eq x) y met isnt))

-- a name is nowhere, or at one place for all lists of states
pub where_is : (met : List (List ℕ)) (x : List ℕ) → (((ss : List NameState) → looked_up met ss x ≡ Unbound) ⊎ ((i : ℕ) × (i < length met) × ((ss : List NameState) → looked_up met ss x ≡ get_or ss i Unbound)))
where_is [] x = inl (λ ss. refl)
where_is (y ∷ met) x = elim (is_or_not (bytes_eq x y)) [
  | inl isit ↦ inr (0, omega arith, here isit)
  | inr isnt ↦ elim (where_is met x) [
    | inl h ↦ inl (nowhere isnt h)
    | inr found ↦ inr (suc found.0, (let lt : found.0 < length met = found.1 in omega arith), there isnt found.0 found.2)
  ]
]
  where
    here : bytes_eq x y ≡ true → (ss : List NameState) → looked_up (y ∷ met) ss x ≡ get_or ss 0 Unbound
    here isit [] = refl
    here isit (s ∷ ss) = rw isit refl

    nowhere : bytes_eq x y ≡ false → ((ss : List NameState) → looked_up met ss x ≡ Unbound) → (ss : List NameState) → looked_up (y ∷ met) ss x ≡ Unbound
    nowhere isnt h [] = refl
    nowhere isnt h (s ∷ ss) = rw isnt (h ss)

    there : bytes_eq x y ≡ false → (i : ℕ) → ((ss : List NameState) → looked_up met ss x ≡ get_or ss i Unbound) → (ss : List NameState) → looked_up (y ∷ met) ss x ≡ get_or ss (suc i) Unbound
    there isnt i h [] = refl
    there isnt i h (s ∷ ss) = rw isnt (h ss)

-- the first place at which a name stands
pub first_at : (keys : List (Bor (List ℕ))) (ss : List NameState) (x : List ℕ) (i : ℕ) (d : Bor (List ℕ)) → i < length keys → bytes_eq x (get_or keys i d).now ≡ true → ((k : ℕ) → k < i → bytes_eq x (get_or keys k d).now ≡ false) → looked_up (words_of keys) ss x ≡ get_or ss i Unbound
first_at [] ss x i d lt isit before = absurd (omega arith)
first_at (y ∷ keys) [] x i d lt isit before = refl
first_at (y ∷ keys) (s ∷ ss) x zero d lt isit before = rw isit refl
first_at (y ∷ keys) (s ∷ ss) x (suc i) d lt isit before =
    let isnt : bytes_eq x y.now ≡ false = before 0 (omega arith) in
    rw isnt (first_at keys ss x i d (omega arith) isit (λ k h. before (suc k) (omega arith)))

pub put_at : (keys : List (Bor (List ℕ))) (ss : List NameState) (x : List ℕ) (s : NameState) (i : ℕ) (d : Bor (List ℕ)) → i < length keys → length ss ≡ length keys → bytes_eq x (get_or keys i d).now ≡ true → ((k : ℕ) → k < i → bytes_eq x (get_or keys k d).now ≡ false) → (y : List ℕ) → looked_up (words_of keys) (set ss i s) y ≡ (if bytes_eq x y then s else looked_up (words_of keys) ss y)
put_at [] ss x s i d lt long isit before y = absurd (omega arith)
put_at (k ∷ keys) [] x s i d lt long isit before y = absurd (omega arith)
put_at (k ∷ keys) (t ∷ ss) x s zero d lt long isit before y =
    let e : x ≡ k.now = same_word x k.now isit in
    elim (is_or_not (bytes_eq y k.now)) [
      | inl same ↦ (let f : bytes_eq k.now y ≡ true = flipped k.now y ∙ same in rw (e, same, f) refl)
      | inr other ↦ (let f : bytes_eq k.now y ≡ false = flipped k.now y ∙ other in rw (e, other, f) refl)
    ]
put_at (k ∷ keys) (t ∷ ss) x s (suc i) d lt long isit before y =
    let isnt : bytes_eq x k.now ≡ false = before 0 (omega arith) in
    elim (is_or_not (bytes_eq y k.now)) [
      | inl same ↦ (let e : y ≡ k.now = same_word y k.now same in let f : bytes_eq x y ≡ false = ap (bytes_eq x) e ∙ isnt in rw (same, f) refl)
      | inr other ↦ rw other (put_at keys ss x s i d (omega arith) (omega arith) isit (λ j h. before (suc j) (omega arith)) y)
    ]

pub put_end : (met : List (List ℕ)) (ss : List NameState) (x : List ℕ) (s : NameState) → list_any (bytes_eq x) met ≡ false → length ss ≡ length met → (y : List ℕ) → looked_up (met ++ x ∷ []) (ss ++ s ∷ []) y ≡ (if bytes_eq x y then s else looked_up met ss y)
put_end [] [] x s isnt long y = rw (flipped y x) refl
put_end [] (t ∷ ss) x s isnt long y = absurd (omega arith)
put_end (k ∷ met) [] x s isnt long y = absurd (omega arith)
put_end (k ∷ met) (t ∷ ss) x s isnt long y =
    let here : bytes_eq x k ≡ false = no_head (bytes_eq x) k met isnt in
    elim (is_or_not (bytes_eq y k)) [
      | inl same ↦ (let e : y ≡ k = same_word y k same in let f : bytes_eq x y ≡ false = ap (bytes_eq x) e ∙ here in rw (same, f) refl)
      | inr other ↦ rw other (put_end met ss x s (no_tail (bytes_eq x) k met isnt) (omega arith) y)
    ]

-- states that were saved when the table had isnt more names say the same of all names later
pub grown : (met more : List (List ℕ)) (ss : List NameState) → length ss ≤ length met → (x : List ℕ) → looked_up (met ++ more) ss x ≡ looked_up met ss x
grown [] more [] le x = no_state more x
grown [] more (s ∷ ss) le x = absurd (omega arith)
grown (y ∷ met) more [] le x = refl
grown (y ∷ met) more (s ∷ ss) le x = ap (λ t. if bytes_eq x y then s else t) (grown met more ss (omega arith) x)

pub padded : (met : List (List ℕ)) (ss : List NameState) (x : List ℕ) → looked_up met (ss ++ Unbound ∷ []) x ≡ looked_up met ss x
padded [] ss x = refl
padded (y ∷ met) [] x = elim (is_or_not (bytes_eq x y)) [ inl isit ↦ rw isit refl | inr isnt ↦ rw isnt (no_state met x) ]
padded (y ∷ met) (s ∷ ss) x = ap (λ t. if bytes_eq x y then s else t) (padded met ss x)

words-append : (keys : List (Bor (List ℕ))) (q : Bor (List ℕ)) → words_of (keys ++ q ∷ []) ≡ words_of keys ++ q.now ∷ []
words-append [] q = refl
words-append (k ∷ keys) q = ap (λ ws. k.now ∷ ws) (words-append keys q)

pub any-words : (p : List ℕ → Bool) (keys : List (Bor (List ℕ))) → list_any p (words_of keys) ≡ list_any (λ k. p k.now) keys
any-words p [] = refl
any-words p (k ∷ keys) = elim (is_or_not (p k.now)) [ inl isit ↦ rw isit refl | inr isnt ↦ rw isnt (any-words p keys) ]

-- keys that differ: the state at a key's place is that of the key
abbrev apart : Bor (List ℕ) → Bor (List ℕ) → Bool
apart x y = bytes_eq x.now y.now

all-at : (P : Bor (List ℕ) → Type 0) (keys : List (Bor (List ℕ))) (i : ℕ) (d : Bor (List ℕ)) → list.AllByRecursion P keys → i < length keys → P (get_or keys i d)
all-at P [] i d all lt = absurd (omega arith)
all-at P (k ∷ keys) zero d all lt = all.0
all-at P (k ∷ keys) (suc i) d all lt = all-at P keys i d all.1 (omega arith)

pub state_of_key : (keys : List (Bor (List ℕ))) → IsDistinct apart keys → (ss : List NameState) (i : ℕ) (d : Bor (List ℕ)) → i < length keys → looked_up (words_of keys) ss (get_or keys i d).now ≡ get_or ss i Unbound
state_of_key [] distinct ss i d lt = absurd (omega arith)
state_of_key (k ∷ keys) distinct [] i d lt = refl
state_of_key (k ∷ keys) distinct (s ∷ ss) zero d lt = rw (word_is_itself k.now) refl
state_of_key (k ∷ keys) distinct (s ∷ ss) (suc i) d lt =
    let le : i < length keys = omega arith in
    let isnt : bytes_eq k.now (get_or keys i d).now ≡ false = all-at (λ y. apart k y ≡ false) keys i d (IsDistinct-head apart k keys distinct) le in
    let f : bytes_eq (get_or keys i d).now k.now ≡ false = flipped (get_or keys i d).now k.now ∙ isnt in
    rw f (state_of_key keys (IsDistinct-tail apart k keys distinct) ss i d le)

some_true : (Q : List ℕ → Bool) (keys : List (Bor (List ℕ))) (i : ℕ) (d : Bor (List ℕ)) → i < length keys → Q (get_or keys i d).now ≡ true → list_any Q (words_of keys) ≡ true
some_true Q [] i d lt isit = absurd (omega arith)
some_true Q (k ∷ keys) zero d lt isit = rw isit refl
some_true Q (k ∷ keys) (suc i) d lt isit = elim (is_or_not (Q k.now)) [ inl h ↦ rw h refl | inr h ↦ rw h (some_true Q keys i d (omega arith) isit) ]

some_false : (Q : List ℕ → Bool) (keys : List (Bor (List ℕ))) (d : Bor (List ℕ)) → ((i : ℕ) → i < length keys → Q (get_or keys i d).now ≡ false) → list_any Q (words_of keys) ≡ false
some_false Q [] d isnt = refl
some_false Q (k ∷ keys) d isnt = rw (isnt 0 (omega arith)) (some_false Q keys d (λ i h. isnt (suc i) (omega arith)))

pub no_key : Bor (List ℕ)
no_key = record { ref_ptr = (0, 0); now = [] }

-- a test of two lists of states, over the names
pub both_true : (T : NameState → NameState → Bool) (keys : List (Bor (List ℕ))) → IsDistinct apart keys → (fs ss : List NameState) (i : ℕ) → i < length keys → T (get_or fs i Unbound) (get_or ss i Unbound) ≡ true → list_any (λ x. T (looked_up (words_of keys) fs x) (looked_up (words_of keys) ss x)) (words_of keys) ≡ true
both_true T keys distinct fs ss i lt isit = some_true (λ x. T (looked_up (words_of keys) fs x) (looked_up (words_of keys) ss x)) keys i no_key lt (rw (state_of_key keys distinct fs i no_key lt, state_of_key keys distinct ss i no_key lt) isit)

pub both_false : (T : NameState → NameState → Bool) (keys : List (Bor (List ℕ))) → IsDistinct apart keys → (fs ss : List NameState) → ((i : ℕ) → i < length keys → T (get_or fs i Unbound) (get_or ss i Unbound) ≡ false) → list_any (λ x. T (looked_up (words_of keys) fs x) (looked_up (words_of keys) ss x)) (words_of keys) ≡ false
both_false T keys distinct fs ss isnt = some_false (λ x. T (looked_up (words_of keys) fs x) (looked_up (words_of keys) ss x)) keys no_key (λ i lt. rw (state_of_key keys distinct fs i no_key lt, state_of_key keys distinct ss i no_key lt) (isnt i lt))

pub length-words : (keys : List (Bor (List ℕ))) → length (words_of keys) ≡ length keys
length-words [] = refl
length-words (k ∷ keys) = ap suc (length-words keys)

-- states that are made of two lists of states, place by place
pub made : (h : NameState → NameState → NameState) → h Unbound Unbound ≡ Unbound → (keys : List (Bor (List ℕ))) (fs ss rs : List NameState) (n : ℕ) → length keys ≤ n → ((i : ℕ) → i < n → get_or rs i Unbound ≡ h (get_or fs i Unbound) (get_or ss i Unbound)) → looked_up (words_of keys) rs ≡ (λ x. h (looked_up (words_of keys) fs x) (looked_up (words_of keys) ss x))
made h nothing keys fs ss rs n le each = fun_ext (λ x. elim (where_is (words_of keys) x) [
  | inl none ↦ rw (none rs, none fs, none ss) (sym nothing)
  | inr found ↦ (let lt : found.0 < n = let f : found.0 < length (words_of keys) = found.1 in omega (arith, length-words keys) in rw (found.2 rs, found.2 fs, found.2 ss) (each found.0 lt))
])

abbrev pub named : List (List ℕ) → (List ℕ → NameState) → Names
named met f = record { met = met; state = f }

-- one place more of a list that is written from the front
pub one_more : (h : NameState → NameState → NameState) (fs old now : List NameState) (i : ℕ) (s : NameState) → i < length now → ((k : ℕ) → k < i → get_or now k Unbound ≡ h (get_or fs k Unbound) (get_or old k Unbound)) → s ≡ h (get_or fs i Unbound) (get_or old i Unbound) → (k : ℕ) → k < i + 1 → get_or (set now i s) k Unbound ≡ h (get_or fs k Unbound) (get_or old k Unbound)
one_more h fs old now i s lt before here = below_more (λ k. get_or (set now i s) k Unbound ≡ h (get_or fs k Unbound) (get_or old k Unbound)) i
    (λ k below. let ne : k ≢ i = omega arith in rw get_or-set_other (before k below))
    (rw get_or-set_same here)

pub same_behind : (old now : List NameState) (i : ℕ) (s : NameState) → ((k : ℕ) → i ≤ k → get_or now k Unbound ≡ get_or old k Unbound) → (k : ℕ) → i + 1 ≤ k → get_or (set now i s) k Unbound ≡ get_or old k Unbound
same_behind old now i s behind k le = let ne : k ≢ i = omega arith in rw get_or-set_other (behind k (omega arith))

-- a name that stands at a place gets a state
pub put_there : (keys : List (Bor (List ℕ))) (ss : List NameState) (x : List ℕ) (s : NameState) (i : ℕ) → length ss ≡ length keys → i < length keys → bytes_eq x (get_or keys i no_key).now ≡ true → ((k : ℕ) → k < i → bytes_eq x (get_or keys k no_key).now ≡ false) → list_any (λ k. bytes_eq x k.now) keys ≡ true → named (words_of keys) (looked_up (words_of keys) (set ss i s)) ≡ put (named (words_of keys) (looked_up (words_of keys) ss)) x s
put_there keys ss x s i long lt isit before among =
    rw (any-words (bytes_eq x) keys, among) (ap (named (words_of keys)) (fun_ext (put_at keys ss x s i no_key lt long isit before)))

-- .. and a new one goes last
pub put_last : (keys : List (Bor (List ℕ))) (q : Bor (List ℕ)) (ss : List NameState) (s : NameState) → length ss ≡ length keys → list_any (λ k. bytes_eq q.now k.now) keys ≡ false → named (words_of (keys ++ q ∷ [])) (looked_up (words_of (keys ++ q ∷ [])) (ss ++ s ∷ [])) ≡ put (named (words_of keys) (looked_up (words_of keys) ss)) q.now s
put_last keys q ss s long among =
    let missing : list_any (bytes_eq q.now) (words_of keys) ≡ false = any-words (bytes_eq q.now) keys ∙ among in
    let same : length ss ≡ length (words_of keys) = long ∙ sym (length-words keys) in
    rw (words-append keys q, missing) (ap (named (words_of keys ++ q.now ∷ [])) (fun_ext (put_end (words_of keys) ss q.now s missing same)))

pub none_passes : (p : List ℕ → Bool) (xs : List (List ℕ)) → ((i : ℕ) → i < length xs → p (get_or xs i []) ≡ false) → list_any p xs ≡ false
none_passes p [] isnt = refl
none_passes p (x ∷ xs) isnt = rw (isnt 0 (omega arith)) (none_passes p xs (λ i h. isnt (suc i) (omega arith)))
