-- What names hold, by the places of the names.
use Rattle.std.proofs.Common.{◌≡◌, ℕ, zero, suc, ◌+◌, ◌<◌, Bool, true, false, List, [], ◌∷◌, ◌++◌, length, get_or, refl, sym, ap, ◌∙◌, inl, inr, ◌⊎◌, arith, position, Vec, Global, if◌then◌else◌}
use Rattle.std.proofs.Math.ListN.{set}
use mathlib.Core.Path.{fun_ext}
use Rattle.std.specs.List.{list_any, position_or_len}
use Rattle.std.specs.Str.{bytes_eq}
use Rattle.std.proofs.lemmas.Slice.Eq.{bytes_eq-Decides}
use Rattle.bm_law_scenario.specs.Held.{Names, no_names, soft_ended, soft_spent, with_name, Nothing as NothingHeld}
use Rattle.bm_exec.specs.declared.holding.Holding.{Holding}
use Rattle.bm_exec.specs.declared.holding.Holding.TheVariants.{Nothing, Null, Object, Soft}
use Rattle.bm_exec.specs.Seen.{held_of, looked_up, words_of}
use Rattle.bm_exec.specs.Softened.{without_soft}

pub is_or_not : (b : Bool) → (b ≡ true) ⊎ (b ≡ false)
is_or_not true = inl refl
is_or_not false = inr refl

pub same_word : (x y : List ℕ) → bytes_eq x y ≡ true → x ≡ y
same_word x y = (bytes_eq-Decides x y).0

pub word_is_itself : (x : List ℕ) → bytes_eq x x ≡ true
word_is_itself x = (bytes_eq-Decides x x).1 refl

pub other_word : (x y z : List ℕ) → bytes_eq x y ≡ false → bytes_eq x z ≡ true → bytes_eq z y ≡ false
other_word x y z isnt isit = let e : x ≡ z = same_word x z isit in rw e at isnt

pub flipped : (x y : List ℕ) → bytes_eq x y ≡ bytes_eq y x
flipped x y = elim (is_or_not (bytes_eq x y)) [
  | inl isit ↦ (let e : x ≡ y = same_word x y isit in rw (isit, e) (sym (word_is_itself y)))
  | inr isnt ↦ elim (is_or_not (bytes_eq y x)) [
    | inl isit ↦ (let e : y ≡ x = same_word y x isit in let h : bytes_eq x x ≡ false = rw e at isnt in let t : bytes_eq x x ≡ true = word_is_itself x in cc)
    | inr also ↦ isnt ∙ sym also
  ]
]

-- a list of words that hasn't a word
no_head : (p : List ℕ → Bool) (y : List ℕ) (met : List (List ℕ)) → list_any p (y ∷ met) ≡ false → p y ≡ false
no_head p y met isnt = elim (is_or_not (p y)) [ inl isit ↦ (let h : true ≡ false = rw isit at isnt in cc) | inr h ↦ h ]

no_tail : (p : List ℕ → Bool) (y : List ℕ) (met : List (List ℕ)) → list_any p (y ∷ met) ≡ false → list_any p met ≡ false
no_tail p y met isnt = rw (no_head p y met isnt) at isnt

-- a name that isn't there holds nothing
pub absent : (met : List (List ℕ)) (ss : List Holding) (x : List ℕ) → list_any (bytes_eq x) met ≡ false → looked_up met ss x ≡ Nothing
absent [] ss x isnt = refl
absent (y ∷ met) [] x isnt = refl
absent (y ∷ met) (s ∷ ss) x isnt = rw (no_head (bytes_eq x) y met isnt) (absent met ss x (no_tail (bytes_eq x) y met isnt))

-- the first place at which a name stands
pub first_at : (met : List (List ℕ)) (ss : List Holding) (x : List ℕ) (i : ℕ) → i < length met → bytes_eq x (get_or met i []) ≡ true → ((k : ℕ) → k < i → bytes_eq x (get_or met k []) ≡ false) → looked_up met ss x ≡ get_or ss i Nothing
first_at [] ss x i lt isit before = absurd (omega arith)
first_at (y ∷ met) [] x i lt isit before = refl
first_at (y ∷ met) (s ∷ ss) x zero lt isit before = rw isit refl
first_at (y ∷ met) (s ∷ ss) x (suc i) lt isit before =
    let isnt : bytes_eq x y ≡ false = before 0 (omega arith) in
    rw isnt (first_at met ss x i (omega arith) isit (λ k h. before (suc k) (omega arith)))

put_at : (met : List (List ℕ)) (ss : List Holding) (x : List ℕ) (s : Holding) (i : ℕ) → i < length met → length ss ≡ length met → bytes_eq x (get_or met i []) ≡ true → ((k : ℕ) → k < i → bytes_eq x (get_or met k []) ≡ false) → (y : List ℕ) → looked_up met (set ss i s) y ≡ (if bytes_eq x y then s else looked_up met ss y)
put_at [] ss x s i lt long isit before y = absurd (omega arith)
put_at (k ∷ met) [] x s i lt long isit before y = absurd (omega arith)
put_at (k ∷ met) (t ∷ ss) x s zero lt long isit before y =
    let e : x ≡ k = same_word x k isit in
    elim (is_or_not (bytes_eq y k)) [
      | inl same ↦ (let f : bytes_eq k y ≡ true = flipped k y ∙ same in rw (e, same, f) refl)
      | inr other ↦ (let f : bytes_eq k y ≡ false = flipped k y ∙ other in rw (e, other, f) refl)
    ]
put_at (k ∷ met) (t ∷ ss) x s (suc i) lt long isit before y =
    let isnt : bytes_eq x k ≡ false = before 0 (omega arith) in
    elim (is_or_not (bytes_eq y k)) [
      | inl same ↦ (let e : y ≡ k = same_word y k same in let f : bytes_eq x y ≡ false = ap (bytes_eq x) e ∙ isnt in rw (same, f) refl)
      | inr other ↦ rw other (put_at met ss x s i (omega arith) (omega arith) isit (λ j h. before (suc j) (omega arith)) y)
    ]

put_end : (met : List (List ℕ)) (ss : List Holding) (x : List ℕ) (s : Holding) → list_any (bytes_eq x) met ≡ false → length ss ≡ length met → (y : List ℕ) → looked_up (met ++ x ∷ []) (ss ++ s ∷ []) y ≡ (if bytes_eq x y then s else looked_up met ss y)
put_end [] [] x s isnt long y = rw (flipped y x) refl
put_end [] (t ∷ ss) x s isnt long y = absurd (omega arith)
put_end (k ∷ met) [] x s isnt long y = absurd (omega arith)
put_end (k ∷ met) (t ∷ ss) x s isnt long y =
    let here : bytes_eq x k ≡ false = no_head (bytes_eq x) k met isnt in
    elim (is_or_not (bytes_eq y k)) [
      | inl same ↦ (let e : y ≡ k = same_word y k same in let f : bytes_eq x y ≡ false = ap (bytes_eq x) e ∙ here in rw (same, f) refl)
      | inr other ↦ rw other (put_end met ss x s (no_tail (bytes_eq x) k met isnt) (omega arith) y)
    ]

pub words-append : (keys : List (Vec ℕ Global)) (q : Vec ℕ Global) → words_of (keys ++ q ∷ []) ≡ words_of keys ++ q.items ∷ []
words-append [] q = refl
words-append (k ∷ keys) q = ap (λ ws. k.items ∷ ws) (words-append keys q)

pub any-words : (p : List ℕ → Bool) (keys : List (Vec ℕ Global)) → list_any p (words_of keys) ≡ list_any (λ k. p k.items) keys
any-words p [] = refl
any-words p (k ∷ keys) = elim (is_or_not (p k.items)) [ inl isit ↦ rw isit refl | inr isnt ↦ rw isnt (any-words p keys) ]

length-words : (keys : List (Vec ℕ Global)) → length (words_of keys) ≡ length keys
length-words [] = refl
length-words (k ∷ keys) = ap suc (length-words keys)

first-words : (p : List ℕ → Bool) (keys : List (Vec ℕ Global)) → position_or_len p (words_of keys) ≡ position_or_len (λ k. p k.items) keys
first-words p [] = refl
first-words p (k ∷ keys) = elim (is_or_not (p k.items)) [ inl isit ↦ rw isit refl | inr isnt ↦ rw isnt (ap (λ n. 1 + n) (first-words p keys)) ]

-- the place of a key, as that of its word
pub place-words : (p : List ℕ → Bool) (keys : List (Vec ℕ Global)) → position p (words_of keys) ≡ position (λ k. p k.items) keys
place-words p keys = rw (first-words p keys, length-words keys) refl

held-if : (b : Bool) (s t : Holding) → held_of (if b then s else t) ≡ (if b then held_of s else held_of t)
held-if true s t = refl
held-if false s t = refl

-- a name that is there keeps its place
pub put_there : (keys : List (Vec ℕ Global)) (ss : List Holding) (x : List ℕ) (s : Holding) (i : ℕ) → length ss ≡ length keys → i < length (words_of keys) → bytes_eq x (get_or (words_of keys) i []) ≡ true → ((k : ℕ) → k < i → bytes_eq x (get_or (words_of keys) k []) ≡ false) → (λ y. held_of (looked_up (words_of keys) (set ss i s) y)) ≡ with_name x (held_of s) (λ y. held_of (looked_up (words_of keys) ss y))
put_there keys ss x s i long lt isit before = fun_ext (λ y. ap held_of (put_at (words_of keys) ss x s i lt (long ∙ sym (length-words keys)) isit before y) ∙ held-if (bytes_eq x y) s (looked_up (words_of keys) ss y))

-- .. and a new one goes last
pub put_last : (keys : List (Vec ℕ Global)) (q : Vec ℕ Global) (x : List ℕ) (ss : List Holding) (s : Holding) → q.items ≡ x → length ss ≡ length keys → list_any (λ k. bytes_eq x k.items) keys ≡ false → (λ y. held_of (looked_up (words_of (keys ++ q ∷ [])) (ss ++ s ∷ []) y)) ≡ with_name x (held_of s) (λ y. held_of (looked_up (words_of keys) ss y))
put_last keys q x ss s is long among =
    let missing : list_any (bytes_eq x) (words_of keys) ≡ false = any-words (bytes_eq x) keys ∙ among in
    let same : length ss ≡ length (words_of keys) = long ∙ sym (length-words keys) in
    rw (words-append keys q, is) (fun_ext (λ y. ap held_of (put_end (words_of keys) ss x s missing same y) ∙ held-if (bytes_eq x y) s (looked_up (words_of keys) ss y)))

-- ---- which names are there

-- the keys with a new one
pub new-keys : (keys now : List (Vec ℕ Global)) (q : Vec ℕ Global) (x : List ℕ) → q.items ≡ x → list_any (λ k. bytes_eq x k.items) keys ≡ false → now ≡ (if list_any (λ k. bytes_eq q.items k.items) keys then keys else keys ++ q ∷ []) → now ≡ keys ++ q ∷ []
new-keys keys now q x is isnt e = let absent : list_any (λ k. bytes_eq q.items k.items) keys ≡ false = rw is isnt in rw absent at e

any-append : (p : List ℕ → Bool) (met : List (List ℕ)) (y : List ℕ) → list_any p met ≡ true → list_any p (met ++ y ∷ []) ≡ true
any-append p [] y e = absurd (true-false e)
  where
    true-false : false ≡ true → ⊥
    true-false q = cc
any-append p (m ∷ met) y e = elim (is_or_not (p m)) [ inl isit ↦ rw isit refl | inr isnt ↦ rw isnt (any-append p met y (rw isnt at e)) ]

any-last : (p : List ℕ → Bool) (met : List (List ℕ)) (y : List ℕ) → p y ≡ true → list_any p (met ++ y ∷ []) ≡ true
any-last p [] y e = rw e refl
any-last p (m ∷ met) y e = elim (is_or_not (p m)) [ inl isit ↦ rw isit refl | inr isnt ↦ rw isnt (any-last p met y e) ]

-- a name that goes last is there
pub last-there : (keys : List (Vec ℕ Global)) (q : Vec ℕ Global) (x : List ℕ) → q.items ≡ x → list_any (bytes_eq x) (words_of (keys ++ q ∷ [])) ≡ true
last-there keys q x is = rw (words-append keys q, is) (any-last (bytes_eq x) (words_of keys) x (word_is_itself x))

-- .. and each name that was there is
pub still-there : (keys : List (Vec ℕ Global)) (q : Vec ℕ Global) (x : List ℕ) → list_any (bytes_eq x) (words_of keys) ≡ true → list_any (bytes_eq x) (words_of (keys ++ q ∷ [])) ≡ true
still-there keys q x e = rw (words-append keys q) (any-append (bytes_eq x) (words_of keys) q.items e)

-- ---- holding nothing

none-looked : (met : List (List ℕ)) (ss : List Holding) → ((k : ℕ) → k < length ss → get_or ss k Nothing ≡ Nothing) → (x : List ℕ) → looked_up met ss x ≡ Nothing
none-looked [] ss none x = refl
none-looked (w ∷ met) [] none x = refl
none-looked (w ∷ met) (s ∷ ss) none x = elim (is_or_not (bytes_eq x w)) [ inl isit ↦ rw isit (none 0 (omega arith)) | inr isnt ↦ rw isnt (none-looked met ss (λ k h. none (suc k) (omega arith)) x) ]

-- where all places hold nothing, no name holds anything
pub none-held : (met : List (List ℕ)) (ss : List Holding) → ((k : ℕ) → k < length ss → get_or ss k Nothing ≡ Nothing) → (λ x. held_of (looked_up met ss x)) ≡ no_names
none-held met ss none = fun_ext (λ x. ap held_of (none-looked met ss none x))

-- a name that holds nothing may hold nothing anew
pub nothing-anew : (names : Names) (x : List ℕ) → names x ≡ NothingHeld → with_name x NothingHeld names ≡ names
nothing-anew names x e = fun_ext (λ y. elim (is_or_not (bytes_eq x y)) [
  | inl isit ↦ (let q : x ≡ y = same_word x y isit in rw isit (sym e ∙ ap names q))
  | inr isnt ↦ rw isnt refl
])

pub not-both : (b : Bool) (A : Type 0) → b ≡ false → b ≡ true → A
not-both b A isnt isit = absurd (cc)

-- ---- non-owning references end

held-ended : (h : Holding) → held_of (without_soft h) ≡ soft_spent (held_of h)
held-ended Nothing = refl
held-ended Null = refl
held-ended (Object t o) = refl
held-ended (Soft t graph o) = refl

looked-ended : (met : List (List ℕ)) (old now : List Holding) → length now ≡ length old → ((k : ℕ) → get_or now k Nothing ≡ without_soft (get_or old k Nothing)) → (x : List ℕ) → looked_up met now x ≡ without_soft (looked_up met old x)
looked-ended [] old now long each x = refl
looked-ended (w ∷ met) [] [] long each x = refl
looked-ended (w ∷ met) (o ∷ old) [] long each x = absurd (omega (arith, long))
looked-ended (w ∷ met) [] (n ∷ now) long each x = absurd (omega (arith, long))
looked-ended (w ∷ met) (o ∷ old) (n ∷ now) long each x = elim (is_or_not (bytes_eq x w)) [
  | inl isit ↦ rw isit (each 0)
  | inr isnt ↦ rw isnt (looked-ended met old now (omega (arith, long)) (λ k. each (suc k)) x)
]

-- where they end at each place, they end for each name
pub names-ended : (met : List (List ℕ)) (old now : List Holding) → length now ≡ length old → ((k : ℕ) → get_or now k Nothing ≡ without_soft (get_or old k Nothing)) → (λ x. held_of (looked_up met now x)) ≡ soft_ended (λ x. held_of (looked_up met old x))
names-ended met old now long each = fun_ext (λ x. ap held_of (looked-ended met old now long each x) ∙ held-ended (looked_up met old x))
