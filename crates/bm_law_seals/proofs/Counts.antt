-- How many parts of logs stand behind delayed frees: no more than lives that end.
use Rattle.std.specs.Prelude.{◌≡◌, ◌<◌, ◌≤◌, ◌+◌, ◌&&◌, ◌==◌, ℕ, zero, suc, Bool, true, false, if◌then◌else◌, List, [], ◌∷◌, ◌++◌, get_or, length}
use Rattle.std.proofs.Common.{◌∙◌, ap, arith, inl, inr, length-append, refl, subst, sym, append_assoc, eq-eqb}
use Rattle.std.proofs.lemmas.Bool.{and_parts, false≢true}
use Rattle.std.proofs.lemmas.Bool.Decides.{eqb_tells}
use Rattle.bm_journal.specs.declared.entry.Entry.{Entry}
use Rattle.bm_journal.specs.declared.entry.Entry.TheVariants as entry
use Rattle.bm_law.specs.Lists.{Log}
use Rattle.bm_law.specs.Spans.{own_entries}
use Rattle.bm_law_laid.proofs.Onces.{beside-append, times-append}
use Rattle.bm_law_lives.specs.Lives.{LivesLaw, all_ended, ended_object, ends_life, is_free_of, is_last, lives_ended, lives_given, objects_ended}
use Rattle.bm_law_lives.specs.StampLaw.{delayed_parts, is_delay_of, is_delayed, part_behind, parts_behind}
use Rattle.bm_law_lives.specs.Together.{EachBelow, beside, times}

-- ---- lists

-- one among others
pub record Among {A : Type 0} (x : A) (xs : List A) : Type 0 where
  pub front : List A
  pub rest : List A
  pub is : xs ≡ front ++ x ∷ rest

pub among-first : {A : Type 0} (x : A) (xs ys : List A) → Among x xs → Among x (xs ++ ys)
among-first x xs ys a = record { front = a.front; rest = a.rest ++ ys; is = ap (λ z. z ++ ys) a.is ∙ append_assoc a.front (x ∷ a.rest) ys }

pub among-second : {A : Type 0} (x : A) (xs ys : List A) → Among x ys → Among x (xs ++ ys)
among-second x xs ys a = record { front = xs ++ a.front; rest = a.rest; is = ap (λ z. xs ++ z) a.is ∙ sym (append_assoc xs a.front (x ∷ a.rest)) }

-- the one of a list that has no more
pub only-one : {A : Type 0} (x : A) (xs : List A) → Among x xs → length xs ≤ 1 → xs ≡ x ∷ []
only-one x xs a le = a.is ∙ bare a.front a.rest (subst (λ z. length z ≤ 1) a.is le)
  where
    bare : (front rest : List _) → length (front ++ x ∷ rest) ≤ 1 → front ++ x ∷ rest ≡ x ∷ []
    bare [] [] le = refl
    bare [] (y ∷ rest) le = absurd (omega (arith, le))
    bare (y ∷ front) rest le = let n = length-append front (x ∷ rest) in absurd (omega (arith, le, n))

pub no-more : {A : Type 0} (xs : List A) → length xs ≤ 0 → xs ≡ []
no-more [] le = refl
no-more (x ∷ xs) le = absurd (omega (arith, le))

-- ---- one entry

-- how often it ends this life of the unit
abbrev ends : ℕ → ℕ → Entry → List Entry → ℕ
ends u k e own = times k (beside u (ended_object e own))

delay-frees : (u : ℕ) (e : Entry) → is_delay_of u e ≡ true → is_free_of u e ≡ true
delay-frees u (entry.Delay v home) h = h
delay-frees u _ h = absurd (false≢true h)

delayed-ends : (u : ℕ) (own : List Entry) → is_delayed u own ≡ true → ends_life u own ≡ true
delayed-ends u [] h = absurd (false≢true h)
delayed-ends u (reply ∷ []) h = absurd (false≢true h)
delayed-ends u (reply ∷ free ∷ own) h =
    let p = and_parts (is_last reply) (is_delay_of u free) h in
    rw p.0 (delay-frees u free p.1)

-- it ends just the life that its drop names
ended-once : (u k : ℕ) (own : List Entry) → ends_life u own ≡ true → ends u k (entry.Drop u k) own ≡ 1
ended-once u k own h = rw h (rw (eq-eqb u u refl) (rw (eq-eqb k k refl) refl))

part-ends : (u k : ℕ) (e : Entry) (own : List Entry) (part : Log) → length (part_behind u k e own part) ≤ ends u k e own
part-ends u k (entry.Drop v j) own part = elim (eqb_tells u v) [
  | inr y ↦ none _ (rw y.0 refl)
  | inl y ↦ elim (eqb_tells k j) [
    | inr z ↦ none _ (rw y.0 (rw z.0 refl))
    | inl z ↦ delayed y.1 z.1 (is_delayed u own) refl
  ]
]
  where
    none : (b : Bool) → b ≡ false → length (if b then part ∷ [] else []) ≤ ends u k (entry.Drop v j) own
    none true e = absurd (false≢true (sym e))
    none false e = omega arith

    most : (b : Bool) → length (if b then part ∷ [] else []) ≤ 1
    most true = omega arith
    most false = omega arith

    delayed : u ≡ v → k ≡ j → (d : Bool) → is_delayed u own ≡ d → length (part_behind u k (entry.Drop v j) own part) ≤ ends u k (entry.Drop v j) own
    delayed y z false e = none _ (rw (eq-eqb u v y) (rw (eq-eqb k j z) e))
    delayed y z true e =
        let one : ends v j (entry.Drop v j) own ≡ 1 = ended-once v j own (delayed-ends v own (subst (λ w. is_delayed w own ≡ true) y e)) in
        let same : ends u k (entry.Drop v j) own ≡ 1 = subst (λ a. ends a k (entry.Drop v j) own ≡ 1) (sym y) (subst (λ b. ends v b (entry.Drop v j) own ≡ 1) (sym z) one) in
        let m = most ((u == v) && ((k == j) && is_delayed u own)) in
        omega (arith, m, same)
part-ends u k _ own part = omega arith

-- ---- a log

pub log-ends : (u k : ℕ) (log : Log) → length (parts_behind u k log) ≤ times k (beside u (objects_ended log))
log-ends u k [] = omega arith
log-ends u k (e ∷ es) =
    let own = own_entries e.0 es in
    let a = part-ends u k e.1 own es in
    let b = log-ends u k es in
    let n = length-append (part_behind u k e.1 own es) (parts_behind u k es) in
    let t : times k (beside u (ended_object e.1 own ++ objects_ended es)) ≡ ends u k e.1 own + times k (beside u (objects_ended es)) = ap (times k) (beside-append u (ended_object e.1 own) (objects_ended es)) ∙ times-append k (beside u (ended_object e.1 own)) (beside u (objects_ended es)) in
    omega (arith, a, b, n, t)

-- the part behind a drop that a delayed free follows
pub log-has : (u k l : ℕ) (front part : Log) → is_delayed u (own_entries l part) ≡ true → Among part (parts_behind u k (front ++ (l, entry.Drop u k) ∷ part))
log-has u k l [] part h =
    let one : part_behind u k (entry.Drop u k) (own_entries l part) part ≡ part ∷ [] = rw (eq-eqb u u refl) (rw (eq-eqb k k refl) (rw h refl)) in
    among-first part (part_behind u k (entry.Drop u k) (own_entries l part) part) (parts_behind u k part) (record { front = []; rest = []; is = one })
log-has u k l (e ∷ front) part h = among-second part (part_behind u k e.1 (own_entries e.0 (front ++ (l, entry.Drop u k) ∷ part)) (front ++ (l, entry.Drop u k) ∷ part)) (parts_behind u k (front ++ (l, entry.Drop u k) ∷ part)) (log-has u k l front part h)

-- A drop that a plain free follows ends a life behind which no part stands.
pub log-spares : (u k l : ℕ) (front part : Log) → is_delayed u (own_entries l part) ≡ false → ends_life u (own_entries l part) ≡ true →
    length (parts_behind u k (front ++ (l, entry.Drop u k) ∷ part)) + 1 ≤ times k (beside u (objects_ended (front ++ (l, entry.Drop u k) ∷ part)))
log-spares u k l [] part h g =
    let own = own_entries l part in
    let none : part_behind u k (entry.Drop u k) own part ≡ [] = rw (eq-eqb u u refl) (rw (eq-eqb k k refl) (rw h refl)) in
    let b = log-ends u k part in
    let one = ended-once u k own g in
    let n = length-append (part_behind u k (entry.Drop u k) own part) (parts_behind u k part) in
    let z : length (part_behind u k (entry.Drop u k) own part) ≡ 0 = ap length none in
    let t : times k (beside u (ended_object (entry.Drop u k) own ++ objects_ended part)) ≡ ends u k (entry.Drop u k) own + times k (beside u (objects_ended part)) = ap (times k) (beside-append u (ended_object (entry.Drop u k) own) (objects_ended part)) ∙ times-append k (beside u (ended_object (entry.Drop u k) own)) (beside u (objects_ended part)) in
    omega (arith, b, one, n, z, t)
log-spares u k l (e ∷ front) part h g =
    let es = front ++ (l, entry.Drop u k) ∷ part in
    let own = own_entries e.0 es in
    let a = part-ends u k e.1 own es in
    let b = log-spares u k l front part h g in
    let n = length-append (part_behind u k e.1 own es) (parts_behind u k es) in
    let t : times k (beside u (ended_object e.1 own ++ objects_ended es)) ≡ ends u k e.1 own + times k (beside u (objects_ended es)) = ap (times k) (beside-append u (ended_object e.1 own) (objects_ended es)) ∙ times-append k (beside u (ended_object e.1 own)) (beside u (objects_ended es)) in
    omega (arith, a, b, n, t)

-- ---- all logs

all-times : (u k : ℕ) (log : Log) (logs : List Log) → times k (lives_ended u (log ∷ logs)) ≡ times k (beside u (objects_ended log)) + times k (lives_ended u logs)
all-times u k log logs = ap (times k) (beside-append u (objects_ended log) (all_ended logs)) ∙ times-append k (beside u (objects_ended log)) (lives_ended u logs)

pub all-ends : (u k : ℕ) (logs : List Log) → length (delayed_parts u k logs) ≤ times k (lives_ended u logs)
all-ends u k [] = omega arith
all-ends u k (log ∷ logs) =
    let a = log-ends u k log in
    let b = all-ends u k logs in
    let n = length-append (parts_behind u k log) (delayed_parts u k logs) in
    let t = all-times u k log logs in
    omega (arith, a, b, n, t)

pub all-have : (u k : ℕ) (part : Log) (p : ℕ) (logs : List Log) → p < length logs → Among part (parts_behind u k (get_or logs p [])) → Among part (delayed_parts u k logs)
all-have u k part p [] lt a = absurd (omega (arith, lt))
all-have u k part zero (log ∷ logs) lt a = among-first part (parts_behind u k log) (delayed_parts u k logs) a
all-have u k part (suc p) (log ∷ logs) lt a = among-second part (parts_behind u k log) (delayed_parts u k logs) (all-have u k part p logs (omega (arith, lt)) a)

pub all-spare : (u k p : ℕ) (logs : List Log) → p < length logs → length (parts_behind u k (get_or logs p [])) + 1 ≤ times k (beside u (objects_ended (get_or logs p []))) → length (delayed_parts u k logs) + 1 ≤ times k (lives_ended u logs)
all-spare u k p [] lt h = absurd (omega (arith, lt))
all-spare u k zero (log ∷ logs) lt h =
    let b = all-ends u k logs in
    let n = length-append (parts_behind u k log) (delayed_parts u k logs) in
    let t = all-times u k log logs in
    omega (arith, h, b, n, t)
all-spare u k (suc p) (log ∷ logs) lt h =
    let a = log-ends u k log in
    let b = all-spare u k p logs (omega (arith, lt)) h in
    let n = length-append (parts_behind u k log) (delayed_parts u k logs) in
    let t = all-times u k log logs in
    omega (arith, a, b, n, t)

-- each life that was given ends at most once
below-at : (P : ℕ → Type 0) (n k : ℕ) → EachBelow n P → k < n → P k
below-at P zero k h lt = absurd (omega (arith, lt))
below-at P (suc n) k h lt = elim (eqb_tells k n) [
  | inl y ↦ subst P (sym y.1) h.1
  | inr y ↦ (let ne = y.1 in below-at P n k h.0 (omega (arith, lt, ne)))
]

pub ended-at-most : (u k : ℕ) (logs : List Log) → LivesLaw logs → 0 < k → k ≤ length (lives_given u logs) → times k (lives_ended u logs) ≤ 1
ended-at-most u zero logs law lt le = absurd (omega (arith, lt))
ended-at-most u (suc k) logs law lt le =
    let same : k + 1 ≡ suc k = omega arith in
    subst (λ j. times j (lives_ended u logs) ≤ 1) same (below-at (λ j. times (j + 1) (lives_ended u logs) ≤ 1) (length (lives_given u logs)) k (law.ended u) (omega (arith, le)))
