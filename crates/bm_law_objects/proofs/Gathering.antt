-- What is gathered from logs is what is gathered from an order of them.
use Rattle.std.proofs.Common.{◌≡◌, ◌≢◌, ◌⊎◌, ℕ, zero, suc, ◌+◌, ◌<◌, List, [], ◌∷◌, ◌++◌, length, get_or, refl, sym, ◌∙◌, ap, subst, arith, inl, inr}
use Rattle.std.proofs.lemmas.Bool.Decides.{eqb_tells}
use Rattle.bm_journal.specs.declared.entry.Entry.{Entry}
use Rattle.bm_law.specs.Lists.{Log}
use Rattle.bm_law_lives.specs.Together.{Each, named, named_in}
use Rattle.bm_law_order.specs.Orders.{Event, Order, part_of}
use Rattle.bm_law_order.specs.Polls.{for_processor}
use Rattle.bm_law_laid.specs.Once.{named_by}
use Rattle.bm_law_laid.specs.OrderOf.{AllBelow, IsOrderOf}
use Rattle.bm_law_objects.specs.Gathered.{OneOf, gathered, gathered_by, gathered_from, gathered_over}

-- ---- sums

abbrev pub sum_below : ℕ → (ℕ → ℕ) → ℕ
sum_below zero f = 0
sum_below (suc n) f = sum_below n f + f n

pub sum-same : (n : ℕ) (f g : ℕ → ℕ) → ((p : ℕ) → p < n → f p ≡ g p) → sum_below n f ≡ sum_below n g
sum-same zero f g h = refl
sum-same (suc n) f g h = let x = sum-same n f g (λ p lt. h p (omega (arith, lt))) in let y = h n (omega arith) in omega (arith, x, y)

pub sum-none : (n : ℕ) (f : ℕ → ℕ) → ((p : ℕ) → p < n → f p ≡ 0) → sum_below n f ≡ 0
sum-none zero f h = refl
sum-none (suc n) f h = let x = sum-none n f (λ p lt. h p (omega (arith, lt))) in let y = h n (omega arith) in omega (arith, x, y)

sum-front : (n : ℕ) (f : ℕ → ℕ) → sum_below (suc n) f ≡ f 0 + sum_below n (λ k. f (suc k))
sum-front zero f = omega arith
sum-front (suc n) f = let x = sum-front n f in omega (arith, x)

-- one of them is more
pub sum-more : (n q k : ℕ) (f g : ℕ → ℕ) → q < n → f q ≡ k + g q → ((p : ℕ) → q ≢ p → f p ≡ g p) → sum_below n f ≡ k + sum_below n g
sum-more zero q k f g lt here there = absurd (omega (arith, lt))
sum-more (suc n) q k f g lt here there = elim (eqb_tells q n) [
  | inl y ↦
      (let same = y.1 in
      let last : f n ≡ k + g n = subst (λ m. f m ≡ k + g m) same here in
      let front = sum-same n f g (λ p less. there p (λ e. omega (arith, less, e, same))) in
      omega (arith, last, front))
  | inr y ↦
      (let other = y.1 in
      let front = sum-more n q k f g (omega (arith, lt, other)) here there in
      let last = there n other in
      omega (arith, front, last))
]

-- ---- the state of each processor

pub for-self : {A : Type 0} (p : ℕ) (x : A) (f : ℕ → A) → for_processor p x f p ≡ x
for-self p x f = elim (eqb_tells p p) [ inl y ↦ rw y.0 refl | inr y ↦ absurd (y.1 refl) ]

pub for-other : {A : Type 0} (p q : ℕ) (x : A) (f : ℕ → A) → p ≢ q → for_processor p x f q ≡ f q
for-other p q x f ne = elim (eqb_tells q p) [ inl y ↦ absurd (ne (sym y.1)) | inr y ↦ rw y.0 refl ]

part-self : (e : Event) (o : Order) → part_of e.processor (e ∷ o) ≡ (e.level, e.entry) ∷ part_of e.processor o
part-self e o = elim (eqb_tells e.processor e.processor) [ inl y ↦ rw y.0 refl | inr y ↦ absurd (y.1 refl) ]

part-there : (p : ℕ) (e : Event) (o : Order) → e.processor ≢ p → part_of p (e ∷ o) ≡ part_of p o
part-there p e o ne = elim (eqb_tells e.processor p) [ inl y ↦ absurd (ne y.1) | inr y ↦ rw y.0 refl ]

pub part-past : (n p : ℕ) (o : Order) → AllBelow n o → (p < n → ⊥) → part_of p o ≡ []
part-past n p [] h out = refl
part-past n p (e ∷ o) h out = part-there p e o (λ same. out (subst (λ q. q < n) same h.0)) ∙ part-past n p o h.1 out

-- the states after an entry
abbrev pub next : {S : Type 0} → (S → ℕ × Entry → S) → Event → (ℕ → S) → ℕ → S
next after e s = for_processor e.processor (after (s e.processor) (e.level, e.entry)) s

module _ {S A : Type 0} (after : S → ℕ × Entry → S) (gives : ℕ → S → ℕ × Entry → List A) where
  -- what a processor gives of an order
  abbrev pub own : ℕ → (ℕ → S) → Order → List A
  own p s o = gathered after (gives p) (s p) (part_of p o)

  own-self : (e : Event) (o : Order) (s : ℕ → S) → own e.processor s (e ∷ o) ≡ gives e.processor (s e.processor) (e.level, e.entry) ++ own e.processor (next after e s) o
  own-self e o s =
      ap (gathered after (gives e.processor) (s e.processor)) (part-self e o)
      ∙ ap (λ t. gives e.processor (s e.processor) (e.level, e.entry) ++ gathered after (gives e.processor) t (part_of e.processor o)) (sym (for-self e.processor (after (s e.processor) (e.level, e.entry)) s))

  pub own-here : (p : ℕ) (e : Event) (o : Order) (s : ℕ → S) → e.processor ≡ p → own p s (e ∷ o) ≡ gives p (s p) (e.level, e.entry) ++ own p (next after e s) o
  own-here p e o s same = subst (λ q. own q s (e ∷ o) ≡ gives q (s q) (e.level, e.entry) ++ own q (next after e s) o) same (own-self e o s)

  pub own-there : (p : ℕ) (e : Event) (o : Order) (s : ℕ → S) → e.processor ≢ p → own p s (e ∷ o) ≡ own p (next after e s) o
  own-there p e o s ne =
      ap (gathered after (gives p) (s p)) (part-there p e o ne)
      ∙ ap (λ t. gathered after (gives p) t (part_of p o)) (sym (for-other e.processor p (after (s e.processor) (e.level, e.entry)) s ne))

  -- ---- a count of what is gathered, that adds up
  module _ (count : List A → ℕ) (none : count [] ≡ 0) (both : (xs ys : List A) → count (xs ++ ys) ≡ count xs + count ys) where
    over-below : (n : ℕ) (o : Order) (s : ℕ → S) → AllBelow n o → count (gathered_over after gives o s) ≡ sum_below n (λ p. count (own p s o))
    over-below n [] s h = none ∙ sym (sum-none n (λ p. count (own p s [])) (λ p lt. none))
    over-below n (e ∷ o) s h =
        let q = e.processor in
        let first = gives q (s q) (e.level, e.entry) in
        let here = ap count (own-here q e o s refl) ∙ both first (own q (next after e s) o) in
        let more = sum-more n q (count first) (λ p. count (own p s (e ∷ o))) (λ p. count (own p (next after e s) o)) h.0 here (λ p ne. ap count (own-there p e o s ne)) in
        let rest = over-below n o (next after e s) h.1 in
        let all = both first (gathered_over after gives o (next after e s)) in
        omega (arith, more, rest, all)

    pub from-below : (s : S) (q : ℕ) (logs : List Log) → count (gathered_from after gives s q logs) ≡ sum_below (length logs) (λ i. count (gathered after (gives (q + i)) s (get_or logs i [])))
    from-below s q [] = none
    from-below s q (log ∷ logs) =
        let f : ℕ → ℕ = λ i. count (gathered after (gives (q + i)) s (get_or (log ∷ logs) i [])) in
        let g : ℕ → ℕ = λ i. count (gathered after (gives (q + 1 + i)) s (get_or logs i [])) in
        let shift : sum_below (length logs) (λ i. f (suc i)) ≡ sum_below (length logs) g =
        sum-same (length logs) (λ i. f (suc i)) g (λ i lt. ap (λ p. count (gathered after (gives p) s (get_or logs i []))) (omega arith)) in
        let first : f 0 ≡ count (gathered after (gives q) s log) = ap (λ p. count (gathered after (gives p) s log)) (omega arith) in
        let front = sum-front (length logs) f in
        let rest = from-below s (q + 1) logs in
        let all = both (gathered after (gives q) s log) (gathered_from after gives s (q + 1) logs) in
        omega (arith, shift, first, front, rest, all)

    pub gathered-count : (s : S) (logs : List Log) (o : Order) → IsOrderOf logs o → count (gathered_by after gives s logs) ≡ count (gathered_over after gives o (λ p. s))
    gathered-count s logs o is =
        let a = from-below s 0 logs in
        let b = over-below (length logs) o (λ p. s) is.below in
        let c = sum-same (length logs) (λ i. count (gathered after (gives (0 + i)) s (get_or logs i []))) (λ p. count (own p (λ p. s) o)) (λ p lt.
        ap (λ q. count (gathered after (gives q) s (get_or logs p []))) (omega arith) ∙ ap (λ log. count (gathered after (gives p) s log)) (sym (is.parts p lt))) in
        omega (arith, a, b, c)

  -- ---- what is kept of a processor
  module _ (keep : ℕ → List A → List A) (none : (p : ℕ) → keep p [] ≡ []) (both : (p : ℕ) (xs ys : List A) → keep p (xs ++ ys) ≡ keep p xs ++ keep p ys)
      (own-kept : (p : ℕ) (s : S) (e : ℕ × Entry) → keep p (gives p s e) ≡ gives p s e) (others-not : (p q : ℕ) (s : S) (e : ℕ × Entry) → q ≢ p → keep p (gives q s e) ≡ []) where
    pub gathered-kept : (p : ℕ) (o : Order) (s : ℕ → S) → keep p (gathered_over after gives o s) ≡ own p s o
    gathered-kept p [] s = none p
    gathered-kept p (e ∷ o) s =
        let q = e.processor in
        let x : ℕ × Entry = (e.level, e.entry) in
        let rest = gathered-kept p o (next after e s) in
        both p (gives q (s q) x) (gathered_over after gives o (next after e s))
        ∙ elim (eqb_tells q p) [
          | inl y ↦
              ap (λ zs. zs ++ keep p (gathered_over after gives o (next after e s))) (subst (λ r. keep p (gives q (s q) x) ≡ gives r (s r) x) y.1 (subst (λ r. keep r (gives q (s q) x) ≡ gives q (s q) x) y.1 (own-kept q (s q) x)))
              ∙ (ap (λ zs. gives p (s p) x ++ zs) rest ∙ sym (own-here p e o s y.1))
          | inr y ↦
              ap (λ zs. zs ++ keep p (gathered_over after gives o (next after e s))) (others-not p q (s q) x y.1)
              ∙ (rest ∙ sym (own-there p e o s y.1))
        ]

  -- ---- some of what is gathered
  module _ (P : A → Type 0) where
    pub one-left : (xs ys : List A) → OneOf P xs → OneOf P (xs ++ ys)
    one-left [] ys h = absurd h
    one-left (x ∷ xs) ys h = elim h [ inl p ↦ inl p | inr more ↦ inr (one-left xs ys more) ]

    pub one-right : (xs ys : List A) → OneOf P ys → OneOf P (xs ++ ys)
    one-right [] ys h = h
    one-right (x ∷ xs) ys h = inr (one-right xs ys h)

    pub one-split : (xs ys : List A) → OneOf P (xs ++ ys) → OneOf P xs ⊎ OneOf P ys
    one-split [] ys h = inr h
    one-split (x ∷ xs) ys h = elim h [ inl p ↦ inl (inl p) | inr more ↦ elim (one-split xs ys more) [ inl a ↦ inl (inr a) | inr b ↦ inr b ] ]

    one-more : (p : ℕ) (e : Event) (o : Order) (s : ℕ → S) → OneOf P (own p (next after e s) o) → OneOf P (own p s (e ∷ o))
    one-more p e o s h = elim (eqb_tells e.processor p) [
      | inl y ↦ subst (OneOf P) (sym (own-here p e o s y.1)) (one-right (gives p (s p) (e.level, e.entry)) (own p (next after e s) o) h)
      | inr y ↦ subst (OneOf P) (sym (own-there p e o s y.1)) h
    ]

    one-over : (n : ℕ) (o : Order) (s : ℕ → S) → AllBelow n o → OneOf P (gathered_over after gives o s) → (p : ℕ) × ((p < n) × OneOf P (own p s o))
    one-over n [] s b h = absurd h
    one-over n (e ∷ o) s b h =
        let q = e.processor in
        let first = gives q (s q) (e.level, e.entry) in
        elim (one-split first (gathered_over after gives o (next after e s)) h) [
          | inl a ↦ (q, (b.0, subst (OneOf P) (sym (own-here q e o s refl)) (one-left first (own q (next after e s) o) a)))
          | inr a ↦ let r = one-over n o (next after e s) b.1 a in (r.0, (r.1.0, one-more r.0 e o s r.1.1))
        ]

    pub one-from : (s : S) (q i p : ℕ) (logs : List Log) → i < length logs → p ≡ q + i → OneOf P (gathered after (gives p) s (get_or logs i [])) → OneOf P (gathered_from after gives s q logs)
    one-from s q i p [] lt e h = absurd (omega (arith, lt))
    one-from s q zero p (log ∷ logs) lt e h =
        let same : p ≡ q = omega (arith, e) in
        one-left (gathered after (gives q) s log) (gathered_from after gives s (q + 1) logs) (subst (λ r. OneOf P (gathered after (gives r) s log)) same h)
    one-from s q (suc i) p (log ∷ logs) lt e h =
        one-right (gathered after (gives q) s log) (gathered_from after gives s (q + 1) logs) (one-from s (q + 1) i p logs (omega (arith, lt)) (omega (arith, e)) h)

    pub gathered-one : (s : S) (logs : List Log) (o : Order) → IsOrderOf logs o → OneOf P (gathered_over after gives o (λ p. s)) → OneOf P (gathered_by after gives s logs)
    gathered-one s logs o is h =
        let r = one-over (length logs) o (λ p. s) is.below h in
        one-from s 0 r.0 r.0 logs r.1.0 (omega arith) (subst (λ log. OneOf P (gathered after (gives r.0) s log)) (is.parts r.0 r.1.0) r.1.1)

-- ---- what is so of all that is named

module _ {A : Type 0} (P : A → Type 0) (names : Entry → List A) where
  each-both : (xs ys : List A) → Each P xs → Each P ys → Each P (xs ++ ys)
  each-both [] ys h k = k
  each-both (x ∷ xs) ys h k = (h.0, each-both xs ys h.1 k)

  each-front : (xs ys : List A) → Each P (xs ++ ys) → Each P xs
  each-front [] ys h = tt
  each-front (x ∷ xs) ys h = (h.0, each-front xs ys h.1)

  each-rest : (xs ys : List A) → Each P (xs ++ ys) → Each P ys
  each-rest [] ys h = h
  each-rest (x ∷ xs) ys h = each-rest xs ys h.1

  each-part : (p : ℕ) (o : Order) → Each P (named_by names o) → Each P (named_in names (part_of p o))
  each-part p [] h = tt
  each-part p (e ∷ o) h =
      let rest = each-part p o (each-rest (names e.entry) (named_by names o) h) in
      elim (eqb_tells e.processor p) [
        | inl y ↦ rw y.0 (each-both (names e.entry) (named_in names (part_of p o)) (each-front (names e.entry) (named_by names o) h) rest)
        | inr y ↦ rw y.0 rest
      ]

  each-of-logs : (logs : List Log) → ((p : ℕ) → p < length logs → Each P (named_in names (get_or logs p []))) → Each P (named names logs)
  each-of-logs [] h = tt
  each-of-logs (log ∷ logs) h = each-both (named_in names log) (named names logs) (h 0 (omega arith)) (each-of-logs logs (λ p lt. h (suc p) (omega (arith, lt))))

  pub each-named : (logs : List Log) (o : Order) → IsOrderOf logs o → Each P (named_by names o) → Each P (named names logs)
  each-named logs o is h = each-of-logs logs (λ p lt. subst (λ log. Each P (named_in names log)) (is.parts p lt) (each-part p o h))

  -- along an order
  pub each-along : (e : Event) (o : Order) → Each P (names e.entry) → Each P (named_by names o) → Each P (named_by names (e ∷ o))
  each-along e o h k = each-both (names e.entry) (named_by names o) h k
