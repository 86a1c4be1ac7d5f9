-- The way of a unit that waits: in hand, on Delayed or ExtraDelayed, in a batch, in a batch with its stamp; and how far its log has come
-- in telling so.
use Rattle.std.specs.Prelude.{◌≡◌, ◌≢◌, ◌<◌, ◌≤◌, ◌+◌, ◌⊎◌, not, eqb, if◌then◌else◌, ℕ, zero, suc, Bool, true, false, List, [], ◌∷◌, ◌++◌, Option, Some, None, take}
use Rattle.std.proofs.Common.{◌∙◌, ap, arith, eq-eqb, inl, inr, ne_eqb, refl, subst, sym}
use Rattle.std.proofs.lemmas.Bool.Decides.{eqb_tells}
use Rattle.bm_journal.specs.declared.ids.Domain.TheVariants.{Plain, Tracing}
use Rattle.bm_journal.specs.declared.entry.Entry.{Entry}
use Rattle.bm_journal.specs.declared.entry.Entry.TheVariants as entry
use Rattle.bm_journal.specs.EntryText.{unit_list}
use Rattle.bm_law.specs.Lists.{Log, Names, next, sends}
use Rattle.bm_law.specs.Spans.{own_entries}
use Rattle.bm_law.specs.Stands.{in_row, times}
use Rattle.bm_law.specs.State.{Row, State}
use Rattle.bm_law.proofs.Stands.{times-append}
use Rattle.bm_law_lives.specs.StampLaw.{BatchedAt, Either, Found, SentAfter, StampedAt, batch_with, holds, last_after, pass_of, passed, sends_unit, stamp_in}
use Rattle.bm_law_lives.specs.Together as together
use Rattle.bm_law_order.specs.Seals.{passed_after}
use Rattle.bm_law_seals.specs.Answered.{PutsDelayed}
use Rattle.bm_law_seals.proofs.Rows.{KeepsBatch, KeepsWaiting, batch-on, side-other, waiting-on, waiting_in}

-- ---- units among others

same-times : (u : ℕ) (us : List ℕ) → together.times u us ≡ times u us
same-times u [] = refl
same-times u (v ∷ us) = elim (eqb_tells u v) [
  | inl y ↦ rw y.0 (let r = same-times u us in omega (arith, r))
  | inr y ↦ rw y.0 (let r = same-times u us in omega (arith, r))
]

pub holds-some : (u : ℕ) (us : List ℕ) → 0 < times u us → holds u us ≡ true
holds-some u us lt = (let s = same-times u us in let ne : together.times u us ≢ 0 = λ e. omega (arith, lt, s, e) in ap not (ne_eqb (together.times u us) 0 ne))

pub holds-none : (u : ℕ) (us : List ℕ) → times u us ≡ 0 → holds u us ≡ false
holds-none u us z = ap not (eq-eqb (together.times u us) 0 (same-times u us ∙ z))

-- some or none
pub counted : (n : ℕ) → (0 < n) ⊎ (n ≡ 0)
counted zero = inr refl
counted (suc n) = inl (omega arith)

-- ---- the pass that was the last entry of ordinary code

abbrev pub told : Option Entry → Option (ℕ × ℕ)
told None = None
told (Some e) = passed_after e

abbrev pub passed_on : ℕ → Entry → Option (ℕ × ℕ) → Option (ℕ × ℕ)
passed_on l e before = if eqb l 0 then passed_after e else before

told-on : (l : ℕ) (e : Entry) (last : Option Entry) (before : Option (ℕ × ℕ)) → before ≡ told last → passed_on l e before ≡ told (last_after last (l, e))
told-on l e last before h = elim (eqb_tells l 0) [ inl y ↦ rw y.0 refl | inr y ↦ rw y.0 h ]

abbrev first_or : Option (ℕ × ℕ) → ℕ
first_or None = 0
first_or (Some x) = x.0

abbrev second_or : Option (ℕ × ℕ) → ℕ
second_or None = 0
second_or (Some x) = x.1

pair-same : (a b c d : ℕ) → ◌≡◌ {A = Option (ℕ × ℕ)} (Some (a, b)) (Some (c, d)) → (a ≡ c) × (b ≡ d)
pair-same a b c d e = (ap first_or e, ap second_or e)

none-pair : (c n : ℕ) → ◌≡◌ {A = Option (ℕ × ℕ)} None (Some (c, n)) → ⊥
none-pair c n e = cc

pass-told : (c n : ℕ) (e : Entry) → passed_after e ≡ Some (c, n) → pass_of c Plain e ≡ Some n
pass-told c n (entry.Pass k Plain m) h = (let q = pair-same k m c n h in rw (eq-eqb k c q.0) (ap Some q.1))
pass-told c n (entry.Pass k Tracing m) h = absurd (none-pair c n h)
pass-told c n _ h = absurd (none-pair c n h)

passed-told : (c n : ℕ) (last : Option Entry) → told last ≡ Some (c, n) → passed c Plain last ≡ Some n
passed-told c n None h = absurd (none-pair c n h)
passed-told c n (Some e) h = pass-told c n e h

-- ---- stages

-- Where unit u waits, in the lists of its processor, and what its log has to say yet; `part` is what stands behind the drop that ended
-- its life.
pub data Stage (u : ℕ) (s : State ℕ) (before : Option (ℕ × ℕ)) (rest part : Log) : Type 0 where
  InHand : (l : ℕ) → 0 < times u (s.sides l).hand → PutsDelayed u (own_entries l rest) → ((x n : ℕ) → BatchedAt u x n rest → BatchedAt u x n part) → Stage u s before rest part
  InDelayed : (c : ℕ) → 0 < waiting_in u (s.rows c) → ((x n : ℕ) → BatchedAt u x n rest → BatchedAt u x n part) → Stage u s before rest part
  InBatch : (c : ℕ) → 0 < times u (s.rows c).deferred.first → (s.rows c).deferred.plain ≡ Some 0 → ((x n : ℕ) → StampedAt c u x n rest → BatchedAt u x n part) → Stage u s before rest part
  InStamped : (c x : ℕ) (last : Option Entry) → 0 < times u (s.rows c).deferred.first → (s.rows c).deferred.plain ≡ Some x → 0 < x → before ≡ told last → ((n : ℕ) → SentAfter c u x n last rest → BatchedAt u x n part) → Stage u s before rest part

-- The unit is in one list or hand of the processor.
pub record Sole (u : ℕ) (s : State ℕ) : Type 0 where
  pub rows : (c d : ℕ) → 0 < in_row u (s.rows c) → 0 < in_row u (s.rows d) → c ≡ d
  pub apart : (c l : ℕ) → 0 < in_row u (s.rows c) → 0 < times u (s.sides l).hand → ⊥

-- what an entry is asked for: no sweep, a stamp above 0 in ordinary code, and a send that takes other units
abbrev pub IsCalm : ℕ → ℕ → Entry → Type 0
IsCalm u l (entry.Sweep c us) = ⊥
IsCalm u l (entry.Stamp c d x) = (0 < x) × (l ≡ 0)
IsCalm u l (entry.Send c to us) = times u (unit_list us) ≡ 0
IsCalm u l _ = Unit {0}

delayed-in-row : (u : ℕ) (r : Row ℕ) → waiting_in u r ≤ in_row u r
delayed-in-row u r = omega arith

first-in-row : (u : ℕ) (r : Row ℕ) → times u r.deferred.first ≤ in_row u r
first-in-row u r = omega arith

-- ---- the log goes on

module _ (u l : ℕ) (e : Entry) (rest part : Log) where
  batched-skip : batch_with u e ≡ None → ((x n : ℕ) → BatchedAt u x n ((l, e) ∷ rest) → BatchedAt u x n part) → (x n : ℕ) → BatchedAt u x n rest → BatchedAt u x n part
  batched-skip h f x n b = f x n (subst (λ o. Found o (λ c. StampedAt c u x n rest) (BatchedAt u x n rest)) (sym h) b)

  batched-in : (c : ℕ) → batch_with u e ≡ Some c → ((x n : ℕ) → BatchedAt u x n ((l, e) ∷ rest) → BatchedAt u x n part) → (x n : ℕ) → StampedAt c u x n rest → BatchedAt u x n part
  batched-in c h f x n b = f x n (subst (λ o. Found o (λ c. StampedAt c u x n rest) (BatchedAt u x n rest)) (sym h) b)

  stamped-skip : (c : ℕ) → stamp_in c e ≡ None → ((x n : ℕ) → StampedAt c u x n ((l, e) ∷ rest) → BatchedAt u x n part) → (x n : ℕ) → StampedAt c u x n rest → BatchedAt u x n part
  stamped-skip c h f x n b = f x n (subst (λ o. Found o (λ y. (y ≡ x) × SentAfter c u x n None rest) (StampedAt c u x n rest)) (sym h) b)

  stamped-in : (c x : ℕ) → stamp_in c e ≡ Some x → ((y n : ℕ) → StampedAt c u y n ((l, e) ∷ rest) → BatchedAt u y n part) → (n : ℕ) → SentAfter c u x n None rest → BatchedAt u x n part
  stamped-in c x h f n b = f x n (subst (λ o. Found o (λ y. (y ≡ x) × SentAfter c u x n None rest) (StampedAt c u x n rest)) (sym h) (refl, b))

  sent-skip : (c x : ℕ) (last : Option Entry) → sends_unit u e ≡ false → ((n : ℕ) → SentAfter c u x n last ((l, e) ∷ rest) → BatchedAt u x n part) → (n : ℕ) → SentAfter c u x n (last_after last (l, e)) rest → BatchedAt u x n part
  sent-skip c x last h f n b = f n (subst (λ t. Either t ((passed c Plain last ≡ Some n) × (x ≤ n)) (SentAfter c u x n (last_after last (l, e)) rest)) (sym h) b)

  -- its parcel goes away
  pub sent-in : (c x n : ℕ) (last : Option Entry) → sends_unit u e ≡ true → told last ≡ Some (c, n) → ((n : ℕ) → SentAfter c u x n last ((l, e) ∷ rest) → BatchedAt u x n part) → x ≤ n → BatchedAt u x n part
  sent-in c x n last h t f le = f n (subst (λ b. Either b ((passed c Plain last ≡ Some n) × (x ≤ n)) (SentAfter c u x n (last_after last (l, e)) rest)) (sym h) (passed-told c n last t, le))

other-sends : (u l : ℕ) (e : Entry) → IsCalm u l e → sends_unit u e ≡ false
other-sends u l (entry.Send c to us) h = holds-none u (unit_list us) h
other-sends u l _ h = refl

-- ---- in hand

-- the entry goes on with the delayed free, or puts the unit where it waits
hand-same : (u l : ℕ) (e : Entry) (own : List Entry) (s : State ℕ) → Names l e s → 0 < times u (s.sides l).hand → PutsDelayed u (e ∷ own) →
    ((0 < times u ((next s (l, e)).sides l).hand) × PutsDelayed u own) ⊎ ((c : ℕ) × (0 < waiting_in u ((next s (l, e)).rows c)))
hand-same u l (entry.Enter c a) own s n lt h = inl (rw (eq-eqb l l refl) lt, h)
hand-same u l (entry.LookDelayed c k) own s n lt h = inl (rw (eq-eqb l l refl) lt, h)
hand-same u l (entry.LostDelayed c) own s n lt h = inl (rw (eq-eqb l l refl) lt, h)
hand-same u l (entry.Delayed c v) own s n lt h = inr (c, rw (eq-eqb c c refl) (put u v (take 1 (s.sides l).hand) (s.rows c).delayed (s.rows c).extra_delayed h n))
  where
    put : (u v : ℕ) (top ds es : List ℕ) → v ≡ u → top ≡ v ∷ [] → 0 < times u (top ++ ds) + times u es
    put u v top ds es h n =
        let a = times-append u top ds in
        let b : times u top ≡ 1 = ap (times u) n ∙ rw (eq-eqb u v (sym h)) refl in
        omega (arith, a, b)
hand-same u l (entry.PutDelayed c v) own s n lt h = inr (c, rw (eq-eqb c c refl) (put u v (take 1 (s.sides l).hand) (s.rows c).delayed (s.rows c).extra_delayed h n.0))
  where
    put : (u v : ℕ) (top ds es : List ℕ) → v ≡ u → top ≡ v ∷ [] → 0 < times u ds + times u (top ++ es)
    put u v top ds es h n =
        let a = times-append u top es in
        let b : times u top ≡ 1 = ap (times u) n ∙ rw (eq-eqb u v (sym h)) refl in
        omega (arith, a, b)
hand-same u l _ own s n lt h = absurd h

-- no batch has a unit that is in hand
not-batched : (u l : ℕ) (e : Entry) (s : State ℕ) → Names l e s → ((c : ℕ) → times u (s.rows c).delayed ≡ 0) → batch_with u e ≡ None
not-batched u l (entry.Batch c us) s n none = (let z : times u (unit_list us) ≡ 0 = ap (times u) n.0 ∙ none c in rw (holds-none u (unit_list us) z) refl)
not-batched u l _ s n none = refl

module _ (u l : ℕ) (e : Entry) (s : State ℕ) (before : Option (ℕ × ℕ)) (rest part : Log) (names : Names l e s) (sole : Sole u s) (calm : IsCalm u l e) where
  abbrev Later : Type 0
  Later = Stage u (next s (l, e)) (passed_on l e before) rest part

  hand-on : (j : ℕ) → 0 < times u (s.sides j).hand → PutsDelayed u (own_entries j ((l, e) ∷ rest)) → ((x n : ℕ) → BatchedAt u x n ((l, e) ∷ rest) → BatchedAt u x n part) → Later
  hand-on j lt puts f =
      let none : (c : ℕ) → times u (s.rows c).delayed ≡ 0 = λ c. elim (counted (times u (s.rows c).delayed)) [
        | inl some ↦ absurd (sole.apart c j (let k = delayed-in-row u (s.rows c) in omega (arith, some, k)) lt)
        | inr z ↦ z
      ] in
      let g = batched-skip u l e rest part (not-batched u l e s names none) f in
      elim (eqb_tells l j) [
        | inr y ↦ InHand j (subst (λ h. 0 < times u h.hand) (sym (side-other l j e s (λ q. y.1 (sym q)))) lt) (rw y.0 at puts) g
        | inl y ↦
            (elim (hand-same u l e (own_entries j rest) s names (subst (λ k. 0 < times u (s.sides k).hand) (sym y.1) lt) (rw y.0 at puts)) [
              | inl z ↦ InHand j (subst (λ k. 0 < times u ((next s (l, e)).sides k).hand) y.1 z.0) z.1 g
              | inr z ↦ InDelayed z.0 z.1 g
            ])
      ]

  -- ---- on Delayed or ExtraDelayed

  delayed-calm : (c : ℕ) → KeepsWaiting c e → batch_with u e ≡ None → 0 < waiting_in u (s.rows c) → ((x n : ℕ) → BatchedAt u x n ((l, e) ∷ rest) → BatchedAt u x n part) → Later
  delayed-calm c k h lt f = InDelayed c (let w = waiting-on u c s l e k in omega (arith, lt, w)) (batched-skip u l e rest part h f)

-- a batch of the class takes the unit off Delayed, or leaves it on ExtraDelayed
delayed-batch : (u l c : ℕ) (us : _) (s : State ℕ) (before : Option (ℕ × ℕ)) (rest part : Log) → Names l (entry.Batch c us) s → 0 < waiting_in u (s.rows c) → ((x n : ℕ) → BatchedAt u x n ((l, entry.Batch c us) ∷ rest) → BatchedAt u x n part) → Stage u (next s (l, entry.Batch c us)) (passed_on l (entry.Batch c us) before) rest part
delayed-batch u l c us s before rest part names lt f = elim (counted (times u (unit_list us))) [
  | inl some ↦
      (let in_first : 0 < times u ((s.rows c).delayed ++ (s.rows c).deferred.first) = (let a = times-append u (s.rows c).delayed (s.rows c).deferred.first in let b = ap (times u) names.0 in omega (arith, a, b, some)) in
      InBatch c (rw (eq-eqb c c refl) in_first) (rw (eq-eqb c c refl) refl) (batched-in u l (entry.Batch c us) rest part c (rw (holds-some u (unit_list us) some) refl) f))
  | inr z ↦
      (let on_extra : 0 < times u (s.rows c).extra_delayed = (let b = ap (times u) names.0 in omega (arith, b, z, lt)) in
      InDelayed c (rw (eq-eqb c c refl) (omega (arith, on_extra))) (batched-skip u l (entry.Batch c us) rest part (rw (holds-none u (unit_list us) z) refl) f))
]

delayed-on : (u l : ℕ) (e : Entry) (s : State ℕ) (before : Option (ℕ × ℕ)) (rest part : Log) → Names l e s → Sole u s → IsCalm u l e → (c : ℕ) → 0 < waiting_in u (s.rows c) → ((x n : ℕ) → BatchedAt u x n ((l, e) ∷ rest) → BatchedAt u x n part) → Stage u (next s (l, e)) (passed_on l e before) rest part
delayed-on u l (entry.Batch k us) s before rest part names sole calm c lt f = elim (eqb_tells c k) [
  | inl y ↦ delayed-batch u l k us s before rest part names (subst (λ j. 0 < waiting_in u (s.rows j)) y.1 lt) f
  | inr y ↦
      (let none : times u (s.rows k).delayed ≡ 0 = elim (counted (times u (s.rows k).delayed)) [
        | inl some ↦ absurd (y.1 (sole.rows c k (let i = delayed-in-row u (s.rows c) in omega (arith, lt, i)) (let i = delayed-in-row u (s.rows k) in omega (arith, some, i))))
        | inr z ↦ z
      ] in
      let z : times u (unit_list us) ≡ 0 = ap (times u) names.0 ∙ none in
      delayed-calm u l (entry.Batch k us) s before rest part names sole calm c y.1 (rw (holds-none u (unit_list us) z) refl) lt f)
]
delayed-on u l (entry.Sweep k us) s before rest part names sole calm c lt f = absurd calm
delayed-on u l e s before rest part names sole calm c lt f = delayed-calm u l e s before rest part names sole calm c tt refl lt f

-- ---- in a batch

some-none : (x : ℕ) → Some x ≡ None → ⊥
some-none x e = cc

some-some : (x y : ℕ) → Some x ≡ Some y → x ≡ y
some-some x y e = cc

-- a send that has nothing in hand and takes another unit is of another class
sends-other : (u l c k to : ℕ) (us : _) (s : State ℕ) (hand : List ℕ) → hand ≡ (s.sides l).hand → Names l (entry.Send k to us) s → times u (unit_list us) ≡ 0 → 0 < times u (s.rows c).deferred.first → KeepsBatch c hand (entry.Send k to us)
sends-other u l c k to us s [] h names z lt = λ e.
    let takes : unit_list us ≡ (s.rows k).deferred.first = names.1 ∙ ap (λ hand. sends hand (s.rows k).deferred.first) (sym h) in
    let same : times u (s.rows k).deferred.first ≡ times u (s.rows c).deferred.first = ap (λ j. times u (s.rows j).deferred.first) (sym e) in
    let t = ap (times u) takes in
    omega (arith, t, same, z, lt)
sends-other u l c k to us s (v ∷ vs) h names z lt = tt

-- the batch of the class stays as it is
batch-kept : (u l c x : ℕ) (e : Entry) (s : State ℕ) → Names l e s → IsCalm u l e → 0 < times u (s.rows c).deferred.first → (s.rows c).deferred.plain ≡ Some x → ((y : ℕ) → e ≡ entry.Stamp c Plain y → ⊥) → KeepsBatch c (s.sides l).hand e
batch-kept u l c x (entry.Batch k us) s names calm lt plain h = λ e. some-none x (sym plain ∙ (ap (λ j. (s.rows j).deferred.plain) e ∙ names.1))
batch-kept u l c x (entry.Stamp k Plain y) s names calm lt plain h = λ e. h y (ap (λ j. entry.Stamp j Plain y) (sym e))
batch-kept u l c x (entry.Stamp k Tracing y) s names calm lt plain h = tt
batch-kept u l c x (entry.Send k to us) s names calm lt plain h = sends-other u l c k to us s (s.sides l).hand refl names calm lt
batch-kept u l c x (entry.Sweep k us) s names calm lt plain h = absurd calm
batch-kept u l c x _ s names calm lt plain h = tt

-- its plain stamp, or another entry
data Stamps (c : ℕ) (e : Entry) : Type 0 where
  Takes : (x : ℕ) → e ≡ entry.Stamp c Plain x → Stamps c e
  Not : stamp_in c e ≡ None → ((x : ℕ) → e ≡ entry.Stamp c Plain x → ⊥) → Stamps c e

stamp-class : (k c x y : ℕ) → entry.Stamp k Plain x ≡ entry.Stamp c Plain y → k ≡ c
stamp-class k c x y e = cc

tracing-not : (k c x y : ℕ) → entry.Stamp k Tracing x ≡ entry.Stamp c Plain y → ⊥
tracing-not k c x y e = cc

stamps : (c : ℕ) (e : Entry) → Stamps c e
stamps c (entry.Stamp k Plain x) = elim (eqb_tells k c) [
  | inl y ↦ Takes x (ap (λ j. entry.Stamp j Plain x) y.1)
  | inr y ↦ Not (rw y.0 refl) (λ z q. y.1 (stamp-class k c x z q))
]
stamps c (entry.Stamp k Tracing x) = elim (eqb_tells k c) [
  | inl y ↦ Not (rw y.0 refl) (λ z q. tracing-not k c x z q)
  | inr y ↦ Not (rw y.0 refl) (λ z q. tracing-not k c x z q)
]
stamps c e = Not refl (λ x q. not-stamp c x e q refl)
  where
    is_stamp : Entry → Bool
    is_stamp (entry.Stamp k d x) = true
    is_stamp _ = false

    not-stamp : (c x : ℕ) (e : Entry) → e ≡ entry.Stamp c Plain x → is_stamp e ≡ false → ⊥
    not-stamp c x e q f = true-not (sym (ap is_stamp q) ∙ f)
      where
        true-not : true ≡ false → ⊥
        true-not e = cc

first-on : (u l c : ℕ) (e : Entry) (s : State ℕ) → KeepsBatch c (s.sides l).hand e → 0 < times u (s.rows c).deferred.first → 0 < times u ((next s (l, e)).rows c).deferred.first
first-on u l c e s k lt = subst (λ (b : List ℕ × Option ℕ). 0 < times u b.0) (sym (batch-on c l s e k)) lt

plain-on : (l c x : ℕ) (e : Entry) (s : State ℕ) → KeepsBatch c (s.sides l).hand e → (s.rows c).deferred.plain ≡ Some x → ((next s (l, e)).rows c).deferred.plain ≡ Some x
plain-on l c x e s k h = ap (λ (b : List ℕ × Option ℕ). b.1) (batch-on c l s e k) ∙ h

stamped-now : (u l c x : ℕ) (s : State ℕ) (before : Option (ℕ × ℕ)) (rest part : Log) → 0 < x → 0 < times u (s.rows c).deferred.first → ((y n : ℕ) → StampedAt c u y n ((l, entry.Stamp c Plain x) ∷ rest) → BatchedAt u y n part) → l ≡ 0 → Stage u (next s (l, entry.Stamp c Plain x)) (passed_on l (entry.Stamp c Plain x) before) rest part
stamped-now u l c x s before rest part pos lt f low =
    InStamped c x None (rw (eq-eqb c c refl) lt) (rw (eq-eqb c c refl) refl) pos (rw (eq-eqb l 0 low) refl) (stamped-in u l (entry.Stamp c Plain x) rest part c x (rw (eq-eqb c c refl) refl) f)

batch-goes : (u l : ℕ) (e : Entry) (s : State ℕ) (before : Option (ℕ × ℕ)) (rest part : Log) → Names l e s → IsCalm u l e → (c : ℕ) → 0 < times u (s.rows c).deferred.first → (s.rows c).deferred.plain ≡ Some 0 → ((x n : ℕ) → StampedAt c u x n ((l, e) ∷ rest) → BatchedAt u x n part) → Stamps c e → Stage u (next s (l, e)) (passed_on l e before) rest part
batch-goes u l e s before rest part names calm c lt plain f (Takes x q) =
    subst (λ z. IsCalm u l z → ((y n : ℕ) → StampedAt c u y n ((l, z) ∷ rest) → BatchedAt u y n part) → Stage u (next s (l, z)) (passed_on l z before) rest part) (sym q) (λ fit g. stamped-now u l c x s before rest part fit.0 lt g fit.1) calm f
batch-goes u l e s before rest part names calm c lt plain f (Not q other) =
    let k = batch-kept u l c 0 e s names calm lt plain other in
    InBatch c (first-on u l c e s k lt) (plain-on l c 0 e s k plain) (stamped-skip u l e rest part c q f)

stamped-goes : (u l : ℕ) (e : Entry) (s : State ℕ) (before : Option (ℕ × ℕ)) (rest part : Log) → Names l e s → IsCalm u l e → (c x : ℕ) (last : Option Entry) → 0 < times u (s.rows c).deferred.first → (s.rows c).deferred.plain ≡ Some x → 0 < x → before ≡ told last → ((n : ℕ) → SentAfter c u x n last ((l, e) ∷ rest) → BatchedAt u x n part) → Stage u (next s (l, e)) (passed_on l e before) rest part
stamped-goes u l e s before rest part names calm c x last lt plain pos is f =
    let other : (y : ℕ) → e ≡ entry.Stamp c Plain y → ⊥ = λ y q. (let n : (s.rows c).deferred.plain ≡ Some 0 = subst (λ z. Names l z s) q names in let z = some-some x 0 (sym plain ∙ n) in absurd (omega (arith, z, pos))) in
    let k = batch-kept u l c x e s names calm lt plain other in
    InStamped c x (last_after last (l, e)) (first-on u l c e s k lt) (plain-on l c x e s k plain) pos (told-on l e last before is) (sent-skip u l e rest part c x last (other-sends u l e calm) f)

-- ---- each stage

pub stage-on : (u l : ℕ) (e : Entry) (s : State ℕ) (before : Option (ℕ × ℕ)) (rest part : Log) → Names l e s → Sole u s → IsCalm u l e → Stage u s before ((l, e) ∷ rest) part → Stage u (next s (l, e)) (passed_on l e before) rest part
stage-on u l e s before rest part names sole calm (InHand j lt puts f) = hand-on u l e s before rest part names sole calm j lt puts f
stage-on u l e s before rest part names sole calm (InDelayed c lt f) = delayed-on u l e s before rest part names sole calm c lt f
stage-on u l e s before rest part names sole calm (InBatch c lt plain f) = batch-goes u l e s before rest part names calm c lt plain f (stamps c e)
stage-on u l e s before rest part names sole calm (InStamped c x last lt plain pos is f) = stamped-goes u l e s before rest part names calm c x last lt plain pos is f
