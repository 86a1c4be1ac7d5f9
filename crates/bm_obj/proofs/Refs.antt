-- References in hands, and how often slots hold a unit.
use Rattle.std.proofs.Common.{◌≡◌, ◌≢◌, ◌∙◌, ℕ, suc, zero, ◌+◌, ◌-◌, ◌<◌, ◌≤◌, List, [], ◌∷◌, length, refl, sym, ap, subst, inl, inr, Option, Some, None, arith, set, slice_get, get_or}
use Rattle.std.specs.Prelude.{eqb, if◌then◌else◌}
use Rattle.std.specs.Option.{option_map, option_map_or}
use Rattle.std.proofs.lemmas.Bool.Decides.{eqb_tells}
use Rattle.std.proofs.lemmas.Bool.{cases_lt}
use Rattle.std.proofs.lemmas.List.Sums.{get_or-le-sum_by, sum_by-cons, sum_by-set}
use mathlib.Core.Path.{fun_ext}
use Rattle.bm_obj.specs.Known.{at_unit, fewer, more, some_of}
use Rattle.bm_obj.specs.Kept.{held_by, word_at}
use Rattle.bm_obj.specs.Reference.{Held, Reference}
use Rattle.bm_obj.specs.Table.{object_at, object_in, reference_to}
use Rattle.bm_obj.specs.WorldState.{Word, held_in, opening_word, refs_in, times_held}
use Rattle.bm_obj.specs.declared.object.Object.{Object}
use Rattle.bm_obj.specs.declared.object.UnitPlace.{UnitPlace}
use Rattle.bm_obj.proofs.Places.{get-within}

-- ---- so many references to one life

pub more-of : (r : Reference) (n m : ℕ) → m ≡ n + 1 → some_of r m ≡ more r (some_of r n)
more-of r zero m e = ap (some_of r) e
more-of r (suc n) m e = ap (some_of r) e

pub fewer-of : (r : Reference) (n m : ℕ) → n ≡ m + 1 → some_of r m ≡ fewer (some_of r n)
fewer-of r zero m e = absurd (omega arith)
fewer-of r (suc n) m e = let h : m ≡ suc n - 1 = omega arith in ap (some_of r) h

pub has-some : (r q : Reference) (n : ℕ) → option_map (λ held. held.to) (some_of q n) ≡ Some r → (q ≡ r) × (0 < n)
has-some r q zero e = absurd (cc)
has-some r q (suc n) e = ((let h : q ≡ r = cc in h), omega arith)

pub count-some : (q : Reference) (n : ℕ) → option_map_or (λ held. held.count) (some_of q n) 0 ≡ n
count-some q zero = refl
count-some q (suc n) = refl

-- ---- how often slots hold a unit, once a slot was written

pub word-at : (words : List Word) (s : ℕ) → s < length words → slice_get words s ≡ Some (get_or words s opening_word)
word-at [] s lt = absurd (omega arith)
word-at (w ∷ ws) zero lt = refl
word-at (w ∷ ws) (suc s) lt = word-at ws s (omega arith)

pub times-set : (words : List Word) (s n : ℕ) (old new : Word) → slice_get words s ≡ Some old → times_held n (set words s new) + held_in n old ≡ times_held n words + held_in n new
times-set words s n old new e =
    let lt = get-within words s old e in
    let is : get_or words s opening_word ≡ old = (let h = word-at words s lt in cc) in
    rw is at (sum_by-set (held_in n) words s new opening_word lt)

-- what one slot holds counts once for its unit
pub held-yes : (n : ℕ) (word : Word) (r : Reference) → word.old ≡ Some r → r.unit ≡ n → held_in n word ≡ 1
held-yes n word r e is =
    let h : held_in n word ≡ (if eqb r.unit n then 1 else 0) = rw e refl in
    h ∙ elim (eqb_tells r.unit n) [ inl y ↦ rw y.0 refl | inr y ↦ absurd (y.1 is) ]

pub held-none : (n : ℕ) (word : Word) → word.old ≡ None → held_in n word ≡ 0
held-none n word e = rw e refl

pub held-no : (n : ℕ) (word : Word) (r : Reference) → word.old ≡ Some r → r.unit ≢ n → held_in n word ≡ 0
held-no n word r e ne =
    let h : held_in n word ≡ (if eqb r.unit n then 1 else 0) = rw e refl in
    h ∙ elim (eqb_tells r.unit n) [ inl y ↦ absurd (ne y.1) | inr y ↦ rw y.0 refl ]

-- .. and where it counts, it holds one
pub held-some : (n : ℕ) (word : Word) → 0 < held_in n word → (r : Reference) × (word.old ≡ Some r) × (r.unit ≡ n)
held-some n word h = go word.old refl
  where
    go : (o : Option Reference) → word.old ≡ o → (r : Reference) × (word.old ≡ Some r) × (r.unit ≡ n)
    go None e = let k = held-none n word e in absurd (omega arith)
    go (Some r) e = elim (eqb_tells r.unit n) [
      | inl y ↦ (r, e, y.1)
      | inr y ↦ (let k = held-no n word r e y.1 in absurd (omega arith))
    ]

word-of : (o : Option Word) (r : Reference) → held_by o ≡ Some r → (word : Word) × (o ≡ Some word) × (word.old ≡ Some r)
word-of None r e = absurd (cc)
word-of (Some word) r e = (word, refl, e)

-- a reference that a slot holds is counted
pub held-once : (words : List Word) (s : ℕ) (r : Reference) → word_at words s ≡ Some r → 0 < times_held r.unit words
held-once words s r e =
    let w = word-of (slice_get words s) r e in
    let lt = get-within words s w.0 w.1 in
    let is : get_or words s opening_word ≡ w.0 = (let h = word-at words s lt in let k = w.1 in cc) in
    let most = rw is at (get_or-le-sum_by (held_in r.unit) words s opening_word lt) in
    let one = held-yes r.unit w.0 r w.2 refl in
    omega (arith, most, one)

-- and what is counted is held by a slot
pub held-where : (words : List Word) (n : ℕ) → 0 < times_held n words → (s : ℕ) × (r : Reference) × (word_at words s ≡ Some r) × (r.unit ≡ n)
held-where [] n h = absurd (omega arith)
held-where (w ∷ ws) n h = elim (cases_lt 0 (held_in n w)) [
  | inl y ↦ (let f = held-some n w y in (0, f.0, f.1, f.2))
  | inr y ↦ (let e = sum_by-cons (held_in n) w ws in let k : 0 < times_held n ws = omega (arith, e, y, h) in let f = held-where ws n k in (suc f.0, f.1, f.2, f.3))
]

-- ---- references in hands, by how often slots hold each unit

abbrev pub refs_by : (ℕ → ℕ) → List UnitPlace → ℕ → Option Held
refs_by times places = λ n. refs_in (times n) (object_in (slice_get places n))

-- a unit is held as often as before but once less
pub refs-gained : (r : Reference) (times less : ℕ → ℕ) (places : List UnitPlace) (object : Object) → object_at places r.unit ≡ Some object → reference_to object ≡ r → times r.unit ≡ less r.unit + 1 → times r.unit + object.noted ≤ object.count → ((n : ℕ) → r.unit ≢ n → times n ≡ less n) → refs_by less places ≡ at_unit r.unit (more r (refs_by times places r.unit)) (refs_by times places)
refs-gained r times less places object e is once most others = fun_ext (λ n. elim (eqb_tells r.unit n) [
  | inl y ↦ (let F : ℕ → Type 0 = λ k. refs_by less places k ≡ more r (refs_by times places r.unit) in let h : F n = subst F y.1 here in rw y.0 h)
  | inr y ↦ (let h : refs_by less places n ≡ refs_by times places n = ap (λ t. refs_in t (object_at places n)) (sym (others n y.1)) in rw y.0 h)
])
  where
    here : refs_by less places r.unit ≡ more r (refs_by times places r.unit)
    here = rw (e, is) (more-of r (object.count - (times r.unit + object.noted)) (object.count - (less r.unit + object.noted)) (omega arith))

-- .. or once more
pub refs-spent : (r : Reference) (times most : ℕ → ℕ) (places : List UnitPlace) (object : Object) → object_at places r.unit ≡ Some object → reference_to object ≡ r → most r.unit ≡ times r.unit + 1 → times r.unit + object.noted < object.count → ((n : ℕ) → r.unit ≢ n → most n ≡ times n) → refs_by most places ≡ at_unit r.unit (fewer (refs_by times places r.unit)) (refs_by times places)
refs-spent r times most places object e is once room others = fun_ext (λ n. elim (eqb_tells r.unit n) [
  | inl y ↦ (let F : ℕ → Type 0 = λ k. refs_by most places k ≡ fewer (refs_by times places r.unit) in let h : F n = subst F y.1 here in rw y.0 h)
  | inr y ↦ (let h : refs_by most places n ≡ refs_by times places n = ap (λ t. refs_in t (object_at places n)) (others n y.1) in rw y.0 h)
])
  where
    here : refs_by most places r.unit ≡ fewer (refs_by times places r.unit)
    here = rw (e, is) (fewer-of r (object.count - (times r.unit + object.noted)) (object.count - (most r.unit + object.noted)) (omega arith))
