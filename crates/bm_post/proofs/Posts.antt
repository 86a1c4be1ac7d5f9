-- What the calls of the pool and the inboxes keep true, and what they do to the right to units.
use Rattle.std.proofs.Common.{◌≡◌, ◌≢◌, ℕ, zero, suc, ◌+◌, ◌%◌, ◌<◌, ◌≤◌, Bool, true, false, List, [], ◌∷◌, ◌++◌, length, get_or, set, length-set, replicate, reverse, drop, refl, sym, ◌∙◌, ap, subst, inl, inr, arith, eqb, eq-eqb, ne_eqb, Option, Some, None, Result, Ok, Err, IfOk, OnOk, OnErr, IfSome, IfNone}
use Rattle.std.specs.Prelude.{◌&&◌}
use Rattle.std.specs.List.{All}
use Rattle.std.proofs.lemmas.Bool.{cases_eq, and_parts, eqb-true, false≢true}
use Rattle.std.proofs.lemmas.List.{set-get_or, get_or-set_same, get_or-set_other}
use Rattle.std.proofs.lemmas.List.Sums.{sum_by-set, sum_by-append, sum_by-cons}
use Rattle.std.proofs.lemmas.List.Folds.{sum_by-replicate}
use Rattle.std.proofs.lemmas.List.Elements.{All-append, All-nil}
use Rattle.bm_law.specs.Stands.{times}
use Rattle.bm_page.specs.UnitState.{UnitState}
use Rattle.bm_page.specs.declared.units.Stocked.{Stocked}
use Rattle.bm_page.specs.Stock.{Stock, stocked_at, fetched}
use Rattle.bm_page.specs.Out.{AreOut, IsFromStock}
use Rattle.bm_grace.specs.Rights.{Rights}
use Rattle.bm_post.specs.Rights.{AreSame, MayLeave, Gains, Loses, Holds, numbers}
use Rattle.bm_post.specs.Calls.{IsOf, Posts, Takes, Fetches, Receives}
use Rattle.bm_post.specs.PostState.{Parcels, PostState, all_returned, is_mine, known_by, rights_in, times_in, waits, no_parcels}
use Rattle.bm_post.specs.Kept.{IsParcel, IsPost, IsRoomy}
use Rattle.bm_post.proofs.Counts.{at-number, here-times, once-pairs, zero-or-more}
use Rattle.bm_post.proofs.Fetched.{fetch-keeps, fetch-others}
use Rattle.bm_post.proofs.Room.{all-reversed, all-roomy, came-room, fetched-roomy, leaves-room}
use Rattle.bm_post.proofs.Returned.{others-stay, all-in, times-reversed}

and-false : (b : Bool) → b && false ≡ false
and-false true = refl
and-false false = refl

alone : {X : Type 0} (P : X → Type 0) (x : X) → P x → All P (x ∷ [])
alone P x h zero d lt = h
alone P x h (suc k) d lt = absurd (omega arith)

-- the parts of a state
abbrev pub state : Stock → ℕ → ℕ → List Parcels → PostState
state pool p q xs = record { pool = pool; processors = p; processor = q; inboxes = xs }

-- ---- units that came

-- units that came are held, and may leave
pub held : (class : ℕ) (units : List UnitState) (before now : Rights) → Takes class units before now → Holds now units
held class units before now takes = record {
  each = λ k d lt. takes.gains.are (get_or units k d).number (here-times units k d lt);
  once = takes.gains.once;
}

pub may-leave : (class : ℕ) (units : List UnitState) (before now : Rights) → Takes class units before now → All (MayLeave now) units
may-leave class units before now takes k d lt = inl (takes.settled k d lt)

-- ---- fetch

fetched-post : (class want p q : ℕ) (pool : Stock) (xs : List Parcels) → IsPost p q pool xs → IsPost p q (fetched class want pool).pool xs
fetched-post class want p q pool xs is = record {
  processor_limit = is.processor_limit;
  turn = is.turn;
  inbox_count = is.inbox_count;
  once = is.once;
  out = λ n h. fetch-keeps class want n pool (is.out n h);
  whole = is.whole;
  roomy = fetched-roomy class want pool is.roomy;
}

pub post-fetch : {E : Type 0} (r : Result ℕ E) (class want p q : ℕ) (pool pool' : Stock) (xs : List Parcels) → OnOk r (pool' ≡ (fetched class want pool).pool) → OnErr r (pool' ≡ pool) → IsPost p q pool xs → IsPost p q pool' xs
post-fetch (Ok n) class want p q pool pool' xs ok err is = subst (λ s. IsPost p q s xs) (sym ok) (fetched-post class want p q pool xs is)
post-fetch (Err e) class want p q pool pool' xs ok err is = subst (λ s. IsPost p q s xs) (sym err) is

none_out : (pool : Stock) → AreOut pool []
none_out pool = record { each = λ k d lt. absurd (omega arith); distinct = λ i j d lt less. absurd (omega arith) }

fetch-gains : (class want p q : ℕ) (pool pool' : Stock) (xs : List Parcels) → pool' ≡ (fetched class want pool).pool → All (IsFromStock class pool) (fetched class want pool).units → AreOut pool' (fetched class want pool).units → IsPost p q pool xs → Gains (numbers (fetched class want pool).units) (rights_in (state pool p q xs)) (rights_in (state pool' p q xs))
fetch-gains class want p q pool pool' xs e each are is =
    let us = (fetched class want pool).units in
    let stock : (n : ℕ) → 0 < times n (numbers us) → (stocked_at pool.units n).out ≡ false = λ n h. at-number (λ m. (stocked_at pool.units m).out ≡ false) us n (λ k d lt. (each k d lt).stock) h in
    record {
      once = once-pairs us are.distinct;
      were_not = λ n h. ap (λ b. b && eqb (waits n xs) 0) (stock n h);
      are = λ n h.
          let o : (stocked_at pool'.units n).out ≡ true = at-number (λ m. (stocked_at pool'.units m).out ≡ true) us n (λ k d lt. (are.each k d lt).out) h in
          elim (zero-or-more (waits n xs)) [
            | inl none ↦ ap (λ b. b && eqb (waits n xs) 0) o ∙ eq-eqb (waits n xs) 0 none
            | inr some ↦ absurd (false≢true (sym (stock n h) ∙ is.out n some))
          ];
      others = λ n h. ap (λ (s : Stock). (stocked_at s.units n).out && eqb (waits n xs) 0) e ∙ ap (λ (s : Stocked). s.out && eqb (waits n xs) 0) (fetch-others class want n pool h);
    }

pub fetches : {E : Type 0} (r : Result ℕ E) (class want p q : ℕ) (pool pool' : Stock) (xs : List Parcels) (list longer : List UnitState) → IfOk r (λ n. n ≡ length (fetched class want pool).units) → OnOk r (longer ≡ list ++ (fetched class want pool).units) → OnOk r (pool' ≡ (fetched class want pool).pool) → IfOk r (λ n. n ≤ want) → OnOk r (All (IsFromStock class pool) (fetched class want pool).units) → OnOk r ((held : List UnitState) → AreOut pool held → AreOut pool' (held ++ (fetched class want pool).units)) → IsPost p q pool xs → IfOk r (λ n. Fetches class want n list longer (rights_in (state pool p q xs)) (rights_in (state pool' p q xs)))
fetches (Ok n) class want p q pool pool' xs list longer count units pool_is most each out is = record {
  units = (fetched class want pool).units;
  appended = units;
  count = count;
  most = most;
  takes = record {
    of_class = λ k d lt. (each k d lt).of_class;
    settled = came-room class pool pool' (fetched class want pool).units is.roomy (subst IsRoomy (sym pool_is) (fetched-roomy class want pool is.roomy)) each (out [] (none_out pool));
    gains = fetch-gains class want p q pool pool' xs pool_is each (out [] (none_out pool)) is;
  };
}
fetches (Err e) class want p q pool pool' xs list longer count units pool_is most each out is = tt

-- ---- put back

mine-parts : (s : PostState) (us : List UnitState) (n : ℕ) → Holds (rights_in s) us → 0 < times n (numbers us) → ((stocked_at s.pool.units n).out ≡ true) × (waits n s.inboxes ≡ 0)
mine-parts s us n holds h =
    let mine : is_mine s n ≡ true = at-number (λ m. is_mine s m ≡ true) us n holds.each h in
    let parts = and_parts (stocked_at s.pool.units n).out (eqb (waits n s.inboxes) 0) mine in
    (parts.0, eqb-true (waits n s.inboxes) 0 parts.1)

pub post-back : (p q : ℕ) (pool pool' : Stock) (xs : List Parcels) (us : List UnitState) → pool' ≡ all_returned (reverse us) pool → Holds (rights_in (state pool p q xs)) us → All (MayLeave (rights_in (state pool p q xs))) us → IsPost p q pool xs → IsPost p q pool' xs
post-back p q pool pool' xs us e holds fit is = record {
  processor_limit = is.processor_limit;
  turn = is.turn;
  inbox_count = is.inbox_count;
  once = is.once;
  out = λ n h.
      elim (zero-or-more (times n (numbers us))) [
        | inl none ↦ ap (λ (s : Stock). (stocked_at s.units n).out) e ∙ (ap (λ (s : Stocked). s.out) (others-stay (reverse us) pool n (times-reversed n us ∙ none)) ∙ is.out n h)
        | inr some ↦ absurd (let w = (mine-parts (state pool p q xs) us n holds some).1 in omega (arith, w, h))
      ];
  whole = is.whole;
  roomy = subst IsRoomy (sym e) (all-roomy (reverse us) pool (all-reversed us (leaves-room (state pool p q xs) us fit)) is.roomy);
}

pub back-loses : (p q : ℕ) (pool pool' : Stock) (xs : List Parcels) (us : List UnitState) → pool' ≡ all_returned (reverse us) pool → Loses (numbers us) (rights_in (state pool p q xs)) (rights_in (state pool' p q xs))
back-loses p q pool pool' xs us e = record {
  are_gone = λ n h. ap (λ (s : Stock). (stocked_at s.units n).out && eqb (waits n xs) 0) e ∙ ap (λ b. b && eqb (waits n xs) 0) (all-in (reverse us) pool n (let t = times-reversed n us in omega (arith, t, h)));
  others = λ n h. ap (λ (s : Stock). (stocked_at s.units n).out && eqb (waits n xs) 0) e ∙ ap (λ (s : Stocked). s.out && eqb (waits n xs) 0) (others-stay (reverse us) pool n (times-reversed n us ∙ h));
}

-- ---- the inboxes

waits-set : (n i : ℕ) (xs : List Parcels) (y : Parcels) → i < length xs → waits n (set xs i y) + times_in n (get_or xs i []) ≡ waits n xs + times_in n y
waits-set n i xs y lt = sum_by-set (times_in n) xs i y [] lt

times_in-more : (n : ℕ) (x : Parcels) (us : List UnitState) → times_in n (x ++ us ∷ []) ≡ times_in n x + times n (numbers us)
times_in-more n x us = let a = sum_by-append (λ (units : List UnitState). times n (numbers units)) x (us ∷ []) in omega (arith, a)

-- one inbox changed, and each of its parcels is of its class
whole-set : (xs : List Parcels) (i : ℕ) (y : Parcels) → i < length xs → All (IsParcel (i % 11)) y → ((j : ℕ) → All (IsParcel (j % 11)) (get_or xs j [])) → (j : ℕ) → All (IsParcel (j % 11)) (get_or (set xs i y) j [])
whole-set xs i y lt here all j =
    elim (cases_eq j i) [
      | inl same ↦ rw (same, get_or-set_same) here
      | inr other ↦ rw (get_or-set_other xs i j y [] other) (all j)
    ]

sent-waits : (n i : ℕ) (xs : List Parcels) (us : List UnitState) → i < length xs → waits n (set xs i (get_or xs i [] ++ us ∷ [])) ≡ waits n xs + times n (numbers us)
sent-waits n i xs us lt =
    let a = waits-set n i xs (get_or xs i [] ++ us ∷ []) lt in
    let b = times_in-more n (get_or xs i []) us in
    omega (arith, a, b)

sent-post : (p q i : ℕ) (pool : Stock) (xs : List Parcels) (us : List UnitState) → i < 88 → 0 < length us → All (IsOf (i % 11)) us → Holds (rights_in (state pool p q xs)) us → All (MayLeave (rights_in (state pool p q xs))) us → IsPost p q pool xs → IsPost p q pool (set xs i (get_or xs i [] ++ us ∷ []))
sent-post p q i pool xs us lt some class holds fit is =
    let there : i < length xs = let k = is.inbox_count in omega (arith, k) in
    record {
      processor_limit = is.processor_limit;
      turn = is.turn;
      inbox_count = length-set xs i (get_or xs i [] ++ us ∷ []) ∙ is.inbox_count;
      once = λ n.
          let w = sent-waits n i xs us there in
          let o = is.once n in
          let t = holds.once n in
          elim (zero-or-more (times n (numbers us))) [
            | inl none ↦ omega (arith, w, o, none)
            | inr more ↦ let m = (mine-parts (state pool p q xs) us n holds more).1 in omega (arith, w, t, m)
          ];
      out = λ n h.
          let w = sent-waits n i xs us there in
          elim (zero-or-more (times n (numbers us))) [
            | inl none ↦ is.out n (omega (arith, w, h, none))
            | inr more ↦ (mine-parts (state pool p q xs) us n holds more).0
          ];
      whole = whole-set xs i (get_or xs i [] ++ us ∷ []) there (All-append (IsParcel (i % 11)) (get_or xs i []) (us ∷ []) (is.whole i) (alone (IsParcel (i % 11)) us (record { some = some; of_class = class; room = leaves-room (state pool p q xs) us fit }))) is.whole;
      roomy = is.roomy;
    }

pub post-send : {A E : Type 0} (r : Result A E) (p q i : ℕ) (pool : Stock) (xs : List Parcels) (y : Parcels) (us : List UnitState) → i < 88 → OnOk r (y ≡ get_or xs i [] ++ us ∷ []) → OnErr r (y ≡ get_or xs i []) → 0 < length us → All (IsOf (i % 11)) us → Holds (rights_in (state pool p q xs)) us → All (MayLeave (rights_in (state pool p q xs))) us → IsPost p q pool xs → IsPost p q pool (set xs i y)
post-send (Ok x) p q i pool xs y us lt ok err some class holds fit is = subst (λ z. IsPost p q pool (set xs i z)) (sym ok) (sent-post p q i pool xs us lt some class holds fit is)
post-send (Err e) p q i pool xs y us lt ok err some class holds fit is = subst (λ z. IsPost p q pool (set xs i z)) (sym err) (subst (λ z. IsPost p q pool z) (sym (set-get_or xs i [])) is)

pub send-same : {A E : Type 0} (r : Result A E) (p q i : ℕ) (pool : Stock) (xs : List Parcels) (y : Parcels) → OnErr r (y ≡ get_or xs i []) → OnErr r (AreSame (rights_in (state pool p q xs)) (rights_in (state pool p q (set xs i y))))
send-same (Ok x) p q i pool xs y err = tt
send-same (Err e) p q i pool xs y err = λ n. ap (λ (zs : List Parcels). (stocked_at pool.units n).out && eqb (waits n zs) 0) (ap (λ z. set xs i z) err ∙ set-get_or xs i [])

-- ---- receive

taken-waits : (n i : ℕ) (xs : List Parcels) (us : List UnitState) (y : Parcels) → i < length xs → get_or xs i [] ≡ us ∷ y → waits n xs ≡ waits n (set xs i y) + times n (numbers us)
taken-waits n i xs us y lt e =
    let a = waits-set n i xs y lt in
    let b : times_in n (get_or xs i []) ≡ times n (numbers us) + times_in n y = ap (times_in n) e ∙ sum_by-cons (λ (units : List UnitState). times n (numbers units)) us y in
    omega (arith, a, b)

taken-post : (p q i : ℕ) (pool : Stock) (xs : List Parcels) (us : List UnitState) (y : Parcels) → i < 88 → get_or xs i [] ≡ us ∷ y → IsPost p q pool xs → IsPost p q pool (set xs i y)
taken-post p q i pool xs us y lt e is =
    let there : i < length xs = let k = is.inbox_count in omega (arith, k) in
    let all : All (IsParcel (i % 11)) (us ∷ y) = subst (All (IsParcel (i % 11))) e (is.whole i) in
    record {
      processor_limit = is.processor_limit;
      turn = is.turn;
      inbox_count = length-set xs i y ∙ is.inbox_count;
      once = λ n. let w = taken-waits n i xs us y there e in let o = is.once n in omega (arith, w, o);
      out = λ n h. is.out n (let w = taken-waits n i xs us y there e in omega (arith, w, h));
      whole = whole-set xs i y there (λ k d less. all (suc k) d (omega arith)) is.whole;
      roomy = is.roomy;
    }

pub post-receive : {A : Type 0} (r : Option A) (items : A → List UnitState) (p q i : ℕ) (pool : Stock) (xs : List Parcels) (y : Parcels) → i < 88 → IfSome r (λ v. get_or xs i [] ≡ items v ∷ y) → IfNone r (get_or xs i [] ≡ []) → y ≡ drop 1 (get_or xs i []) → IsPost p q pool xs → IsPost p q pool (set xs i y)
post-receive (Some v) items p q i pool xs y lt some none rest is = taken-post p q i pool xs (items v) y lt some is
post-receive None items p q i pool xs y lt some none rest is =
    let same : y ≡ get_or xs i [] = rest ∙ (ap (λ (z : Parcels). drop 1 z) none ∙ sym none) in
    subst (λ z. IsPost p q pool (set xs i z)) (sym same) (subst (λ z. IsPost p q pool z) (sym (set-get_or xs i [])) is)

pub receives : {A : Type 0} (r : Option A) (items : A → List UnitState) (p q i class : ℕ) (pool : Stock) (xs : List Parcels) (y : Parcels) → i < 88 → i % 11 ≡ class → IfSome r (λ v. get_or xs i [] ≡ items v ∷ y) → IsPost p q pool xs → IfSome r (λ v. Receives class (items v) (rights_in (state pool p q xs)) (rights_in (state pool p q (set xs i y))))
receives None items p q i class pool xs y lt c e is = tt
receives (Some v) items p q i class pool xs y lt c e is =
    let us = items v in
    let there : i < length xs = let k = is.inbox_count in omega (arith, k) in
    let first : IsParcel (i % 11) us = subst (All (IsParcel (i % 11))) e (is.whole i) 0 us (omega arith) in
    record {
      some = first.some;
      takes = record {
        of_class = subst (λ k. All (IsOf k) us) c first.of_class;
        settled = first.room;
        gains = record {
          once = λ n. let w = taken-waits n i xs us y there e in let o = is.once n in omega (arith, w, o);
          were_not = λ n h.
              let w = taken-waits n i xs us y there e in
              let ne : waits n xs ≢ 0 = λ z. absurd (omega (arith, w, h, z)) in
              ap (λ b. (stocked_at pool.units n).out && b) (ne_eqb (waits n xs) 0 ne) ∙ and-false (stocked_at pool.units n).out;
          are = λ n h.
              let w = taken-waits n i xs us y there e in
              let o = is.once n in
              let z : waits n (set xs i y) ≡ 0 = omega (arith, w, h, o) in
              ap (λ b. b && eqb (waits n (set xs i y)) 0) (is.out n (omega (arith, w, h))) ∙ eq-eqb (waits n (set xs i y)) 0 z;
          others = λ n h.
              let w = taken-waits n i xs us y there e in
              ap (λ k. (stocked_at pool.units n).out && eqb k 0) (omega (arith, w, h));
        };
      };
    }

-- ---- the beginning and the end

get-none : (n i : ℕ) → get_or (replicate n (let x : Parcels = [] in x)) i [] ≡ []
get-none zero i = refl
get-none (suc n) zero = refl
get-none (suc n) (suc i) = get-none n i

pub post-new : (p : ℕ) (pool : Stock) (xs : List Parcels) → 0 < p → p ≤ 8 → IsRoomy pool → xs ≡ no_parcels → IsPost p 0 pool xs
post-new p pool xs some limit roomy e =
    subst (λ z. IsPost p 0 pool z) (sym e) record {
      processor_limit = limit;
      turn = some;
      inbox_count = refl;
      once = λ n. let w = none-waits n in omega (arith, w);
      out = λ n h. absurd (let w = none-waits n in omega (arith, w, h));
      whole = λ i. rw (get-none 88 i) (All-nil _);
      roomy = roomy;
    }
  where
    none-waits : (n : ℕ) → waits n no_parcels ≡ 0
    none-waits n = let s = sum_by-replicate (times_in n) 88 [] in omega (arith, s)

pub all_empty : (n : ℕ) → All (λ (x : Parcels). x ≡ []) (replicate n [])
all_empty zero k d lt = absurd (omega arith)
all_empty (suc n) zero d lt = refl
all_empty (suc n) (suc k) d lt = all_empty n k d (omega arith)

pub empty-front : (xs ys : List Parcels) (x : Parcels) → xs ≡ ys ++ x ∷ [] → All (λ (y : Parcels). y ≡ []) xs → All (λ (y : Parcels). y ≡ []) ys × (x ≡ [])
empty-front xs ys x e all = go ys (subst (All (λ (y : Parcels). y ≡ [])) e all)
  where
    go : (ys : List Parcels) → All (λ (y : Parcels). y ≡ []) (ys ++ x ∷ []) → All (λ (y : Parcels). y ≡ []) ys × (x ≡ [])
    go [] h = (λ k d lt. absurd (omega arith), h 0 x (omega arith))
    go (y ∷ ys) h =
        let deeper = go ys (λ k d lt. h (suc k) d (omega arith)) in
        (λ k d lt. head y ys h deeper.0 k d lt, deeper.1)
      where
        head : (y : Parcels) (ys : List Parcels) → All (λ (z : Parcels). z ≡ []) ((y ∷ ys) ++ x ∷ []) → All (λ (z : Parcels). z ≡ []) ys → All (λ (z : Parcels). z ≡ []) (y ∷ ys)
        head y ys h rest zero d lt = h 0 d (omega arith)
        head y ys h rest (suc k) d lt = rest k d (omega arith)

-- ---- what a post knows

-- it knows nothing of the pool
pub posts-of : (pool pool' : Stock) (p q : ℕ) (xs : List Parcels) → Posts false (known_by (record { pool = pool; processors = p; processor = q; inboxes = xs })) (known_by (record { pool = pool'; processors = p; processor = q; inboxes = xs }))
posts-of pool pool' p q xs = record { steps = []; known = refl }
