-- What an entry does to a unit: to its life, to what it waits for, and where it is.
use Rattle.std.specs.Prelude.{◌≡◌, ◌≢◌, ◌<◌, ◌≤◌, ◌+◌, ◌-◌, ◌&&◌, ◌⊎◌, eqb, if◌then◌else◌, is_some, ℕ, Bool, true, false, List, [], ◌∷◌, Option, Some, None}
use Rattle.std.specs.List.{All}
use Rattle.std.proofs.Common.{◌∙◌, ap, arith, eq-eqb, inl, inr, ne_eqb, refl, sym}
use Rattle.std.proofs.lemmas.Bool.Decides.{eqb_tells}
use Rattle.std.proofs.lemmas.List.Elements.{All-head, All-tail}
use Rattle.bm_journal.specs.declared.entry.Entry.{Entry}
use Rattle.bm_journal.specs.declared.entry.Entry.TheVariants as entry
use Rattle.bm_journal.specs.EntryText.{unit_list}
use Rattle.bm_law.specs.Lists.{Log}
use Rattle.bm_law.specs.Stands.{in_row, times}
use Rattle.bm_law.proofs.Stands.{times-seven}
use Rattle.bm_law_order.specs.Lives.{Dropping, Life, Lives, LivesFit, answered_last, answered_still, counted as recounted, lives_after, maker_of, with_drop, with_life}
use Rattle.bm_law_order.specs.Seals.{Batch, Nothing, Over, Wait, Waiting, all_ended, ended, on_unit, waited, waits_after}
use Rattle.bm_law_places.specs.Place.{Cache, Hand, ending, times_at}
use Rattle.bm_law_places.specs.Placed.{InOnePlace, IsOnlyWith, IsWith}
use Rattle.bm_law_places.specs.World.{World}
use Rattle.bm_law_places.proofs.Apart.{is-there}
use Rattle.bm_law_seals.proofs.Rows.{waiting_in}
use Rattle.bm_law_seals.proofs.Stages.{InBatch, InDelayed, InHand, InStamped, Sole, Stage, counted}

-- ---- which units an entry gives or frees

-- the entry neither gives the unit a life nor begins a free of it
abbrev pub IsAside : ℕ → Entry → Type 0
IsAside u (entry.Given v life) = u ≢ v
IsAside u (entry.GivenAfter v life x n) = u ≢ v
IsAside u (entry.Free v home) = u ≢ v
IsAside u (entry.Delay v home) = u ≢ v
IsAside u _ = Unit {0}

abbrev pub GivesOther : ℕ → Entry → Type 0
GivesOther u (entry.Given v life) = u ≢ v
GivesOther u (entry.GivenAfter v life x n) = u ≢ v
GivesOther u _ = Unit {0}

pub aside-gives : (u : ℕ) (e : Entry) → IsAside u e → GivesOther u e
aside-gives u (entry.Given v life) h = h
aside-gives u (entry.GivenAfter v life x n) h = h
aside-gives u _ h = tt

-- ---- what it waits for

on-other : (u v : ℕ) (w : Wait) (waits : ℕ → Wait) → u ≢ v → on_unit v w waits u ≡ waits u
on-other u v w waits ne = rw (ne_eqb u v ne) refl

pub on-self : (u v : ℕ) (w : Wait) (waits : ℕ → Wait) → u ≡ v → on_unit v w waits u ≡ w
on-self u v w waits same = rw (eq-eqb u v same) refl

ended-same : (x n : ℕ) (w : Wait) → w ≢ Batch → ended x n w ≡ w
ended-same x n Nothing h = refl
ended-same x n Batch h = absurd (h refl)
ended-same x n (Over y k) h = refl

-- units that don't wait, and units that don't go, wait for what they did
all-kept : (x n u : ℕ) (us : List ℕ) (waits : ℕ → Wait) → (waits u ≢ Batch) ⊎ (times u us ≡ 0) → all_ended x n us waits u ≡ waits u
all-kept x n u [] waits h = refl
all-kept x n u (v ∷ us) waits (inl ne) = elim (eqb_tells u v) [
  | inl y ↦
      (let rest : all_ended x n us waits u ≡ waits u = all-kept x n u us waits (inl ne) in
      rw y.0 (ap (λ k. ended x n (all_ended x n us waits k)) (sym y.1) ∙ (ap (ended x n) rest ∙ ended-same x n (waits u) ne)))
  | inr y ↦ rw y.0 (all-kept x n u us waits (inl ne))
]
all-kept x n u (v ∷ us) waits (inr z) = elim (eqb_tells u v) [
  | inl y ↦ absurd (let k : 1 + times u us ≡ 0 = (rw y.0 at z) in omega (arith, k))
  | inr y ↦ rw y.0 (all-kept x n u us waits (inr (let k = (rw y.0 at z) in omega (arith, k))))
]

-- a unit that waits and goes has waited
pub all-gone : (x n u : ℕ) (us : List ℕ) (waits : ℕ → Wait) → waits u ≡ Batch → 0 < times u us → all_ended x n us waits u ≡ Over x n
all-gone x n u [] waits b lt = absurd (omega (arith, lt))
all-gone x n u (v ∷ us) waits b lt = elim (eqb_tells u v) [
  | inr y ↦ rw y.0 (all-gone x n u us waits b (let k = (rw y.0 at lt) in omega (arith, k)))
  | inl y ↦ rw y.0 (ap (λ k. ended x n (all_ended x n us waits k)) (sym y.1) ∙ elim (counted (times u us)) [
    | inl some ↦ ap (ended x n) (all-gone x n u us waits b some)
    | inr z ↦ ap (ended x n) (all-kept x n u us waits (inr z) ∙ b)
  ])
]

waited-kept : (u c : ℕ) (stamp : Option ℕ) (passed : Option (ℕ × ℕ)) (us : List ℕ) (waits : ℕ → Wait) → (waits u ≢ Batch) ⊎ (times u us ≡ 0) → waited c stamp passed us waits u ≡ waits u
waited-kept u c None passed us waits h = refl
waited-kept u c (Some x) None us waits h = refl
waited-kept u c (Some x) (Some (d, n)) us waits h = go (eqb c d)
  where
    go : (b : Bool) → (if b then all_ended x n us waits else waits) u ≡ waits u
    go true = all-kept x n u us waits h
    go false = refl

-- the entry sends it along with no batch that it waits for
abbrev pub SendsAside : ℕ → Entry → (ℕ → Wait) → Type 0
SendsAside u (entry.Send c to us) waits = (waits u ≢ Batch) ⊎ (times u (unit_list us) ≡ 0)
SendsAside u _ waits = Unit {0}

pub sends-idle : (u : ℕ) (e : Entry) (waits : ℕ → Wait) → waits u ≢ Batch → SendsAside u e waits
sends-idle u (entry.Send c to us) waits h = inl h
sends-idle u _ waits h = tt

pub waits-kept : (u p : ℕ) (e : Entry) (m : Waiting) → IsAside u e → SendsAside u e m.waits → waits_after p e m u ≡ m.waits u
waits-kept u p (entry.Delay v home) m h s = on-other u v Batch m.waits h
waits-kept u p (entry.Free v home) m h s = on-other u v Nothing m.waits h
waits-kept u p (entry.Given v life) m h s = on-other u v Nothing m.waits h
waits-kept u p (entry.GivenAfter v life x n) m h s = on-other u v Nothing m.waits h
waits-kept u p (entry.Send c to us) m h s = waited-kept u c ((m.lists p).rows c).deferred.plain (m.passed p) (unit_list us) m.waits s
waits-kept u p _ m h s = refl

-- where none of some units waits, one that waits isn't among them
pub not-among : (u : ℕ) (us : List ℕ) (waits : ℕ → Wait) → waits u ≡ Batch → All (λ v. waits v ≢ Batch) us → times u us ≡ 0
not-among u [] waits b h = refl
not-among u (v ∷ us) waits b h = elim (eqb_tells u v) [
  | inl y ↦ absurd (All-head (λ v. waits v ≢ Batch) v us h (ap waits (sym y.1) ∙ b))
  | inr y ↦ rw y.0 (let r = not-among u us waits b (All-tail (λ v. waits v ≢ Batch) v us h) in omega (arith, r))
]

-- ---- its life

-- no life, and no drop that has just ended one
pub record IsLifeless (u : ℕ) (lives : Lives) : Type 0 where
  pub none : lives.holds u ≡ None
  pub ended : (p l : ℕ) → times u (ending (lives.dropping p l)) ≡ 0

some-none : (x : Life) → Some x ≡ None → ⊥
some-none x e = cc

-- a drop of another unit
drop-other : (u p l q j : ℕ) (d : Option Dropping) (lives : Lives) → times u (ending d) ≡ 0 → times u (ending (lives.dropping q j)) ≡ 0 → times u (ending ((with_drop p l d lives).dropping q j)) ≡ 0
drop-other u p l q j d lives a b = go (eqb q p && eqb j l)
  where
    go : (t : Bool) → times u (ending (if t then d else lives.dropping q j)) ≡ 0
    go true = a
    go false = b

holds-counted : (f : ℕ → ℕ) (o : Option Life) → o ≡ None → recounted f o ≡ None
holds-counted f None e = refl
holds-counted f (Some x) e = absurd (some-none x e)

with-counted : (u v : ℕ) (f : ℕ → ℕ) (lives : Lives) → lives.holds u ≡ None → (if eqb u v then recounted f (lives.holds v) else lives.holds u) ≡ None
with-counted u v f lives none = elim (eqb_tells u v) [
  | inl y ↦ rw y.0 (holds-counted f (lives.holds v) (ap lives.holds (sym y.1) ∙ none))
  | inr y ↦ rw y.0 none
]

pub lifeless-on : (u p l : ℕ) (e : Entry) (lives : Lives) → LivesFit p l e lives → GivesOther u e → IsLifeless u lives → IsLifeless u (lives_after p l e lives)
lifeless-on u p l (entry.Given v life) lives f g h = record { none = rw (ne_eqb u v g) h.none; ended = h.ended }
lifeless-on u p l (entry.GivenAfter v life x n) lives f g h = record { none = rw (ne_eqb u v g) h.none; ended = h.ended }
lifeless-on u p l (entry.Acquire v life k) lives f g h = record { none = with-counted u v (λ n. n + 1) lives h.none; ended = h.ended }
lifeless-on u p l (entry.Drop v life) lives f g h = record { none = h.none; ended = λ q j. drop-other u p l q j (Some (record { unit = v; life = life; ended = None })) lives refl (h.ended q j) }
lifeless-on u p l (entry.Free v home) lives f g h = record { none = h.none; ended = λ q j. drop-other u p l q j None lives refl (h.ended q j) }
lifeless-on u p l (entry.Delay v home) lives f g h = record { none = h.none; ended = λ q j. drop-other u p l q j None lives refl (h.ended q j) }
lifeless-on u p l (entry.Still k) lives f g h = go (lives.dropping p l)
  where
    go : (o : Option Dropping) → IsLifeless u (answered_still p l o lives)
    go None = h
    go (Some d) = record {
      none = with-counted u d.unit (λ k. k - 1) lives h.none;
      ended = λ q j. drop-other u p l q j None (with_life d.unit (recounted (λ k. k - 1) (lives.holds d.unit)) lives) refl (h.ended q j);
    }
lifeless-on u p l entry.Last lives f g h = go (lives.dropping p l) refl
  where
    none-else : (b : Bool) → (if b then None else lives.holds u) ≡ None
    none-else true = refl
    none-else false = h.none

    unit_or : Option Dropping → ℕ
    unit_or None = 0
    unit_or (Some x) = x.unit

    go : (o : Option Dropping) → lives.dropping p l ≡ o → IsLifeless u (answered_last p l o lives)
    go None e = h
    go (Some d) e =
        let unit : d.unit ≡ f.unit = ap unit_or (sym e ∙ f.under) in
        let ne : u ≢ d.unit = λ s. some-none f.has.held (sym f.has.holds ∙ (ap lives.holds (sym (s ∙ unit)) ∙ h.none)) in
        let gone : (b : Bool) → times u (if b then d.unit ∷ [] else []) ≡ 0 = λ b. elim b as (λ b. times u (if b then d.unit ∷ [] else []) ≡ 0) [ true ↦ rw (ne_eqb u d.unit ne) refl | false ↦ refl ] in
        record {
          none = none-else (eqb u d.unit);
          ended = λ q j. drop-other u p l q j (Some (record d { ended = maker_of (lives.holds d.unit) })) (with_life d.unit None lives) (gone (is_some (maker_of (lives.holds d.unit)))) (h.ended q j);
        }
lifeless-on u p l _ lives f g h = h

-- a lifeless unit isn't freed
pub lifeless-aside : (u p l : ℕ) (e : Entry) (lives : Lives) → LivesFit p l e lives → GivesOther u e → IsLifeless u lives → IsAside u e
lifeless-aside u p l (entry.Given v life) lives f g h = g
lifeless-aside u p l (entry.GivenAfter v life x n) lives f g h = g
lifeless-aside u p l (entry.Free v home) lives f g h = λ same.
    let one : times u (ending (lives.dropping p l)) ≡ 1 = ap (λ (o : Option Dropping). times u (ending o)) f.under ∙ rw (eq-eqb u v same) refl in
    let none = h.ended p l in
    omega (arith, one, none)
lifeless-aside u p l (entry.Delay v home) lives f g h = λ same.
    let one : times u (ending (lives.dropping p l)) ≡ 1 = ap (λ (o : Option Dropping). times u (ending o)) f.under ∙ rw (eq-eqb u v same) refl in
    let none = h.ended p l in
    omega (arith, one, none)
lifeless-aside u p l _ lives f g h = tt

-- ---- how many lives it has begun

still-begun : (u p l : ℕ) (o : Option Dropping) (lives : Lives) → (answered_still p l o lives).begun u ≡ lives.begun u
still-begun u p l None lives = refl
still-begun u p l (Some d) lives = refl

last-begun : (u p l : ℕ) (o : Option Dropping) (lives : Lives) → (answered_last p l o lives).begun u ≡ lives.begun u
last-begun u p l None lives = refl
last-begun u p l (Some d) lives = refl

pub begun-same : (u p l : ℕ) (e : Entry) (lives : Lives) → GivesOther u e → (lives_after p l e lives).begun u ≡ lives.begun u
begun-same u p l (entry.Given v life) lives g = rw (ne_eqb u v g) refl
begun-same u p l (entry.GivenAfter v life x n) lives g = rw (ne_eqb u v g) refl
begun-same u p l (entry.Still k) lives g = still-begun u p l (lives.dropping p l) lives
begun-same u p l entry.Last lives g = last-begun u p l (lives.dropping p l) lives
begun-same u p l _ lives g = refl

-- ---- where it is

cache-class : (p q c d : ℕ) → Cache p c ≡ Cache q d → c ≡ d
cache-class p q c d e = cc

cache-hand : (p q c l : ℕ) → Cache p c ≡ Hand q l → ⊥
cache-hand p q c l e = cc

module _ (u q : ℕ) (w : World) (one : InOnePlace u w) where
  in-cache : (c : ℕ) → 0 < in_row u ((w.lists q).rows c) → 0 < times_at u (Cache q c) w
  in-cache c lt = (let s = times-seven u ((w.lists q).rows c) in omega (arith, lt, s))

  pub sole : Sole u (w.lists q)
  sole = record {
    rows = λ c d a b. cache-class q q c d (is-there u (Cache q c) w one (in-cache c a) ∙ sym (is-there u (Cache q d) w one (in-cache d b)));
    apart = λ c l a b. cache-hand q q c l (is-there u (Cache q c) w one (in-cache c a) ∙ sym (is-there u (Hand q l) w one b));
  }

  pub once : (c : ℕ) → in_row u ((w.lists q).rows c) ≤ 1
  once c = elim (counted (in_row u ((w.lists q).rows c))) [
    | inr z ↦ omega (arith, z)
    | inl lt ↦
        (let here = is-there u (Cache q c) w one (in-cache c lt) in
        let is : times_at u (Cache q c) w ≡ 1 = ap (λ a. times_at u a w) here ∙ one.here in
        let s = times-seven u ((w.lists q).rows c) in
        omega (arith, is, s))
  ]

  in-class : (c : ℕ) → 0 < in_row u ((w.lists q).rows c) → IsWith q u w
  in-class c lt = record { place = Cache q c; own = refl; named = in-cache c lt }

  -- a unit that waits is with the processor where it does
  pub stage-with : (before : Option (ℕ × ℕ)) (rest part : Log) → Stage u (w.lists q) before rest part → IsWith q u w
  stage-with before rest part (InHand l lt puts f) = record { place = Hand q l; own = refl; named = lt }
  stage-with before rest part (InDelayed c lt f) = in-class c (let r = (w.lists q).rows c in let k : waiting_in u r ≤ in_row u r = omega arith in omega (arith, lt, k))
  stage-with before rest part (InBatch c lt plain f) = in-class c (let r = (w.lists q).rows c in let k : times u r.deferred.first ≤ in_row u r = omega arith in omega (arith, lt, k))
  stage-with before rest part (InStamped c x last lt plain pos is f) = in-class c (let r = (w.lists q).rows c in let k : times u r.deferred.first ≤ in_row u r = omega arith in omega (arith, lt, k))

pub only-lifeless : (p u : ℕ) (w : World) → IsOnlyWith p u w → IsLifeless u w.shared.lives
only-lifeless p u w h = record { none = h.lifeless; ended = h.ended }
