-- References that a side has once it gained or spent some. For callers.
use Rattle.std.proofs.Common.{◌≡◌, ◌≢◌, ◌∙◌, ℕ, suc, zero, ◌+◌, ◌-◌, ◌<◌, refl, ap, inl, inr, Option, Some, None, arith}
use Rattle.std.specs.Option.{option_map, option_map_or}
use Rattle.std.proofs.lemmas.Bool.Decides.{eqb_tells}
use Rattle.bm_obj.specs.Known.{Has, HasPage, Known, MayEnd, at_unit, count_had, fewer, gained, more, some_of, spent, told_claimed, told_released}
use Rattle.bm_journal.specs.declared.ids.ObjId.{ObjId}
use Rattle.bm_obj.specs.Reference.{Held, Reference, id_of}
use Rattle.bm_obj.specs.Waits.{NoOtherWaits, after_claim}
use Rattle.bm_obj.specs.declared.answer.Claimed.{Claimed}
use Rattle.bm_obj.specs.declared.answer.Claimed.TheVariants.{Won, Taken}
use Rattle.bm_obj.specs.declared.waiting.Waiting.{Waiting}
use Rattle.bm_obj.specs.declared.waiting.Waiting.TheVariants.{Claim, Unclaim}
use Rattle.bm_obj.specs.declared.answer.Released.{Released}
use Rattle.bm_obj.specs.declared.answer.Released.TheVariants.{Still, Last}

-- another value at one number is there, and all others stay
pub there : {A : Type 0} (u : ℕ) (x : A) (f : ℕ → A) → at_unit u x f u ≡ x
there u x f = elim (eqb_tells u u) [ inl y ↦ rw y.0 refl | inr y ↦ absurd (y.1 refl) ]

pub elsewhere : {A : Type 0} (u n : ℕ) (x : A) (f : ℕ → A) → u ≢ n → at_unit u x f n ≡ f n
elsewhere u n x f ne = elim (eqb_tells u n) [ inl y ↦ absurd (ne y.1) | inr y ↦ rw y.0 refl ]

to-some : (r : Reference) (count : ℕ) → 0 < count → option_map (λ held. held.to) (some_of r count) ≡ Some r
to-some r zero h = absurd (omega arith)
to-some r (suc count) h = refl

count-of : (r : Reference) (count : ℕ) → option_map_or (λ held. held.count) (some_of r count) 0 ≡ count
count-of r zero = refl
count-of r (suc count) = refl

-- A reference gained is had, beside those to other units.
pub has-gained : (r : Reference) (k : Known) → Has r (gained r k)
has-gained r k = ap (λ held. option_map (λ h. h.to) held) (there r.unit (more r (k.refs r.unit)) k.refs) ∙ go (k.refs r.unit)
  where
    go : (o : Option Held) → option_map (λ held. held.to) (more r o) ≡ Some r
    go None = refl
    go (Some held) = to-some r (held.count + 1) (omega arith)

pub has-gained-other : (r q : Reference) (k : Known) → q.unit ≢ r.unit → Has r k → Has r (gained q k)
has-gained-other r q k ne h = ap (λ held. option_map (λ h. h.to) held) (elsewhere q.unit r.unit (more q (k.refs q.unit)) k.refs ne) ∙ h

pub has-spent-other : (r q : Reference) (k : Known) → q.unit ≢ r.unit → Has r k → Has r (spent q k)
has-spent-other r q k ne h = ap (λ held. option_map (λ h. h.to) held) (elsewhere q.unit r.unit (fewer (k.refs q.unit)) k.refs ne) ∙ h

-- .. and where the side had more than one, one is left
pub has-spent : (r : Reference) (k : Known) → 1 < count_had r.unit k → Has r k → Has r (spent r k)
has-spent r k more_than h = ap (λ held. option_map (λ h. h.to) held) (there r.unit (fewer (k.refs r.unit)) k.refs) ∙ go (k.refs r.unit) more_than h
  where
    go : (o : Option Held) → 1 < option_map_or (λ held. held.count) o 0 → option_map (λ held. held.to) o ≡ Some r → option_map (λ held. held.to) (fewer o) ≡ Some r
    go None more_than h = absurd (omega arith)
    go (Some held) more_than h = (let e : held.to ≡ r = cc in ap (λ q. option_map (λ h. h.to) (some_of q (held.count - 1))) e ∙ to-some r (held.count - 1) (omega arith))

-- how many there are
pub count-gained : (r : Reference) (k : Known) → count_had r.unit (gained r k) ≡ count_had r.unit k + 1
count-gained r k = ap (λ held. option_map_or (λ h. h.count) held 0) (there r.unit (more r (k.refs r.unit)) k.refs) ∙ go (k.refs r.unit)
  where
    go : (o : Option Held) → option_map_or (λ held. held.count) (more r o) 0 ≡ option_map_or (λ held. held.count) o 0 + 1
    go None = refl
    go (Some held) = count-of r (held.count + 1)

-- A reference to another unit's life stays over a release.
pub has-released-other : (r q : Reference) (answer : Released) (k : Known) → q.unit ≢ r.unit → Has r k → Has r (told_released q answer k)
has-released-other r q (Still count) k ne h = has-spent-other r q k ne h
has-released-other r q (Last unit) k ne h = has-spent-other r q (record k { mine = at_unit q.unit (Some q.life) k.mine }) ne h

-- ---- claims, for callers

-- References and pages stay over a claim.
pub has-claimed : (r q : Reference) (graph : ℕ) (answer : Claimed) (k : Known) → Has r k → Has r (told_claimed q graph answer k)
has-claimed r q graph Won k h = h
has-claimed r q graph (Taken owner) k h = h

pub page-claimed : (g : ℕ) (q : Reference) (graph : ℕ) (answer : Claimed) (k : Known) → HasPage g k → HasPage g (told_claimed q graph answer k)
page-claimed g q graph Won k h = h
page-claimed g q graph (Taken owner) k h = h

no-others : (id : ObjId) (waits : Option Waiting) → NoOtherWaits id (after_claim id waits)
no-others id None = refl
no-others id (Some (Claim other)) = refl
no-others id (Some (Unclaim other)) = tt

-- A claim that was won may be ended.
pub may-end-claimed : (r : Reference) (graph : ℕ) (answer : Claimed) (k : Known) → k.claims r.unit ≡ None → HasPage graph k → MayEnd r (told_claimed r graph answer k)
may-end-claimed r graph Won k none page =
    rw (there r.unit (Some graph) k.claims, there graph (after_claim (id_of r) (k.waits graph)) k.waits) (page, no-others (id_of r) (k.waits graph))
may-end-claimed r graph (Taken owner) k none page = rw none tt
