-- A reference goes into a note and comes out again, or the other way round.
use Rattle.std.proofs.Common.{◌≡◌, ◌∙◌, ℕ, zero, suc, ◌+◌, ◌-◌, ◌<◌, refl, sym, ap, subst, inl, inr, Option, Some, None, arith, slice_get}
use Rattle.std.specs.Prelude.{Bool, true, false, is_some, if◌then◌else◌, IfSome}
use Rattle.std.specs.Option.{option_map, option_map_or}
use Rattle.std.proofs.lemmas.Bool.Decides.{eqb_tells}
use mathlib.Core.Path.{fun_ext}
use Rattle.bm_obj.specs.Carrying.{IsCarried, carried_from, told_put_in, told_taken_out, with_note, without_note}
use Rattle.bm_obj.specs.Known.{Has, Known, at_unit, fewer, more, some_of}
use Rattle.bm_obj.specs.Notes.{Carried, IsClaimNoted, IsNoted, Noted}
use Rattle.bm_obj.specs.Reference.{Held, Reference}
use Rattle.bm_obj.specs.Table.{object_in, reference_to}
use Rattle.bm_obj.specs.Undoing.{HoldsLife, IsOfLife}
use Rattle.bm_obj.specs.WorldState.{World, claim_in, known_of, noted_in, refs_in, times_held}
use Rattle.bm_obj.specs.declared.object.Object.{Object}
use Rattle.bm_obj.proofs.Places.{told-same}
use Rattle.bm_obj.proofs.Refs.{fewer-of, has-some, more-of}
use Rattle.bm_obj.proofs.Sides.{there}

-- a value that was changed at one number and is put back there
twice : {A : Type 0} (u : ℕ) (x y : A) (f : ℕ → A) → f u ≡ y → at_unit u y (at_unit u x f) ≡ f
twice u x y f e = fun_ext (λ n. elim (eqb_tells u n) [
  | inl z ↦ (let F : ℕ → Type 0 = λ k. y ≡ f k in let h : F n = subst F z.1 (sym e) in rw z.0 h)
  | inr z ↦ rw z.0 refl
])

some-is : (r : Reference) (n : ℕ) → 0 < n → some_of r n ≡ Some (record { to = r; count = n })
some-is r zero h = absurd (omega arith)
some-is r (suc n) h = refl

-- one fewer and one more, and the other way round
more-fewer : (r : Reference) (o : Option Held) → option_map (λ held. held.to) o ≡ Some r → HoldsLife r o → more r (fewer o) ≡ o
more-fewer r None e h = absurd (cc)
more-fewer r (Some held) e h =
    let some = h.1 in
    ap (λ q. more r (some_of q (held.count - 1))) h.0
    ∙ (sym (more-of r (held.count - 1) held.count (omega arith))
    ∙ (some-is r held.count h.1 ∙ ap (λ q. Some (record { to = q; count = held.count })) (sym h.0)))

fewer-more : (r : Reference) (o : Option Held) → HoldsLife r o → fewer (more r o) ≡ o
fewer-more r None h = refl
fewer-more r (Some held) h =
    sym (fewer-of r (held.count + 1) held.count refl) ∙ (some-is r held.count h.1 ∙ ap (λ q. Some (record { to = q; count = held.count })) (sym h.0))

known-three : (k : Known) (r r' : ℕ → Option Held) (c c' : ℕ → Option ℕ) (n n' : Option (ℕ → Noted)) → r ≡ r' → c ≡ c' → n ≡ n' → record k { refs = r; claims = c; notes = n } ≡ record k { refs = r'; claims = c'; notes = n' }
known-three k r r' c c' n n' e f g =
    ap (λ x. record k { refs = x; claims = c; notes = n }) e ∙ (ap (λ x. record k { refs = r'; claims = x; notes = n }) f ∙ ap (λ x. record k { refs = r'; claims = c'; notes = x }) g)

-- ---- into a note and out again

claims-back : (u : ℕ) (claims : ℕ → Option ℕ) (o : Option ℕ) → claims u ≡ o → option_map_or (λ graph. at_unit u (Some graph) (at_unit u None claims)) o (at_unit u None claims) ≡ claims
claims-back u claims None e = told-same u None claims e
claims-back u claims (Some g) e = twice u None (Some g) claims e

claim-back : (o claim : Option ℕ) → (is_some o ≡ true → claim ≡ None) → option_map_or (λ (graph : ℕ). None) o (option_map_or (λ graph. Some graph) o claim) ≡ claim
claim-back None claim h = refl
claim-back (Some g) claim h = sym (h refl)

note-back : (c : Carried) (noted : Noted) → HoldsLife c.to noted.refs → (is_some c.claim ≡ true → noted.claim ≡ None) → without_note c (with_note c noted) ≡ noted
note-back c noted h apart =
    ap (λ x. record { refs = x; claim = option_map_or (λ (graph : ℕ). None) c.claim (option_map_or (λ graph. Some graph) c.claim noted.claim) }) (fewer-more c.to noted.refs h)
    ∙ ap (λ x. record { refs = noted.refs; claim = x }) (claim-back c.claim noted.claim apart)

notes-back : (c : Carried) (o : Option (ℕ → Noted)) → IfSome o (λ notes. HoldsLife c.to (notes c.to.unit).refs) → IfSome o (λ notes. is_some c.claim ≡ true → (notes c.to.unit).claim ≡ None) → option_map (λ notes. at_unit c.to.unit (without_note c (notes c.to.unit)) notes) (option_map (λ notes. at_unit c.to.unit (with_note c (notes c.to.unit)) notes) o) ≡ o
notes-back c None h apart = refl
notes-back c (Some notes) h apart =
    let u = c.to.unit in
    let put : Noted = with_note c (notes u) in
    let is : notes u ≡ without_note c (at_unit u put notes u) = sym (ap (without_note c) (there u put notes) ∙ note-back c (notes u) h apart) in
    ap (λ x. Some x) (twice u put (without_note c (at_unit u put notes u)) notes is)

pub out-again : (r : Reference) (k : Known) → Has r k → IsOfLife r k → told_taken_out (carried_from r k) (told_put_in (carried_from r k) k) ≡ k
out-again r k has is =
    let u = r.unit in
    let c = carried_from r k in
    let put : Option Held = fewer (k.refs u) in
    let refs : k.refs u ≡ more r (at_unit u put k.refs u) = sym (ap (more r) (there u put k.refs) ∙ more-fewer r (k.refs u) has is.hands) in
    known-three k _ k.refs _ k.claims _ k.notes
    (twice u put (more r (at_unit u put k.refs u)) k.refs refs)
    (claims-back u k.claims (k.claims u) refl)
    (notes-back c k.notes is.notes is.claim)

-- ---- out of a note and in again

carried-claim : (u : ℕ) (claims : ℕ → Option ℕ) (o : Option ℕ) → claims u ≡ None → option_map_or (λ graph. at_unit u (Some graph) claims) o claims u ≡ o
carried-claim u claims None e = e
carried-claim u claims (Some g) e = there u (Some g) claims

claims-in : (u : ℕ) (claims : ℕ → Option ℕ) (o : Option ℕ) → claims u ≡ None → at_unit u None (option_map_or (λ graph. at_unit u (Some graph) claims) o claims) ≡ claims
claims-in u claims None e = told-same u None claims e
claims-in u claims (Some g) e = twice u (Some g) None claims e

claim-in : (o : Option ℕ) (noted : Noted) → IsClaimNoted o noted → option_map_or (λ graph. Some graph) o (option_map_or (λ (graph : ℕ). None) o noted.claim) ≡ noted.claim
claim-in None noted h = refl
claim-in (Some g) noted h = sym h

note-in : (c : Carried) (noted : Noted) → IsNoted c noted → HoldsLife c.to noted.refs → with_note c (without_note c noted) ≡ noted
note-in c noted is h =
    ap (λ x. record { refs = x; claim = option_map_or (λ graph. Some graph) c.claim (option_map_or (λ (graph : ℕ). None) c.claim noted.claim) }) (more-fewer c.to noted.refs is.0 h)
    ∙ ap (λ x. record { refs = noted.refs; claim = x }) (claim-in c.claim noted is.1)

notes-in : (c : Carried) (o : Option (ℕ → Noted)) → IfSome o (λ notes. IsNoted c (notes c.to.unit)) → IfSome o (λ notes. HoldsLife c.to (notes c.to.unit).refs) → option_map (λ notes. at_unit c.to.unit (with_note c (notes c.to.unit)) notes) (option_map (λ notes. at_unit c.to.unit (without_note c (notes c.to.unit)) notes) o) ≡ o
notes-in c None is h = refl
notes-in c (Some notes) is h =
    let u = c.to.unit in
    let out : Noted = without_note c (notes u) in
    let same : notes u ≡ with_note c (at_unit u out notes u) = sym (ap (with_note c) (there u out notes) ∙ note-in c (notes u) is h) in
    ap (λ x. Some x) (twice u out (with_note c (at_unit u out notes u)) notes same)

pub in-again : (c : Carried) (k : Known) → IsCarried c k → IsOfLife c.to k → k.claims c.to.unit ≡ None → told_put_in (carried_from c.to (told_taken_out c k)) (told_taken_out c k) ≡ k
in-again c k carried is none =
    let u = c.to.unit in
    let out : Option Held = more c.to (k.refs u) in
    let refs : k.refs u ≡ fewer (at_unit u out k.refs u) = sym (ap fewer (there u out k.refs) ∙ fewer-more c.to (k.refs u) is.hands) in
    ap (λ x. told_put_in (record { to = c.to; claim = x }) (told_taken_out c k)) (carried-claim u k.claims c.claim none)
    ∙ known-three k _ k.refs _ k.claims _ k.notes
    (twice u out (fewer (at_unit u out k.refs u)) k.refs refs)
    (claims-in u k.claims c.claim none)
    (notes-in c k.notes carried is.notes)

-- ---- on one thread

holds-some : (r q : Reference) (n : ℕ) → q ≡ r → HoldsLife r (some_of q n)
holds-some r q zero e = tt
holds-some r q (suc n) e = (e, omega arith)

claim-once : (carried : Bool) (owner : Option ℕ) → is_some (if carried then None else owner) ≡ true → (if carried then owner else None) ≡ None
claim-once true owner h = absurd (cc)
claim-once false owner h = refl

abbrev Fits : Reference → ℕ → Option Object → Type 0
Fits r times o = HoldsLife r (refs_in times o) × HoldsLife r (noted_in o).refs × (is_some (claim_in o) ≡ true → (noted_in o).claim ≡ None)

fits : (r : Reference) (times : ℕ) (object : Object) → reference_to object ≡ r → Fits r times (Some object)
fits r times object e =
    (holds-some r (reference_to object) (object.count - (times + object.noted)) e, holds-some r (reference_to object) object.noted e, claim-once object.carried object.owner)

pub life-in-hands : (r : Reference) (w : World) → Has r (known_of w) → IsOfLife r (known_of w)
life-in-hands r w has =
    let h = go (object_in (slice_get w.places r.unit)) has in
    record { hands = h.0; notes = h.1; claim = h.2 }
  where
    times : ℕ
    times = times_held r.unit w.words

    go : (o : Option Object) → option_map (λ held. held.to) (refs_in times o) ≡ Some r → Fits r times o
    go None e = absurd (cc)
    go (Some object) e = fits r times object (has-some r (reference_to object) (object.count - (times + object.noted)) e).0

pub life-in-notes : (c : Carried) (w : World) → IsCarried c (known_of w) → IsOfLife c.to (known_of w)
life-in-notes c w is =
    let h = go (object_in (slice_get w.places c.to.unit)) is.0 in
    record { hands = h.0; notes = h.1; claim = h.2 }
  where
    times : ℕ
    times = times_held c.to.unit w.words

    go : (o : Option Object) → option_map (λ held. held.to) (noted_in o).refs ≡ Some c.to → Fits c.to times o
    go None e = absurd (cc)
    go (Some object) e = fits c.to times object (has-some c.to (reference_to object) object.noted e).0
