-- Exchanges of what a slot holds.
use Rattle.std.proofs.Common.{◌≡◌, ◌∙◌, ◌≤◌, ℕ, ◌+◌, true, false, List, [], ◌∷◌, refl, sym, ap, subst, Option, Some, None, IfSome, slice_get, arith, eqb}
use Rattle.std.specs.Option.{option_map, option_map_or}
use Rattle.std.proofs.lemmas.Bool.{eqb-true}
use Rattle.bm_journal.specs.declared.entry.Entry.TheVariants as entry
use Rattle.bm_journal.specs.declared.ids.ObjId.{ObjId}
use Rattle.bm_lang.specs.declared.scenario.Action.{Exchange}
use Rattle.bm_lang.specs.declared.scenario.MapDeclaration.{MapDeclaration}
use Rattle.bm_lang.specs.declared.scenario.MapId.{MapId}
use Rattle.bm_lang.specs.declared.scenario.MapKind.{MapKind}
use Rattle.bm_lang.specs.declared.scenario.MapKind.TheVariants as kind
use Rattle.bm_lang.specs.declared.scenario.TypeId.{TypeId}
use Rattle.bm_law.specs.State.{State}
use Rattle.bm_law.specs.Lists.{Leaves, Log}
use Rattle.bm_law_work.proofs.Grown.{grew-say}
use Rattle.bm_law_scenario.specs.Calls.{Puts, RunsExchange, answered, taken}
use Rattle.bm_law_scenario.specs.Declared.{Declared, IsSlot}
use Rattle.bm_law_scenario.specs.Held.{Names, Nothing, Null, Object, with_name}
use Rattle.bm_check.specs.Statements.{Setting, holds_type, type_of_map}
use Rattle.bm_check.specs.Values as safe
use Rattle.bm_exec.specs.Around.{Around}
use Rattle.bm_exec.specs.declared.frame.Open.{Open}
use Rattle.bm_exec.specs.Given.{Gives, names_without}
use Rattle.bm_check.specs.declared.name_state.HeldLock.{HeldLock}
use Rattle.bm_exec.specs.Guarded.{Guarded, Sees}
use Rattle.bm_exec.specs.Lists.{Quiet}
use Rattle.bm_exec.specs.Living.{Exchanged, Lives, reply_of}
use Rattle.bm_exec.specs.Running.{Performed}
use Rattle.bm_exec.specs.Runnable.{is_slot, is_slot_kind}
use Rattle.bm_exec.specs.Stack.{SafeStack, lock_of}
use Rattle.bm_exec.specs.Stores.{store_of, value_of}
use Rattle.bm_exec.proofs.Objects.{holds-put, holds-takes, store-with}
use Rattle.bm_exec.proofs.Locks.{under-same}
use Rattle.bm_exec.proofs.Performing.{called, none-left}
use Rattle.bm_exec.proofs.Softened.{IsHard, nothing-hard, null-hard, object-hard, sees-put}

-- ---- slots

-- a kind that is a slot's by the test
slot-kind : (k : MapKind) → is_slot_kind k ≡ true → k ≡ kind.Slot
slot-kind kind.Slot e = refl
slot-kind kind.List e = cc
slot-kind kind.Tree e = cc

-- a map that is a slot by the test is one
pub slot-is : (maps : List MapDeclaration) (m : ℕ) (d : MapDeclaration) → is_slot (slice_get maps m) ≡ true → slice_get maps m ≡ Some d → IsSlot maps m d
slot-is maps m d e found = record { found = found; kind = slot-kind d.kind (ap is_slot (sym found) ∙ e) }

-- the type of what a slot holds, by the setting
slot-type : (e : Setting) (maps : List MapDeclaration) (slot : MapId) (m : MapDeclaration) → e.maps ≡ maps → slice_get maps slot.0 ≡ Some m → type_of_map e slot ≡ Some m.type_id
slot-type e maps slot m from found = ap (λ (ms : List MapDeclaration). option_map (λ (k : MapDeclaration). k.type_id) (slice_get ms slot.0)) from ∙ ap (option_map (λ (k : MapDeclaration). k.type_id)) found

-- one type, where some type is one
some-type : (t u : TypeId) → Some t ≡ Some u → t ≡ u
some-type t u e = cc

-- an object that it holds is of its type
pub holds-its-type : (e : Setting) (maps : List MapDeclaration) (slot : MapId) (m : MapDeclaration) (t : TypeId) → e.maps ≡ maps → slice_get maps slot.0 ≡ Some m → holds_type e slot t ≡ true → t ≡ m.type_id
holds-its-type e maps slot m t from found h =
    let same : m.type_id.0 ≡ t.0 = eqb-true m.type_id.0 t.0 (ap (λ o. option_map_or (λ (u : TypeId). eqb u.0 t.0) o false) (sym (slot-type e maps slot m from found)) ∙ h) in
    λ i. record { 0 = sym same i }

-- ---- what the checker says

-- what is given is of the slot's type
pub gives-in : (e : Setting) (maps : List MapDeclaration) (y : List ℕ) (slot : MapId) (given : Option (List ℕ)) (names : Names) (k : HeldLock) (Q : safe.Store → Type 0) (m : MapDeclaration) → e.maps ≡ maps → safe.SafeAction e (store_of names k) (Exchange y slot given) Q → slice_get maps slot.0 ≡ Some m → Gives m.type_id given names
gives-in e maps y slot None names k Q m from s found = tt
gives-in e maps y slot (Some x) names k Q m from s found = s.1.1 ∙ ap safe.Owning (holds-its-type e maps slot m s.1.0 from found s.1.2)

-- the name that gets what was there owns nothing then
pub free-in : (e : Setting) (y : List ℕ) (slot : MapId) (given : Option (List ℕ)) (names : Names) (k : HeldLock) (Q : safe.Store → Type 0) → safe.SafeAction e (store_of names k) (Exchange y slot given) Q → safe.is_owning (value_of (names_without given names y)) ≡ false
free-in e y slot None names k Q s = s.1.2.0
free-in e y slot (Some x) names k Q s = ap (λ (r : safe.Store). safe.is_owning (r.value y)) (store-with x Nothing names k) ∙ s.1.3.2.0

-- what is left is safe, whatever the slot held
safe-taken : (e : Setting) (maps : List MapDeclaration) (y : List ℕ) (slot : MapId) (m : MapDeclaration) (names : Names) (k : HeldLock) (was : Option ObjId) (os : List Open) → e.maps ≡ maps → slice_get maps slot.0 ≡ Some m → safe.Exchanges e (store_of names k) y slot (λ r. SafeStack e r os) → SafeStack e (store_of (with_name y (taken m.type_id was) names) k) os
safe-taken e maps y slot m names k None os from found s = rw (store-with y Null names k) (s.2.1 false)
safe-taken e maps y slot m names k (Some o) os from found s =
    let same : s.0 ≡ m.type_id = some-type s.0 m.type_id (sym s.1 ∙ slot-type e maps slot m from found) in
    rw (store-with y (Object m.type_id o.unit o.life) names k) (subst (λ v. SafeStack e (safe.with_value (store_of names k) y (safe.Owning v)) os) same (s.2.1 true))

-- .. after something was given, if it was
safe-exchanged : (e : Setting) (maps : List MapDeclaration) (y : List ℕ) (slot : MapId) (m : MapDeclaration) (given : Option (List ℕ)) (put was : Option ObjId) (names between : Names) (k : HeldLock) (os : List Open) → e.maps ≡ maps → slice_get maps slot.0 ≡ Some m → Puts given m.type_id names put between → safe.SafeAction e (store_of names k) (Exchange y slot given) (λ r. SafeStack e r os) → SafeStack e (store_of (with_name y (taken m.type_id was) between) k) os
safe-exchanged e maps y slot m None put was names between k os from found p s = rw p.1 (safe-taken e maps y slot m names k was os from found s.1)
safe-exchanged e maps y slot m (Some x) put was names between k os from found p s =
    let F : safe.Store → Type 0 = λ r. safe.Exchanges e r y slot (λ r. SafeStack e r os) in
    rw p.3 (safe-taken e maps y slot m (with_name x Nothing names) k was os from found (subst F (sym (store-with x Nothing names k)) s.1.3))

-- ---- the exchange

-- what a name holds after a reply is what was taken
pub taken-is : (t : TypeId) (was : Option ObjId) → answered t (reply_of was) ≡ taken t was
taken-is t None = refl
taken-is t (Some o) = refl

-- the names once something was given, if it was
pub without-is : (given : Option (List ℕ)) (t : TypeId) (put : Option ObjId) (names between : Names) → Puts given t names put between → between ≡ names_without given names
without-is None t put names between p = p.1
without-is (Some x) t put names between p = p.3

-- no name sees anything else once something was given, if it was
sees-given : (d : Declared) (g : Guarded) (k : HeldLock) (given : Option (List ℕ)) (t : TypeId) (put : Option ObjId) (names between : Names) → Puts given t names put between → Sees d g k names → Sees d g k between
sees-given d g k None t put names between p h = rw p.1 h
sees-given d g k (Some x) t put names between p h = rw p.3 (sees-put d g k names x Nothing nothing-hard h)

pub taken-hard : (t : TypeId) (was : Option ObjId) → IsHard (taken t was)
taken-hard t None = null-hard
taken-hard t (Some o) = object-hard t o.unit o.life

-- what an exchange is, with what a name takes
pub exchange-performed : (d : Declared) (l : ℕ) (z : Around) (w : Option (List ℕ)) (p : ℕ) (s s' : State ℕ) (g : Guarded) (y : List ℕ) (slot : MapId) (given : Option (List ℕ)) (m : MapDeclaration) (put was : Option ObjId) (names between names' : Names) (lives lives' : Lives) (asked asked' : ℕ) (log log' : Option Log) →
    IfSome log (λ es. Leaves p es s) → IfSome log' (λ es. Leaves p es s') → IsSlot d.maps slot.0 m → Puts given m.type_id names put between → safe.is_owning (value_of (between y)) ≡ false → Exchanged l d.types m.type_id.0 m.name put log log' lives lives' was → names' ≡ with_name y (taken m.type_id was) between → asked' ≤ asked + 1 →
    s' ≡ s → (os : List Open) → Quiet (lock_of os) w s → Performed d l z z w s s' g g (Exchange y slot given) names names' os os lives lives' asked asked' log log'
exchange-performed d l z w p s s' g y slot given m put was names between names' lives lives' asked asked' log log' leaves leaves' of puts free got e n same os down =
    let quiet : Quiet (lock_of os) w s' = rw same down in record {
      grew = called d l z w p (Exchange y slot given) s s' s' names names' os os log log' log' leaves leaves' leaves' (under-same os)
          (grew-say l (λ own. RunsExchange d.maps y slot given names own names') (entry.Xchg m.name put was got.by ∷ []) s log log' got.records
          (record { declared = m; is_slot = of; put = put; was = was; by = got.by; between = between; puts = puts; part_is = refl; after_is = e })) (none-left (lock_of os) w s' log' quiet);
      safe = λ b from k. rw e (safe-exchanged b d.maps y slot m given put was names between (lock_of os) os from.1 of.found puts k);
      guards = λ b from k h. h;
      locked = refl;
      holds = λ base h. rw e (holds-takes d.types base _ lives' between y m.type_id was free got.takes (holds-put d.types base lives names between given m.type_id put puts h));
      sees = λ h. rw e (sees-put d g (lock_of os) between y (taken m.type_id was) (taken-hard m.type_id was) (sees-given d g (lock_of os) given m.type_id put names between puts h));
      meets = λ q h a b. b;
      sections = λ base h. h;
      cost = omega (arith, n);
      weight = omega arith;
      down = quiet;
    }
