-- Non-owning references: what names see, and where they end.
use Rattle.std.proofs.Common.{◌≡◌, ◌∙◌, ℕ, false, List, refl, sym, ap, subst, inl, inr, Option, Some, None}
use mathlib.Core.Path.{fun_ext}
use Rattle.std.specs.Str.{bytes_eq}
use Rattle.bm_lang.specs.declared.scenario.MapId.{MapId}
use Rattle.bm_lang.specs.declared.scenario.TypeId.{TypeId}
use Rattle.bm_check.specs.declared.name_state.HeldLock.{HeldLock}
use Rattle.bm_check.specs.Values as safe
use Rattle.bm_law_scenario.specs.Calls.{answered}
use Rattle.bm_law_scenario.specs.Declared.{Declared}
use Rattle.bm_law_scenario.specs.Held.{Held, Names, Nothing, Null, Object, Soft, soft_ended, soft_spent, with_name}
use Rattle.bm_exec.specs.Guarded.{Guarded, Sees, SeesNothing}
use Rattle.bm_exec.specs.Stores.{locked_in, store_of, value_of}
use Rattle.bm_exec.proofs.Tables.{is_or_not}

-- ---- what is no non-owning reference

abbrev pub IsHard : Held → Type 0
IsHard v = (t : TypeId) (graph : MapId) (u n : ℕ) → v ≡ Soft t graph u n → ⊥

pub nothing-hard : IsHard Nothing
nothing-hard t graph u n e = cc

pub null-hard : IsHard Null
null-hard t graph u n e = cc

pub object-hard : (t : TypeId) (u n : ℕ) → IsHard (Object t u n)
object-hard t u n t' graph u' n' e = cc

pub answered-hard : (t : TypeId) (reply : Option (ℕ × ℕ)) → IsHard (answered t reply)
answered-hard t None = null-hard
answered-hard t (Some o) = object-hard t o.0 o.1

-- a name gets something else
pub sees-put : (d : Declared) (g : Guarded) (k : HeldLock) (names : Names) (x : List ℕ) (v : Held) → IsHard v → Sees d g k names → Sees d g k (with_name x v names)
sees-put d g k names x v hard h y t graph u n held = elim (is_or_not (bytes_eq x y)) [
  | inl same ↦ absurd (hard t graph u n (rw same at held))
  | inr other ↦ h y t graph u n (rw other at held)
]

-- ---- non-owning references end

spent-hard : (v : Held) → IsHard (soft_spent v)
spent-hard Nothing = nothing-hard
spent-hard Null = null-hard
spent-hard (Object t u n) = object-hard t u n
spent-hard (Soft t graph u n) = nothing-hard

pub sees-ended : (d : Declared) (g : Guarded) (k : HeldLock) (names : Names) → Sees d g k (soft_ended names)
sees-ended d g k names y t graph u n held = absurd (spent-hard (names y) t graph u n held)

pub sees-nothing : (d : Declared) (g : Guarded) (k : HeldLock) (names : Names) → SeesNothing names → Sees d g k names
sees-nothing d g k names none y t graph u n held = absurd (none y t graph u n held)

-- where no lock is held no name holds one
pub sees-free : (d : Declared) (g : Guarded) (k : HeldLock) (names : Names) → locked_in k ≡ None → Sees d g k names → SeesNothing names
sees-free d g k names free h y t graph u n held = (let locked = sym free ∙ (h y t graph u n held).locked in cc)

-- the values of names, as the law of accepted scripts has them
value-ended : (v : Held) → value_of (soft_spent v) ≡ safe.soft_spent (value_of v)
value-ended Nothing = refl
value-ended Null = refl
value-ended (Object t u n) = refl
value-ended (Soft t graph u n) = refl

pub store-ended : (names : Names) (k : HeldLock) → store_of (soft_ended names) k ≡ safe.soft_ended (store_of names k)
store-ended names k = ap (λ f. let s : safe.Store = record { value = f; lock = k } in s) (fun_ext (λ y. value-ended (names y)))

-- a name that owns nothing then owned nothing before
ended-owns : (v : safe.Value) → safe.is_owning (safe.soft_spent v) ≡ false → safe.is_owning v ≡ false
ended-owns safe.Empty e = refl
ended-owns safe.Null e = refl
ended-owns (safe.Owning t) e = e
ended-owns (safe.NonOwning t graph) e = refl

pub owns-before : (names : Names) (k : HeldLock) (x : List ℕ) → safe.MayBind (safe.soft_ended (store_of names k)) x → safe.is_owning (value_of (names x)) ≡ false
owns-before names k x e = ended-owns (value_of (names x)) e

pub owns-after : (v : Held) → safe.is_owning (value_of v) ≡ false → safe.is_owning (value_of (soft_spent v)) ≡ false
owns-after Nothing e = refl
owns-after Null e = refl
owns-after (Object t u n) e = e
owns-after (Soft t graph u n) e = refl

-- ---- references

-- what is neither an owning reference nor another one refers to nothing
nothing-refers : (t : TypeId) → safe.Refers safe.Empty t → ⊥
nothing-refers t (inl e) = (let q = e in cc)
nothing-refers t (inr e) = (let q = e.1 in cc)

null-refers : (t : TypeId) → safe.Refers safe.Null t → ⊥
null-refers t (inl e) = (let q = e in cc)
null-refers t (inr e) = (let q = e.1 in cc)

pub refers-nothing : (v : Held) (t : TypeId) → v ≡ Nothing → safe.Refers (value_of v) t → ⊥
refers-nothing v t e r = nothing-refers t (subst (λ (w : Held). safe.Refers (value_of w) t) e r)

pub refers-null : (v : Held) (t : TypeId) → v ≡ Null → safe.Refers (value_of v) t → ⊥
refers-null v t e r = null-refers t (subst (λ (w : Held). safe.Refers (value_of w) t) e r)
