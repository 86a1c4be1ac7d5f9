-- The lock that is held in open blocks.
use Rattle.std.proofs.Common.{◌≡◌, ◌<◌, ◌∙◌, ℕ, Bool, true, false, List, [], ◌∷◌, length, refl, sym, ap, subst, arith, Option, Some, None}
use Rattle.std.proofs.lemmas.Bool.{eqb-true}
use Rattle.bm_lang.specs.declared.scenario.Action.{Action, Lock, Unlock}
use Rattle.bm_lang.specs.declared.scenario.MapDeclaration.{MapDeclaration}
use Rattle.bm_lang.specs.declared.scenario.MapId.{MapId}
use Rattle.bm_law_scenario.specs.Declared.{Declared}
use Rattle.bm_law.specs.State.{State}
use Rattle.bm_law_scenario.specs.Held.{Names}
use Rattle.bm_law_scenario.specs.Runs.{lock_after as lock_left, unlocked}
use Rattle.bm_check.specs.Blocks.{from_inside}
use Rattle.bm_check.specs.declared.name_state.HeldLock.{HeldLock}
use Rattle.bm_check.specs.declared.name_state.HeldLock.TheVariants.{Nothing as NoLock, Here, Around as AroundHere}
use Rattle.bm_check.specs.Statements.{is_lock_of, lock_after}
use Rattle.bm_exec.specs.declared.frame.Open.{Open}
use Rattle.bm_exec.specs.Guarded.{Guarded, Guards, IsLock, Sees, place_in}
use Rattle.bm_exec.specs.Lists.{Behind, Quiet}
use Rattle.bm_exec.specs.Stack.{lock_of, under_lock}
use Rattle.bm_exec.specs.Stores.{locked_in}

-- ---- one lock

-- an inner block sees the same lock
pub locked-inside : (k : HeldLock) → locked_in (from_inside k) ≡ locked_in k
locked-inside NoLock = refl
locked-inside (Here g) = refl
locked-inside (AroundHere g) = refl

pub no-lock : (k : HeldLock) → locked_in k ≡ None → k ≡ NoLock
no-lock NoLock e = refl
no-lock (Here g) e = cc
no-lock (AroundHere g) e = cc

-- the lock that the checker knows is the one that is held
same-map : (g h : MapId) → g.0 ≡ h.0 → h ≡ g
same-map g h e = λ i. record { 0 = sym e i }

pub lock-is : (g : MapId) (k : HeldLock) → is_lock_of g k ≡ true → locked_in k ≡ Some g
lock-is g NoLock e = cc
lock-is g (Here h) e = ap Some (same-map g h (eqb-true g.0 h.0 e))
lock-is g (AroundHere h) e = ap Some (same-map g h (eqb-true g.0 h.0 e))

-- what a statement leaves of it
pub left-locked : (k : HeldLock) (a : Action) → locked_in (lock_after k a) ≡ lock_left (locked_in k) a
left-locked k (Lock g) = refl
left-locked k Unlock = refl
left-locked k a = refl

pub quiet-as : (k m : HeldLock) (w : Option (List ℕ)) (s : State ℕ) → locked_in m ≡ locked_in k → Quiet k w s → Quiet m w s
quiet-as k m w s e q = subst (λ o. unlocked o (Behind w) s []) (sym e) q

-- under no lock nothing at all is left to run
pub quiet-free : (k : HeldLock) (w : Option (List ℕ)) (s : State ℕ) → locked_in k ≡ None → Quiet k w s → Behind w s []
quiet-free k w s e q = subst (λ o. unlocked o (Behind w) s []) e q

pub quiet-locked : (k : HeldLock) (g : MapId) (w : Option (List ℕ)) (s : State ℕ) → locked_in k ≡ Some g → Quiet k w s
quiet-locked k g w s e = subst (λ o. unlocked o (Behind w) s []) (sym e) refl

-- ---- of the innermost block

pub under-same : (os : List Open) → under_lock (lock_of os) os ≡ os
under-same [] = refl
under-same (o ∷ os) = refl

pub under-is : (k : HeldLock) (os : List Open) → 0 < length os → lock_of (under_lock k os) ≡ k
under-is k [] some = absurd (omega (arith, some))
under-is k (o ∷ os) some = refl

-- a block in which no lock is held is left by a statement that takes none as it is
pub under-as : (k : HeldLock) (os : List Open) → k ≡ lock_of os → under_lock k os ≡ os
under-as k os e = ap (λ m. under_lock m os) e ∙ under-same os

-- ---- what a script knows

module _ (maps : List MapDeclaration) (handler : Bool) (l : ℕ) where
  pub guards-as : (g : Guarded) (k m : HeldLock) → locked_in m ≡ locked_in k → Guards maps handler l g k → Guards maps handler l g m
  guards-as g k m e x = record {
    ground = x.ground;
    none = λ h. no-lock m (e ∙ ap locked_in (x.none h));
    held = λ z. x.held z ∙ ap place_in (sym e);
    declared = subst (IsLock maps) (sym e) x.declared;
  }

pub sees-as : (d : Declared) (g : Guarded) (k m : HeldLock) (names : Names) → locked_in m ≡ locked_in k → Sees d g k names → Sees d g m names
sees-as d g k m names e x = λ y t graph u n held. let s = x y t graph u n held in record { locked = e ∙ s.locked; typed = s.typed; shelved = s.shelved }

-- only ordinary code holds a lock, and it is the one that is guarded
pub grounded : (maps : List MapDeclaration) (handler : Bool) (l : ℕ) (g : Guarded) (k : HeldLock) (graph : MapId) → locked_in k ≡ Some graph → Guards maps handler l g k → l ≡ 0
grounded maps true l g k graph locked x = (let q = sym locked ∙ ap locked_in (x.none refl) in cc)
grounded maps false l g k graph locked x = x.ground refl

pub lock-held : (maps : List MapDeclaration) (handler : Bool) (l : ℕ) (g : Guarded) (k : HeldLock) (graph : MapId) → locked_in k ≡ Some graph → Guards maps handler l g k → g.lock ≡ Some graph.0
lock-held maps handler l g k graph locked x = x.held (grounded maps handler l g k graph locked x) ∙ ap place_in locked
