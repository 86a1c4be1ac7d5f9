-- The steps of a crew's processors, and what one leaves of the others. (This project's own.)
use Rattle.std.specs.Prelude.{◌≡◌, ◌≢◌, ◌<◌, ℕ, zero, suc}
use Rattle.bm_closing.specs.declared.crew.Phase.{Phase}
use Rattle.bm_closing.specs.declared.crew.Phase.TheVariants.{Ends, Sweeps}

-- This holds of each of so many processors.
abbrev pub OfEach : ℕ → (ℕ → Type 0) → Type 0
OfEach count P = (p : ℕ) → p < count → P p

-- Each processor but q that may take its step still may, and each that has taken it still has.
pub record LeavesSteps {C : Type 0} (may has : C → ℕ → Type 0) (q : ℕ) (before now : C) :
    Type 0 where
  pub may_still : (p : ℕ) → p ≢ q → may before p → may now p
  pub has_still : (p : ℕ) → p ≢ q → has before p → has now p

-- The processors below n took their steps, in ascending order.
abbrev pub StepsBelow : {C : Type 0} → (ℕ → C → C → Type 0) → ℕ → C → C → Type 0
StepsBelow goes zero before now = now ≡ before
StepsBelow {C} goes (suc p) before now =
    (middle : C) × StepsBelow goes p before middle × goes p middle now

-- All took those of the first phase, and then those of the second one.
abbrev pub ClosesInOrder :
    {C : Type 0} → (Phase → ℕ → C → C → Type 0) → (count : ℕ) → C → C → Type 0
ClosesInOrder {C} goes count before now =
    (middle : C) × StepsBelow (goes Ends) count before middle
    × StepsBelow (goes Sweeps) count middle now
