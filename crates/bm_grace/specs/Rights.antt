-- The right to units, and what a side tells of their waiting. (This project's own; the kernel's lists hold their units
-- without it.)
use Rattle.std.specs.Prelude.{◌≡◌, ℕ, Bool, true, false, Option, Some, None}
use Rattle.bm_journal.specs.declared.ids.Domain.{Domain}
use Rattle.bm_journal.specs.declared.ids.Domain.TheVariants.{Plain, Tracing}
use Rattle.bm_page.specs.declared.units.Seal.{Seal}
use Rattle.bm_grace.specs.declared.answer.Done.{Done}
use Rattle.bm_grace.specs.declared.answer.Done.TheVariants.{Passed, NotYet}

-- Which units are mine, by their numbers; three tests of a unit by its number, its lives so far and its seal or none:
-- whether it may be used again, whether it waits for a grace period, and whether that period is seen to have passed; and
-- whether a unit has been mine since a stamp of a domain was taken, by the stamp and the unit's number.
pub record Rights : Type 0 where
  pub mine : ℕ → Bool
  pub settled : ℕ → ℕ → Option Seal → Bool
  pub due : ℕ → ℕ → Option Seal → Bool
  pub ripe : ℕ → ℕ → Option Seal → Bool
  pub since : Domain → ℕ → ℕ → Bool

-- the right to no unit
abbrev pub no_rights : Rights
no_rights = record {
  mine = λ n. false;
  settled = λ n life seal. true;
  due = λ n life seal. true;
  ripe = λ n life seal. true;
  since = λ d x n. true;
}

-- A call on grace periods moves no unit: which are mine, settled and due is as before. More may be ripe, and have been
-- mine since more stamps.
pub record Ages (before now : Rights) : Type 0 where
  pub mine : (n : ℕ) → now.mine n ≡ before.mine n
  pub settled :
      (n life : ℕ) (seal : Option Seal) → now.settled n life seal ≡ before.settled n life seal
  pub due : (n life : ℕ) (seal : Option Seal) → now.due n life seal ≡ before.due n life seal
  pub ripe :
      (n life : ℕ) (seal : Option Seal) → before.ripe n life seal ≡ true
      → now.ripe n life seal ≡ true
  pub since : (d : Domain) (x n : ℕ) → before.since d x n ≡ true → now.since d x n ≡ true

-- all of it is as before
pub record AsBefore (before now : Rights) : Type 0 where
  pub mine : (n : ℕ) → now.mine n ≡ before.mine n
  pub settled :
      (n life : ℕ) (seal : Option Seal) → now.settled n life seal ≡ before.settled n life seal
  pub due : (n life : ℕ) (seal : Option Seal) → now.due n life seal ≡ before.due n life seal
  pub ripe : (n life : ℕ) (seal : Option Seal) → now.ripe n life seal ≡ before.ripe n life seal
  pub since : (d : Domain) (x n : ℕ) → now.since d x n ≡ before.since d x n

-- a stamp was taken: what was mine has been mine since
abbrev pub MineSince : Domain → ℕ → Rights → Rights → Type 0
MineSince d x before now = (n : ℕ) → before.mine n ≡ true → now.since d x n ≡ true

-- the seal of a unit whose grace period a stamp and a number show to be over; a plain period alone leaves one
abbrev pub seal_by : Domain → ℕ → ℕ → Option Seal
seal_by Plain stamp number = Some (record { stamp = stamp; seen = number })
seal_by Tracing stamp number = None

-- a stamp was passed: what is due and has been mine since it was taken is ripe
abbrev pub Ripens : Domain → ℕ → Done → Rights → Rights → Type 0
Ripens d x (Passed number) before now =
    (n life : ℕ) → before.mine n ≡ true → before.since d x n ≡ true → before.due n life None ≡ true
    → now.ripe n life (seal_by d x number) ≡ true
Ripens d x (NotYet number) before now = Unit {0}
