-- What calls of a post do to the right to units. (This project's own.)
use Rattle.std.specs.Prelude.{◌≡◌, ◌⊎◌, ◌<◌, ◌≤◌, ℕ, true, false, List, Option, Some, map}
use Rattle.std.specs.List.{All}
use Rattle.bm_law.specs.Stands.{times}
use Rattle.bm_page.specs.UnitState.{UnitState}
use Rattle.bm_page.specs.declared.units.Seal.{Seal}
use Rattle.bm_journal.specs.declared.ids.Domain.{Domain}
use Rattle.bm_grace.specs.Rights.{Rights}

abbrev pub number_of : UnitState → ℕ
number_of unit = unit.number

abbrev pub numbers : List UnitState → List ℕ
numbers units = map number_of units

-- a unit may go to another processor or back to the pool
abbrev pub MayLeave : Rights → UnitState → Type 0
MayLeave rights unit =
    (rights.settled unit.number unit.life unit.seal ≡ true)
    ⊎ (rights.ripe unit.number unit.life unit.seal ≡ true)

abbrev pub IsSettled : Rights → UnitState → Type 0
IsSettled rights unit = rights.settled unit.number unit.life unit.seal ≡ true

-- a unit has this seal, and its grace period is seen to have passed by it
pub record WaitedBy (rights : Rights) (seal : Seal) (unit : UnitState) : Type 0 where
  pub sealed : unit.seal ≡ Some seal
  pub ripe : rights.ripe unit.number unit.life (Some seal) ≡ true

-- each unit is mine, and none is there twice
pub record Holds (rights : Rights) (units : List UnitState) : Type 0 where
  pub each : All (λ (unit : UnitState). rights.mine unit.number ≡ true) units
  pub once : (n : ℕ) → times n (numbers units) ≤ 1

-- the units with these numbers are mine no more, and of all others it is as before whether they are
pub record Loses (gone : List ℕ) (before now : Rights) : Type 0 where
  pub are_gone : (n : ℕ) → 0 < times n gone → now.mine n ≡ false
  pub others : (n : ℕ) → times n gone ≡ 0 → now.mine n ≡ before.mine n

-- the units with these numbers are mine, weren't before, and differ from each other; of all others it is as before
pub record Gains (come : List ℕ) (before now : Rights) : Type 0 where
  pub once : (n : ℕ) → times n come ≤ 1
  pub were_not : (n : ℕ) → 0 < times n come → before.mine n ≡ false
  pub are : (n : ℕ) → 0 < times n come → now.mine n ≡ true
  pub others : (n : ℕ) → times n come ≡ 0 → now.mine n ≡ before.mine n

-- it is as before which units are mine
abbrev pub AreSame : Rights → Rights → Type 0
AreSame before now = (n : ℕ) → now.mine n ≡ before.mine n

-- A unit that was mine and is mine is settled still, and has been mine since the same stamps; and it is due and ripe still
-- where nobody tried to send it.
pub record Lasting (tried : List ℕ) (before now : Rights) : Type 0 where
  pub settled : (n life : ℕ) (seal : Option Seal) → before.mine n ≡ true → now.mine n ≡ true →
      before.settled n life seal ≡ true → now.settled n life seal ≡ true
  pub due :
      (n life : ℕ) (seal : Option Seal) → before.mine n ≡ true → now.mine n ≡ true
      → times n tried ≡ 0 →
      before.due n life seal ≡ true → now.due n life seal ≡ true
  pub ripe :
      (n life : ℕ) (seal : Option Seal) → before.mine n ≡ true → now.mine n ≡ true
      → times n tried ≡ 0 →
      before.ripe n life seal ≡ true → now.ripe n life seal ≡ true
  pub since :
      (d : Domain) (x n : ℕ) → before.mine n ≡ true → now.mine n ≡ true → before.since d x n ≡ true
      → now.since d x n ≡ true
