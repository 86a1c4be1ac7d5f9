-- What a unit shows, and what the stock keeps of it.
use Rattle.std.specs.Prelude.{ℕ, Option, false}
use Rattle.bm_page.specs.declared.units.Seal.{Seal}
use Rattle.bm_page.specs.declared.units.Stocked.{Stocked}

-- A unit: its number, its class, the processor that gave it last, its lives so far, and the seal of
-- its last life.
pub record UnitState : Type 0 where
  pub number : ℕ
  pub class : ℕ
  pub home : ℕ
  pub life : ℕ
  pub seal : Option Seal

-- What the stock keeps of a unit that is back: its lives so far and its seal.
abbrev pub stocked_of : UnitState → Stocked
stocked_of unit = record { out = false; life = unit.life; seal = unit.seal }
