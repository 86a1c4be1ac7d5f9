-- What a processor did to what all share, as the world tells it: one act a call. (This project's own.)
use Rattle.std.specs.Prelude.{ℕ, Bool, List, Option, map}
use Rattle.bm_journal.specs.declared.ids.ObjId.{ObjId}
use Rattle.bm_journal.specs.declared.ids.Tag.{Tag}
use Rattle.bm_journal.specs.declared.ids.Domain.{Domain}
use Rattle.bm_journal.specs.declared.past.PastCall.{PastCall}
use Rattle.bm_journal.specs.declared.period.Period.{Period}
use Rattle.bm_page.specs.UnitState.{UnitState}
use Rattle.bm_page.specs.declared.units.Seal.{Seal}

-- A unit with the seal that it has, by its number.
pub record Sealed : Type 0 where
  pub unit : ℕ
  pub seal : Option Seal

abbrev pub units_of : List Sealed → List ℕ
units_of us = map (λ u. u.unit) us

-- units as a caller has them
abbrev pub sealed : List UnitState → List Sealed
sealed us = map (λ u. let s : Sealed = record { unit = u.number; seal = u.seal } in s) us

-- Units are named by their numbers, and with their seals where they are given away: what was sent or returned, and what began a
-- life. A receive that found nothing has no units. A read of a number has the stamp that it was compared with; a begin has the odd
-- number that it left, and one that came too late the even number that was named and the other one that it found; a look has the
-- words that it found. A life ends by a free, plain or with delay. Units that don't wait go to another processor (`Drains`) or back to
-- the stock (`GivesBack`), and units that have waited for a plain period go as one parcel with its stamp and number (`Releases`): so tells
-- who knows what the units wait for. Where nobody does, they are sent or returned. A life is made as an object of a type, by its number among those declared, with
-- the values of its fields, of which a read finds one, by its place; and a reference to it is acquired, or given up where others are left: each names how many there were.
-- What a slot holds is exchanged by a call, which a tag names: with what is put there, what was there, and the call that had put that.
-- A list or tree is called, with the call's position in its history and the tag that names it.
pub data Act : Type 0 where
  Enters : Domain → (word : ℕ) → Act
  Leaves : Domain → (word : ℕ) → Act
  Stamps : Domain → (stamp : ℕ) → Act
  Reads : Domain → (stamp number : ℕ) → Act
  Begins : Domain → (number : ℕ) → Act
  Misses : Domain → (even number : ℕ) → Act
  Looks : Domain → (words : List ℕ) → Act
  Finishes : Period → Act
  Fetches : (class want : ℕ) → List ℕ → Act
  Returns : List Sealed → Act
  Sends : (class to : ℕ) → List Sealed → Act
  Receives : (class : ℕ) → List ℕ → Act
  Drains : (class to : ℕ) → List ℕ → Act
  Releases : (class to : ℕ) → List ℕ → (stamp seen : ℕ) → Act
  GivesBack : List ℕ → Act
  Makes : (unit life type : ℕ) → (values : List ℕ) → Option Seal → Act
  Acquires : (unit life seen : ℕ) → Act
  Finds : (unit life place value : ℕ) → Act
  Exchanges : (name : List ℕ) (put was : Option ObjId) (by : Option Tag) (tag : Tag) → Act
  Calls : (graph : List ℕ) (position : ℕ) (call : PastCall) (tag : Tag) → Act
  GivesUp : (unit life seen : ℕ) → Act
  Ends : (unit life home : ℕ) (delayed : Bool) → Act
