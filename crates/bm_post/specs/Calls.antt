-- The calls of a post: what each leaves, and how they are told.
use Rattle.std.specs.Prelude.{◌≡◌, ◌<◌, ◌≤◌, ℕ, Bool, List, [], ◌∷◌, ◌++◌, length, drop, Option, Some, None, option_map}
use Rattle.std.specs.List.{All}
use Rattle.bm_page.specs.UnitState.{UnitState}
use Rattle.bm_grace.specs.Known.{Known}
use Rattle.bm_grace.specs.Calls.{told}
use Rattle.bm_grace.specs.declared.step.TableStep.{TableStep}
use Rattle.bm_grace.specs.Rights.{Rights}
use Rattle.bm_post.specs.Parcels.{Inboxes}
use Rattle.bm_post.specs.Rights.{Gains, Loses, IsSettled, numbers}

-- a unit is of a class
abbrev pub IsOf : ℕ → UnitState → Type 0
IsOf class unit = unit.class ≡ class

-- units of a class came that weren't mine, each of them settled
pub record Takes (class : ℕ) (units : List UnitState) (before now : Rights) : Type 0 where
  pub of_class : All (IsOf class) units
  pub settled : All (IsSettled now) units
  pub gains : Gains (numbers units) before now

-- n units were appended to a list, no more than were wanted
pub record Fetches (class want n : ℕ) (list longer : List UnitState) (before now : Rights) :
    Type 0 where
  pub units : List UnitState
  pub appended : longer ≡ list ++ units
  pub count : n ≡ length units
  pub most : n ≤ want
  pub takes : Takes class units before now

-- a whole parcel came, which isn't empty
pub record Receives (class : ℕ) (units : List UnitState) (before now : Rights) : Type 0 where
  pub some : 0 < length units
  pub takes : Takes class units before now

-- units went back to the pool, or to an inbox
abbrev pub GivesBack : List ℕ → Rights → Rights → Type 0
GivesBack = Loses

-- A call of a post leaves what is known of grace periods, and the parcels that are told; where steps are told it may have
-- taken some.
pub record Posts (tells : Bool) (before now : Known) : Type 0 where
  pub steps : List TableStep
  pub known : now ≡ record before { steps = told tells before.steps steps }

-- .. and the parcels that are told, if they are, went so
pub record Mails (tells : Bool) (change : Inboxes → Inboxes) (before now : Known) : Type 0 where
  pub steps : List TableStep
  pub known :
      now
      ≡ record before
      { steps = told tells before.steps steps; parcels = option_map change before.parcels }

-- A call that wasn't refused, with what it was given and what it answered, units by their numbers. A receive that found
-- nothing has no units.
pub data PostCall : Type 0 where
  Fetched : (class want : ℕ) → List ℕ → PostCall
  PutBack : List ℕ → PostCall
  Sent : (to class : ℕ) → List ℕ → PostCall
  Received : (class : ℕ) → List ℕ → PostCall

-- a fetch that made one list of another
abbrev pub fetched : ℕ → ℕ → ℕ → List UnitState → List UnitState → PostCall
fetched class want n list longer = Fetched class want (numbers (drop (length list) longer))

abbrev pub returned_call : List UnitState → PostCall
returned_call units = PutBack (numbers units)

abbrev pub sent : ℕ → ℕ → List UnitState → PostCall
sent to class units = Sent to class (numbers units)

abbrev pub received : ℕ → List UnitState → PostCall
received class units = Received class (numbers units)

-- a list that is told has gained the call at its end
pub record Gained (call : PostCall) (before : Option (List PostCall)) (now : List PostCall) :
    Type 0 where
  pub list : List PostCall
  pub told : before ≡ Some list
  pub more : now ≡ list ++ call ∷ []

abbrev pub TellsCall : PostCall → Option (List PostCall) → Option (List PostCall) → Type 0
TellsCall call before None = Unit {0}
TellsCall call before (Some now) = Gained call before now

-- a list that is told is as it was
abbrev pub KeepsCalls : Option (List PostCall) → Option (List PostCall) → Type 0
KeepsCalls before None = Unit {0}
KeepsCalls before (Some now) = before ≡ Some now
