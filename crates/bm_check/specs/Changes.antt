-- Logs of changes: what the states are once a log has been applied.
use Rattle.std.specs.Prelude.{◌≡◌, ℕ, Bool, true, false, List, [], ◌∷◌, Option, Some, None, Vec, if◌then◌else◌}
use Rattle.std.specs.declared.alloc.Global.{Global}
use Rattle.std.specs.List.{list_any}
use Rattle.std.specs.Str.{bytes_eq}
use Rattle.bm_check.specs.declared.name_state.NameState.{NameState}
use Rattle.bm_check.specs.declared.meeting.Meeting.{Meeting}
use Rattle.bm_check.specs.declared.name_log.Change.{Change}
use Rattle.bm_check.specs.declared.name_log.NameLog.{NameLog}
use Rattle.bm_check.specs.Names.{Names, some_name}
use Rattle.bm_check.specs.Tables.{names_of}
use Rattle.bm_check.specs.Meetings.{breaks, outcome}

abbrev pub names_in : NameLog → Names
names_in l = names_of l.table

-- the names that were met, with other states
abbrev pub at_states : Names → (List ℕ → NameState) → Names
at_states n f = record { met = n.met; state = f }

-- the states once a log has been applied, its last change first
abbrev pub applied : List Change → (List ℕ → NameState) → List ℕ → NameState
applied [] f = f
applied (c ∷ cs) f = λ x. if bytes_eq c.name.now x then c.state else applied cs f x

abbrev pub AreMet : List Change → List (List ℕ) → Type 0
AreMet [] met = Unit {0}
AreMet (c ∷ cs) met = (list_any (bytes_eq c.name.now) met ≡ true) × AreMet cs met

-- a log over names that were met leads to these states
pub record Leads (cs : List Change) (n : Names) (f : List ℕ → NameState) : Type 0 where
  pub met : AreMet cs n.met
  pub states : applied cs n.state ≡ f

-- a table's log leads back to the states at its start
abbrev pub Starts : NameLog → (List ℕ → NameState) → Type 0
Starts l f = Leads l.changes.items (names_in l) f

abbrev pub KeepsStart : NameLog → NameLog → Type 0
KeepsStart old new = (f : List ℕ → NameState) → Starts old f → Starts new f

-- back at the start, with an empty log there and one that leads forth again
pub record IsBack (forth : Vec Change Global) (old new : NameLog) (f : List ℕ → NameState) :
    Type 0 where
  pub names : names_in new ≡ at_states (names_in old) f
  pub empty : new.changes.items ≡ []
  pub leads : Leads forth.items (names_in new) (names_in old).state

-- the state of a change's name
abbrev pub end_of : (List ℕ → NameState) → Change → Change
end_of f c = record { name = c.name; state = f c.name.now }

-- a name's state now and that of a change
abbrev pub breaks_at : Meeting → (List ℕ → NameState) → Change → Bool
breaks_at m f c = breaks m (f c.name.now) c.state

abbrev pub met_at : Meeting → (List ℕ → NameState) → Change → Change
met_at m f c = record { name = c.name; state = outcome m (f c.name.now) c.state }

-- the states at the two places
abbrev pub some_break : Meeting → (List ℕ → NameState) → Names → Bool
some_break m g n = some_name (λ x. breaks m (g x) (n.state x)) n

pub record IsMet (m : Meeting) (outcomes : Vec Change Global) (n : Names) (f g : List ℕ → NameState)
    (new : NameLog) : Type 0 where
  pub none : some_break m g n ≡ false
  pub names : names_in new ≡ at_states n f
  pub leads : Leads outcomes.items (at_states n f) (λ x. outcome m (g x) (n.state x))

-- two parts of a text begin at the states f; the first one ends at g, and the second one at those of n
abbrev pub IsMeeting :
    Meeting → Option (Vec Change Global) → Names → (List ℕ → NameState) → (List ℕ → NameState)
    → NameLog → Type 0
IsMeeting m None n f g new = some_break m g n ≡ true
IsMeeting m (Some outcomes) n f g new = IsMet m outcomes n f g new
