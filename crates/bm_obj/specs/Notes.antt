-- What notes carry between a side and a graph. (This project's own.)
use Rattle.std.specs.Prelude.{◌≡◌, ℕ, ◌<◌, Bool, true, false, ◌||◌, List, [], ◌∷◌, Option, None, Some, is_some, eqb, if◌then◌else◌}
use Rattle.std.specs.Option.{option_map, option_map_or}
use Rattle.bm_journal.specs.declared.ids.ObjId.{ObjId}
use Rattle.bm_journal.specs.declared.past.Past.{Past}
use Rattle.bm_journal.specs.declared.past.PastCall.{PastCall}
use Rattle.bm_journal.specs.declared.past.PastCall.TheVariants as past
use Rattle.bm_obj.specs.Reference.{Held, Reference}

-- An object that a note carries: the reference, and the graph for which the object's claim goes with it, if it does.
pub record Carried : Type 0 where
  pub to : Reference
  pub claim : Option ℕ

-- An entry of a graph's history, with its position.
pub record Entered : Type 0 where
  pub at : ℕ
  pub past : Past

-- A graph's page: the number of the graph, and the history, where the page tells it.
pub record Page : Type 0 where
  pub graph : ℕ
  pub history : Option (List Entered)

-- Of one unit's life: how many notes carry references to it, and the graph for which one of them carries the claim.
pub record Noted : Type 0 where
  pub refs : Option Held
  pub claim : Option ℕ

-- One of the notes carries this: a reference that looks so, and the claim, or else a note without the claim is left.
abbrev pub IsClaimNoted : Option ℕ → Noted → Type 0
IsClaimNoted (Some graph) noted = noted.claim ≡ Some graph
IsClaimNoted None noted =
    is_some noted.claim ≡ true → 1 < option_map_or (λ held. held.count) noted.refs 0

abbrev pub IsNoted : Carried → Noted → Type 0
IsNoted c noted = (option_map (λ held. held.to) noted.refs ≡ Some c.to) × IsClaimNoted c.claim noted

-- the same object
abbrev pub is_object : ObjId → ObjId → Bool
is_object a b = if eqb a.unit b.unit then eqb a.life b.life else false

-- whether an object is an item after an entry: a push or an addition makes it one, a pop or a removal ends it
abbrev pub is_item_after : ObjId → Bool → PastCall → Bool
is_item_after id was (past.PushFront other) = is_object other id || was
is_item_after id was (past.PushBack other) = is_object other id || was
is_item_after id was (past.Add other key) = is_object other id || was
is_item_after id was (past.PopFront other) = if is_object other id then false else was
is_item_after id was (past.PopBack other) = if is_object other id then false else was
is_item_after id was (past.Remove other) = if is_object other id then false else was
is_item_after id was _ = was

abbrev pub is_item_from : ObjId → Bool → List Entered → Bool
is_item_from id was [] = was
is_item_from id was (e ∷ es) = is_item_from id (is_item_after id was e.past.call) es

-- A history leaves an object as an item.
abbrev pub LeavesItem : ObjId → List Entered → Type 0
LeavesItem id history = is_item_from id false history ≡ true
