-- One order of the entries of all logs, and what holds along it.
use Rattle.std.specs.Prelude.{◌≡◌, ℕ, List, [], ◌∷◌, eqb, if◌then◌else◌, map}
use Rattle.bm_journal.specs.declared.entry.Entry.{Entry}
use Rattle.bm_law.specs.Lists.{Log}
use Rattle.bm_law_order.specs.Shared.{Shared, Fits, fresh, shared_after}

-- An entry of a level of a processor.
pub record Event : Type 0 where
  pub processor : ℕ
  pub level : ℕ
  pub entry : Entry

abbrev pub Order : Type 0
Order = List Event

-- an entry of a processor's log
abbrev pub event : ℕ → ℕ × Entry → Event
event p e = record { processor = p; level = e.0; entry = e.1 }

-- a stretch of a processor's log
abbrev pub by : ℕ → Log → Order
by p log = map (event p) log

-- the entries of a processor, in order
abbrev pub part_of : ℕ → Order → Log
part_of p [] = []
part_of p (e ∷ es) = if eqb e.processor p then (e.level, e.entry) ∷ part_of p es else part_of p es

-- ---- along an order

-- a state of some kind, after each of these entries
abbrev pub over : {S : Type 0} → ((p l : ℕ) → Entry → S → S) → Order → S → S
over after [] s = s
over after (e ∷ es) s = over after es (after e.processor e.level e.entry s)

-- each entry finds what it needs, in the state that those before it leave
abbrev pub AllFit :
    {S : Type 0} → ((p l : ℕ) → Entry → S → S) → ((p l : ℕ) → Entry → S → Type 0) → Order → S
    → Type 0
AllFit after fits [] s = Unit {0}
AllFit after fits (e ∷ es) s =
    fits e.processor e.level e.entry s × AllFit after fits es (after e.processor e.level e.entry s)

-- so it is of all that is shared
abbrev pub shared_over : Order → Shared → Shared
shared_over = over shared_after

abbrev pub AllShared : Order → Shared → Type 0
AllShared = AllFit shared_after Fits

-- these entries, in order, lead from one state of all that is shared to another
pub record Leads (es : Order) (before now : Shared) : Type 0 where
  pub fit : AllShared es before
  pub now_is : shared_over es before ≡ now

-- An order of whole logs is laid: from the outset on each entry finds what it needs.
abbrev pub IsLaid : (processors pages : ℕ) → Order → Type 0
IsLaid processors pages order = AllShared order (fresh processors pages)
