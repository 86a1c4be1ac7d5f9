-- What a processor that has ended does to what all share, and the entries that tell of it. (This project's own.)
use Rattle.std.specs.Prelude.{◌≡◌, ℕ, List, [], ◌∷◌, ◌++◌, map}
use Rattle.bm_journal.specs.declared.ids.Domain.{Domain}
use Rattle.bm_journal.specs.declared.ids.Domain.TheVariants.{Tracing}
use Rattle.bm_journal.specs.declared.period.Period.{Period}
use Rattle.bm_journal.specs.declared.entry.Entry.{Entry}
use Rattle.bm_journal.specs.declared.entry.Entry.TheVariants as entry
use Rattle.bm_law_order.specs.Act.{Act}
use Rattle.bm_law_order.specs.Act as act
use Rattle.bm_closing.specs.declared.period.Waited.{Waited}

-- a period that began with the number n, was looked at and ended; and the number m, which was compared with the stamp x
abbrev pub at_once : Domain → (x n m : ℕ) → List ℕ → Period → List Act
at_once d x n m ws p = act.Begins d n ∷ act.Looks d ws ∷ act.Finishes p ∷ act.Reads d x m ∷ []

abbrev pub passed_at_once : Domain → (n m c : ℕ) → Period → List Entry
passed_at_once d n m c p = entry.Begin d n ∷ entry.Finish p ∷ entry.Pass c d m ∷ []

-- a tracing period that was waited for, with its stamp
abbrev pub waiting : List ℕ → Waited → List Act
waiting ws w = act.Stamps Tracing w.stamp ∷ at_once Tracing w.stamp w.begun w.seen ws w.period

-- all parcels of a class were received, until there was none
abbrev pub receives_all : ℕ → List (List ℕ) → List Act
receives_all c parcels = map (act.Receives c) parcels ++ act.Receives c [] ∷ []

-- parcels came behind those that had come before, and there may be more
abbrev pub ReceivesSome :
    {W : Type 0} → (List Act → W → W → Type 0) → ℕ → (before now : List (List ℕ)) → W → W → Type 0
ReceivesSome does c before now a b =
    (came : List (List ℕ)) × (now ≡ before ++ came) × does (map (act.Receives c) came) a b

-- .. and there are none
abbrev pub ReceivesAll :
    {W : Type 0} → (List Act → W → W → Type 0) → ℕ → (before now : List (List ℕ)) → W → W → Type 0
ReceivesAll does c before now a b =
    (came : List (List ℕ)) × (now ≡ before ++ came) × does (receives_all c came) a b
