-- The parcels in the inboxes of all processors, as entries name them. (This project's own. In kernel/bpf/memalloc.c units are put
-- on the list free_by_rcu_ttrace of the target's cache.)
use Rattle.std.specs.Prelude.{◌≡◌, ◌<◌, ℕ, ◌&&◌, eqb, if◌then◌else◌, List, [], ◌∷◌, ◌++◌, drop, length}
use Rattle.std.specs.List.{concat}
use Rattle.bm_journal.specs.declared.entry.Entry.{Entry}
use Rattle.bm_journal.specs.declared.entry.Entry.TheVariants as entry
use Rattle.bm_journal.specs.EntryText.{unit_list}
use Rattle.bm_law.specs.Inboxes.{oldest}

-- by processor and class the parcels that wait, the oldest first, each by the numbers of its units
abbrev pub Boxes : Type 0
Boxes = ℕ → ℕ → List (List ℕ)

-- the inbox of processor p and class c changed so
abbrev pub on_box : (p c : ℕ) → (List (List ℕ) → List (List ℕ)) → Boxes → Boxes
on_box p c f boxes q k = if eqb q p && eqb k c then f (boxes q k) else boxes q k

-- what an entry of level l of processor p makes of them
abbrev pub boxes_after : (p l : ℕ) → Entry → Boxes → Boxes
boxes_after p l (entry.Send c to us) boxes =
    on_box to c (λ parcels. parcels ++ unit_list us ∷ []) boxes
boxes_after p l (entry.Receive c us) boxes = on_box p c (drop 1) boxes
boxes_after p l (entry.Sweep c us) boxes = on_box p c (λ parcels. []) boxes
boxes_after p l _ boxes = boxes

-- a parcel with units goes to one of so many processors
pub record IsParcel (processors to : ℕ) (units : List ℕ) : Type 0 where
  pub there : to < processors
  pub some : 0 < length units

-- these units come last
pub record EndsWith (last units : List ℕ) : Type 0 where
  pub before : List ℕ
  pub units_are : units ≡ before ++ last

-- What such an entry needs of them: what is received is the oldest parcel, and nothing where none waits; a sweep takes all that
-- wait, behind the units of the lists.
abbrev pub BoxesFit : (processors p l : ℕ) → Entry → Boxes → Type 0
BoxesFit processors p l (entry.Send c to us) boxes = IsParcel processors to (unit_list us)
BoxesFit processors p l (entry.Receive c us) boxes = unit_list us ≡ oldest (boxes p c)
BoxesFit processors p l (entry.Sweep c us) boxes = EndsWith (concat (boxes p c)) (unit_list us)
BoxesFit processors p l _ boxes = Unit {0}
