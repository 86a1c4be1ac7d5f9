-- What slots hold, by their names, and what acts make of it. (In the kernel a slot is a map value's field for a pointer to an object, which
-- bpf_kptr_xchg of kernel/bpf/helpers.c exchanges by one xchg. That a slot knows the call that put what it holds is this project's own.)
use Rattle.std.specs.Prelude.{◌≡◌, ℕ, if◌then◌else◌, Option, Some, None, List, [], ◌∷◌}
use Rattle.std.specs.Str.{bytes_eq}
use Rattle.bm_journal.specs.declared.ids.ObjId.{ObjId}
use Rattle.bm_journal.specs.declared.ids.Tag.{Tag}
use Rattle.bm_law_order.specs.Act.{Act}
use Rattle.bm_law_order.specs.Act as act

-- What a slot holds, and the exchange that put it there: none at the outset.
pub record Slot : Type 0 where
  pub held : Option ObjId
  pub by : Option Tag

abbrev pub empty_slot : Slot
empty_slot = record { held = None; by = None }

-- what each slot holds, by its name
abbrev pub Contents : Type 0
Contents = List ℕ → Slot

-- the slot of this name holds something else
abbrev pub with_slot : (name : List ℕ) → Slot → Contents → Contents
with_slot name slot contents = λ other. if bytes_eq name other then slot else contents other

-- What slots hold before an act and after it: an exchange takes out what the slot holds, which that call had put, and puts something in.
abbrev pub ExchangedBy : Act → (before now : Contents) → Type 0
ExchangedBy (act.Exchanges name put was by tag) before now =
    (was ≡ (before name).held) × (by ≡ (before name).by)
    × (now ≡ with_slot name (record { held = put; by = Some tag }) before)
ExchangedBy _ before now = now ≡ before

-- .. and of some acts, in order
abbrev pub SlotsLead : List Act → (before now : Contents) → Type 0
SlotsLead [] before now = now ≡ before
SlotsLead (a ∷ more) before now =
    (mid : Contents) × (ExchangedBy a before mid × SlotsLead more mid now)

-- ---- slots in a list, each with its name

pub record Named : Type 0 where
  pub name : List ℕ
  pub slot : Slot

-- what the slot of a name holds; one that isn't in the list is empty
abbrev pub named_in : List Named → Contents
named_in [] other = empty_slot
named_in (s ∷ ss) other = if bytes_eq s.name other then s.slot else named_in ss other
