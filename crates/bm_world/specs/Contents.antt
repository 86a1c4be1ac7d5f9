-- What the slots of a scenario's maps hold, each with its name. (This project's own. In the kernel a slot is a field of a map's value.)
use Rattle.std.specs.Prelude.{ℕ, Bool, true, ◌&&◌, not, List, [], ◌∷◌, map, slice_index_or, slice_set}
use Rattle.std.specs.List.{list_all}
use Rattle.std.specs.Str.{bytes_eq}
use Rattle.bm_law_order.specs.Slots.{Named, Slot, empty_slot}

abbrev pub names_in : List Named → List (List ℕ)
names_in slots = map (λ s. s.name) slots

-- no name stands there twice
abbrev pub are_apart : List (List ℕ) → Bool
are_apart [] = true
are_apart (n ∷ ns) = list_all (λ m. not (bytes_eq n m)) ns && are_apart ns

-- the slot at a place
abbrev pub slot_at : ℕ → List Named → Named
slot_at place slots = slice_index_or slots place (record { name = []; slot = empty_slot })

-- it holds something else
abbrev pub put_at : ℕ → Slot → List Named → List Named
put_at place slot slots =
    slice_set slots place (record { name = (slot_at place slots).name; slot = slot })
