-- Calls on lists and trees, as logs name them, and what they do to the object that they name. (The calls are those of
-- kernel/bpf/helpers.c: bpf_list_push_front_impl and bpf_list_push_back_impl, bpf_list_pop_front and bpf_list_pop_back,
-- bpf_rbtree_add_impl, bpf_rbtree_first and bpf_rbtree_remove. Positions and names are this project's own.)
use Rattle.std.specs.Prelude.{ℕ, Option, Some, None, List, [], ◌∷◌}
use Rattle.bm_journal.specs.declared.ids.ObjId.{ObjId}
use Rattle.bm_journal.specs.declared.entry.Entry.{Entry}
use Rattle.bm_journal.specs.declared.entry.Entry.TheVariants as entry
use Rattle.bm_journal.specs.declared.past.PastCall.{PastCall}
use Rattle.bm_journal.specs.declared.past.PastCall.TheVariants as past
pub use Rattle.bm_law_order.specs.Graphs.{Effect, Looks, Puts, Refuses, Takes, effect_of, place_of}

-- What a log says of a call on a list or tree: which one, the call's position in its history, and what it did.
pub record GraphCall : Type 0 where
  pub graph : List ℕ
  pub position : ℕ
  pub call : PastCall

abbrev pub object : (u life : ℕ) → ObjId
object u life = record { unit = u; life = life }

abbrev pub on : List ℕ → ℕ → PastCall → Option GraphCall
on graph position call = Some (record { graph = graph; position = position; call = call })

-- what was taken or found, if anything
abbrev pub found : (ObjId → PastCall) → PastCall → Option ObjId → PastCall
found some none None = none
found some none (Some id) = some id

-- The call that an entry is, if it is one. A log names no keys, so `key` says by unit that of an addition; the owner that a refused
-- push names is its place among the names of maps.
abbrev pub graph_call : (names : List (List ℕ)) → (key : ℕ → ℕ) → Entry → Option GraphCall
graph_call names key (entry.PushFront name u life pos) =
    on name pos (past.PushFront (object u life))
graph_call names key (entry.PushBack name u life pos) = on name pos (past.PushBack (object u life))
graph_call names key (entry.Add name u life pos) = on name pos (past.Add (object u life) (key u))
graph_call names key (entry.PushFrontAlready name u life owner pos) =
    on name pos (past.PushFrontAlready (object u life) (place_of names owner))
graph_call names key (entry.PushBackAlready name u life owner pos) =
    on name pos (past.PushBackAlready (object u life) (place_of names owner))
graph_call names key (entry.AddAlready name u life owner pos) =
    on name pos (past.AddAlready (object u life) (key u) (place_of names owner))
graph_call names key (entry.PopFront name item pos) =
    on name pos (found past.PopFront past.PopFrontNone item)
graph_call names key (entry.PopBack name item pos) =
    on name pos (found past.PopBack past.PopBackNone item)
graph_call names key (entry.First name item pos) =
    on name pos (found past.First past.FirstNone item)
graph_call names key (entry.Remove name u life pos) = on name pos (past.Remove (object u life))
graph_call names key _ = None
