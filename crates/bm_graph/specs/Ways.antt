-- How a history names what is put in and what is taken.
use Rattle.std.specs.Prelude.{ℕ, Bool, true, false, Option, Some, None}
use Rattle.bm_journal.specs.declared.ids.ObjId.{ObjId}
use Rattle.bm_journal.specs.declared.past.PastCall.{PastCall}
use Rattle.bm_journal.specs.declared.past.PastCall.TheVariants as past
use Rattle.bm_graph.specs.declared.ways.Way.{Way}
use Rattle.bm_graph.specs.declared.ways.Way.TheVariants as way
use Rattle.bm_graph.specs.declared.ways.End.{End}
use Rattle.bm_graph.specs.declared.ways.End.TheVariants as end_

-- trees have additions, lists have pushes
abbrev pub is_for_tree : Way → Bool
is_for_tree way.Front = false
is_for_tree way.Back = false
is_for_tree way.Ordered = true

-- an object is put in, with its key, which only an addition has
abbrev pub push_call : Way → ObjId → (key : ℕ) → PastCall
push_call way.Front id key = past.PushFront id
push_call way.Back id key = past.PushBack id
push_call way.Ordered id key = past.Add id key

-- .. or refused, since it is in the list or tree of this number
abbrev pub refused_push : Way → ObjId → (key owner : ℕ) → PastCall
refused_push way.Front id key owner = past.PushFrontAlready id owner
refused_push way.Back id key owner = past.PushBackAlready id owner
refused_push way.Ordered id key owner = past.AddAlready id key owner

-- an object is taken from an end of a list, or there was none
abbrev pub pop_call : End → Option ObjId → PastCall
pop_call end_.Front (Some id) = past.PopFront id
pop_call end_.Front None = past.PopFrontNone
pop_call end_.Back (Some id) = past.PopBack id
pop_call end_.Back None = past.PopBackNone
