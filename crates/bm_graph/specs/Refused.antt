-- Pushes and additions that are refused, since the object is in some list or tree already: the kernel answers -EINVAL.
use Rattle.std.specs.Prelude.{ℕ, Bool, true, false}
use Rattle.bm_journal.specs.declared.ids.ObjId.{ObjId}
use Rattle.bm_journal.specs.declared.past.PastCall.{PastCall}
use Rattle.bm_journal.specs.declared.past.PastCall.TheVariants as past
use Rattle.bm_graph.specs.declared.call.GraphCall.{GraphCall}
use Rattle.bm_graph.specs.declared.call.GraphCall.TheVariants.{PushFront, PushBack, Add}

-- how a history names it, with the number of the list or tree that the object is in
abbrev pub refused_call : GraphCall → ObjId → ℕ → PastCall
refused_call PushFront id owner = past.PushFrontAlready id owner
refused_call PushBack id owner = past.PushBackAlready id owner
refused_call (Add key) id owner = past.AddAlready id key owner

-- a list has pushes, a tree has additions
abbrev pub is_addition : GraphCall → Bool
is_addition PushFront = false
is_addition PushBack = false
is_addition (Add key) = true
