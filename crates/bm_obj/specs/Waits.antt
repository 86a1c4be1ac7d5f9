-- Which changes of an object's owner wait for their entry in a graph's history. (This project's own.)
use Rattle.std.specs.Prelude.{◌≡◌, ℕ, List, Option, None, Some, IfSome, slice_get, slice_set}
use Rattle.bm_journal.specs.declared.ids.ObjId.{ObjId}
use Rattle.bm_journal.specs.declared.past.PastCall.{PastCall}
use Rattle.bm_journal.specs.declared.past.PastCall.TheVariants as past
use Rattle.bm_obj.specs.declared.waiting.Waiting.{Waiting}
use Rattle.bm_obj.specs.declared.waiting.Waiting.TheVariants.{Claim, Unclaim}

abbrev pub object_of : Waiting → ObjId
object_of (Claim id) = id
object_of (Unclaim id) = id

-- Nothing waits but a change of this object's owner.
abbrev pub NoOtherWaits : ObjId → Option Waiting → Type 0
NoOtherWaits id waits = IfSome waits (λ w. object_of w ≡ id)

-- A claim that is won waits, but it and the end of the claim before it, which waits still, end each other.
abbrev pub after_claim : ObjId → Option Waiting → Option Waiting
after_claim id None = Some (Claim id)
after_claim id (Some (Claim other)) = Some (Claim id)
after_claim id (Some (Unclaim other)) = None

-- .. and the end of a claim likewise
abbrev pub after_unclaim : ObjId → Option Waiting → Option Waiting
after_unclaim id None = Some (Unclaim id)
after_unclaim id (Some (Unclaim other)) = Some (Unclaim id)
after_unclaim id (Some (Claim other)) = None

-- What has to wait where a history gets this entry: for a push or an addition that was done the claim of its object, for a pop
-- with an object or a removal the end of its claim, and for any other entry nothing.
abbrev pub waits_for : PastCall → Option Waiting
waits_for (past.PushFront id) = Some (Claim id)
waits_for (past.PushBack id) = Some (Claim id)
waits_for (past.Add id key) = Some (Claim id)
waits_for (past.PopFront id) = Some (Unclaim id)
waits_for (past.PopBack id) = Some (Unclaim id)
waits_for (past.Remove id) = Some (Unclaim id)
waits_for _ = None

-- what waits for a graph, where there is such a graph
abbrev pub joined : Option (Option Waiting) → Option Waiting
joined None = None
joined (Some waits) = waits

abbrev pub waiting_at : List (Option Waiting) → ℕ → Option Waiting
waiting_at waits graph = joined (slice_get waits graph)

-- what waits once a claim was ended, by the graph that owned the object, if one did
abbrev pub ended : ObjId → Option ℕ → List (Option Waiting) → List (Option Waiting)
ended id None waits = waits
ended id (Some graph) waits = slice_set waits graph (after_unclaim id (waiting_at waits graph))
