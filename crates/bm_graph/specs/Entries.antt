-- How a processor's log names calls on lists and trees. (Journals are this project's own.)
use Rattle.std.specs.Prelude.{ℕ, List, Some, None}
use Rattle.bm_journal.specs.declared.entry.Entry.{Entry}
use Rattle.bm_journal.specs.declared.entry.Entry.TheVariants as entry
use Rattle.bm_journal.specs.declared.past.PastCall.{PastCall}
use Rattle.bm_journal.specs.declared.past.PastCall.TheVariants as past

-- The call on the list or tree of this name, at this position in its history. A log names no key, and an owner by its name.
abbrev pub call_entry : (graph : List ℕ) (position : ℕ) (owner : List ℕ) → PastCall → Entry
call_entry graph position owner (past.PushFront id) = entry.PushFront graph id.unit id.life position
call_entry graph position owner (past.PushBack id) = entry.PushBack graph id.unit id.life position
call_entry graph position owner (past.Add id key) = entry.Add graph id.unit id.life position
call_entry graph position owner (past.PushFrontAlready id place) =
    entry.PushFrontAlready graph id.unit id.life owner position
call_entry graph position owner (past.PushBackAlready id place) =
    entry.PushBackAlready graph id.unit id.life owner position
call_entry graph position owner (past.AddAlready id key place) =
    entry.AddAlready graph id.unit id.life owner position
call_entry graph position owner (past.PopFront id) = entry.PopFront graph (Some id) position
call_entry graph position owner past.PopFrontNone = entry.PopFront graph None position
call_entry graph position owner (past.PopBack id) = entry.PopBack graph (Some id) position
call_entry graph position owner past.PopBackNone = entry.PopBack graph None position
call_entry graph position owner (past.First id) = entry.First graph (Some id) position
call_entry graph position owner past.FirstNone = entry.First graph None position
call_entry graph position owner (past.Remove id) = entry.Remove graph id.unit id.life position
