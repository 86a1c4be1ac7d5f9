-- The history of a list or tree, beside the logs. (That lists and trees keep histories is this project's own.)
use Rattle.std.specs.Prelude.{◌≡◌, ℕ, ◌+◌, eqb, if◌then◌else◌, Option, Some, None, List, [], ◌∷◌, get_or}
use Rattle.std.specs.Str.{bytes_eq}
use Rattle.bm_journal.specs.declared.ids.Tag.{Tag}
use Rattle.bm_journal.specs.declared.entry.Entry.{Entry}
use Rattle.bm_journal.specs.declared.past.Past.{Past}
use Rattle.bm_journal.specs.declared.past.PastCall.{PastCall}
use Rattle.bm_journal.specs.declared.past.PastCall.TheVariants as past
use Rattle.bm_law.specs.Lists.{Log}
use Rattle.bm_law_order.specs.Orders.{Order}
use Rattle.bm_law_objects.specs.Objects.{calls_after, tag_after}
use Rattle.bm_law_objects.specs.Gathered.{gathered, gathered_over}
use Rattle.bm_law_graphs.specs.Calls.{GraphCall, graph_call}
use Rattle.bm_law_graphs.specs.Shelves.{Replays}

-- A call with its position: what a log and a history both say of it.
pub record Placed : Type 0 where
  pub position : ℕ
  pub tag : Tag
  pub call : PastCall

-- a log names no keys
abbrev pub keyless : PastCall → PastCall
keyless (past.Add id key) = past.Add id 0
keyless (past.AddAlready id key owner) = past.AddAlready id 0 owner
keyless call = call

-- a history's entries stand at positions n, n + 1, ..
abbrev pub placed : (n : ℕ) → List Past → List Placed
placed n [] = []
placed n (p ∷ ps) = record { position = n; tag = p.tag; call = keyless p.call } ∷ placed (n + 1) ps

-- the call on this list or tree that an entry with this tag is, if it is one
abbrev pub placed_by : (name : List ℕ) → Tag → Option GraphCall → List Placed
placed_by name tag None = []
placed_by name tag (Some x) =
    if bytes_eq x.graph name then record { position = x.position; tag = tag; call = x.call } ∷ []
    else []

abbrev pub call_on : (names : List (List ℕ)) → (name : List ℕ) → (p n : ℕ) → ℕ × Entry → List Placed
call_on names name p n e = placed_by name (tag_after p n) (graph_call names (λ u. 0) e.1)

-- those of a log, and of an order whose processors have made so many calls before
abbrev pub calls_on : (names : List (List ℕ)) → (name : List ℕ) → (p : ℕ) → Log → List Placed
calls_on names name p log = gathered calls_after (call_on names name p) 0 log

abbrev pub calls_over : (names : List (List ℕ)) → (name : List ℕ) → Order → (ℕ → ℕ) → List Placed
calls_over names name o calls = gathered_over calls_after (call_on names name) o calls

abbrev pub of_processor : ℕ → List Placed → List Placed
of_processor p [] = []
of_processor p (x ∷ xs) = if eqb x.tag.processor p then x ∷ of_processor p xs else of_processor p xs

-- The history of a list or tree has right replies, and its entries of each processor are the calls on it of that processor's log, in the
-- log's order, each with its serial and at the position that the log names.
pub record GraphHistory (names : List (List ℕ)) (name : List ℕ) (history : List Past)
    (logs : List Log) : Type 0 where
  pub right : Replays history
  pub parts : (p : ℕ) → of_processor p (placed 0 history) ≡ calls_on names name p (get_or logs p [])
