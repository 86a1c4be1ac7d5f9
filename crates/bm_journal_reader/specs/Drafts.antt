-- How far a journal is read: which lines may come next, and the lines read so far.
use Rattle.std.specs.Prelude.{◌≡◌, ℕ, ◌+◌, ◌==◌, Bool, true, false, List, [], ◌∷◌, ◌++◌, Option, Some, None, length, codes}
use Rattle.bm_class.specs.declared.watermarks.Marks.{Marks}
use Rattle.bm_journal.specs.declared.entry.Entry.{Entry}
use Rattle.bm_journal.specs.declared.past.Past.{Past}
use Rattle.bm_journal.specs.EntryText.{Words}
use Rattle.bm_journal.specs.TotalNames.{all_totals, total_place}
use Rattle.bm_law_text.specs.declared.line.Line.{Line}
use Rattle.bm_law_text.specs.declared.line.Line.TheVariants as line_as
use Rattle.bm_journal_reader.specs.declared.body.Part.{Part}
use Rattle.bm_journal_reader.specs.declared.body.Part.TheVariants as part
use Rattle.bm_journal_reader.specs.declared.body.Body.{Body}
use Rattle.bm_law_text.specs.Lines.{class_items, log_items, graph_items, total_items}
use Rattle.bm_journal.specs.WellFormed.{all_differ}
use Rattle.bm_journal_reader.specs.declared.draft.Head.{Head}
use Rattle.bm_journal_reader.specs.declared.draft.Head.TheVariants as head
use Rattle.bm_journal_reader.specs.declared.draft.Draft.{Draft}
use Rattle.bm_law_text.specs.Parts.{after, only_if, names}
use Rattle.bm_law_text.specs.Entries.{past_word}
use Rattle.bm_law_text.specs.Reading.{line_of, size_words, body_line_of}

-- ---- what may come next

-- behind how much of a journal a line comes; from the maps on with their names
pub data Stage : Type 0 where
  -- none of the heading, its first line, its first two
  Begun : Stage
  Sized : Stage
  Typed : Stage
  -- the names of the maps, and those of the scripts
  Mapped : List (List ℕ) → Stage
  Opened : List (List ℕ) → Stage
  -- so many logs have begun, so many calls of a history were read, so many totals
  Logging : List (List ℕ) → ℕ → Stage
  Telling : List (List ℕ) → ℕ → Stage
  Counting : List (List ℕ) → ℕ → Stage

abbrev pub stage_maps : Stage → List (List ℕ)
stage_maps Begun = []
stage_maps Sized = []
stage_maps Typed = []
stage_maps (Mapped maps) = maps
stage_maps (Opened maps) = maps
stage_maps (Logging maps n) = maps
stage_maps (Telling maps n) = maps
stage_maps (Counting maps n) = maps

-- a log, a history or a total begins
abbrev pub begins : List (List ℕ) → ℕ → ℕ → Line → Option Stage
begins maps logs totals (line_as.Processor p) = only_if (p == logs) (Some (Logging maps (logs + 1)))
begins maps logs totals (line_as.Graph name) = Some (Telling maps 0)
begins maps logs totals (line_as.Total t v) =
    only_if (total_place t == totals) (Some (Counting maps (totals + 1)))
begins maps logs totals line = None

-- the stage behind a line that may come
abbrev pub next : Stage → Line → Option Stage
next Begun (line_as.Size p g) = Some Sized
next Sized (line_as.Types names) = Some Typed
next Typed (line_as.Maps names) = Some (Mapped names)
next (Mapped maps) (line_as.Scripts names) = Some (Opened maps)
next (Opened maps) (line_as.Class c m) = Some (Opened maps)
next (Opened maps) line = begins maps 0 0 line
next (Logging maps n) (line_as.Entry l e) = Some (Logging maps n)
next (Logging maps n) line = begins maps n 0 line
next (Telling maps n) (line_as.Past p past) = only_if (p == n) (Some (Telling maps (n + 1)))
next (Telling maps n) (line_as.Graph name) = Some (Telling maps 0)
next (Telling maps n) (line_as.Total t v) = only_if (total_place t == 0) (Some (Counting maps 1))
next (Counting maps n) (line_as.Total t v) =
    only_if (total_place t == n) (Some (Counting maps (n + 1)))
next stage line = None

-- the stage behind a line with these words
abbrev pub step : Stage → Words → Option Stage
step stage words = after (line_of (stage_maps stage) words) (next stage)

-- the line that these words say at a stage, where only lines that may come there are looked for
abbrev pub stage_line : Stage → Words → Option Line
stage_line Begun ws = after (past_word (codes "processors") ws) size_words
stage_line Sized ws =
    after (past_word (codes "types") ws) (λ ws. after (names ws) (λ ns. Some (line_as.Types ns)))
stage_line Typed ws =
    after (past_word (codes "maps") ws)
    (λ ws. after (names ws) (λ ns. only_if (all_differ ns) (Some (line_as.Maps ns))))
stage_line (Mapped maps) ws =
    after (past_word (codes "scripts") ws)
    (λ ws. after (names ws) (λ ns. Some (line_as.Scripts ns)))
stage_line stage ws = body_line_of (stage_maps stage) ws

-- ---- the lines read so far behind the heading's first four

abbrev pub open_log : Part → List (List (ℕ × Entry))
open_log (part.Log log) = log ∷ []
open_log p = []

abbrev pub open_graph : Part → List (List ℕ × List Past)
open_graph (part.Graph name pasts) = (name, pasts.items) ∷ []
open_graph p = []

-- the lines of classes, logs, histories and totals
abbrev pub parts_lines :
    List (ℕ × Marks) → List (List (ℕ × Entry)) → List (List ℕ × List Past) → List ℕ → List Line
parts_lines cs ls gs ts =
    class_items cs ++ (log_items 0 ls ++ (graph_items gs ++ total_items all_totals ts))

abbrev pub read_logs : Body → List (List (ℕ × Entry))
read_logs b = b.logs.items ++ open_log b.part

abbrev pub read_graphs : Body → List (List ℕ × List Past)
read_graphs b = b.graphs.items ++ open_graph b.part

abbrev pub body_lines : Body → List Line
body_lines b = parts_lines b.classes.items (read_logs b) (read_graphs b) b.totals.items

-- what is open tells the stage
abbrev pub staged : List (List ℕ) → Part → ℕ → ℕ → Stage
staged maps part.Classes logs totals = Opened maps
staged maps (part.Log log) logs totals = Logging maps (logs + 1)
staged maps (part.Graph name pasts) logs totals = Telling maps (length pasts.items)
staged maps part.Totals logs totals = Counting maps totals

abbrev pub body_stage : List (List ℕ) → Body → Stage
body_stage maps b = staged maps b.part (length b.logs.items) (length b.totals.items)

-- what hasn't begun is empty
abbrev pub UpTo : Part → List (List (ℕ × Entry)) → List (List ℕ × List Past) → List ℕ → Type 0
UpTo part.Classes ls gs ts = (ls ≡ []) × (gs ≡ []) × (ts ≡ [])
UpTo (part.Log log) ls gs ts = (gs ≡ []) × (ts ≡ [])
UpTo (part.Graph name pasts) ls gs ts = ts ≡ []
UpTo part.Totals ls gs ts = Unit {0}

abbrev pub IsInOrder : Body → Type 0
IsInOrder b = UpTo b.part b.logs.items b.graphs.items b.totals.items

-- how many logs and totals have begun, where another may begin
abbrev pub begun_logs : Part → ℕ → Option ℕ
begun_logs part.Classes logs = Some 0
begun_logs (part.Log log) logs = Some (logs + 1)
begun_logs p logs = None

abbrev pub begun_totals : Part → ℕ → ℕ
begun_totals part.Totals totals = totals
begun_totals p totals = 0

-- a line is taken, or it may not come here
pub record Taken (maps : List (List ℕ)) (old : Body) (line : Line) (new : Body) : Type 0 where
  pub stage : next (body_stage maps old) line ≡ Some (body_stage maps new)
  pub lines : body_lines new ≡ body_lines old ++ line ∷ []
  pub order : IsInOrder new

abbrev pub Takes : Bool → List (List ℕ) → Body → Line → Body → Type 0
Takes true maps old line new = Taken maps old line new
Takes false maps old line new = next (body_stage maps old) line ≡ None

-- ---- the whole of what is read so far

abbrev pub head_stage : Head → List (List ℕ) → Body → Stage
head_stage head.Size maps b = Begun
head_stage head.Types maps b = Sized
head_stage head.Maps maps b = Typed
head_stage head.Scripts maps b = Mapped maps
head_stage head.Behind maps b = body_stage maps b

abbrev pub draft_stage : Draft → Stage
draft_stage d = head_stage d.head d.maps.items d.body

abbrev pub head_lines : Head → Draft → List Line
head_lines head.Size d = []
head_lines head.Types d = line_as.Size d.processors d.pages ∷ []
head_lines head.Maps d = line_as.Size d.processors d.pages ∷ line_as.Types d.types.items ∷ []
head_lines head.Scripts d =
    line_as.Size d.processors d.pages ∷ line_as.Types d.types.items ∷ line_as.Maps d.maps.items ∷ []
head_lines head.Behind d =
    line_as.Size d.processors d.pages ∷ line_as.Types d.types.items ∷ line_as.Maps d.maps.items
    ∷ line_as.Scripts d.scripts.items ∷ body_lines d.body

abbrev pub draft_lines : Draft → List Line
draft_lines d = head_lines d.head d

-- the names of the maps are those of the owners, and differ
abbrev pub MapsKept : Draft → Type 0
MapsKept d = (d.owners ≡ d.maps.items) × (all_differ d.maps.items ≡ true)

abbrev pub head_order : Head → Draft → Type 0
head_order head.Scripts d = MapsKept d
head_order head.Behind d = MapsKept d × IsInOrder d.body
head_order h d = Unit {0}

abbrev pub IsSound : Draft → Type 0
IsSound d = head_order d.head d

-- words are taken, or no line that may come has them
pub record Read (old : Draft) (ws : Words) (new : Draft) : Type 0 where
  pub line : Line
  pub said : stage_line (draft_stage old) ws ≡ Some line
  pub stage : next (draft_stage old) line ≡ Some (draft_stage new)
  pub lines : draft_lines new ≡ draft_lines old ++ line ∷ []
  pub sound : IsSound new

abbrev pub Reads : Bool → Draft → Words → Draft → Type 0
Reads true old ws new = Read old ws new
Reads false old ws new = after (stage_line (draft_stage old) ws) (next (draft_stage old)) ≡ None
