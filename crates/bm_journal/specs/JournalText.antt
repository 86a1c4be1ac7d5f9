-- The text of a journal, line by line. The format is this project's own; docs/journals.md shows it by example.
use Rattle.std.specs.Prelude.{ℕ, ◌+◌, List, [], ◌∷◌, ◌++◌, Option, Some, None, slice_get, decimal, codes}
use Rattle.bm_class.specs.declared.watermarks.Marks.{Marks}
use Rattle.bm_journal.specs.declared.entry.Entry.{Entry}
use Rattle.bm_journal.specs.declared.past.Past.{Past}
use Rattle.bm_journal.specs.declared.past.PastCall.{PastCall}
use Rattle.bm_journal.specs.declared.past.PastCall.TheVariants as past
use Rattle.bm_journal.specs.declared.ids.ObjId.{ObjId}
use Rattle.bm_journal.specs.declared.total.Total.{Total}
use Rattle.bm_journal.specs.declared.journal.Journal.{Journal}
use Rattle.bm_journal.specs.Line.{line}
use Rattle.bm_journal.specs.EntryText.{Words, size, object, words_of}
use Rattle.bm_journal.specs.TotalNames.{all_totals, total_name}

-- ---- the heading

abbrev pub class_line : ℕ → Marks → List ℕ
class_line class marks =
    line (codes "class")
    (size class ∷ codes "marks" ∷ decimal marks.low ∷ decimal marks.high ∷ decimal marks.batch
    ∷ [])

abbrev pub class_lines : List (ℕ × Marks) → List ℕ
class_lines [] = []
class_lines (x ∷ xs) = class_line x.0 x.1 ++ class_lines xs

abbrev pub size_line : ℕ → ℕ → List ℕ
size_line processors pages =
    line (codes "processors") (decimal processors ∷ codes "pages" ∷ decimal pages ∷ [])

-- ---- the logs

abbrev pub entry_line : ℕ → Entry → List ℕ
entry_line level entry = line (decimal level) (words_of entry)

abbrev pub entry_lines : List (ℕ × Entry) → List ℕ
entry_lines [] = []
entry_lines (x ∷ xs) = entry_line x.0 x.1 ++ entry_lines xs

-- the logs of a processor and of those after it
abbrev pub log_lines : ℕ → List (List (ℕ × Entry)) → List ℕ
log_lines processor [] = []
log_lines processor (log ∷ logs) =
    line (codes "processor") (decimal processor ∷ [])
    ++ (entry_lines log ++ log_lines (processor + 1) logs)

-- ---- the histories

-- the name of the owner with this place among the maps
abbrev pub owner_words : Option (List ℕ) → Words
owner_words (Some name) = name ∷ []
owner_words None = []

abbrev pub owner : List (List ℕ) → ℕ → Words
owner maps place = owner_words (slice_get maps place)

abbrev pub id : ObjId → Words
id o = object (Some o)

-- the words of a call in a history; an owner is named by its place among the maps
abbrev pub past_words : List (List ℕ) → PastCall → Words
past_words maps (past.PushFront o) = codes "push_front" ∷ id o
past_words maps (past.PushBack o) = codes "push_back" ∷ id o
past_words maps (past.Add o key) = codes "add" ∷ (id o ++ decimal key ∷ [])
past_words maps (past.PushFrontAlready o other) =
    codes "push_front" ∷ (id o ++ codes "already" ∷ owner maps other)
past_words maps (past.PushBackAlready o other) =
    codes "push_back" ∷ (id o ++ codes "already" ∷ owner maps other)
past_words maps (past.AddAlready o key other) =
    codes "add" ∷ (id o ++ decimal key ∷ codes "already" ∷ owner maps other)
past_words maps (past.PopFront o) = codes "pop_front" ∷ id o
past_words maps past.PopFrontNone = codes "pop_front" ∷ codes "none" ∷ []
past_words maps (past.PopBack o) = codes "pop_back" ∷ id o
past_words maps past.PopBackNone = codes "pop_back" ∷ codes "none" ∷ []
past_words maps (past.First o) = codes "first" ∷ id o
past_words maps past.FirstNone = codes "first" ∷ codes "none" ∷ []
past_words maps (past.Remove o) = codes "remove" ∷ id o

-- a call of a history, with its position
abbrev pub past_line : List (List ℕ) → ℕ → Past → List ℕ
past_line maps position past =
    line (codes "at")
    (decimal position ∷ codes "by" ∷ decimal past.tag.processor ∷ decimal past.tag.serial
    ∷ past_words maps past.call)

abbrev pub past_lines : List (List ℕ) → ℕ → List Past → List ℕ
past_lines maps position [] = []
past_lines maps position (past ∷ pasts) =
    past_line maps position past ++ past_lines maps (position + 1) pasts

abbrev pub graph_lines : List (List ℕ) → List (List ℕ × List Past) → List ℕ
graph_lines maps [] = []
graph_lines maps (graph ∷ graphs) =
    line (codes "graph") (graph.0 ∷ []) ++ (past_lines maps 0 graph.1 ++ graph_lines maps graphs)

-- ---- the totals

abbrev pub total_lines : List Total → List ℕ → List ℕ
total_lines [] values = []
total_lines (total ∷ totals) [] = []
total_lines (total ∷ totals) (value ∷ values) =
    line (codes "total") (total_name total ∷ decimal value ∷ []) ++ total_lines totals values

-- the lines of a journal that begin with `total`
unfoldable pub totals_text : List ℕ → List ℕ
totals_text values = total_lines all_totals values

-- ---- the whole

abbrev pub heading : Journal → List ℕ
heading j =
    size_line j.processors j.pages
    ++ (line (codes "types") j.types
    ++ (line (codes "maps") j.maps
    ++ (line (codes "scripts") j.scripts ++ class_lines j.classes)))

unfoldable pub journal_text : Journal → List ℕ
journal_text j =
    heading j ++ (log_lines 0 j.logs ++ (graph_lines j.maps j.graphs ++ totals_text j.totals))
