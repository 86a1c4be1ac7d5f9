-- The lines of a journal. What each says, and its text, word by word. (The lines are those of `journal_text` of bm_journal.)
use Rattle.std.specs.Prelude.{ℕ, ◌+◌, List, [], ◌∷◌, ◌++◌, decimal, codes}
use Rattle.bm_class.specs.declared.watermarks.Marks.{Marks}
use Rattle.bm_journal.specs.declared.entry.Entry.{Entry}
use Rattle.bm_journal.specs.declared.past.Past.{Past}
use Rattle.bm_journal.specs.declared.total.Total.{Total}
use Rattle.bm_journal.specs.declared.journal.Journal.{Journal}
use Rattle.bm_journal.specs.Line.{line}
use Rattle.bm_journal.specs.EntryText.{Words, size, words_of}
use Rattle.bm_journal.specs.JournalText.{past_words}
use Rattle.bm_journal.specs.TotalNames.{all_totals, total_name}
use Rattle.bm_law_text.specs.declared.line.Line.{Line}
use Rattle.bm_law_text.specs.declared.line.Line.TheVariants as line_as

-- the first word of a line
abbrev pub line_head : Line → List ℕ
line_head (line_as.Size p g) = codes "processors"
line_head (line_as.Types names) = codes "types"
line_head (line_as.Maps names) = codes "maps"
line_head (line_as.Scripts names) = codes "scripts"
line_head (line_as.Class c m) = codes "class"
line_head (line_as.Processor p) = codes "processor"
line_head (line_as.Entry l e) = decimal l
line_head (line_as.Graph n) = codes "graph"
line_head (line_as.Past p call) = codes "at"
line_head (line_as.Total t v) = codes "total"

-- the words behind it; an owner in a history is named, by its place among the maps
abbrev pub line_tail : List (List ℕ) → Line → Words
line_tail maps (line_as.Size p g) = decimal p ∷ codes "pages" ∷ decimal g ∷ []
line_tail maps (line_as.Types names) = names
line_tail maps (line_as.Maps names) = names
line_tail maps (line_as.Scripts names) = names
line_tail maps (line_as.Class c m) =
    size c ∷ codes "marks" ∷ decimal m.low ∷ decimal m.high ∷ decimal m.batch ∷ []
line_tail maps (line_as.Processor p) = decimal p ∷ []
line_tail maps (line_as.Entry l e) = words_of e
line_tail maps (line_as.Graph n) = n ∷ []
line_tail maps (line_as.Past p past) =
    decimal p ∷ codes "by" ∷ decimal past.tag.processor ∷ decimal past.tag.serial
    ∷ past_words maps past.call
line_tail maps (line_as.Total t v) = total_name t ∷ decimal v ∷ []

-- the text of lines
abbrev pub lines_text : List (List ℕ) → List Line → List ℕ
lines_text maps [] = []
lines_text maps (l ∷ ls) = line (line_head l) (line_tail maps l) ++ lines_text maps ls

-- ---- the lines of a journal

abbrev pub class_items : List (ℕ × Marks) → List Line
class_items [] = []
class_items (x ∷ xs) = line_as.Class x.0 x.1 ∷ class_items xs

abbrev pub entry_items : List (ℕ × Entry) → List Line
entry_items [] = []
entry_items (x ∷ xs) = line_as.Entry x.0 x.1 ∷ entry_items xs

abbrev pub log_items : ℕ → List (List (ℕ × Entry)) → List Line
log_items p [] = []
log_items p (log ∷ logs) = line_as.Processor p ∷ (entry_items log ++ log_items (p + 1) logs)

abbrev pub past_items : ℕ → List Past → List Line
past_items p [] = []
past_items p (past ∷ pasts) = line_as.Past p past ∷ past_items (p + 1) pasts

abbrev pub graph_items : List (List ℕ × List Past) → List Line
graph_items [] = []
graph_items (g ∷ gs) = line_as.Graph g.0 ∷ (past_items 0 g.1 ++ graph_items gs)

abbrev pub total_items : List Total → List ℕ → List Line
total_items [] vs = []
total_items (t ∷ ts) [] = []
total_items (t ∷ ts) (v ∷ vs) = line_as.Total t v ∷ total_items ts vs

-- the lines behind the heading's first four
abbrev pub body_items : Journal → List Line
body_items j =
    class_items j.classes
    ++ (log_items 0 j.logs ++ (graph_items j.graphs ++ total_items all_totals j.totals))

abbrev pub journal_items : Journal → List Line
journal_items j =
    line_as.Size j.processors j.pages ∷ line_as.Types j.types ∷ line_as.Maps j.maps
    ∷ line_as.Scripts j.scripts ∷ body_items j
