-- The lines of a text, and the first that no journal has there.
use Rattle.std.specs.Prelude.{◌≡◌, ℕ, suc, ◌+◌, length, map, ◌==◌, Bool, true, false, ◌&&◌, List, [], ◌∷◌, ◌++◌, Option, Some, None, take, drop, position, ◌<◌, option_map, if◌then◌else◌}
use Rattle.bm_law_text.specs.Pieces.{pieces, words}
use Rattle.bm_journal.specs.Line.{spaced}
use Rattle.bm_law_text.specs.declared.line.Line.{Line}
use Rattle.bm_law_text.specs.Fits.{Each, LineFits, JournalFits}
use Rattle.bm_law_text.specs.Lines.{line_head, line_tail, journal_items}
use Rattle.bm_journal.specs.declared.journal.Journal.{Journal}
use Rattle.bm_journal.specs.JournalText.{journal_text}
use Rattle.bm_journal_reader.specs.declared.draft.Draft.{Draft}
use Rattle.bm_journal_reader.specs.declared.fault.JournalFault.{JournalFault}
use Rattle.bm_journal_reader.specs.declared.fault.JournalFault.TheVariants.{Bad, NoMemory}
use Rattle.bm_journal_reader.specs.Drafts.{Stage, Begun, Counting, stage_maps, step, draft_stage, draft_lines, IsSound}

-- each line with its line feed, and behind the last line feed the end
abbrev pub with_feeds : List (List ℕ) → List (List ℕ)
with_feeds [] = []
with_feeds (p ∷ []) = p ∷ []
with_feeds (p ∷ q ∷ ps) = (p ++ 10 ∷ []) ∷ with_feeds (q ∷ ps)

abbrev pub text_lines : List ℕ → List (List ℕ)
text_lines bytes = with_feeds (pieces bytes)

-- two texts agree in so many lines
abbrev pub AgreeIn : ℕ → List ℕ → List ℕ → Type 0
AgreeIn lines bytes text = take lines (text_lines bytes) ≡ take lines (text_lines text)

-- some journal's text agrees with these bytes in so many lines
abbrev pub SomeAgrees : List ℕ → ℕ → Type 0
SomeAgrees bytes lines = (j : Journal) × JournalFits j × AgreeIn lines bytes (journal_text j)

-- the least number of lines in which no journal's text agrees with these bytes
pub record IsFirstWrong (bytes : List ℕ) (line : ℕ) : Type 0 where
  pub none : SomeAgrees bytes line → ⊥
  pub before : (n : ℕ) → n < line → SomeAgrees bytes n

-- what a fault says: its line is the first that is wrong
abbrev pub NamesFirst : List ℕ → JournalFault → Type 0
NamesFirst bytes (Bad line) = IsFirstWrong bytes line
NamesFirst bytes NoMemory = Unit {0}

-- ---- found by the stages

abbrev pub is_nothing : List ℕ → Bool
is_nothing [] = true
is_nothing (b ∷ bs) = false

-- all totals are read
abbrev pub is_done : Stage → Bool
is_done (Counting maps n) = n == 19
is_done stage = false

-- behind how many lines the first comes that may not come there; the end may come where all is read
abbrev pub behind_step : Option Stage → (Stage → Option ℕ) → Option ℕ
behind_step None f = Some 0
behind_step (Some stage) f = option_map (λ n. suc n) (f stage)

abbrev pub first_bad : Stage → List (List ℕ) → Option ℕ
first_bad stage [] = None
first_bad stage (p ∷ []) = if is_done stage && is_nothing p then None else Some 0
first_bad stage (p ∷ q ∷ ps) = behind_step (step stage (words p)) (λ t. first_bad t (q ∷ ps))

-- ---- what is kept while lines are read

-- a line without its line feed
abbrev pub line_content : List (List ℕ) → Line → List ℕ
line_content maps l = line_head l ++ spaced (line_tail maps l)

abbrev pub plus : ℕ → Option ℕ → Option ℕ
plus n None = None
plus n (Some k) = Some (n + k)

-- so many lines are read, and this is left
pub record Kept (bytes rest : List ℕ) (line : ℕ) (d : Draft) : Type 0 where
  pub bad :
      first_bad Begun (pieces bytes)
      ≡ plus (length (draft_lines d)) (first_bad (draft_stage d) (pieces rest))
  pub read :
      pieces bytes ≡ map (line_content (stage_maps (draft_stage d))) (draft_lines d) ++ pieces rest
  pub fit : Each (LineFits (stage_maps (draft_stage d))) (draft_lines d)
  pub sound : IsSound d
  pub count : line ≡ length (draft_lines d) + 1

-- a fault names the first line that may not come, and some journal has those before it
abbrev pub FaultSays : List ℕ → JournalFault → Type 0
FaultSays bytes (Bad line) =
    (k : ℕ) × (line ≡ k + 1) × (first_bad Begun (pieces bytes) ≡ Some k) × SomeAgrees bytes k
FaultSays bytes NoMemory = Unit {0}

-- the bytes before the first line feed, and those behind it
abbrev pub IsFirstLine : List ℕ → Option (List ℕ × List ℕ) → Type 0
IsFirstLine bytes None = position (λ b. b == 10) bytes ≡ None
IsFirstLine bytes (Some cut) =
    (end : ℕ) × (position (λ b. b == 10) bytes ≡ Some end) × (cut.0 ≡ take end bytes)
    × (cut.1 ≡ drop (end + 1) bytes) × (end < length bytes)

-- all is read, and the journal has these lines
pub record Finished (d : Draft) (j : Journal) : Type 0 where
  pub done : is_done (draft_stage d) ≡ true
  pub items : journal_items j ≡ draft_lines d
  pub maps : j.maps ≡ stage_maps (draft_stage d)
  pub nineteen : length j.totals ≡ 19
