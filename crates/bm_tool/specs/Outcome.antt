-- What the program answers and writes where it isn't refused. (This project's own.)
use Rattle.std.specs.Prelude.{◌≡◌, ℕ, ◌≤◌, true, false, List, [], Option, Some, None, length, take, IfSome, codes}
use Rattle.std.specs.Io.KnownBytes.{Appends}
use Rattle.bm_text.specs.Faults.{Rose}
use Rattle.bm_text.specs.Sink.{AllFlushed}
use Rattle.bm_journal.specs.declared.journal.Journal.{Journal}
use Rattle.bm_journal.specs.JournalText.{journal_text, totals_text}
use Rattle.bm_lang.specs.declared.scenario.Parts.{Parts}
use Rattle.bm_lang.specs.Limits.{first_limit}
use Rattle.bm_lang.specs.Printing.{printed}
use Rattle.bm_lang.specs.Scenarios.{Reads}
use Rattle.bm_lang.specs.Spelling.{spell_scenario}
use Rattle.bm_check.specs.Scripts.{AllAccepted}
use Rattle.bm_law_journal.specs.Lawful.{Laid, Lawful}
use Rattle.bm_command.specs.declared.command.Command.{Command}
use Rattle.bm_command.specs.declared.command.Command.TheVariants.{Read, Gen}
use Rattle.bm_command.specs.declared.command.Reading.{Reading}
use Rattle.bm_command.specs.declared.command.Reading.TheVariants.{Replay, Check}
use Rattle.bm_generator.specs.Generated.{generated}
use Rattle.bm_tool.specs.declared.refusal.Refusal.{Refusal}
use Rattle.bm_tool.specs.Causes.{Cause}
use Rattle.bm_tool.specs.Refusals.{input_limit, status_of, line_of, Told}

-- the bytes are read as this scenario, which is within the limits, and whose scripts are accepted
pub record IsPrepared (bytes : List ℕ) (s : Parts) : Type 0 where
  pub within : length bytes ≤ input_limit
  pub reads : Reads bytes s
  pub limits : first_limit s ≡ None
  pub accepted : AllAccepted s

-- what a command that reads asks of its input: a reading, within the limits, with accepted scripts
pub record IsServable (bytes : List ℕ) : Type 0 where
  pub within : length bytes ≤ input_limit
  pub reading : Parts
  pub reads : Reads bytes reading
  pub limits : (s : Parts) → Reads bytes s → first_limit s ≡ None
  pub accepted : (s : Parts) → Reads bytes s → AllAccepted s

-- the text that printing gives of the generated scenario of a count of pieces and a start
unfoldable pub generated_text : ℕ → ℕ → List ℕ
generated_text count start = printed (spell_scenario (generated count start))

-- a journal of a text's scenario, lawful and laid
abbrev pub ServesGenerated : (text : List ℕ) → Option Journal → Type 0
ServesGenerated text None = ⊥
ServesGenerated text (Some journal) =
    (s : Parts) × IsPrepared text s × Lawful s journal × Laid s journal

-- What a command answers of the bytes that were left in the source: `replay` a lawful journal that is laid, `check` none. `gen`
-- answers such a journal of the generated scenario, whatever was left, or none, where it prints that scenario's text.
abbrev pub Serves : Command → Option (List ℕ) → Option Journal → Type 0
Serves (Read Check) left journal =
    (journal ≡ None) × IfSome left (λ bytes. (s : Parts) × IsPrepared bytes s)
Serves (Read (Replay totals)) left None = ⊥
Serves (Read (Replay totals)) left (Some journal) =
    IfSome left (λ bytes. (s : Parts) × IsPrepared bytes s × Lawful s journal × Laid s journal)
Serves (Gen count start false) left journal = ServesGenerated (generated_text count start) journal
Serves (Gen count start true) left journal = journal ≡ None

-- the lines of a journal's totals
abbrev pub totals_in : Option Journal → List ℕ
totals_in None = []
totals_in (Some journal) = totals_text journal.totals

-- what a command writes: the text of the journal, or its lines of totals alone, or that the scripts are accepted, or the text of the
-- generated scenario
abbrev pub out_text : Command → Option Journal → List ℕ
out_text (Read Check) journal = codes "accepted\n"
out_text (Read (Replay totals)) None = []
out_text (Read (Replay false)) (Some journal) = journal_text journal
out_text (Read (Replay true)) (Some journal) = totals_text journal.totals
out_text (Gen count start false) journal = totals_in journal
out_text (Gen count start true) journal = generated_text count start

-- a text was written and flushed
abbrev pub Printed : List ℕ → Option (List ℕ) → Option (List ℕ) → Option ℕ → Option ℕ → Type 0
Printed text old new flushed_before flushed_after =
    Appends old new text × AllFlushed flushed_before new flushed_after

-- a front of a text was written
abbrev pub PrintedInPart : List ℕ → Option (List ℕ) → Option (List ℕ) → Type 0
PrintedInPart text old new = (n : ℕ) × (n ≤ length text) × Appends old new (take n text)

-- A refusal: the status is its, it has its cause, and its line was told.
pub record Refuses (words : List (List ℕ)) (left : Option (List ℕ))
    (before after out_before out_after : ℕ) (old new : Option (List ℕ))
    (err_before err_after status : ℕ) :
    Type 0 where
  pub refusal : Refusal
  pub status_is : status ≡ status_of refusal
  pub cause : Cause words left before after out_before out_after refusal
  pub told : Told old new err_before err_after (line_of refusal)

-- no count of faults rose
abbrev pub Stayed : ℕ → ℕ → Type 0
Stayed before after = Rose before after → ⊥
