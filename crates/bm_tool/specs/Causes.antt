-- When each refusal of the program comes. The order in which the causes are looked for is this project's own: words,
-- input, text, limits, scripts, run, output.
use Rattle.std.specs.Prelude.{◌≡◌, ◌⊎◌, ⊤, ℕ, ◌≤◌, ◌<◌, false, List, Option, Some, None, length, IfSome, IsSomeAnd, slice_get}
use Rattle.bm_text.specs.Faults.{Rose}
use Rattle.bm_lang.specs.declared.bounds.Limit.{Limit}
use Rattle.bm_lang.specs.declared.bounds.Limit.TheVariants.{Input}
use Rattle.bm_lang.specs.declared.fault.BadText.{BadText}
use Rattle.bm_lang.specs.declared.scenario.Parts.{Parts}
use Rattle.bm_lang.specs.declared.scenario.Script.{Script}
use Rattle.bm_lang.specs.Limits.{first_limit}
use Rattle.bm_lang.specs.Machine.{fault_of}
use Rattle.bm_lang.specs.Scenarios.{Reads}
use Rattle.bm_check.specs.declared.rule.Rule.{Rule}
use Rattle.bm_check.specs.Scripts.{IsRejected}
use Rattle.bm_command.specs.declared.command.Command.{Command}
use Rattle.bm_command.specs.declared.command.Command.TheVariants.{Read}
use Rattle.bm_command.specs.declared.command.Reading.{Reading}
use Rattle.bm_command.specs.Words.{command_of}
use Rattle.bm_tool.specs.declared.refusal.Refusal.{Refusal}
use Rattle.bm_tool.specs.declared.refusal.Refusal.TheVariants as refusal
use Rattle.bm_tool.specs.Refusals.{input_limit}

-- a text without a reading, with its fault
pub record IsUnread (bytes : List ℕ) (fault : BadText) : Type 0 where
  pub none : (s : Parts) → Reads bytes s → ⊥
  pub first : fault_of bytes ≡ Some fault

-- the limit is the first that is exceeded, by a text that isn't refused before
abbrev pub IsExceeded : List ℕ → Limit → Type 0
IsExceeded bytes l =
    ((l ≡ Input) × (input_limit < length bytes))
    ⊎ ((length bytes ≤ input_limit) × ((s : Parts) × Reads bytes s × (first_limit s ≡ Some l)))

-- The script of this name is the first that isn't accepted, with its first broken rule and that rule's line. The text
-- isn't refused before.
pub record IsScriptRejected (bytes name : List ℕ) (line : ℕ) (rule : Rule) : Type 0 where
  pub within : length bytes ≤ input_limit
  pub scenario : Parts
  pub reads : Reads bytes scenario
  pub limits : first_limit scenario ≡ None
  pub place : ℕ
  pub rejected : IsRejected scenario place line rule
  pub script : Script
  pub here : slice_get scenario.scripts place ≡ Some script
  pub name_is : script.name ≡ name

-- the refusal of a scenario not all of whose scripts are accepted, where memory didn't run out
abbrev pub IsRejection : Parts → Refusal → Type 0
IsRejection s refusal.OutOfMemory = ⊤
IsRejection s (refusal.Rejected name line rule) =
    (place : ℕ) × IsRejected s place line rule
    × IsSomeAnd (slice_get s.scripts place) (λ (x : Script). x.name ≡ name)
IsRejection s refusal.Usage = ⊥
IsRejection s refusal.ReadFailed = ⊥
IsRejection s refusal.WriteFailed = ⊥
IsRejection s (refusal.Text bad) = ⊥
IsRejection s (refusal.Limit l) = ⊥

-- The cause of each refusal that comes of the input of a command that reads: of the bytes left in the source, where they are
-- told, and of the source's count of faults before and after. Want of memory needs none.
abbrev pub InputCause : Option (List ℕ) → ℕ → ℕ → Refusal → Type 0
InputCause left before after refusal.Usage = ⊥
InputCause left before after refusal.ReadFailed = Rose before after
InputCause left before after refusal.WriteFailed = ⊥
InputCause left before after refusal.OutOfMemory = ⊤
InputCause left before after (refusal.Text bad) =
    IfSome left (λ bytes. (length bytes ≤ input_limit) × IsUnread bytes bad)
InputCause left before after (refusal.Rejected script line rule) =
    IfSome left (λ bytes. IsScriptRejected bytes script line rule)
InputCause left before after (refusal.Limit l) = IfSome left (λ bytes. IsExceeded bytes l)

-- The cause of each refusal: also of the words, and of the sink's count of faults before and after. Want of memory comes for any
-- command, and what comes of the input only for one that reads.
abbrev pub Cause : List (List ℕ) → Option (List ℕ) → ℕ → ℕ → ℕ → ℕ → Refusal → Type 0
Cause words left before after out_before out_after refusal.Usage = command_of words ≡ None
Cause words left before after out_before out_after refusal.WriteFailed = Rose out_before out_after
Cause words left before after out_before out_after refusal.OutOfMemory =
    (c : Command) × (command_of words ≡ Some c)
Cause words left before after out_before out_after r =
    (c : Reading) × (command_of words ≡ Some (Read c)) × InputCause left before after r
