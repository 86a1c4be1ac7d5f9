-- The statuses of the program, and the line of each. Both are this project's own.
use Rattle.std.specs.Prelude.{◌⊎◌, ⊤, ℕ, ◌≤◌, List, [], ◌∷◌, ◌++◌, Option, length, take, decimal, codes}
use Rattle.std.specs.Io.KnownBytes.{Appends}
use Rattle.bm_text.specs.Faults.{Rose}
use Rattle.bm_lang.specs.declared.bounds.Limit.{Limit}
use Rattle.bm_lang.specs.declared.fault.BadText.{BadText}
use Rattle.bm_lang.specs.Kinds.{kind_text}
use Rattle.bm_lang.specs.Limits.{limit_text}
use Rattle.bm_check.specs.declared.rule.Rule.{Rule}
use Rattle.bm_check.specs.RuleNumbers.{number_of}
use Rattle.bm_tool.specs.declared.refusal.Refusal.{Refusal}
use Rattle.bm_tool.specs.declared.refusal.Refusal.TheVariants as refusal

-- the greatest input, in bytes
abbrev pub input_limit : ℕ
input_limit = 1048576

abbrev pub status_of : Refusal → ℕ
status_of refusal.Usage = 1
status_of refusal.ReadFailed = 2
status_of refusal.WriteFailed = 3
status_of refusal.OutOfMemory = 4
status_of (refusal.Text bad) = 5
status_of (refusal.Rejected script line rule) = 6
status_of (refusal.Limit l) = 7

unfoldable pub bad_text_line : BadText → List ℕ
bad_text_line bad =
    codes "bpfmem: line " ++ decimal bad.line ++ codes " column " ++ decimal bad.column
    ++ codes ": " ++ kind_text bad.kind ++ 10 ∷ []

unfoldable pub rejected_line : List ℕ → ℕ → Rule → List ℕ
rejected_line script line rule =
    codes "bpfmem: script " ++ script ++ codes " line " ++ decimal line ++ codes ": rule "
    ++ decimal (number_of rule) ++ 10 ∷ []

unfoldable pub limit_line : Limit → List ℕ
limit_line l = codes "bpfmem: limit " ++ limit_text l ++ 10 ∷ []

abbrev pub line_of : Refusal → List ℕ
line_of refusal.Usage = codes "bpfmem: usage\n"
line_of refusal.ReadFailed = codes "bpfmem: read failed\n"
line_of refusal.WriteFailed = codes "bpfmem: write failed\n"
line_of refusal.OutOfMemory = codes "bpfmem: out of memory\n"
line_of (refusal.Text bad) = bad_text_line bad
line_of (refusal.Rejected script line rule) = rejected_line script line rule
line_of (refusal.Limit l) = limit_line l

-- a refusal whose line takes memory
abbrev pub IsLong : Refusal → Type 0
IsLong (refusal.Text bad) = ⊤
IsLong (refusal.Rejected script line rule) = ⊤
IsLong refusal.Usage = ⊥
IsLong refusal.ReadFailed = ⊥
IsLong refusal.WriteFailed = ⊥
IsLong refusal.OutOfMemory = ⊥
IsLong (refusal.Limit l) = ⊥

-- a line was written, or where the device's count of faults rose a front of it
abbrev pub Told : Option (List ℕ) → Option (List ℕ) → ℕ → ℕ → List ℕ → Type 0
Told old new faults_before faults_after line =
    Appends old new line
    ⊎ (Rose faults_before faults_after
    × ((n : ℕ) × (n ≤ length line) × Appends old new (take n line)))
