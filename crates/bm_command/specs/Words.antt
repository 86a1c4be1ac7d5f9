-- The program's words, read as a command. The words are this project's own: first a command's word, and behind it its flags,
-- which begin with a hyphen, and its arguments, which don't. A flag may stand anywhere behind the command's word.
use Rattle.std.specs.Prelude.{◌==◌, ℕ, Bool, true, false, not, List, [], ◌∷◌, Option, Some, None, option_map, option_and_then, map, filter, if◌then◌else◌, codes}
use Rattle.std.specs.Borrow.{Bor}
use Rattle.std.specs.Str.{bytes_eq}
use Rattle.bm_word.specs.Number.{number_of}
use Rattle.bm_command.specs.declared.command.Command.{Command}
use Rattle.bm_command.specs.declared.command.Command.TheVariants.{Read, Gen}
use Rattle.bm_command.specs.declared.command.Reading.{Reading}
use Rattle.bm_command.specs.declared.command.Reading.TheVariants.{Replay, Check}
use Rattle.bm_command.specs.PieceCounts.{piece_count}

-- the words behind their references
abbrev pub texts : List (Bor (List ℕ)) → List (List ℕ)
texts = map (λ word. word.now)

-- the word begins with a hyphen (45), so it is a flag or nothing
abbrev pub is_flag : List ℕ → Bool
is_flag [] = false
is_flag (first ∷ more) = first == 45

abbrev pub is_argument : List ℕ → Bool
is_argument word = not (is_flag word)

-- ---- the commands that read a scenario

-- `replay`, by its flags and its arguments: it has no argument, and its flag `--totals` stands at most once
abbrev pub replay_of : List (List ℕ) → List (List ℕ) → Option Reading
replay_of [] [] = Some (Replay false)
replay_of (flag ∷ []) [] = if bytes_eq flag (codes "--totals") then Some (Replay true) else None
replay_of _ _ = None

-- `check`, by its flags and its arguments: it has none of either
abbrev pub check_of : List (List ℕ) → List (List ℕ) → Option Reading
check_of [] [] = Some Check
check_of _ _ = None

-- such a command of a word, its flags and its arguments
abbrev pub reading_by : List ℕ → List (List ℕ) → List (List ℕ) → Option Reading
reading_by word flags arguments =
    if bytes_eq word (codes "replay") then replay_of flags arguments
    else (if bytes_eq word (codes "check") then check_of flags arguments
    else None)

-- the command that the words are, where they are one of these
abbrev pub reading_of : List (List ℕ) → Option Reading
reading_of [] = None
reading_of (word ∷ rest) = reading_by word (filter is_flag rest) (filter is_argument rest)

-- ---- the command that makes a scenario

-- the count of pieces that a word is, in decimal digits without a leading zero
abbrev pub count_of : List ℕ → Option ℕ
count_of word = option_and_then piece_count (number_of word)

abbrev pub gen_by : Option ℕ → Option ℕ → (text : Bool) → Option Command
gen_by (Some count) (Some start) text = Some (Gen count start text)
gen_by (Some count) None text = None
gen_by None start text = None

-- `gen`, by its flags and its arguments: its flag `--text` stands at most once, and its arguments are a count of pieces and a start,
-- which is a number below 2^64
abbrev pub gen_of : List (List ℕ) → List (List ℕ) → Option Command
gen_of [] (count ∷ start ∷ []) = gen_by (count_of count) (number_of start) false
gen_of (flag ∷ []) (count ∷ start ∷ []) =
    if bytes_eq flag (codes "--text") then gen_by (count_of count) (number_of start) true else None
gen_of _ _ = None

-- the command that the words behind `gen` are, where they are one
abbrev pub gen_behind : List (List ℕ) → Option Command
gen_behind rest = gen_of (filter is_flag rest) (filter is_argument rest)

-- ---- all commands

-- the command of a word, its flags and its arguments
abbrev pub command_by : List ℕ → List (List ℕ) → List (List ℕ) → Option Command
command_by word flags arguments =
    if bytes_eq word (codes "gen") then gen_of flags arguments
    else option_map Read (reading_by word flags arguments)

-- the command that the words are, where they are one
abbrev pub command_of : List (List ℕ) → Option Command
command_of [] = None
command_of (word ∷ rest) = command_by word (filter is_flag rest) (filter is_argument rest)
