-- What the parser of command lines is told of the commands that read a scenario, and how its answer reads.
use Rattle.std.specs.Prelude.{true, false, List, Option, Some, None, if◌then◌else◌, codes}
use Rattle.std.specs.Str.{bytes_eq}
use Rattle.clap.specs.Words.{App, Row, Rule, Shape, Text, new_app, new_rule, one_of, with_rule, with_subcommand}
use Rattle.clap.specs.declared.builder.action.ArgAction.TheVariants.{SetTrue}
use Rattle.bm_command.specs.declared.command.Reading.{Reading}
use Rattle.bm_command.specs.declared.command.Reading.TheVariants.{Replay, Check}

-- a command's word, with neither help nor a version of its own
abbrev pub bare_shape : Shape → Shape
bare_shape shape =
    record shape
    { disable_help_flag = true; disable_help_subcommand = true; disable_version_flag = true }

-- such a word alone
abbrev pub bare_app : Text → App
bare_app word = record (new_app word) { top = bare_shape (new_app word).top }

-- the flag `--totals`: it takes no value, and is set where it stands
abbrev pub totals_rule : Rule
totals_rule =
    record (new_rule (codes "totals")) { long = Some (codes "totals"); action = Some SetTrue }

-- the program's own word, which isn't among the words that are read; a command must follow
abbrev pub program_app : App
program_app = record (bare_app (codes "bpfmem")) {
  top =
      record (bare_app (codes "bpfmem")).top { no_binary_name = true; subcommand_required = true };
}

-- the whole: the program has no flag of its own, and the commands stand below it
abbrev pub grammar_app : App
grammar_app =
    with_subcommand
    (with_subcommand program_app (with_rule (bare_app (codes "replay")) totals_rule).top)
    (bare_app (codes "check")).top

-- `replay`, by the text that was read for its flag
abbrev pub replay_by : Option Text → Option Reading
replay_by None = None
replay_by (Some text) =
    if bytes_eq text (codes "true") then Some (Replay true)
    else (if bytes_eq text (codes "false") then Some (Replay false)
    else None)

-- the command of a subcommand's name and what was found behind it
abbrev pub entered_reading : Option (Text × List Row) → Option Reading
entered_reading None = None
entered_reading (Some found) =
    if bytes_eq found.0 (codes "replay") then replay_by (one_of (codes "totals") found.1)
    else (if bytes_eq found.0 (codes "check") then Some Check
    else None)
