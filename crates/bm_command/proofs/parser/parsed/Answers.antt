use Rattle.std.proofs.Common.{◌≡◌, ◌∙◌, sym}
use Rattle.clap.specs.Words.{subcommand_rows_of}
use Rattle.bm_command.specs.Words.{reading_of, texts}
use Rattle.bm_command.specs.Grammar.{entered_reading}
use Rattle.bm_command.proofs.ParserLemmas.{matches_are, words_are_taken}
use Rattle.bm_command.proofs.parser.parsed.Goals as goal

pub entered-requires : goal.entered-requires
entered-requires c =
    let found : entered_reading (subcommand_rows_of c.in-Ok-try_get_matches_from.matches) ≡ reading_of (texts c.args.words.now) =
    matches_are _ _ _ c.in-Ok.ensures c.requires c.in-Ok-try_get_matches_from.ensures.matches in
    rw found c.requires

pub unreachable-requires : goal.unreachable-requires
unreachable-requires c =
    c.in_default-kind.not-OutOfMemory (c.kind.ensures ∙ c.in-Err.ensures.passes (words_are_taken _ _ c.in-Ok.ensures c.requires))

pub returns-in-Ok-try_get_matches_from-clause-read : goal.returns-in-Ok-try_get_matches_from-clause-read
returns-in-Ok-try_get_matches_from-clause-read c =
    sym (matches_are _ _ _ c.in-Ok.ensures c.requires c.in-Ok-try_get_matches_from.ensures.matches) ∙ c.entered.ensures
