use Rattle.clap.specs.Words.{found_of}
use Rattle.bm_command.proofs.ParserLemmas.{replay_entered}
use Rattle.bm_command.proofs.parser.entered.Goals as goal

pub returns-in-Some-replay-default : goal.returns-in-Some-replay-default
returns-in-Some-replay-default c =
    replay_entered _ _ (found_of c.in-Some-replay-default.found.now) _ c.in-Some-replay-default.ensures.name
    c.in-Some-replay-default.ensures.rows c.in-Some-replay-default.is-replay c.requires c.get_flag.ensures.value c.get_flag.ensures.other
