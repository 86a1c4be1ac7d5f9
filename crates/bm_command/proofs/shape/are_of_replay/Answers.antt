use Rattle.std.proofs.Common.{arith}
use Rattle.bm_command.proofs.WordLemmas.{too_many_behind}
use Rattle.bm_command.proofs.shape.are_of_replay.Goals as goal

pub returns-in_default : goal.returns-in_default
returns-in_default c = too_many_behind c.args.rest.now (omega (arith, c.in_default.len_at_least))
