use Rattle.std.proofs.Common.{◌∙◌}
use Rattle.bm_command.proofs.GenLemmas.{two_behind}
use Rattle.bm_command.proofs.generation.of_two.Goals as goal

pub returns : goal.returns
returns c = c.of_numbers.ensures ∙ two_behind c.args.count.now c.args.start.now
