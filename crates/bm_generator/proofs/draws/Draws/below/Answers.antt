use Rattle.std.proofs.Common.{refl, ◌*◌, ◌^◌}
use Rattle.std.proofs.Math.Nat.{mod-add-mod}
use Rattle.bm_generator.specs.Draws.{next, drawn}
use Rattle.bm_generator.proofs.draws.Draws.below.Goals as goal

pub returns-clause-state : goal.returns-clause-state
unfolding next
returns-clause-state c = mod-add-mod (c.args.self.now.state * 6364136223846793005) (2 ^ 64) 1442695040888963407

pub returns-clause-value : goal.returns-clause-value
unfolding drawn
returns-clause-value c = refl
