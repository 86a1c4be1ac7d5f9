use Rattle.std.proofs.Common.{ap, ◌∙◌}
use Rattle.bm_world.specs.LivingState.{begun_at}
use Rattle.bm_world.proofs.Lived.{none-counted}
use Rattle.bm_world.proofs.begun.Begun.new.Goals as goal

pub returns-clause-none : goal.returns-clause-none
returns-clause-none c n = ap (λ s. begun_at s n) c.loop-place.invariant.counts ∙ none-counted c.loop-place._place n
