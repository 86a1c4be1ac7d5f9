use Rattle.std.proofs.Common.{ap, ◌∙◌}
use Rattle.bm_world.specs.Standings.{standing_at}
use Rattle.bm_world.proofs.Left.{none-stands}
use Rattle.bm_world.proofs.standing.nothing.Goals as goal

pub returns-clause-none : goal.returns-clause-none
returns-clause-none c n = ap (λ s. standing_at s n) c.loop-place.invariant.standings ∙ none-stands c.loop-place._place n
