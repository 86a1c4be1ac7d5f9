use Rattle.std.proofs.Common.{[], ◌∷◌, subst}
use Rattle.bm_journal.specs.declared.ids.Domain.TheVariants.{Tracing}
use Rattle.bm_grace.specs.Begins.{begin_act}
use Rattle.bm_grace.specs.declared.answer.Began.{Began}
use Rattle.bm_work.proofs.Alike.{alike-began}
use Rattle.bm_closing.proofs.AtEnds.{alike-told}
use Rattle.bm_closing.proofs.period.begin_tracing.Goals as goal

pub returns-clause-alike : goal.returns-clause-alike
returns-clause-alike g c =
    let K = g.W.Knows.known in
    alike-told (K c.args.world.now) (K c.begin.new.self) _ c.begin.ensures.known (alike-began _ _ _ _ (K c.args.world.now))

pub returns-clause-does : goal.returns-clause-does
returns-clause-does g c =
    let F : Began → Type 0 = λ r. g.W.Knows.does (begin_act Tracing c.args.even r ∷ []) c.args.world.now c.begin.new.self in
    subst F c.in-Won.is c.begin.ensures.does
