use Rattle.bm_closing.specs.declared.crew.Phase.TheVariants.{Sweeps}
use Rattle.bm_closing.proofs.AtEnds.{when-ok, with-ok}
use Rattle.bm_closing.proofs.crew.close_all.Goals as goal

pub returns-clause-even : goal.returns-clause-even
returns-clause-even g c =
    let r = c.barrier-2.result in
    with-ok r _ (λ o. g.met.C.Crew.even Sweeps c.barrier-2.new.crew (when-ok r _ o c.barrier-2.ensures.has))
