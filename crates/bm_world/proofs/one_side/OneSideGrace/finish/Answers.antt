use Rattle.std.proofs.Common.{◌∙◌, refl, sym, subst}
use Rattle.bm_grace.specs.Answers.{CanFinish}
use Rattle.bm_world.specs.SideState.{SideState, known_of}
use Rattle.bm_world.proofs.Did.{does-finish, standing-ended}
use Rattle.bm_world.proofs.one_side.OneSideGrace.finish.Goals as goal

pub returns-clause-does : goal.returns-clause-does
returns-clause-does c =
    let i = c.self.inside in
    let a : SideState = record { post = i.post; grace = i.grace } in
    let can = subst (λ (w : SideState). CanFinish c.args.domain (known_of w)) (sym c.self.view_is) c.requires in
    rw (← c.self.view_is) (does-finish c.args.domain c.finish.result a (record { post = i.post; grace = c.finish.new.self }) refl c.finish.ensures.state can (c.finish.ensures.period ∙ standing-ended c.args.domain a can))
