use Rattle.std.proofs.Common.{refl, sym, subst}
use Rattle.bm_world.specs.SideState.{SideState}
use Rattle.bm_post.specs.PostState.{rights_in}
use Rattle.bm_post.specs.Rights.{Holds}
use Rattle.bm_world.proofs.Did.{did-give, does-return}
use Rattle.bm_world.proofs.one_side.OneSidePost.put_back.Goals as goal

pub returns-clause-does : goal.returns-clause-does
returns-clause-does c =
    let i = c.self.inside in
    let holds = subst (λ (w : SideState). Holds (rights_in w.post) c.args.units.items) (sym c.self.view_is) c.requires.mine in
    rw (← c.self.view_is) (does-return c.args.units.items (record { post = i.post; grace = i.grace }) (record { post = c.put_back.new.self; grace = i.grace }) holds c.put_back.ensures.state refl)

pub returns-clause-gives : goal.returns-clause-gives
returns-clause-gives c h =
    let i = c.self.inside in
    let holds = subst (λ (w : SideState). Holds (rights_in w.post) c.args.units.items) (sym c.self.view_is) c.requires.mine in
    let a : SideState = record { post = i.post; grace = i.grace } in
    let b : SideState = record { post = c.put_back.new.self; grace = i.grace } in
    rw (← c.self.view_is) (did-give c.args.units.items a b (does-return c.args.units.items a b holds c.put_back.ensures.state refl))
