use Rattle.std.proofs.Common.{◌<◌, ◌≤◌, refl, sym, subst}
use Rattle.bm_world.specs.SideState.{SideState}
use Rattle.bm_world.proofs.Did.{does-send, drained-ok, released-ok}
use Rattle.bm_world.proofs.one_side.OneSidePost.send.Goals as goal

pub returns-clause-does : goal.returns-clause-does
returns-clause-does c =
    let i = c.self.inside in
    rw (← c.self.view_is) (does-send c.send.result c.args.to c.args.class c.args.units.items (record { post = i.post; grace = i.grace }) (record { post = c.send.new.self; grace = i.grace }) c.send.ensures.state refl (subst (λ n. n ≤ 10) c.index.ensures.same c.index.ensures.in_range) (subst (λ (w : SideState). c.args.to < w.grace.processors) (sym c.self.view_is) c.requires.to) c.requires.some)

pub returns-clause-drains : goal.returns-clause-drains
returns-clause-drains c =
    let i = c.self.inside in
    rw (← c.self.view_is) (drained-ok _ c.send.result c.args.class c.args.to c.args.units.items (record { post = i.post; grace = i.grace }) (record { post = c.send.new.self; grace = i.grace }) (does-send c.send.result c.args.to c.args.class c.args.units.items (record { post = i.post; grace = i.grace }) (record { post = c.send.new.self; grace = i.grace }) c.send.ensures.state refl (subst (λ n. n ≤ 10) c.index.ensures.same c.index.ensures.in_range) (subst (λ (w : SideState). c.args.to < w.grace.processors) (sym c.self.view_is) c.requires.to) c.requires.some))

pub returns-clause-releases : goal.returns-clause-releases
returns-clause-releases c =
    let i = c.self.inside in
    rw (← c.self.view_is) (released-ok _ c.send.result c.args.class c.args.to c.args.units.items (record { post = i.post; grace = i.grace }) (record { post = c.send.new.self; grace = i.grace }) (does-send c.send.result c.args.to c.args.class c.args.units.items (record { post = i.post; grace = i.grace }) (record { post = c.send.new.self; grace = i.grace }) c.send.ensures.state refl (subst (λ n. n ≤ 10) c.index.ensures.same c.index.ensures.in_range) (subst (λ (w : SideState). c.args.to < w.grace.processors) (sym c.self.view_is) c.requires.to) c.requires.some))
