use Rattle.std.proofs.Common.{[], ◌∷◌, refl, subst, sym}
use Rattle.std.specs.List.{All}
use Rattle.bm_law_order.specs.Act as act
use Rattle.bm_post.specs.Rights.{IsSettled, numbers}
use Rattle.bm_work.proofs.Alike.{alike-posts}
use Rattle.bm_work.proofs.Owing.{owes-called}
use Rattle.bm_work.proofs.returns.give_back.Goals as goal

pub returns-clause-owes : goal.returns-clause-owes
returns-clause-owes g c done o =
    let us = c.args.units.items in
    let settled = subst (λ w. All (IsSettled (g.H.W.Knows.rights w)) us) (sym c.world.ensures.held) c.requires.settled in
    owes-called g.H.Desk.shared g.H.Desk.with_shared g.H.W.Knows.known g.H.W.Knows.does g.H.Desk.asked_owes g.met.H.Desk.asked_done c.args.host.now c.world.result.now c.put_back.new.self _ (act.GivesBack (numbers us) ∷ []) c.world.ensures.held refl (alike-posts _ _ _ c.put_back.ensures.known) (c.put_back.ensures.gives settled) done o
