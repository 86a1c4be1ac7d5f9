use Rattle.std.proofs.Common.{[], ◌∷◌, refl, subst, sym}
use Rattle.std.specs.List.{All}
use Rattle.bm_post.specs.Rights.{IsSettled, WaitedBy, numbers}
use Rattle.bm_law_order.specs.Act as act
use Rattle.bm_work.proofs.Alike.{alike-mails}
use Rattle.bm_work.proofs.Owing.{both-ok, owes-called}
use Rattle.bm_work.proofs.loans.give_parcel.Goals as goal

pub returns-clause-drains : goal.returns-clause-drains
returns-clause-drains g c =
    let us = c.args.units.items in
    both-ok c.send.result (λ m d settled done o. owes-called g.H.Desk.shared g.H.Desk.with_shared g.H.W.Knows.known g.H.W.Knows.does g.H.Desk.asked_owes g.met.H.Desk.asked_done c.args.host.now c.world.result.now c.send.new.self _ (act.Drains c.args.class c.args.to (numbers us) ∷ []) c.world.ensures.held refl (alike-mails _ _ _ _ m) (d (subst (λ w. All (IsSettled (g.H.W.Knows.rights w)) us) (sym c.world.ensures.held) settled)) done o) c.send.ensures.mails c.send.ensures.drains

pub returns-clause-releases : goal.returns-clause-releases
returns-clause-releases g c =
    let us = c.args.units.items in
    both-ok c.send.result (λ m d seal waited done o. owes-called g.H.Desk.shared g.H.Desk.with_shared g.H.W.Knows.known g.H.W.Knows.does g.H.Desk.asked_owes g.met.H.Desk.asked_done c.args.host.now c.world.result.now c.send.new.self _ (act.Releases c.args.class c.args.to (numbers us) seal.stamp seal.seen ∷ []) c.world.ensures.held refl (alike-mails _ _ _ _ m) (d seal (subst (λ w. All (WaitedBy (g.H.W.Knows.rights w) seal) us) (sym c.world.ensures.held) waited)) done o) c.send.ensures.mails c.send.ensures.releases
