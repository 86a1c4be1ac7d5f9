use Rattle.std.proofs.Common.{◌≡◌, ◌<◌, ◌∷◌, ◌++◌, [], length, get_or, sym, ◌∙◌, subst, OnOk, OnErr, arith}
use Rattle.std.specs.List.{All}
use Rattle.std.proofs.lemmas.List.{get_or_default}
use Rattle.bm_post.specs.Calls.{IsOf}
use Rattle.bm_post.specs.Rights.{Holds, MayLeave}
use Rattle.bm_post.specs.PostState.{Parcels, PostState, rights_in}
use Rattle.bm_post.proofs.Posts.{post-send, send-same}
use Rattle.bm_post.proofs.Told.{send-told}
use Rattle.bm_post.proofs.plain.PlainPostPost.send.Goals as goal

pub invariant_of-self : goal.invariant_of-self
invariant_of-self c =
    let inside = c.self.inside in
    let xs = inside.inboxes.items in
    let us = c.args.units.items in
    let place = c.place_of.result in
    let count = c.self.invariant.inbox_count in
    let there : place < length xs = omega arith in
    let at : c.index_mut.result.now ≡ get_or xs place [] = c.index_mut.ensures.value ∙ get_or_default xs place c.index_mut.result.now [] there in
    let ok = subst (λ (z : Parcels). OnOk c.push.result (c.push.new.self ≡ z ++ us ∷ [])) at c.push.ensures.ok in
    let err = subst (λ (z : Parcels). OnErr c.push.result (c.push.new.self ≡ z)) at c.push.ensures.err in
    let class = subst (λ k. All (IsOf k) us) (sym c.place_of.ensures.class) c.requires.class in
    let holds = subst (λ (s : PostState). Holds (rights_in s) us) (sym c.self.view_is) c.requires.mine in
    post-send c.push.result inside.processors inside.processor place inside.pool xs c.push.new.self us c.place_of.ensures.inside ok err c.requires.some class holds (subst (λ (s : PostState). All (MayLeave (rights_in s)) us) (sym c.self.view_is) c.requires.fit) c.self.invariant

pub returns-clause-same : goal.returns-clause-same
returns-clause-same c =
    let inside = c.self.inside in
    let xs = inside.inboxes.items in
    let place = c.place_of.result in
    let count = c.self.invariant.inbox_count in
    let there : place < length xs = omega arith in
    let at : c.index_mut.result.now ≡ get_or xs place [] = c.index_mut.ensures.value ∙ get_or_default xs place c.index_mut.result.now [] there in
    let err = subst (λ (z : Parcels). OnErr c.push.result (c.push.new.self ≡ z)) at c.push.ensures.err in
    rw (← c.self.view_is) (send-same c.push.result inside.processors inside.processor place inside.pool xs c.push.new.self err)

pub returns-clause-mails : goal.returns-clause-mails
returns-clause-mails c =
    let inside = c.self.inside in
    let xs = inside.inboxes.items in
    let place = c.place_of.result in
    let count = c.self.invariant.inbox_count in
    let there : place < length xs = omega arith in
    let at : c.index_mut.result.now ≡ get_or xs place [] = c.index_mut.ensures.value ∙ get_or_default xs place c.index_mut.result.now [] there in
    let ok = subst (λ (z : Parcels). OnOk c.push.result (c.push.new.self ≡ z ++ c.args.units.items ∷ [])) at c.push.ensures.ok in
    rw (← c.self.view_is) (send-told c.push.result inside.processors inside.processor place c.args.to c.args.class inside.pool xs c.push.new.self c.args.units.items c.place_of.ensures.place c.place_of.ensures.class ok c.self.invariant)
