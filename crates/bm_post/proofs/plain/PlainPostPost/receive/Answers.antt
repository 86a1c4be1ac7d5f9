use Rattle.std.proofs.Common.{◌≡◌, ◌<◌, ◌∷◌, [], length, get_or, drop, ◌∙◌, subst, IfSome, IfNone, arith}
use Rattle.std.proofs.lemmas.List.{get_or_default}
use Rattle.bm_post.specs.PostState.{Parcels}
use Rattle.bm_post.proofs.Posts.{post-receive, receives}
use Rattle.bm_post.proofs.Told.{receive-told}
use Rattle.bm_post.proofs.plain.PlainPostPost.receive.Goals as goal

pub invariant_of-self : goal.invariant_of-self
invariant_of-self c =
    let inside = c.self.inside in
    let xs = inside.inboxes.items in
    let place = c.place_of-place.result in
    let count = c.self.invariant.inbox_count in
    let there : place < length xs = omega arith in
    let at : c.index_mut-inbox.result.now ≡ get_or xs place [] = c.index_mut-inbox.ensures.value ∙ get_or_default xs place c.index_mut-inbox.result.now [] there in
    let some = subst (λ (z : Parcels). IfSome c.pop.result (λ v. z ≡ v.items ∷ c.pop.new.self)) at c.pop.ensures.some in
    let none = subst (λ (z : Parcels). IfNone c.pop.result (z ≡ [])) at c.pop.ensures.none in
    let rest = subst (λ (z : Parcels). c.pop.new.self ≡ drop 1 z) at c.pop.ensures.rest in
    post-receive c.pop.result (λ v. v.items) inside.processors inside.processor place inside.pool xs c.pop.new.self c.place_of-place.ensures.inside some none rest c.self.invariant

pub returns-clause-some : goal.returns-clause-some
returns-clause-some c =
    let inside = c.self.inside in
    let xs = inside.inboxes.items in
    let place = c.place_of-place.result in
    let count = c.self.invariant.inbox_count in
    let there : place < length xs = omega arith in
    let at : c.index_mut-inbox.result.now ≡ get_or xs place [] = c.index_mut-inbox.ensures.value ∙ get_or_default xs place c.index_mut-inbox.result.now [] there in
    let some = subst (λ (z : Parcels). IfSome c.pop.result (λ v. z ≡ v.items ∷ c.pop.new.self)) at c.pop.ensures.some in
    rw (← c.self.view_is) (receives c.pop.result (λ v. v.items) inside.processors inside.processor place c.args.class inside.pool xs c.pop.new.self c.place_of-place.ensures.inside c.place_of-place.ensures.class some c.self.invariant)

pub returns-clause-mails : goal.returns-clause-mails
returns-clause-mails c =
    let inside = c.self.inside in
    let xs = inside.inboxes.items in
    let place = c.place_of-place.result in
    let count = c.self.invariant.inbox_count in
    let there : place < length xs = omega arith in
    let at : c.index_mut-inbox.result.now ≡ get_or xs place [] = c.index_mut-inbox.ensures.value ∙ get_or_default xs place c.index_mut-inbox.result.now [] there in
    let rest = subst (λ (z : Parcels). c.pop.new.self ≡ drop 1 z) at c.pop.ensures.rest in
    let here = c.place_of-place.ensures.place in
    rw (← c.self.view_is) (receive-told inside.processors inside.processor place c.args.class inside.pool xs c.pop.new.self here c.place_of-place.ensures.class rest c.self.invariant)
