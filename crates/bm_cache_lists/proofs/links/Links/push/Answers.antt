use Rattle.std.proofs.Common.{◌≡◌, ◌∙◌, ℕ, List, arith, sym, subst}
use Rattle.bm_law.specs.Stands.{times}
use Rattle.bm_cache_lists.specs.Chain.{chains, joined}
use Rattle.bm_cache_lists.proofs.Chains.{chains-longer, linked-longer, linked-push, push-view, length-under}
use Rattle.bm_cache_lists.proofs.links.Links.push.Goals as goal

pub overflow_add-self : goal.overflow_add-self
overflow_add-self c = omega (arith, length-under c.self.inside.next.items c.self.inside.heads c.args.list c.self.invariant.0 c.requires.list)

pub invariant_of-self : goal.invariant_of-self
invariant_of-self c =
    let next = c.reach.new.next.items in
    let l = linked-longer c.self.inside.next.items next c.reach.ensures.longer c.self.inside.heads c.reach.ensures.short c.self.invariant.0 in
    let v : chains next c.self.inside.heads ≡ c.args.self.now = chains-longer c.self.inside.next.items next c.reach.ensures.longer c.self.inside.heads ∙ c.self.view_is in
    let f = subst (λ (xss : List (List ℕ)). times c.args.number (joined xss) ≡ 0) (sym v) c.requires.fresh in
    (linked-push next c.self.inside.heads c.args.list c.args.number l c.requires.list c.reach.ensures.number f, c.reach.ensures.room)

pub returns : goal.returns
returns c =
    let next = c.reach.new.next.items in
    let l = linked-longer c.self.inside.next.items next c.reach.ensures.longer c.self.inside.heads c.reach.ensures.short c.self.invariant.0 in
    let v : chains next c.self.inside.heads ≡ c.args.self.now = chains-longer c.self.inside.next.items next c.reach.ensures.longer c.self.inside.heads ∙ c.self.view_is in
    let f = subst (λ (xss : List (List ℕ)). times c.args.number (joined xss) ≡ 0) (sym v) c.requires.fresh in
    rw (← v) (push-view next c.self.inside.heads c.args.list c.args.number l c.requires.list c.reach.ensures.number f)
