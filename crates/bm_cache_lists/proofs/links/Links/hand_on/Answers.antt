use Rattle.std.proofs.Common.{◌≡◌, [], ℕ, List, get_or, sym, subst}
use Rattle.bm_cache_lists.proofs.Chains.{linked-hand, hand-view}
use Rattle.bm_cache_lists.proofs.links.Links.hand_on.Goals as goal

pub invariant_of-self : goal.invariant_of-self
invariant_of-self c =
    (linked-hand c.self.inside.next.items c.self.inside.heads c.args.from c.args.to c.self.invariant.0 c.requires.from c.requires.to (subst (λ (xss : List (List ℕ)). get_or xss c.args.to [] ≡ []) (sym c.self.view_is) c.requires.empty), c.self.invariant.1)

pub returns : goal.returns
returns c = rw (← c.self.view_is) (hand-view c.self.inside.next.items c.self.inside.heads c.args.from c.args.to c.self.invariant.0 c.requires.from)
