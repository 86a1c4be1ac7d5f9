use Rattle.std.proofs.Common.{◌≡◌, ◌≤◌, ℕ, List, length, vec_capacity, ap, arith}
use Rattle.bm_cache_lists.proofs.Chains.{linked-new}
use Rattle.bm_cache_lists.proofs.links.Links.new.Goals as goal

pub invariant_of-result : goal.invariant_of-result
invariant_of-result c =
    let e : length c.in_ok-with_capacity.field-0.items ≡ 0 = ap (λ (ns : List ℕ). length ns) c.in_ok-with_capacity.ensures.items in
    let r : 65536 ≤ vec_capacity c.in_ok-with_capacity.field-0 = omega (arith, c.in_ok-with_capacity.ensures.exact) in
    (linked-new c.in_ok-with_capacity.field-0.items e, r)
