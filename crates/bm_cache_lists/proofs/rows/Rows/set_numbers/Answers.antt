use Rattle.std.proofs.Common.{refl}
use Rattle.bm_cache_lists.specs.Numbers.{with_numbers}
use Rattle.bm_cache_lists.proofs.Houses.{wrote, kept}
use Rattle.bm_cache_lists.proofs.rows.Rows.set_numbers.Goals as goal

pub invariant_of-self : goal.invariant_of-self
invariant_of-self c = (kept c.self.inside.places.items c.self.inside.lines.items c.args.row c.index_mut.result.now c.set_numbers.new.self (λ r. with_numbers c.args.numbers r) c.self.invariant.0 c.requires c.index_mut.ensures.value c.set_numbers.ensures (λ n r. refl), c.self.invariant.1)

pub returns : goal.returns
returns c = rw (← c.self.view_is) (wrote c.self.inside.places.items c.self.inside.lines.items c.args.row c.index_mut.result.now c.set_numbers.new.self (λ r. with_numbers c.args.numbers r) (λ r. with_numbers c.args.numbers r) c.self.invariant.0 c.requires c.index_mut.ensures.value c.set_numbers.ensures (λ r. refl))
