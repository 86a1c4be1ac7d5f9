use Rattle.std.proofs.Common.{◌++◌, [], ℕ, refl}
use Rattle.bm_page.specs.UnitState.{UnitState}
use Rattle.bm_law.specs.State.{Row}
use Rattle.bm_law.specs.Places.{list_at}
use Rattle.bm_cache_lists.specs.Stacks.{with_list}
use Rattle.bm_cache_lists.specs.Housed.{unit_at}
use Rattle.bm_cache_lists.proofs.Houses.{wrote, kept, onto-same, onto-seen}
use Rattle.bm_cache_lists.proofs.rows.Rows.put_above.Goals as goal

pub invariant_of-self : goal.invariant_of-self
invariant_of-self c =
    let F : Row ℕ → Row ℕ = λ r. with_list c.args.from [] (with_list c.args.to (list_at c.args.from r ++ list_at c.args.to r) r) in
    (kept c.self.inside.places.items c.self.inside.lines.items c.args.row c.index_mut.result.now c.put_above.new.self F c.self.invariant.0 c.requires.row c.index_mut.ensures.value c.put_above.ensures (onto-same c.args.from c.args.to c.requires.two (λ xs. xs) (λ n xs. refl)), c.self.invariant.1)

pub returns : goal.returns
returns c =
    let F : Row ℕ → Row ℕ = λ r. with_list c.args.from [] (with_list c.args.to (list_at c.args.from r ++ list_at c.args.to r) r) in
    let G : Row UnitState → Row UnitState = λ r. with_list c.args.from [] (with_list c.args.to (list_at c.args.from r ++ list_at c.args.to r) r) in
    rw (← c.self.view_is) (wrote c.self.inside.places.items c.self.inside.lines.items c.args.row c.index_mut.result.now c.put_above.new.self F G c.self.invariant.0 c.requires.row c.index_mut.ensures.value c.put_above.ensures (onto-seen c.args.from c.args.to c.requires.two (unit_at c.self.inside.places.items) (λ xs. xs) (λ xs. xs) (λ xs. refl)))
