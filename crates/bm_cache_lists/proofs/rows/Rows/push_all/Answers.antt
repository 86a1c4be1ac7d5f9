use Rattle.std.proofs.Common.{◌≡◌, ◌∷◌, List, subst, refl}
use Rattle.bm_page.specs.UnitState.{UnitState}
use Rattle.bm_cache_lists.proofs.Loops.{Pushing, pushing-step, fresh-head}
use Rattle.bm_cache_lists.proofs.rows.Rows.push_all.Goals as goal

pub push-requires : goal.push-requires
push-requires c =
    let e : c.loop-unit.rest.items ≡ c.in-Some.unit ∷ c.pop_front.new.self.items = c.in-Some.ensures.items in
    let p = subst (λ (us : List UnitState). Pushing c.args.row c.args.stack c.args.units.items us c.args.self.now c.loop-unit.self) e c.loop-unit.invariant in
    record { row = c.requires.row; fresh = λ i. fresh-head c.in-Some.unit.number i c.in-Some.unit c.pop_front.new.self.items c.loop-unit.self refl (p.fresh c.in-Some.unit.number i) }

pub loop-unit-preserved : goal.loop-unit-preserved
loop-unit-preserved c =
    let e : c.loop-unit.rest.items ≡ c.in-Some.unit ∷ c.pop_front.new.self.items = c.in-Some.ensures.items in
    let p = subst (λ (us : List UnitState). Pushing c.args.row c.args.stack c.args.units.items us c.args.self.now c.loop-unit.self) e c.loop-unit.invariant in
    pushing-step c.args.row c.args.stack c.args.units.items c.pop_front.new.self.items c.in-Some.unit c.args.self.now c.loop-unit.self c.push.new.self c.requires.row p c.push.ensures
