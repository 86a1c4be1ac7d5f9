use Rattle.std.proofs.Common.{◌≡◌, Option, None, arith, ◌∙◌, ap, set, get_or}
use Rattle.std.proofs.lemmas.List.{get_or_read}
use Rattle.bm_page.specs.UnitState.{UnitState}
use Rattle.bm_cache_lists.specs.Housed.{rows_of}
use Rattle.bm_cache_lists.proofs.Houses.{place, popped-housed, popped-view, popped-unit}
use Rattle.bm_cache_lists.proofs.rows.Rows.pop.Goals as goal

pub index_mut-requires-in-Some : goal.index_mut-requires-in-Some
index_mut-requires-in-Some c = omega (arith, c.self.inside.places.ok.0, place c.self.inside.places.items c.self.inside.lines.items c.args.row c.in-Some.number c.args.stack c.index_mut.result.now c.pop.new.self c.self.invariant.0 c.requires c.index_mut.ensures.value c.in-Some.ensures.row c.in-Some.ensures.number c.in-Some.ensures.gone)

pub invariant_of-self : goal.invariant_of-self
invariant_of-self c =
    (rw c.take.ensures.after (popped-housed c.self.inside.places.items c.self.inside.lines.items c.args.row c.in-Some.number c.args.stack c.index_mut.result.now c.pop.new.self c.self.invariant.0 c.requires c.index_mut.ensures.value c.in-Some.ensures.row c.in-Some.ensures.number c.in-Some.ensures.gone), c.self.invariant.1)

pub returns-in-Some-clause-unit : goal.returns-in-Some-clause-unit
returns-in-Some-clause-unit c =
    let i = place c.self.inside.places.items c.self.inside.lines.items c.args.row c.in-Some.number c.args.stack c.index_mut.result.now c.pop.new.self c.self.invariant.0 c.requires c.index_mut.ensures.value c.in-Some.ensures.row c.in-Some.ensures.number c.in-Some.ensures.gone in
    let r : c.take.result ≡ get_or c.self.inside.places.items c.in-Some.number None = c.take.ensures.value ∙ get_or_read c.self.inside.places.items c.in-Some.number c.index_mut-in-Some.result.now i c.index_mut-in-Some.ensures.value None in
    rw (← c.self.view_is) (popped-unit c.self.inside.places.items c.self.inside.lines.items c.args.row c.in-Some.number c.args.stack c.index_mut.result.now c.pop.new.self c.self.invariant.0 c.requires c.index_mut.ensures.value c.in-Some.ensures.row c.in-Some.ensures.number c.in-Some.ensures.gone c.take.result r)

pub returns-in-Some-clause-rows : goal.returns-in-Some-clause-rows
returns-in-Some-clause-rows c =
    let v = popped-view c.self.inside.places.items c.self.inside.lines.items c.args.row c.in-Some.number c.args.stack c.index_mut.result.now c.pop.new.self c.self.invariant.0 c.requires c.index_mut.ensures.value c.in-Some.ensures.row c.in-Some.ensures.number c.in-Some.ensures.gone in
    rw (← c.self.view_is) (ap (λ (o : Option UnitState). rows_of (set c.self.inside.places.items c.in-Some.number o) (set c.self.inside.lines.items c.args.row c.pop.new.self)) c.take.ensures.after ∙ v)
