use Rattle.std.proofs.Common.{◌≡◌, ◌<◌, ◌++◌, [], List, length, reverse, set, Some, ap, ◌∙◌, arith}
use Rattle.std.specs.Prelude.{flat_map}
use Rattle.bm_page.specs.UnitState.{UnitState}
use Rattle.bm_law.specs.State.{Row, seven_lists}
use Rattle.bm_cache_lists.specs.Housed.{row_at}
use Rattle.bm_law.specs.Places.{list_at}
use Rattle.bm_cache_lists.specs.Stacks.{with_list}
use Rattle.bm_journal.specs.declared.change.Stack.TheVariants.{Second}
use Rattle.bm_cache_lists.proofs.Houses.{eleven-rows}
use Rattle.bm_cache_lists.proofs.Loops.{twice, turned-in, two-turns, seven-below}
use Rattle.bm_cache_lists.proofs.rows.Rows.sweep.Goals as goal

pub push_parcels-requires-clause-fresh : goal.push_parcels-requires-clause-fresh
push_parcels-requires-clause-fresh c = λ n i.
    let old = c.args.self.now in
    let l : length old ≡ 11 = eleven-rows c.self.inside.places.items c.self.inside.lines.items c.args.self.now c.self.invariant.0 c.self.view_is in
    let b : c.args.row < length old = omega (arith, l, c.requires.row) in
    omega (arith, turned-in c.args.row Second old c.turn_over.new.self b c.turn_over.ensures n i, c.requires.fresh n i)

all_ended : Row UnitState → Row UnitState
all_ended r = record r { free = []; extra = []; delayed = []; extra_delayed = []; count = 0; deferred = record r.deferred { first = []; ready = []; second = seven_lists r; tracing = Some 0 } }

pub returns : goal.returns
unfolding all_ended
returns c =
    let old = c.args.self.now in
    let i = c.args.row in
    let us : List UnitState = flat_map (λ q. q.items) c.args.parcels.items in
    let l : length old ≡ 11 = eleven-rows c.self.inside.places.items c.self.inside.lines.items c.args.self.now c.self.invariant.0 c.self.view_is in
    let b : i < length old = omega (arith, l, c.requires.row) in
    let r = row_at old i in
    let r1 : Row UnitState = with_list Second (reverse r.deferred.second) r in
    let r2 : Row UnitState = with_list Second (reverse us ++ reverse r.deferred.second) r in
    let r3 : Row UnitState = with_list Second (reverse (reverse us ++ reverse r.deferred.second)) r in
    let e2 = twice i (λ s. with_list Second (reverse us ++ list_at Second s) s) r1 old c.turn_over.new.self c.push_parcels.new.self b c.turn_over.ensures c.push_parcels.ensures in
    let e3 = twice i (λ s. with_list Second (reverse (list_at Second s)) s) r2 old c.push_parcels.new.self c.turn_over-2.new.self b e2 c.turn_over-2.ensures in
    let e4 = twice i all_ended r3 old c.turn_over-2.new.self c.gather.new.self b e3 c.gather.ensures in
    let F : List UnitState → Row UnitState = λ xs. all_ended (with_list Second xs r) in
    let G : List UnitState → Row UnitState = λ xs. record r { free = []; extra = []; delayed = []; extra_delayed = []; count = 0; deferred = record r.deferred { first = []; ready = []; second = xs; tracing = Some 0 } } in
    e4 ∙ ap (λ (xs : List UnitState). set old i (F xs)) (two-turns r.deferred.second us)
    ∙ ap (λ (xs : List UnitState). set old i (G xs)) (seven-below r.free r.extra r.delayed r.extra_delayed r.deferred.first r.deferred.ready r.deferred.second us)
