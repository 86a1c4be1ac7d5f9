use Rattle.std.proofs.Common.{◌≡◌, ◌<◌, Some, length, sym, subst}
use Rattle.std.proofs.lemmas.Option.{slice_get-get_or}
use Rattle.bm_obj.specs.Known.{Has, type_at}
use Rattle.bm_obj.specs.Table.{object_at}
use Rattle.bm_obj.specs.WorldState.{World, known_of}
use Rattle.bm_obj.proofs.Alive.{finds}
use Rattle.bm_obj.proofs.Calls.{field-count}
use Rattle.bm_obj.proofs.one_world.OneWorldObjects.get.Goals as goal

pub bounds-as_slice-field : goal.bounds-as_slice-field
bounds-as_slice-field c =
    let i = c.self.inside in
    let r = c.args.r.now in
    let has = subst (λ (w : World). Has r (known_of w)) (sym c.self.view_is) c.requires.has in
    let f = finds i.places.items i.words.items r has in
    let at : object_at i.places.items r.unit ≡ Some c.look_at.result.now = rw (← c.unit.ensures) c.look_at.ensures in
    let count = field-count i.places.items i.words.items i.slots.items i.graphs.types i.defs.items i.acquires r c.look_at.result.now c.self.invariant f at in
    let field = subst (λ (w : World). c.args.field < (type_at w.defs r.def).fields) (sym c.self.view_is) c.requires.field in
    rw (c.as_slice.ensures, count) field

pub returns-clause-value : goal.returns-clause-value
returns-clause-value c =
    let i = c.self.inside in
    let r = c.args.r.now in
    let has = subst (λ (w : World). Has r (known_of w)) (sym c.self.view_is) c.requires.has in
    let f = finds i.places.items i.words.items r has in
    let at : object_at i.places.items r.unit ≡ Some c.look_at.result.now = rw (← c.unit.ensures) c.look_at.ensures in
    let count = field-count i.places.items i.words.items i.slots.items i.graphs.types i.defs.items i.acquires r c.look_at.result.now c.self.invariant f at in
    let field = subst (λ (w : World). c.args.field < (type_at w.defs r.def).fields) (sym c.self.view_is) c.requires.field in
    let inside : c.args.field < length c.look_at.result.now.values = rw count field in
    rw (← c.self.view_is, at, c.as_slice.ensures) (slice_get-get_or c.look_at.result.now.values c.args.field 0 inside)
