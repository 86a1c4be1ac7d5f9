use Rattle.std.proofs.Common.{◌≡◌, ◌<◌, ◌+◌, ◌-◌, ◌∙◌, Some, sym, subst, arith, ap}
use Rattle.std.specs.Prelude.{true}
use Rattle.bm_obj.specs.Known.{Has, type_at}
use Rattle.bm_obj.specs.Table.{changed, object_at, with_count}
use Rattle.bm_obj.specs.WorldState.{World, known_of}
use Rattle.bm_obj.specs.declared.object.Object.{Object}
use Rattle.bm_obj.proofs.Alive.{finds}
use Rattle.bm_obj.proofs.Calls.{kept-counted}
use Rattle.bm_obj.proofs.Places.{changed-is}
use Rattle.bm_obj.proofs.Told.{told-acquired}
use Rattle.bm_obj.proofs.one_world.OneWorldObjects.acquire.Goals as goal

pub overflow_add-count : goal.overflow_add-count
overflow_add-count c =
    let at = c.look_at.ensures in
    let room = (c.self.invariant.alive c.unit.result c.look_at.result.now at).room in
    omega arith

pub invariant_of-self : goal.invariant_of-self
invariant_of-self c =
    let i = c.self.inside in
    let r = c.args.r.now in
    let has = subst (λ (w : World). Has r (known_of w)) (sym c.self.view_is) c.requires.has in
    let counted = subst (λ (w : World). (type_at w.defs r.def).counted ≡ true) (sym c.self.view_is) c.requires.counted in
    let f = finds i.places.items i.words.items r has in
    let at : object_at i.places.items r.unit ≡ Some c.look_at.result.now = rw (← c.unit.ensures) c.look_at.ensures in
    let fat = f.at in
    let same : f.object ≡ c.look_at.result.now = cc in
    let more = f.more in
    let count : f.object.count ≡ c.look_at.result.now.count = ap (λ (o : Object). o.count) same in
    let was = (c.self.invariant.alive r.unit f.object f.at).room in
    let some = subst (λ (w : World). 0 < w.acquires) (sym c.self.view_is) c.requires.room in
    rw (c.set_count.ensures, c.unit-2.ensures)
    (kept-counted i.places.items i.words.items i.slots.items i.graphs.types i.defs.items i.acquires (i.acquires - 1) r f (c.look_at.result.now.count + 1) c.self.invariant (omega arith) (omega arith) (omega arith) (λ h. omega arith) (λ h. absurd (cc)) (omega arith))

pub returns-clause-known : goal.returns-clause-known
returns-clause-known c =
    let i = c.self.inside in
    let r = c.args.r.now in
    let w : World = record { places = i.places.items; words = i.words.items; slots = i.slots.items; graphs = i.graphs.types; defs = i.defs.items; processor = i.processor; acquires = i.acquires; waits = i.graphs.waits; last = i.last } in
    let has = subst (λ (w : World). Has r (known_of w)) (sym c.self.view_is) c.requires.has in
    let f = finds i.places.items i.words.items r has in
    let at : object_at i.places.items r.unit ≡ Some c.look_at.result.now = rw (← c.unit.ensures) c.look_at.ensures in
    let fat = f.at in
    let same : c.look_at.result.now ≡ f.object = cc in
    let set_is = rw (c.unit-2.ensures, same, changed-is i.places.items r.unit (with_count (f.object.count + 1)) f.object f.at) at c.set_count.ensures in
    let places : c.set_count.new.places.items ≡ changed r.unit (λ (o : Object). with_count (o.count + 1) o) i.places.items = set_is ∙ sym (changed-is i.places.items r.unit (λ (o : Object). with_count (o.count + 1) o) f.object f.at) in
    rw (← c.self.view_is) (ap (λ ps. known_of (record w { places = ps; acquires = i.acquires - 1 })) places ∙ told-acquired w r f.object f.at f.is f.more)
