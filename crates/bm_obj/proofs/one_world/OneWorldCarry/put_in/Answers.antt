use Rattle.std.proofs.Common.{◌≡◌, ◌+◌, ◌∙◌, Some, sym, subst, ap, arith}
use Rattle.std.specs.Prelude.{is_some}
use Rattle.bm_obj.specs.Known.{Has}
use Rattle.bm_obj.specs.Table.{changed, object_at, with_noted}
use Rattle.bm_obj.specs.WorldState.{World, known_of}
use Rattle.bm_obj.specs.declared.object.Object.{Object}
use Rattle.bm_obj.proofs.Alive.{claim-held, finds, some-if}
use Rattle.bm_obj.proofs.Calls.{kept-put, owner-of}
use Rattle.bm_obj.proofs.Places.{changed-is}
use Rattle.bm_obj.proofs.Told.{told-put}
use Rattle.bm_obj.proofs.one_world.OneWorldCarry.put_in.Goals as goal

pub overflow_add-noted : goal.overflow_add-noted
overflow_add-noted c =
    let i = c.self.inside in
    let at = c.look_at-object.ensures in
    let was = c.self.invariant.alive c.unit.result c.look_at-object.result.now at in
    let room = was.room in
    let most = was.slots in
    omega arith

pub invariant_of-self : goal.invariant_of-self
invariant_of-self c =
    let i = c.self.inside in
    let r = c.args.r in
    let has = subst (λ (w : World). Has r (known_of w)) (sym c.self.view_is) c.requires.has in
    let f = finds i.places.items i.words.items r has in
    let at : object_at i.places.items r.unit ≡ Some c.look_at-object.result.now = rw (← c.unit.ensures) c.look_at-object.ensures in
    let fat = f.at in
    let same : c.look_at-object.result.now ≡ f.object = cc in
    rw (c.set_noted.ensures, c.unit-2.ensures, c.is_some-carried.ensures, same)
    (kept-put i.places.items i.words.items i.slots.items i.graphs.types i.defs.items i.acquires r f c.self.invariant)

pub returns-clause-of_type : goal.returns-clause-of_type
returns-clause-of_type c =
    let i = c.self.inside in
    let r = c.args.r in
    let has = subst (λ (w : World). Has r (known_of w)) (sym c.self.view_is) c.requires.has in
    let f = finds i.places.items i.words.items r has in
    rw (← c.self.view_is, f.at) (some-if _ _ (λ g e. owner-of i.places.items i.words.items i.slots.items i.graphs.types i.defs.items i.acquires r f.object g c.self.invariant f.at f.is (claim-held f.object g e).1))

pub returns-clause-known : goal.returns-clause-known
returns-clause-known c =
    let i = c.self.inside in
    let r = c.args.r in
    let w : World = record { places = i.places.items; words = i.words.items; slots = i.slots.items; graphs = i.graphs.types; defs = i.defs.items; processor = i.processor; acquires = i.acquires; waits = i.graphs.waits; last = i.last } in
    let has = subst (λ (w : World). Has r (known_of w)) (sym c.self.view_is) c.requires.has in
    let f = finds i.places.items i.words.items r has in
    let at : object_at i.places.items r.unit ≡ Some c.look_at-object.result.now = rw (← c.unit.ensures) c.look_at-object.ensures in
    let fat = f.at in
    let same : c.look_at-object.result.now ≡ f.object = cc in
    let set_is = rw (c.unit-2.ensures, c.is_some-carried.ensures, same, changed-is i.places.items r.unit (with_noted (f.object.noted + 1) (is_some f.object.owner)) f.object f.at) at c.set_noted.ensures in
    let places : c.set_noted.new.places.items ≡ changed r.unit (λ (o : Object). with_noted (o.noted + 1) (is_some o.owner) o) i.places.items = set_is ∙ sym (changed-is i.places.items r.unit (λ (o : Object). with_noted (o.noted + 1) (is_some o.owner) o) f.object f.at) in
    let owned = (c.self.invariant.alive r.unit f.object f.at).noted in
    rw (← c.self.view_is) (ap (λ ps. known_of (record w { places = ps })) places ∙ told-put w r f.object f.at f.is f.more (λ h. (owned h).1))
