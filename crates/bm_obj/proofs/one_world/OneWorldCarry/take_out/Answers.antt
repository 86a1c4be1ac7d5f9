use Rattle.std.proofs.Common.{◌≡◌, ◌-◌, ◌∙◌, Some, sym, subst, ap}
use Rattle.bm_obj.specs.Carrying.{IsCarried}
use Rattle.bm_obj.specs.NoteShows.{item_in}
use Rattle.bm_obj.specs.Notes.{Carried}
use Rattle.bm_obj.specs.Table.{changed, object_at, with_noted}
use Rattle.bm_obj.specs.WorldState.{World, known_of, still_carried}
use Rattle.bm_obj.specs.declared.object.Object.{Object}
use Rattle.bm_obj.proofs.Alive.{if-some, some-if}
use Rattle.bm_obj.proofs.Calls.{finds-noted, kept-taken, noted-owner, owner-of}
use Rattle.bm_obj.proofs.Places.{changed-is}
use Rattle.bm_obj.proofs.Told.{told-taken}
use Rattle.bm_obj.proofs.one_world.OneWorldCarry.take_out.Goals as goal

pub invariant_of-self : goal.invariant_of-self
invariant_of-self c =
    let i = c.self.inside in
    let n : Carried = record { to = c.item_of-r.result.0; claim = c.item_of-r.result.1 } in
    let carried = subst (λ (w : World). IsCarried n (known_of w)) (sym c.self.view_is) (if-some (item_in c.args.n) (λ k. IsCarried k (known_of c.args.self.now)) c.requires.carried n c.item_of-r.ensures) in
    let f = finds-noted i.places.items n carried in
    let at : object_at i.places.items n.to.unit ≡ Some c.look_at-object.result.now = rw (← c.unit.ensures) c.look_at-object.ensures in
    let fat = f.at in
    let same : c.look_at-object.result.now ≡ f.object = cc in
    rw (c.set_noted.ensures, c.unit-2.ensures, c.still_carried-carried.ensures, same)
    (kept-taken i.places.items i.words.items i.slots.items i.graphs.types i.defs.items i.acquires n f c.self.invariant)

pub returns-clause-of_type : goal.returns-clause-of_type
returns-clause-of_type c =
    let i = c.self.inside in
    let n : Carried = record { to = c.item_of-r.result.0; claim = c.item_of-r.result.1 } in
    let carried = subst (λ (w : World). IsCarried n (known_of w)) (sym c.self.view_is) (if-some (item_in c.args.n) (λ k. IsCarried k (known_of c.args.self.now)) c.requires.carried n c.item_of-r.ensures) in
    let f = finds-noted i.places.items n carried in
    rw (c.item_of-r.ensures, ← c.self.view_is) (some-if _ _ (λ g e. owner-of i.places.items i.words.items i.slots.items i.graphs.types i.defs.items i.acquires n.to f.object g c.self.invariant f.at f.is (noted-owner n f.object f.claim g e)))

pub returns-clause-known : goal.returns-clause-known
returns-clause-known c =
    let i = c.self.inside in
    let w : World = record { places = i.places.items; words = i.words.items; slots = i.slots.items; graphs = i.graphs.types; defs = i.defs.items; processor = i.processor; acquires = i.acquires; waits = i.graphs.waits; last = i.last } in
    let n : Carried = record { to = c.item_of-r.result.0; claim = c.item_of-r.result.1 } in
    let carried = subst (λ (w : World). IsCarried n (known_of w)) (sym c.self.view_is) (if-some (item_in c.args.n) (λ k. IsCarried k (known_of c.args.self.now)) c.requires.carried n c.item_of-r.ensures) in
    let f = finds-noted i.places.items n carried in
    let at : object_at i.places.items n.to.unit ≡ Some c.look_at-object.result.now = rw (← c.unit.ensures) c.look_at-object.ensures in
    let fat = f.at in
    let same : c.look_at-object.result.now ≡ f.object = cc in
    let set_is = rw (c.unit-2.ensures, c.still_carried-carried.ensures, same, changed-is i.places.items n.to.unit (with_noted (f.object.noted - 1) (still_carried n.claim f.object.carried)) f.object f.at) at c.set_noted.ensures in
    let places : c.set_noted.new.places.items ≡ changed n.to.unit (λ (o : Object). with_noted (o.noted - 1) (still_carried n.claim o.carried) o) i.places.items = set_is ∙ sym (changed-is i.places.items n.to.unit (λ (o : Object). with_noted (o.noted - 1) (still_carried n.claim o.carried) o) f.object f.at) in
    let most = (c.self.invariant.alive n.to.unit f.object f.at).slots in
    rw (c.item_of-r.ensures, ← c.self.view_is) (ap (λ ps. known_of (record w { places = ps })) places ∙ told-taken w n f.object f.at f.is f.some most (noted-owner n f.object f.claim))
