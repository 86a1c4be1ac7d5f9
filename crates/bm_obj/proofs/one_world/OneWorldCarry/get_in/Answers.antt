use Rattle.std.proofs.Common.{◌≡◌, ◌<◌, Some, length, sym, subst}
use Rattle.std.proofs.lemmas.Option.{slice_get-get_or}
use Rattle.bm_obj.specs.Carrying.{IsCarried}
use Rattle.bm_obj.specs.Known.{type_at}
use Rattle.bm_obj.specs.NoteShows.{item_in}
use Rattle.bm_obj.specs.Table.{object_at}
use Rattle.bm_obj.specs.WorldState.{World, known_of}
use Rattle.bm_obj.proofs.Alive.{if-some, some-value}
use Rattle.bm_obj.proofs.Calls.{fields-of, finds-noted}
use Rattle.bm_obj.proofs.one_world.OneWorldCarry.get_in.Goals as goal

pub bounds-as_slice-field : goal.bounds-as_slice-field
bounds-as_slice-field c =
    let i = c.self.inside in
    let v = some-value (item_in c.args.n.now) c.requires.item in
    let n = v.0 in
    let carried = subst (λ (w : World). IsCarried n (known_of w)) (sym c.self.view_is) (if-some (item_in c.args.n.now) (λ k. IsCarried k (known_of c.args.self.now)) c.requires.carried n v.1) in
    let f = finds-noted i.places.items n carried in
    let unit : n.to.unit ≡ c.noted_unit-unit.result = (let h = rw (v.1) at c.noted_unit-unit.ensures in cc) in
    let at : object_at i.places.items n.to.unit ≡ Some c.look_at.result.now = rw unit c.look_at.ensures in
    let fat = f.at in
    let same : f.object ≡ c.look_at.result.now = cc in
    let count = fields-of i.places.items i.words.items i.slots.items i.graphs.types i.defs.items i.acquires n.to f.object c.self.invariant f.at f.is in
    let field = subst (λ (w : World). c.args.field < (type_at w.defs n.to.def).fields) (sym c.self.view_is) (if-some (item_in c.args.n.now) (λ k. c.args.field < (type_at c.args.self.now.defs k.to.def).fields) c.requires.field n v.1) in
    rw (c.as_slice.ensures, ← same, count) field

pub returns-clause-value : goal.returns-clause-value
returns-clause-value c =
    let i = c.self.inside in
    let v = some-value (item_in c.args.n.now) c.requires.item in
    let n = v.0 in
    let carried = subst (λ (w : World). IsCarried n (known_of w)) (sym c.self.view_is) (if-some (item_in c.args.n.now) (λ k. IsCarried k (known_of c.args.self.now)) c.requires.carried n v.1) in
    let f = finds-noted i.places.items n carried in
    let unit : n.to.unit ≡ c.noted_unit-unit.result = (let h = rw (v.1) at c.noted_unit-unit.ensures in cc) in
    let at : object_at i.places.items n.to.unit ≡ Some c.look_at.result.now = rw unit c.look_at.ensures in
    let fat = f.at in
    let same : f.object ≡ c.look_at.result.now = cc in
    let count = fields-of i.places.items i.words.items i.slots.items i.graphs.types i.defs.items i.acquires n.to f.object c.self.invariant f.at f.is in
    let field = subst (λ (w : World). c.args.field < (type_at w.defs n.to.def).fields) (sym c.self.view_is) (if-some (item_in c.args.n.now) (λ k. c.args.field < (type_at c.args.self.now.defs k.to.def).fields) c.requires.field n v.1) in
    let inside : c.args.field < length c.look_at.result.now.values = rw (← same, count) field in
    rw (v.1, ← c.self.view_is, at, c.as_slice.ensures) (slice_get-get_or c.look_at.result.now.values c.args.field 0 inside)
