use Rattle.std.proofs.Common.{◌≡◌, ◌-◌, ◌∙◌, Some, sym, subst, ap, arith}
use Rattle.std.specs.Prelude.{false}
use Rattle.bm_obj.specs.Known.{Has, MayGo, type_at}
use Rattle.bm_obj.specs.Reference.{Reference}
use Rattle.bm_obj.specs.Table.{object_at}
use Rattle.bm_obj.specs.WorldState.{World, claim_in, known_of}
use Rattle.bm_obj.specs.declared.object.Object.{Object}
use Rattle.bm_obj.proofs.Alive.{finds, free-of-notes, had-is, last-free, may-go, no-notes, unit-of}
use Rattle.bm_obj.proofs.Calls.{kept-counted, kept-ended}
use Rattle.bm_obj.proofs.Told.{told-ended, told-fewer}
use Rattle.bm_obj.proofs.one_world.OneWorldObjects.release.Goals as goal

pub invariant_of-self : goal.invariant_of-self
invariant_of-self c =
    let i = c.self.inside in
    let r = c.args.r in
    let has = subst (λ (w : World). Has r (known_of w)) (sym c.self.view_is) c.requires.has in
    let f = finds i.places.items i.words.items r has in
    let keeps = subst (λ (w : World). MayGo r (known_of w)) (sym c.self.view_is) c.requires.keeps in
    let at : object_at i.places.items r.unit ≡ Some c.look_at.result.now = rw (← c.unit-unit.ensures) c.look_at.ensures in
    let fat = f.at in
    let same : f.object ≡ c.look_at.result.now = cc in
    let more = f.more in
    let above = c.if-count-gt1.true in
    let count : f.object.count ≡ c.look_at.result.now.count = ap (λ (o : Object). o.count) same in
    let was = c.self.invariant.alive r.unit f.object f.at in
    let room = was.room in
    let def : f.object.def ≡ r.def = ap (λ (q : Reference). q.def) f.is in
    rw (c.set_count.ensures, c.unit-unit.ensures)
    (kept-counted i.places.items i.words.items i.slots.items i.graphs.types i.defs.items i.acquires i.acquires r f (c.look_at.result.now.count - 1) c.self.invariant (omega arith) (omega arith) (omega arith)
    (λ h. (let k = may-go i.places.items i.words.items r f keeps h in omega arith))
    (λ h. (let one = was.single (rw def h) in absurd (omega arith)))
    (omega arith))

pub returns-then-count-gt1-clause-single : goal.returns-then-count-gt1-clause-single
returns-then-count-gt1-clause-single c h =
    let i = c.self.inside in
    let r = c.args.r in
    let has = subst (λ (w : World). Has r (known_of w)) (sym c.self.view_is) c.requires.has in
    let f = finds i.places.items i.words.items r has in
    let at : object_at i.places.items r.unit ≡ Some c.look_at.result.now = rw (← c.unit-unit.ensures) c.look_at.ensures in
    let fat = f.at in
    let same : f.object ≡ c.look_at.result.now = cc in
    let above = c.if-count-gt1.true in
    let count : f.object.count ≡ c.look_at.result.now.count = ap (λ (o : Object). o.count) same in
    let was = c.self.invariant.alive r.unit f.object f.at in
    let def : f.object.def ≡ r.def = ap (λ (q : Reference). q.def) f.is in
    let uncounted = subst (λ (w : World). (type_at w.defs r.def).counted ≡ false) (sym c.self.view_is) h in
    let one = was.single (rw def uncounted) in
    omega arith

pub returns-then-count-gt1-clause-known : goal.returns-then-count-gt1-clause-known
returns-then-count-gt1-clause-known c =
    let i = c.self.inside in
    let r = c.args.r in
    let w : World = record { places = i.places.items; words = i.words.items; slots = i.slots.items; graphs = i.graphs.types; defs = i.defs.items; processor = i.processor; acquires = i.acquires; waits = i.graphs.waits; last = i.last } in
    let has = subst (λ (w : World). Has r (known_of w)) (sym c.self.view_is) c.requires.has in
    let f = finds i.places.items i.words.items r has in
    let at : object_at i.places.items r.unit ≡ Some c.look_at.result.now = rw (← c.unit-unit.ensures) c.look_at.ensures in
    let fat = f.at in
    let same : f.object ≡ c.look_at.result.now = cc in
    let above = c.if-count-gt1.true in
    let count : f.object.count ≡ c.look_at.result.now.count = ap (λ (o : Object). o.count) same in
    let places = rw c.unit-unit.ensures at c.set_count.ensures in
    rw (← c.self.view_is) (ap (λ ps. known_of (record w { places = ps })) places ∙ told-fewer w r f.object (c.look_at.result.now.count - 1) f.at f.is f.more (omega arith))

pub invariant_of-self-2 : goal.invariant_of-self-2
invariant_of-self-2 c =
    let i = c.self.inside in
    let r = c.args.r in
    let has = subst (λ (w : World). Has r (known_of w)) (sym c.self.view_is) c.requires.has in
    let f = finds i.places.items i.words.items r has in
    let at : object_at i.places.items r.unit ≡ Some c.look_at.result.now = rw (← c.unit-unit.ensures) c.look_at.ensures in
    let fat = f.at in
    let same : f.object ≡ c.look_at.result.now = cc in
    let below = c.if-count-gt1.false in
    let count : f.object.count ≡ c.look_at.result.now.count = ap (λ (o : Object). o.count) same in
    rw (c.take_object.ensures.free, c.unit-unit.ensures) (kept-ended i.places.items i.words.items i.slots.items i.graphs.types i.defs.items i.acquires r f c.life-life.result (omega arith) c.self.invariant)

pub returns-clause-unit : goal.returns-clause-unit
returns-clause-unit c =
    let i = c.self.inside in
    let r = c.args.r in
    let has = subst (λ (w : World). Has r (known_of w)) (sym c.self.view_is) c.requires.has in
    let f = finds i.places.items i.words.items r has in
    let at : object_at i.places.items r.unit ≡ Some c.take_object.result = rw (← c.unit-unit.ensures) c.take_object.ensures.object in
    let fat = f.at in
    let same : f.object ≡ c.take_object.result = cc in
    rw (← c.self.view_is, c.into_unit.ensures, ← same) (unit-of i.graphs.types i.defs.items i.words.items i.acquires r f.object (c.self.invariant.alive r.unit f.object f.at) f.is)

pub returns-clause-known : goal.returns-clause-known
returns-clause-known c =
    let i = c.self.inside in
    let r = c.args.r in
    let w : World = record { places = i.places.items; words = i.words.items; slots = i.slots.items; graphs = i.graphs.types; defs = i.defs.items; processor = i.processor; acquires = i.acquires; waits = i.graphs.waits; last = i.last } in
    let has = subst (λ (w : World). Has r (known_of w)) (sym c.self.view_is) c.requires.has in
    let f = finds i.places.items i.words.items r has in
    let keeps = subst (λ (w : World). MayGo r (known_of w)) (sym c.self.view_is) c.requires.keeps in
    let at : object_at i.places.items r.unit ≡ Some c.look_at.result.now = rw (← c.unit-unit.ensures) c.look_at.ensures in
    let fat = f.at in
    let same : f.object ≡ c.look_at.result.now = cc in
    let more = f.more in
    let below = c.if-count-gt1.false in
    let count : f.object.count ≡ c.look_at.result.now.count = ap (λ (o : Object). o.count) same in
    let places = rw (c.unit-unit.ensures, c.life-life.ensures) at c.take_object.ensures.free in
    let free = last-free (claim_in (Some f.object)) (λ h. (let k = may-go i.places.items i.words.items r f keeps h in omega arith)) in
    let none : f.object.noted ≡ 0 = omega arith in
    let carried = free-of-notes i.graphs.types i.defs.items i.words.items i.acquires r.unit f.object (c.self.invariant.alive r.unit f.object f.at) none in
    let empty = no-notes f.object none carried in
    rw (← c.self.view_is) (ap (λ ps. known_of (record w { places = ps })) places ∙ told-ended w r f.object f.at f.is f.more (omega arith) free empty)

pub returns-then-count-gt1-clause-seen : goal.returns-then-count-gt1-clause-seen
returns-then-count-gt1-clause-seen c =
    let i = c.self.inside in
    let r = c.args.r in
    let has = subst (λ (w : World). Has r (known_of w)) (sym c.self.view_is) c.requires.has in
    let f = finds i.places.items i.words.items r has in
    let at : object_at i.places.items r.unit ≡ Some c.look_at.result.now = rw (← c.unit-unit.ensures) c.look_at.ensures in
    let fat = f.at in
    let same : f.object ≡ c.look_at.result.now = cc in
    let count : f.object.count ≡ c.look_at.result.now.count = ap (λ (o : Object). o.count) same in
    let had = had-is i.places.items i.words.items r f in
    let more = f.more in
    let above = c.if-count-gt1.true in
    rw (← c.self.view_is) (above, omega arith)

pub returns-clause-seen : goal.returns-clause-seen
returns-clause-seen c =
    let i = c.self.inside in
    let r = c.args.r in
    let has = subst (λ (w : World). Has r (known_of w)) (sym c.self.view_is) c.requires.has in
    let f = finds i.places.items i.words.items r has in
    let at : object_at i.places.items r.unit ≡ Some c.look_at.result.now = rw (← c.unit-unit.ensures) c.look_at.ensures in
    let fat = f.at in
    let same : f.object ≡ c.look_at.result.now = cc in
    let count : f.object.count ≡ c.look_at.result.now.count = ap (λ (o : Object). o.count) same in
    let had = had-is i.places.items i.words.items r f in
    let more = f.more in
    let below = c.if-count-gt1.false in
    rw (← c.self.view_is) (had ∙ omega arith)
