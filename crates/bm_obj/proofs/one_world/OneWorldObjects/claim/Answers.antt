use Rattle.std.proofs.Common.{◌≡◌, ◌<◌, ◌∙◌, None, Some, length, set, sym, subst, ap, arith}
use Rattle.std.specs.Prelude.{false, slice_index}
use Rattle.bm_obj.specs.Known.{Has, IsGraphOf, Known, at_unit, type_at}
use Rattle.bm_obj.specs.Reference.{Reference, id_of}
use Rattle.bm_obj.specs.Table.{object_at}
use Rattle.bm_obj.specs.Waits.{after_claim, waiting_at}
use Rattle.bm_obj.specs.WorldState.{World, claim_in, known_of}
use Rattle.bm_obj.proofs.Alive.{claim-free, finds, free-of-claims, free-of-notes}
use Rattle.bm_obj.proofs.Calls.{kept-owner, owner-type}
use Rattle.bm_obj.proofs.Told.{told-owner, told-waits}
use Rattle.bm_obj.proofs.one_world.OneWorldObjects.claim.Goals as goal

pub invariant_of-self : goal.invariant_of-self
invariant_of-self c =
    let i = c.self.inside in
    let r = c.args.r.now in
    let has = subst (λ (w : World). Has r (known_of w)) (sym c.self.view_is) c.requires.has in
    let f = finds i.places.items i.words.items r has in
    let at : object_at i.places.items r.unit ≡ Some c.look_at.result.now = rw (← c.unit.ensures) c.look_at.ensures in
    let fat = f.at in
    let same : f.object ≡ c.look_at.result.now = cc in
    let none : f.object.owner ≡ None = rw same c.in-None.is in
    let inside = subst (λ (w : World). c.args.graph < length w.graphs) (sym c.self.view_is) c.requires.graph in
    let of_type = subst (λ (w : World). r.def ≡ slice_index w.graphs c.args.graph) (sym c.self.view_is) c.requires.of_type in
    let free = free-of-claims i.graphs.types i.defs.items i.words.items i.acquires r.unit f.object (c.self.invariant.alive r.unit f.object f.at) none in
    rw (c.claim.ensures.waits, c.set_owner.ensures, c.unit-in-None.ensures)
    (kept-owner i.places.items i.words.items i.slots.items i.graphs.types i.defs.items i.acquires r f (Some c.args.graph) c.self.invariant free (λ g e. (let same : c.args.graph ≡ g = cc in subst (λ k. IsGraphOf i.graphs.types r.def k) same (inside, of_type))))

pub returns-in-Some-clause-owner : goal.returns-in-Some-clause-owner
returns-in-Some-clause-owner c =
    let i = c.self.inside in
    let r = c.args.r.now in
    let has = subst (λ (w : World). Has r (known_of w)) (sym c.self.view_is) c.requires.has in
    let f = finds i.places.items i.words.items r has in
    let at : object_at i.places.items r.unit ≡ Some c.look_at.result.now = rw (← c.unit.ensures) c.look_at.ensures in
    rw (← c.self.view_is) (owner-type i.places.items i.words.items i.slots.items i.graphs.types i.defs.items i.acquires r c.look_at.result.now c.in-Some.owner c.self.invariant f at c.in-Some.is)

pub returns-in-Some-clause-single : goal.returns-in-Some-clause-single
returns-in-Some-clause-single c = λ single none.
    let i = c.self.inside in
    let r = c.args.r.now in
    let has = subst (λ (w : World). Has r (known_of w)) (sym c.self.view_is) c.requires.has in
    let f = finds i.places.items i.words.items r has in
    let at : object_at i.places.items r.unit ≡ Some c.look_at.result.now = rw (← c.unit.ensures) c.look_at.ensures in
    let fat = f.at in
    let same : f.object ≡ c.look_at.result.now = cc in
    let owned : f.object.owner ≡ Some c.in-Some.owner = rw same c.in-Some.is in
    let was = c.self.invariant.alive r.unit f.object f.at in
    let def : f.object.def ≡ r.def = ap (λ (q : Reference). q.def) f.is in
    let uncounted = subst (λ (w : World). (type_at w.defs r.def).counted ≡ false) (sym c.self.view_is) single in
    let one = was.single (rw def uncounted) in
    let more = f.more in
    let free = free-of-notes i.graphs.types i.defs.items i.words.items i.acquires r.unit f.object was (omega arith) in
    let claims = subst (λ (w : World). (known_of w).claims r.unit ≡ None) (sym c.self.view_is) none in
    let gone : claim_in (Some f.object) ≡ None = rw f.at at claims in
    let apart : Some c.in-Some.owner ≡ None = sym owned ∙ (sym (claim-free f.object free) ∙ gone) in
    absurd (cc)

pub returns-in-None-clause-known : goal.returns-in-None-clause-known
returns-in-None-clause-known c =
    let i = c.self.inside in
    let r = c.args.r.now in
    let w : World = record { places = i.places.items; words = i.words.items; slots = i.slots.items; graphs = i.graphs.types; defs = i.defs.items; processor = i.processor; acquires = i.acquires; waits = i.graphs.waits; last = i.last } in
    let has = subst (λ (w : World). Has r (known_of w)) (sym c.self.view_is) c.requires.has in
    let f = finds i.places.items i.words.items r has in
    let at : object_at i.places.items r.unit ≡ Some c.look_at.result.now = rw (← c.unit.ensures) c.look_at.ensures in
    let fat = f.at in
    let same : f.object ≡ c.look_at.result.now = cc in
    let none : f.object.owner ≡ None = rw same c.in-None.is in
    let free = free-of-claims i.graphs.types i.defs.items i.words.items i.acquires r.unit f.object (c.self.invariant.alive r.unit f.object f.at) none in
    let places = rw c.unit-in-None.ensures at c.set_owner.ensures in
    let waits = told-waits w c.args.graph (after_claim (id_of r) (waiting_at w.waits c.args.graph)) c.claim.ensures.inside in
    let w2 : World = record w { waits = set w.waits c.args.graph (after_claim (id_of r) (waiting_at w.waits c.args.graph)) } in
    rw (← c.self.view_is, c.claim.ensures.waits, c.id.ensures)
    (ap (λ ps. known_of (record w2 { places = ps })) places ∙ (told-owner w2 r f.object (Some c.args.graph) f.at free ∙ ap (λ (k : Known). record k { claims = at_unit r.unit (Some c.args.graph) (known_of w).claims }) waits))
