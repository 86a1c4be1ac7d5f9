use Rattle.std.proofs.Common.{◌≡◌, ◌∙◌, ℕ, Option, None, Some, sym, subst, ap}
use Rattle.std.specs.Prelude.{is_some, true}
use Rattle.bm_obj.specs.Known.{Has, Known, at_unit, told_unclaimed, waits_unclaimed}
use Rattle.bm_obj.specs.Reference.{id_of}
use Rattle.bm_obj.specs.Table.{changed, object_at, with_owner}
use Rattle.bm_obj.specs.Waits.{ended}
use Rattle.bm_obj.specs.WorldState.{World, claim_in, known_of}
use Rattle.bm_obj.proofs.Alive.{claim-held, claim-free, finds, some-value}
use Rattle.bm_obj.proofs.Calls.{kept-owner}
use Rattle.bm_obj.proofs.Told.{told-ended-claim, told-owner}
use Rattle.bm_obj.proofs.one_world.OneWorldObjects.unclaim.Goals as goal

pub invariant_of-self : goal.invariant_of-self
invariant_of-self c =
    let i = c.self.inside in
    let r = c.args.r.now in
    let has = subst (λ (w : World). Has r (known_of w)) (sym c.self.view_is) c.requires.has in
    let f = finds i.places.items i.words.items r has in
    let claimed = subst (λ (w : World). is_some ((known_of w).claims r.unit) ≡ true) (sym c.self.view_is) c.requires.claimed in
    let v = some-value (claim_in (Some f.object)) (rw f.at at claimed) in
    let free = (claim-held f.object v.0 v.1).0 in
    rw (c.unclaim.ensures.waits, c.set_owner.ensures, c.unit-2.ensures)
    (kept-owner i.places.items i.words.items i.slots.items i.graphs.types i.defs.items i.acquires r f None c.self.invariant free (λ g e. absurd (cc)))

pub returns-clause-known : goal.returns-clause-known
returns-clause-known c =
    let i = c.self.inside in
    let r = c.args.r.now in
    let w : World = record { places = i.places.items; words = i.words.items; slots = i.slots.items; graphs = i.graphs.types; defs = i.defs.items; processor = i.processor; acquires = i.acquires; waits = i.graphs.waits; last = i.last } in
    let has = subst (λ (w : World). Has r (known_of w)) (sym c.self.view_is) c.requires.has in
    let f = finds i.places.items i.words.items r has in
    let at : object_at i.places.items r.unit ≡ Some c.look_at.result.now = rw (← c.unit.ensures) c.look_at.ensures in
    let fat = f.at in
    let same : c.look_at.result.now ≡ f.object = cc in
    let claimed = subst (λ (w : World). is_some ((known_of w).claims r.unit) ≡ true) (sym c.self.view_is) c.requires.claimed in
    let v = some-value (claim_in (Some f.object)) (rw f.at at claimed) in
    let free = (claim-held f.object v.0 v.1).0 in
    let owner : f.object.owner ≡ claim_in (Some f.object) = sym (claim-free f.object free) in
    let places = rw c.unit-2.ensures at c.set_owner.ensures in
    let inside = c.unclaim.ensures.inside in
    let w2 : World = record w { waits = ended (id_of r) f.object.owner w.waits } in
    let waits = told-ended-claim w (id_of r) f.object.owner (rw (← same) inside) in
    let all : known_of (record w2 { places = changed r.unit (with_owner None) w.places }) ≡ record (known_of w) { claims = at_unit r.unit None (known_of w).claims; waits = waits_unclaimed (id_of r) f.object.owner (known_of w).waits } = told-owner w2 r f.object None f.at free ∙ ap (λ (k : Known). record k { claims = at_unit r.unit None (known_of w).claims }) waits in
    let told : record (known_of w) { claims = at_unit r.unit None (known_of w).claims; waits = waits_unclaimed (id_of r) f.object.owner (known_of w).waits } ≡ told_unclaimed r (known_of w) = ap (λ (o : Option ℕ). record (known_of w) { claims = at_unit r.unit None (known_of w).claims; waits = waits_unclaimed (id_of r) o (known_of w).waits }) (owner ∙ ap claim_in (sym f.at)) in
    rw (← c.self.view_is, c.unclaim.ensures.waits, c.id.ensures, same) (ap (λ ps. known_of (record w2 { places = ps })) places ∙ (all ∙ told))
