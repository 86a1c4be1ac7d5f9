use Rattle.std.proofs.Common.{◌∙◌, Some, ap, true, arith, ◌≡◌, ◌+◌, ◌<◌, ◌^◌, length, refl, set, subst, sym}
use Rattle.bm_post.specs.HasRoom.{room-of}
use Rattle.bm_world.specs.LivingState.{LivingState, living_of, may_be_used, with_begun, next_life, rights_living}
use Rattle.bm_world.proofs.Alive.{begun-gone, counted, has-room, lives-as, lives-so, living-begun, waited}
use Rattle.bm_world.proofs.Left.{stands-so}
use Rattle.bm_world.specs.Standings.{standing_at}
use Rattle.bm_world.specs.declared.standing.Standing.TheVariants.{Nothing}
use Rattle.std.proofs.lemmas.List.{get_or-set_same}
use Rattle.bm_world.proofs.KnownLiving.{begun-others, known-begun}
use Rattle.bm_world.proofs.SlotLemmas.{no-object, object-same}
use Rattle.bm_world.specs.Slots.{new_object, object_at}
use Rattle.bm_world.proofs.LivingDid.{does-make}
use Rattle.bm_world.proofs.Alive.{lives-not}
use Rattle.bm_world.proofs.Shelving.{nothing-there, shelved-begun}
use Rattle.bm_world.proofs.living.LivingSideLives.begin_life.Goals as goal

pub invariant_of-self : goal.invariant_of-self
invariant_of-self c =
    let i = c.self.inside in
    let u = c.args.unit in
    let mine = subst (λ (s : LivingState). (rights_living s).mine u.number ≡ true) (sym c.self.view_is) c.requires.mine in
    let used = subst (λ (s : LivingState). may_be_used s.begun s.standings u.number u.life u.seal ≡ true) (sym c.self.view_is) c.requires.settled in
    let settled = lives-so i.begun.counts.items i.standings.standings.items u.number u.life u.seal used in
    let home = subst (λ k. u.home < k) (sym c.processors_agree.ensures) (subst (λ (s : LivingState). u.home < s.side.grace.processors) (sym c.self.view_is) c.requires.home) in
    let room = subst (λ (s : LivingState). s.asked + 1 < 2 ^ 31) (sym c.self.view_is) c.requires.room in
    let number = (room-of u.number u.life u.seal (has-room i.begun.counts.items u.number u.life settled)).0 in
    let size = c.self.invariant.0.size in
    let there : u.number < length i.slots.slots.items = omega (arith, number, size) in
    let none = lives-not i.side.grace.plain.number i.side.grace.tracing.number i.standings.standings.items i.side.post i.slots.slots.items i.begun.counts.items u.number mine in
    let put = rw c.begin_life.ensures at c.put.ensures in
    let said = rw c.begin_life.ensures at (rw c.life.ensures at (rw c.number.ensures at c.set.ensures)) in
    let stood = rw c.begin_life.ensures at (rw c.number.ensures at c.set-2.ensures.standings) in
    (rw (put, said, stood) (living-begun i.side.post i.side.grace.plain.number i.side.grace.tracing.number i.slots.slots.items i.begun.counts.items i.standings.standings.items i.asked c.args.type_number c.args.values u room mine settled home c.self.invariant.0), ap length c.set-2.ensures.before ∙ c.self.invariant.1, rw put (shelved-begun i.slots.slots.items i.graphs c.args.type_number c.args.values u none there c.self.invariant.2))

pub returns-clause-next : goal.returns-clause-next
returns-clause-next c =
    let i = c.self.inside in
    let u = c.args.unit in
    let used = subst (λ (s : LivingState). may_be_used s.begun s.standings u.number u.life u.seal ≡ true) (sym c.self.view_is) c.requires.settled in
    let settled = lives-so i.begun.counts.items i.standings.standings.items u.number u.life u.seal used in
    rw (← c.self.view_is) (lives-as i.begun.counts.items u.number u.life settled)

pub returns-clause-gone : goal.returns-clause-gone
returns-clause-gone c =
    let i = c.self.inside in
    let u = c.args.unit in
    let used = subst (λ (s : LivingState). may_be_used s.begun s.standings u.number u.life u.seal ≡ true) (sym c.self.view_is) c.requires.settled in
    let settled = lives-so i.begun.counts.items i.standings.standings.items u.number u.life u.seal used in
    let number = (room-of u.number u.life u.seal (has-room i.begun.counts.items u.number u.life settled)).0 in
    let size = c.self.invariant.0.size in
    let there : u.number < length i.slots.slots.items = omega (arith, number, size) in
    let put = rw c.begin_life.ensures at c.put.ensures in
    let said = rw c.begin_life.ensures at (rw c.life.ensures at (rw c.number.ensures at c.set.ensures)) in
    let stood = rw c.begin_life.ensures at (rw c.number.ensures at c.set-2.ensures.standings) in
    rw (← c.self.view_is, put, said, stood) (begun-gone i.side.post i.side.grace.plain.number i.side.grace.tracing.number i.slots.slots.items i.begun.counts.items (set i.begun.counts.items u.number (u.life + 1)) i.standings.standings.items (set i.standings.standings.items u.number Nothing) u.number (new_object c.args.type_number c.args.values (next_life u)) there)

pub returns-clause-does : goal.returns-clause-does
returns-clause-does c h =
    let i = c.self.inside in
    let u = c.args.unit in
    let a : LivingState = record { side = i.side; slots = i.slots.slots.items; begun = i.begun.counts.items; standings = i.standings.standings.items; asked = i.asked; contents = i.contents; graphs = i.graphs } in
    let mine = subst (λ (s : LivingState). (rights_living s).mine u.number ≡ true) (sym c.self.view_is) c.requires.mine in
    let used = subst (λ (s : LivingState). may_be_used s.begun s.standings u.number u.life u.seal ≡ true) (sym c.self.view_is) c.requires.settled in
    let settled = lives-so i.begun.counts.items i.standings.standings.items u.number u.life u.seal used in
    let number = (room-of u.number u.life u.seal (has-room i.begun.counts.items u.number u.life settled)).0 in
    let size = c.self.invariant.0.size in
    let sizes = c.self.invariant.0.counts in
    let there : u.number < length i.slots.slots.items = omega (arith, number, size) in
    let counts : u.number < length i.begun.counts.items = omega (arith, number, sizes) in
    let all = c.self.invariant.0.standing.size in
    let stands : u.number < length i.standings.standings.items = omega (arith, number, all) in
    let put = rw c.begin_life.ensures at c.put.ensures in
    let said = rw c.begin_life.ensures at (rw c.life.ensures at (rw c.number.ensures at c.set.ensures)) in
    let stood = rw c.begin_life.ensures at (rw c.number.ensures at c.set-2.ensures.standings) in
    let home = subst (λ (s : LivingState). u.home ≡ s.side.grace.processor) (sym c.self.view_is) h in
    let lives = lives-as i.begun.counts.items u.number u.life settled in
    rw (← c.self.view_is, put, said, stood) (does-make c.args.type_number c.args.values u a (with_begun c.args.type_number c.args.values u a) refl (stands-so (standing_at i.standings.standings.items u.number) u.seal (waited i.begun.counts.items i.standings.standings.items u.number u.life u.seal used)) (c.self.invariant.0.standing.timed u.number) stands (lives-not i.side.grace.plain.number i.side.grace.tracing.number i.standings.standings.items i.side.post i.slots.slots.items i.begun.counts.items u.number mine) lives (λ n. counted i.begun.counts.items u.number u.life n counts lives) there home)

pub returns-clause-none : goal.returns-clause-none
returns-clause-none c =
    let i = c.self.inside in
    let mine = subst (λ (s : LivingState). (rights_living s).mine c.args.unit.number ≡ true) (sym c.self.view_is) c.requires.mine in
    rw (← c.self.view_is) (ap living_of (no-object (object_at i.slots.slots.items c.args.unit.number) (lives-not i.side.grace.plain.number i.side.grace.tracing.number i.standings.standings.items i.side.post i.slots.slots.items i.begun.counts.items c.args.unit.number mine)))

pub returns-clause-known : goal.returns-clause-known
returns-clause-known c =
    let i = c.self.inside in
    let u = c.args.unit in
    let a : LivingState = record { side = i.side; slots = i.slots.slots.items; begun = i.begun.counts.items; standings = i.standings.standings.items; asked = i.asked; contents = i.contents; graphs = i.graphs } in
    let used = subst (λ (s : LivingState). may_be_used s.begun s.standings u.number u.life u.seal ≡ true) (sym c.self.view_is) c.requires.settled in
    let settled = lives-so i.begun.counts.items i.standings.standings.items u.number u.life u.seal used in
    let number = (room-of u.number u.life u.seal (has-room i.begun.counts.items u.number u.life settled)).0 in
    let size = c.self.invariant.0.size in
    let sizes = c.self.invariant.0.counts in
    let there : u.number < length i.slots.slots.items = omega (arith, number, size) in
    let counts : u.number < length i.begun.counts.items = omega (arith, number, sizes) in
    let put = rw c.begin_life.ensures at c.put.ensures in
    let said = rw c.begin_life.ensures at (rw c.life.ensures at (rw c.number.ensures at c.set.ensures)) in
    rw (← c.self.view_is, put, said) (known-begun c.args.type_number c.args.values u a (object-same i.slots.slots.items u.number (Some (new_object c.args.type_number c.args.values (next_life u))) there) (get_or-set_same i.begun.counts.items u.number (u.life + 1) 0 counts))

pub returns-clause-others : goal.returns-clause-others
returns-clause-others c =
    let i = c.self.inside in
    let u = c.args.unit in
    let a : LivingState = record { side = i.side; slots = i.slots.slots.items; begun = i.begun.counts.items; standings = i.standings.standings.items; asked = i.asked; contents = i.contents; graphs = i.graphs } in
    let put = rw c.begin_life.ensures at c.put.ensures in
    let said = rw c.begin_life.ensures at (rw c.life.ensures at (rw c.number.ensures at c.set.ensures)) in
    let stood = rw c.begin_life.ensures at (rw c.number.ensures at c.set-2.ensures.standings) in
    rw (← c.self.view_is, put, said, stood) (begun-others c.args.type_number c.args.values u a)

pub returns-clause-alone : goal.returns-clause-alone
returns-clause-alone c =
    let i = c.self.inside in
    let mine = subst (λ (s : LivingState). (rights_living s).mine c.args.unit.number ≡ true) (sym c.self.view_is) c.requires.mine in
    rw (← c.self.view_is) (nothing-there i.slots.slots.items i.graphs c.args.unit.number (lives-not i.side.grace.plain.number i.side.grace.tracing.number i.standings.standings.items i.side.post i.slots.slots.items i.begun.counts.items c.args.unit.number mine) c.self.invariant.2)
