use Rattle.std.proofs.Common.{◌≡◌, ◌<◌, ◌∙◌, List, None, Option, Some, ap, arith, length, refl, subst, sym, ℕ}
use Rattle.bm_world.specs.LivingState.{LivingState, lives_of, living_of, standings_after, with_ended}
use Rattle.bm_world.proofs.Alive.{after-due, after-settled, after-undue, after-unsettled, ended-mine, living-ended}
use Rattle.bm_world.proofs.LivingDid.{does-end}
use Rattle.bm_world.proofs.KnownLiving.{ended-others, known-ended}
use Rattle.bm_world.proofs.SlotLemmas.{object-same, the-object, within}
use Rattle.bm_grace.specs.Known.{Living}
use Rattle.bm_law_order.specs.Lives.{Life}
use Rattle.bm_page.specs.UnitState.{UnitState}
use Rattle.bm_world.specs.Lives.{count_in, life_of_unit, type_in, values_in}
use Rattle.bm_world.specs.Slots.{object_at}
use Rattle.bm_world.specs.ToldLiving.{life_of}
use Rattle.bm_law_order.specs.Graphs.{standing_from}
use Rattle.bm_world.proofs.Shelving.{shelved-set}
use Rattle.bm_world.proofs.living.LivingSideLives.end_life.Goals as goal

pub invariant_of-self : goal.invariant_of-self
invariant_of-self c =
    let i = c.self.inside in
    (rw (c.take.ensures.empty, c.end_standing.ensures.standings, c.end_standing.ensures.side) (living-ended c.args.delayed i.side.post i.side.grace i.slots.slots.items i.begun.counts.items i.standings.standings.items i.asked c.args.number c.take.result c.take.ensures.unit c.self.invariant.0), ap length c.end_standing.ensures.before ∙ c.self.invariant.1, rw c.take.ensures.empty (shelved-set i.slots.slots.items i.graphs c.args.number None (within i.slots.slots.items c.args.number c.take.result c.take.ensures.unit) (sym (subst (λ (s : LivingState). standing_from 0 s.graphs c.args.number ≡ None) (sym c.self.view_is) c.requires.alone)) c.self.invariant.2))

pub returns-clause-mine : goal.returns-clause-mine
returns-clause-mine c =
    let i = c.self.inside in
    rw (← c.self.view_is, c.take.ensures.empty, c.end_standing.ensures.standings, c.end_standing.ensures.side) (ended-mine i.side.post i.side.grace.plain.number i.side.grace.tracing.number i.slots.slots.items i.begun.counts.items i.standings.standings.items (standings_after c.args.delayed c.args.number i.side.grace i.standings.standings.items) i.asked c.args.number c.take.result c.take.ensures.unit c.self.invariant.0)

pub returns-clause-home : goal.returns-clause-home
returns-clause-home c =
    let u = c.take.result in
    let h = c.self.invariant.0.home c.args.number u c.take.ensures.unit in
    rw (← c.self.view_is) (subst (λ k. u.home < k) c.processors_agree.ensures h)

pub returns-clause-unsealed : goal.returns-clause-unsealed
returns-clause-unsealed c = c.self.invariant.0.unsealed c.args.number c.take.result c.take.ensures.unit

pub returns-clause-room : goal.returns-clause-room
returns-clause-room c =
    let k = c.self.invariant.0 in
    let life = k.life c.args.number c.take.result c.take.ensures.unit in
    let most = k.most c.args.number in
    let few = k.few in
    omega (arith, life, most, few)

pub returns-clause-settled : goal.returns-clause-settled
returns-clause-settled c h =
    let i = c.self.inside in
    rw (c.end_standing.ensures.standings) (after-settled c.args.delayed i.side.post i.side.grace i.slots.slots.items i.begun.counts.items i.standings.standings.items i.asked c.args.number c.take.result h c.take.ensures.unit c.self.invariant.0)

pub returns-clause-undue : goal.returns-clause-undue
returns-clause-undue c h life seal =
    let i = c.self.inside in
    rw (c.end_standing.ensures.standings) (after-undue c.args.delayed i.side.post i.side.grace i.slots.slots.items i.begun.counts.items i.standings.standings.items i.asked c.args.number c.take.result h c.take.ensures.unit c.self.invariant.0 life)

pub returns-clause-due : goal.returns-clause-due
returns-clause-due c h =
    let i = c.self.inside in
    rw (c.end_standing.ensures.standings) (after-due c.args.delayed i.side.post i.side.grace i.slots.slots.items i.begun.counts.items i.standings.standings.items i.asked c.args.number c.take.result h c.take.ensures.unit c.self.invariant.0)

pub returns-clause-unsettled : goal.returns-clause-unsettled
returns-clause-unsettled c h life seal =
    let i = c.self.inside in
    rw (c.end_standing.ensures.standings) (after-unsettled c.args.delayed i.side.post i.side.grace i.slots.slots.items i.begun.counts.items i.standings.standings.items i.asked c.args.number c.take.result h c.take.ensures.unit c.self.invariant.0 life seal)

pub returns-clause-last : goal.returns-clause-last
returns-clause-last c = rw (← c.self.view_is) (c.self.invariant.0.life c.args.number c.take.result c.take.ensures.unit)

pub returns-clause-does : goal.returns-clause-does
returns-clause-does c =
    let i = c.self.inside in
    let n = c.args.number in
    let u = c.take.result in
    let a : LivingState = record { side = i.side; slots = i.slots.slots.items; begun = i.begun.counts.items; standings = i.standings.standings.items; asked = i.asked; contents = i.contents; graphs = i.graphs } in
    let inside = within i.slots.slots.items n u c.take.ensures.unit in
    let size = c.self.invariant.0.size in
    let stands = c.self.invariant.0.standing.size in
    let there : n < length i.standings.standings.items = omega (arith, inside, size, stands) in
    let o = the-object (object_at i.slots.slots.items n) u c.take.ensures.unit in
    let only : count_in (lives_of i.slots.slots.items n) ≡ 1 = subst (λ (s : LivingState). count_in (lives_of s.slots n) ≡ 1) (sym c.self.view_is) c.requires.only in
    let one : o.object.count ≡ 1 = sym (ap (λ x. count_in (living_of x)) o.is) ∙ only in
    let F : ℕ → ℕ → Option Life = λ h k. Some (record { maker = h; count = k }) in
    let told : F o.object.unit.home o.object.count ≡ F u.home 1 = ap (λ (v : UnitState). F v.home o.object.count) o.unit ∙ ap (F u.home) one in
    rw (← c.self.view_is, c.take.ensures.empty, c.end_standing.ensures.standings, c.end_standing.ensures.side) (does-end c.args.delayed n u a (with_ended c.args.delayed n a) refl (c.self.invariant.0.standing.living n u c.take.ensures.unit) there (ap life_of o.is ∙ told) (c.self.invariant.0.life n u c.take.ensures.unit) inside)

pub returns-clause-lived : goal.returns-clause-lived
returns-clause-lived c =
    let i = c.self.inside in
    let n = c.args.number in
    let u = c.take.result in
    let o = the-object (object_at i.slots.slots.items n) u c.take.ensures.unit in
    let only : count_in (lives_of i.slots.slots.items n) ≡ 1 = subst (λ (s : LivingState). count_in (lives_of s.slots n) ≡ 1) (sym c.self.view_is) c.requires.only in
    let one : o.object.count ≡ 1 = sym (ap (λ x. count_in (living_of x)) o.is) ∙ only in
    let told : values_in (lives_of i.slots.slots.items n) ≡ o.object.values = ap (λ x. values_in (living_of x)) o.is in
    let typed : type_in (lives_of i.slots.slots.items n) ≡ o.object.type_number = ap (λ x. type_in (living_of x)) o.is in
    let F : ℕ → ℕ → List ℕ → UnitState → Option Living = λ t k values v. Some (life_of_unit t k values v) in
    let t = o.object.type_number in
    rw (← c.self.view_is) (ap living_of o.is ∙ (ap (λ k. F t k o.object.values o.object.unit) one ∙ (ap (F t 1 o.object.values) o.unit ∙ (ap (λ vs. F t 1 vs u) (sym told) ∙ ap (λ z. F z 1 (values_in (lives_of i.slots.slots.items n)) u) (sym typed)))))

pub returns-clause-known : goal.returns-clause-known
returns-clause-known c =
    let i = c.self.inside in
    let n = c.args.number in
    let a : LivingState = record { side = i.side; slots = i.slots.slots.items; begun = i.begun.counts.items; standings = i.standings.standings.items; asked = i.asked; contents = i.contents; graphs = i.graphs } in
    rw (← c.self.view_is, c.take.ensures.empty, c.end_standing.ensures.side) (known-ended c.args.delayed n a (object-same i.slots.slots.items n None (within i.slots.slots.items n c.take.result c.take.ensures.unit)))

pub returns-clause-others : goal.returns-clause-others
returns-clause-others c =
    let i = c.self.inside in
    let a : LivingState = record { side = i.side; slots = i.slots.slots.items; begun = i.begun.counts.items; standings = i.standings.standings.items; asked = i.asked; contents = i.contents; graphs = i.graphs } in
    rw (← c.self.view_is, c.take.ensures.empty, c.end_standing.ensures.standings, c.end_standing.ensures.side) (ended-others c.args.delayed c.args.number a)
