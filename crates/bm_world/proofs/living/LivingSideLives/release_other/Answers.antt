use Rattle.std.proofs.Common.{◌∙◌, ◌-◌, ◌<◌, ap, arith, refl, subst, sym}
use Rattle.bm_grace.specs.Known.{Living}
use Rattle.bm_law_order.specs.Act as act
use Rattle.bm_world.specs.Lives.{HasLife, count_in}
use Rattle.bm_world.specs.LivingState.{LivingState, lives_of, with_given_up}
use Rattle.bm_world.specs.Slots.{count_of, object_at, unit_of}
use Rattle.bm_world.proofs.Alive.{living-recounted, rights-recounted}
use Rattle.bm_world.proofs.KnownLiving.{count-told, counted-at, is-living, known-given-up}
use Rattle.bm_world.proofs.LivingDid.{does-recount, has-life}
use Rattle.bm_world.proofs.Shelving.{shelved-counted}
use Rattle.bm_world.proofs.living.LivingSideLives.release_other.Goals as goal

pub invariant_of-self : goal.invariant_of-self
invariant_of-self c =
    let i = c.self.inside in
    let n = c.args.object.unit in
    let life = c.args.object.life in
    let lives = subst (λ (s : LivingState). (l : Living) × HasLife (lives_of s.slots) n life l) (sym c.self.view_is) c.requires.lives in
    let alive = is-living i.slots.slots.items n life lives.0 lives.1 in
    let counted = counted-at i.asked i.slots.slots.items n life alive (c.self.invariant.0.counted n) in
    let others = subst (λ (s : LivingState). 1 < count_in (lives_of s.slots n)) (sym c.self.view_is) c.requires.others in
    let told = count-told (object_at i.slots.slots.items n) in
    let seen = c.references-count.ensures in
    let most = counted.1 in
    let few = c.self.invariant.0.few in
    (rw c.count.ensures (living-recounted i.side.post i.side.grace.plain.number i.side.grace.tracing.number i.slots.slots.items i.begun.counts.items i.standings.standings.items i.asked i.asked n (c.references-count.result - 1) alive.within (omega (arith, seen, told, others)) (omega (arith, seen, most)) (omega arith) few c.self.invariant.0), c.self.invariant.1, rw c.count.ensures (shelved-counted i.slots.slots.items i.graphs n (c.references-count.result - 1) alive.within c.self.invariant.2))

pub returns-clause-seen : goal.returns-clause-seen
returns-clause-seen c =
    let i = c.self.inside in
    rw (← c.self.view_is) (c.references-count.ensures ∙ sym (count-told (object_at i.slots.slots.items c.args.object.unit)))

pub returns-clause-known : goal.returns-clause-known
returns-clause-known c =
    let i = c.self.inside in
    let n = c.args.object.unit in
    let life = c.args.object.life in
    let lives = subst (λ (s : LivingState). (l : Living) × HasLife (lives_of s.slots) n life l) (sym c.self.view_is) c.requires.lives in
    let alive = is-living i.slots.slots.items n life lives.0 lives.1 in
    let counted = counted-at i.asked i.slots.slots.items n life alive (c.self.invariant.0.counted n) in
    let a : LivingState = record { side = i.side; slots = i.slots.slots.items; begun = i.begun.counts.items; standings = i.standings.standings.items; asked = i.asked; contents = i.contents; graphs = i.graphs } in
    rw (← c.self.view_is, c.count.ensures, c.references-count.ensures) (known-given-up n a alive.within)

pub returns-clause-same : goal.returns-clause-same
returns-clause-same c =
    let i = c.self.inside in
    let n = c.args.object.unit in
    let life = c.args.object.life in
    let lives = subst (λ (s : LivingState). (l : Living) × HasLife (lives_of s.slots) n life l) (sym c.self.view_is) c.requires.lives in
    let alive = is-living i.slots.slots.items n life lives.0 lives.1 in
    let counted = counted-at i.asked i.slots.slots.items n life alive (c.self.invariant.0.counted n) in
    rw (← c.self.view_is, c.count.ensures) (rights-recounted i.side.post i.side.grace.plain.number i.side.grace.tracing.number i.slots.slots.items i.begun.counts.items i.standings.standings.items n (c.references-count.result - 1) alive.within)

pub returns-clause-does : goal.returns-clause-does
returns-clause-does c =
    let i = c.self.inside in
    let n = c.args.object.unit in
    let life = c.args.object.life in
    let lives = subst (λ (s : LivingState). (l : Living) × HasLife (lives_of s.slots) n life l) (sym c.self.view_is) c.requires.lives in
    let alive = is-living i.slots.slots.items n life lives.0 lives.1 in
    let counted = counted-at i.asked i.slots.slots.items n life alive (c.self.invariant.0.counted n) in
    let a : LivingState = record { side = i.side; slots = i.slots.slots.items; begun = i.begun.counts.items; standings = i.standings.standings.items; asked = i.asked; contents = i.contents; graphs = i.graphs } in
    let others = subst (λ (s : LivingState). 1 < count_in (lives_of s.slots n)) (sym c.self.view_is) c.requires.others in
    let more : 1 < count_of (object_at i.slots.slots.items n) = subst (λ k. 1 < k) (count-told (object_at i.slots.slots.items n)) others in
    let has = has-life n life a alive.object alive.is (sym alive.now_is ∙ c.self.invariant.0.life n alive.object.unit (ap unit_of alive.is)) in
    rw (← c.self.view_is, c.count.ensures, c.references-count.ensures) (does-recount (act.GivesUp n life (count_of (object_at i.slots.slots.items n))) (λ k. k - 1) n life (count_of (object_at i.slots.slots.items n) - 1) a (with_given_up n a) (λ w. refl) (λ w. refl) (λ m. (tt, tt)) (λ p h. (h, more)) (λ p. refl) refl refl refl refl refl alive.within has refl refl (omega arith) (λ w. refl) (λ names w. refl))
