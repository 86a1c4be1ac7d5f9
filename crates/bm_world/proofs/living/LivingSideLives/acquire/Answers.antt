use Rattle.std.proofs.Common.{◌∙◌, ◌+◌, ◌<◌, ◌^◌, ap, arith, refl, subst, sym}
use Rattle.bm_grace.specs.Known.{Living}
use Rattle.bm_law_order.specs.Act as act
use Rattle.bm_world.specs.Lives.{HasLife}
use Rattle.bm_world.specs.LivingState.{LivingState, lives_of, with_acquired}
use Rattle.bm_world.specs.Slots.{count_of, object_at, unit_of}
use Rattle.bm_world.proofs.Alive.{living-recounted, rights-recounted}
use Rattle.bm_world.proofs.KnownLiving.{count-told, counted-at, is-living, known-acquired}
use Rattle.bm_world.proofs.LivingDid.{does-recount, has-life}
use Rattle.bm_world.proofs.Shelving.{shelved-counted}
use Rattle.bm_world.proofs.living.LivingSideLives.acquire.Goals as goal

pub invariant_of-self : goal.invariant_of-self
invariant_of-self c =
    let i = c.self.inside in
    let n = c.args.object.unit in
    let life = c.args.object.life in
    let lives = subst (λ (s : LivingState). (l : Living) × HasLife (lives_of s.slots) n life l) (sym c.self.view_is) c.requires.lives in
    let alive = is-living i.slots.slots.items n life lives.0 lives.1 in
    let counted = counted-at i.asked i.slots.slots.items n life alive (c.self.invariant.0.counted n) in
    let room = subst (λ (s : LivingState). s.asked + 1 < 2 ^ 31) (sym c.self.view_is) c.requires.room in
    let seen = c.references-count.ensures in
    let most = counted.1 in
    (rw c.count.ensures (living-recounted i.side.post i.side.grace.plain.number i.side.grace.tracing.number i.slots.slots.items i.begun.counts.items i.standings.standings.items i.asked (i.asked + 1) n (c.references-count.result + 1) alive.within (omega arith) (omega (arith, seen, most)) (omega arith) room c.self.invariant.0), c.self.invariant.1, rw c.count.ensures (shelved-counted i.slots.slots.items i.graphs n (c.references-count.result + 1) alive.within c.self.invariant.2))

pub returns-clause-seen : goal.returns-clause-seen
returns-clause-seen c =
    let i = c.self.inside in
    rw (← c.self.view_is) (c.references-count.ensures ∙ sym (count-told (object_at i.slots.slots.items c.args.object.unit)))

pub returns-clause-some : goal.returns-clause-some
returns-clause-some c =
    let i = c.self.inside in
    let n = c.args.object.unit in
    let life = c.args.object.life in
    let lives = subst (λ (s : LivingState). (l : Living) × HasLife (lives_of s.slots) n life l) (sym c.self.view_is) c.requires.lives in
    let alive = is-living i.slots.slots.items n life lives.0 lives.1 in
    let counted = counted-at i.asked i.slots.slots.items n life alive (c.self.invariant.0.counted n) in
    let seen = c.references-count.ensures in
    let some = counted.0 in
    omega (arith, seen, some)

pub returns-clause-known : goal.returns-clause-known
returns-clause-known c =
    let i = c.self.inside in
    let n = c.args.object.unit in
    let life = c.args.object.life in
    let lives = subst (λ (s : LivingState). (l : Living) × HasLife (lives_of s.slots) n life l) (sym c.self.view_is) c.requires.lives in
    let alive = is-living i.slots.slots.items n life lives.0 lives.1 in
    let counted = counted-at i.asked i.slots.slots.items n life alive (c.self.invariant.0.counted n) in
    let a : LivingState = record { side = i.side; slots = i.slots.slots.items; begun = i.begun.counts.items; standings = i.standings.standings.items; asked = i.asked; contents = i.contents; graphs = i.graphs } in
    rw (← c.self.view_is, c.count.ensures, c.references-count.ensures) (known-acquired n a alive.within)

pub returns-clause-same : goal.returns-clause-same
returns-clause-same c =
    let i = c.self.inside in
    let n = c.args.object.unit in
    let life = c.args.object.life in
    let lives = subst (λ (s : LivingState). (l : Living) × HasLife (lives_of s.slots) n life l) (sym c.self.view_is) c.requires.lives in
    let alive = is-living i.slots.slots.items n life lives.0 lives.1 in
    let counted = counted-at i.asked i.slots.slots.items n life alive (c.self.invariant.0.counted n) in
    rw (← c.self.view_is, c.count.ensures) (rights-recounted i.side.post i.side.grace.plain.number i.side.grace.tracing.number i.slots.slots.items i.begun.counts.items i.standings.standings.items n (c.references-count.result + 1) alive.within)

pub returns-clause-does : goal.returns-clause-does
returns-clause-does c =
    let i = c.self.inside in
    let n = c.args.object.unit in
    let life = c.args.object.life in
    let lives = subst (λ (s : LivingState). (l : Living) × HasLife (lives_of s.slots) n life l) (sym c.self.view_is) c.requires.lives in
    let alive = is-living i.slots.slots.items n life lives.0 lives.1 in
    let counted = counted-at i.asked i.slots.slots.items n life alive (c.self.invariant.0.counted n) in
    let a : LivingState = record { side = i.side; slots = i.slots.slots.items; begun = i.begun.counts.items; standings = i.standings.standings.items; asked = i.asked; contents = i.contents; graphs = i.graphs } in
    let has = has-life n life a alive.object alive.is (sym alive.now_is ∙ c.self.invariant.0.life n alive.object.unit (ap unit_of alive.is)) in
    rw (← c.self.view_is, c.count.ensures, c.references-count.ensures) (does-recount (act.Acquires n life (count_of (object_at i.slots.slots.items n))) (λ k. k + 1) n life (count_of (object_at i.slots.slots.items n) + 1) a (with_acquired n a) (λ w. refl) (λ w. refl) (λ m. (tt, tt)) (λ p h. h) (λ p. refl) refl refl refl refl refl alive.within has refl refl (omega arith) (λ w. refl) (λ names w. refl))
