use Rattle.std.proofs.Common.{◌≡◌, ◌∙◌, ◌<◌, ℕ, List, None, Some, ap, arith, length, subst, sym}
use Rattle.bm_grace.specs.Known.{Living}
use Rattle.bm_graph.specs.Ways.{push_call}
use Rattle.bm_graph.specs.declared.ways.Way.TheVariants.{Ordered}
use Rattle.bm_law_order.specs.Graphs.{graph_at}
use Rattle.bm_world.specs.Graphs.{key_of}
use Rattle.bm_world.specs.Lives.{HasLife, values_in}
use Rattle.bm_world.specs.LivingState.{LivingState, lives_of}
use Rattle.bm_world.specs.Slots.{object_at, place_within, unit_of, values_of}
use Rattle.std.specs.Option.{is_some}
use Rattle.bm_world.proofs.KnownLiving.{is-living, values-told}
use Rattle.bm_world.proofs.LivingCalls.{does-push, does-refuse, known-placed, living-placed, rights-placed, shelved-put, shelved-refused, stands-at}
use Rattle.bm_world.proofs.living.LivingSideLives.push.Goals as goal

pub refuse-requires-clause-stands : goal.refuse-requires-clause-stands
refuse-requires-clause-stands c =
    let i = c.self.inside in
    let id = c.args.object in
    let a : LivingState = record { side = i.side; slots = i.slots.slots.items; begun = i.begun.counts.items; standings = i.standings.standings.items; asked = i.asked; contents = i.contents; graphs = i.graphs } in
    let lives = subst (λ (s : LivingState). (l : Living) × HasLife (lives_of s.slots) id.unit id.life l) (sym c.self.view_is) c.requires.lives in
    let alive = is-living i.slots.slots.items id.unit id.life lives.0 lives.1 in
    let at : place_within (object_at i.slots.slots.items id.unit) ≡ Some c.in-Some.owner = sym c.within.ensures ∙ c.in-Some.is in
    let stands = stands-at i.slots.slots.items i.graphs id.unit id.life (Some c.in-Some.owner) alive c.self.invariant.2 at in
    stands

pub push-requires-clause-absent : goal.push-requires-clause-absent
push-requires-clause-absent c =
    let i = c.self.inside in
    let id = c.args.object in
    let a : LivingState = record { side = i.side; slots = i.slots.slots.items; begun = i.begun.counts.items; standings = i.standings.standings.items; asked = i.asked; contents = i.contents; graphs = i.graphs } in
    let lives = subst (λ (s : LivingState). (l : Living) × HasLife (lives_of s.slots) id.unit id.life l) (sym c.self.view_is) c.requires.lives in
    let alive = is-living i.slots.slots.items id.unit id.life lives.0 lives.1 in
    let at : place_within (object_at i.slots.slots.items id.unit) ≡ None = sym c.within.ensures ∙ c.in-None.is in
    let stands = stands-at i.slots.slots.items i.graphs id.unit id.life None alive c.self.invariant.2 at in
    stands

pub overflow_cast-place : goal.overflow_cast-place
overflow_cast-place c = (let small = c.push.ensures.small in omega (arith, small))

pub place-requires-clause-there : goal.place-requires-clause-there
place-requires-clause-there c =
    let i = c.self.inside in
    let id = c.args.object in
    let a : LivingState = record { side = i.side; slots = i.slots.slots.items; begun = i.begun.counts.items; standings = i.standings.standings.items; asked = i.asked; contents = i.contents; graphs = i.graphs } in
    let lives = subst (λ (s : LivingState). (l : Living) × HasLife (lives_of s.slots) id.unit id.life l) (sym c.self.view_is) c.requires.lives in
    let alive = is-living i.slots.slots.items id.unit id.life lives.0 lives.1 in
    ap (λ x. is_some (unit_of x)) alive.is

pub invariant_of-self-in-Some : goal.invariant_of-self-in-Some
invariant_of-self-in-Some c =
    let i = c.self.inside in
    let id = c.args.object in
    let a : LivingState = record { side = i.side; slots = i.slots.slots.items; begun = i.begun.counts.items; standings = i.standings.standings.items; asked = i.asked; contents = i.contents; graphs = i.graphs } in
    let lives = subst (λ (s : LivingState). (l : Living) × HasLife (lives_of s.slots) id.unit id.life l) (sym c.self.view_is) c.requires.lives in
    let alive = is-living i.slots.slots.items id.unit id.life lives.0 lives.1 in
    (c.self.invariant.0, c.self.invariant.1, shelved-refused i.slots.slots.items i.graphs c.refuse.new.self c.args.place c.args.way id c.key-key.result c.in-Some.owner c.in_ok-position-in-Some.ensures.moves c.self.invariant.2)

pub invariant_of-self-in-None : goal.invariant_of-self-in-None
invariant_of-self-in-None c =
    let i = c.self.inside in
    let id = c.args.object in
    let a : LivingState = record { side = i.side; slots = i.slots.slots.items; begun = i.begun.counts.items; standings = i.standings.standings.items; asked = i.asked; contents = i.contents; graphs = i.graphs } in
    let lives = subst (λ (s : LivingState). (l : Living) × HasLife (lives_of s.slots) id.unit id.life l) (sym c.self.view_is) c.requires.lives in
    let alive = is-living i.slots.slots.items id.unit id.life lives.0 lives.1 in
    rw c.place.ensures (living-placed i.side.post i.side.grace.plain.number i.side.grace.tracing.number i.slots.slots.items i.begun.counts.items i.standings.standings.items i.asked id.unit (Some c.args.place) alive.within c.self.invariant.0, c.self.invariant.1, shelved-put i.slots.slots.items i.graphs c.push.new.self c.args.place c.args.way id c.key-key.result alive c.in_ok-position-in-None.ensures.moves c.self.invariant.2)

pub returns-in_ok-position-in-Some-clause-stood : goal.returns-in_ok-position-in-Some-clause-stood
returns-in_ok-position-in-Some-clause-stood c =
    let i = c.self.inside in
    let id = c.args.object in
    let a : LivingState = record { side = i.side; slots = i.slots.slots.items; begun = i.begun.counts.items; standings = i.standings.standings.items; asked = i.asked; contents = i.contents; graphs = i.graphs } in
    let lives = subst (λ (s : LivingState). (l : Living) × HasLife (lives_of s.slots) id.unit id.life l) (sym c.self.view_is) c.requires.lives in
    let alive = is-living i.slots.slots.items id.unit id.life lives.0 lives.1 in
    let at : place_within (object_at i.slots.slots.items id.unit) ≡ Some c.in-Some.owner = sym c.within.ensures ∙ c.in-Some.is in
    let stands = stands-at i.slots.slots.items i.graphs id.unit id.life (Some c.in-Some.owner) alive c.self.invariant.2 at in
    rw (← c.self.view_is) stands

pub returns-in_ok-position-in-None-clause-stood : goal.returns-in_ok-position-in-None-clause-stood
returns-in_ok-position-in-None-clause-stood c =
    let i = c.self.inside in
    let id = c.args.object in
    let a : LivingState = record { side = i.side; slots = i.slots.slots.items; begun = i.begun.counts.items; standings = i.standings.standings.items; asked = i.asked; contents = i.contents; graphs = i.graphs } in
    let lives = subst (λ (s : LivingState). (l : Living) × HasLife (lives_of s.slots) id.unit id.life l) (sym c.self.view_is) c.requires.lives in
    let alive = is-living i.slots.slots.items id.unit id.life lives.0 lives.1 in
    let at : place_within (object_at i.slots.slots.items id.unit) ≡ None = sym c.within.ensures ∙ c.in-None.is in
    let stands = stands-at i.slots.slots.items i.graphs id.unit id.life None alive c.self.invariant.2 at in
    rw (← c.self.view_is) stands

pub returns-in_ok-position-in-Some-clause-does : goal.returns-in_ok-position-in-Some-clause-does
returns-in_ok-position-in-Some-clause-does c =
    let i = c.self.inside in
    let id = c.args.object in
    let a : LivingState = record { side = i.side; slots = i.slots.slots.items; begun = i.begun.counts.items; standings = i.standings.standings.items; asked = i.asked; contents = i.contents; graphs = i.graphs } in
    let lives = subst (λ (s : LivingState). (l : Living) × HasLife (lives_of s.slots) id.unit id.life l) (sym c.self.view_is) c.requires.lives in
    let alive = is-living i.slots.slots.items id.unit id.life lives.0 lives.1 in
    let told = values-told (object_at i.slots.slots.items id.unit) in
    let keyed : c.args.way ≡ Ordered → 0 < length (values_of (object_at i.slots.slots.items id.unit)) = λ w. subst (λ (vs : List ℕ). 0 < length vs) told (subst (λ (s : LivingState). c.args.way ≡ Ordered → 0 < length (values_in (lives_of s.slots id.unit))) (sym c.self.view_is) c.requires.keyed w) in
    let key : c.key-key.result ≡ key_of (values_in (lives_of i.slots.slots.items id.unit)) = c.key-key.ensures ∙ ap key_of (sym told) in
    let now = c.in_ok-position-in-Some.ensures.graphs in
    let called = rw now at c.in_ok-position-in-Some.ensures.called in
    rw (← c.self.view_is, ← key, now) (does-refuse (graph_at c.args.place i.graphs).name c.in_ok-position-in-Some.position c.args.place c.args.way id c.in-Some.owner c.args.tag a c.key-key.result c.key-key.ensures (λ n o h. c.self.invariant.0.life n o.unit (ap unit_of h)) lives.0 lives.1 keyed called)

pub returns-in_ok-position-in-None-clause-known : goal.returns-in_ok-position-in-None-clause-known
returns-in_ok-position-in-None-clause-known c =
    let i = c.self.inside in
    let id = c.args.object in
    let a : LivingState = record { side = i.side; slots = i.slots.slots.items; begun = i.begun.counts.items; standings = i.standings.standings.items; asked = i.asked; contents = i.contents; graphs = i.graphs } in
    let lives = subst (λ (s : LivingState). (l : Living) × HasLife (lives_of s.slots) id.unit id.life l) (sym c.self.view_is) c.requires.lives in
    let alive = is-living i.slots.slots.items id.unit id.life lives.0 lives.1 in
    let told = values-told (object_at i.slots.slots.items id.unit) in
    let keyed : c.args.way ≡ Ordered → 0 < length (values_of (object_at i.slots.slots.items id.unit)) = λ w. subst (λ (vs : List ℕ). 0 < length vs) told (subst (λ (s : LivingState). c.args.way ≡ Ordered → 0 < length (values_in (lives_of s.slots id.unit))) (sym c.self.view_is) c.requires.keyed w) in
    let key : c.key-key.result ≡ key_of (values_in (lives_of i.slots.slots.items id.unit)) = c.key-key.ensures ∙ ap key_of (sym told) in
    let now = c.in_ok-position-in-None.ensures.graphs in
    rw (← c.self.view_is, ← key, c.place.ensures, now) (known-placed c.args.place (push_call c.args.way id c.key-key.result) c.args.tag id.unit (Some c.args.place) a alive.within)

pub returns-in_ok-position-in-None-clause-same : goal.returns-in_ok-position-in-None-clause-same
returns-in_ok-position-in-None-clause-same c =
    let i = c.self.inside in
    let id = c.args.object in
    let a : LivingState = record { side = i.side; slots = i.slots.slots.items; begun = i.begun.counts.items; standings = i.standings.standings.items; asked = i.asked; contents = i.contents; graphs = i.graphs } in
    let lives = subst (λ (s : LivingState). (l : Living) × HasLife (lives_of s.slots) id.unit id.life l) (sym c.self.view_is) c.requires.lives in
    let alive = is-living i.slots.slots.items id.unit id.life lives.0 lives.1 in
    rw (← c.self.view_is, c.place.ensures) (rights-placed i.side.post i.side.grace.plain.number i.side.grace.tracing.number i.slots.slots.items i.begun.counts.items i.standings.standings.items id.unit (Some c.args.place) alive.within)

pub returns-in_ok-position-in-None-clause-does : goal.returns-in_ok-position-in-None-clause-does
returns-in_ok-position-in-None-clause-does c =
    let i = c.self.inside in
    let id = c.args.object in
    let a : LivingState = record { side = i.side; slots = i.slots.slots.items; begun = i.begun.counts.items; standings = i.standings.standings.items; asked = i.asked; contents = i.contents; graphs = i.graphs } in
    let lives = subst (λ (s : LivingState). (l : Living) × HasLife (lives_of s.slots) id.unit id.life l) (sym c.self.view_is) c.requires.lives in
    let alive = is-living i.slots.slots.items id.unit id.life lives.0 lives.1 in
    let told = values-told (object_at i.slots.slots.items id.unit) in
    let keyed : c.args.way ≡ Ordered → 0 < length (values_of (object_at i.slots.slots.items id.unit)) = λ w. subst (λ (vs : List ℕ). 0 < length vs) told (subst (λ (s : LivingState). c.args.way ≡ Ordered → 0 < length (values_in (lives_of s.slots id.unit))) (sym c.self.view_is) c.requires.keyed w) in
    let key : c.key-key.result ≡ key_of (values_in (lives_of i.slots.slots.items id.unit)) = c.key-key.ensures ∙ ap key_of (sym told) in
    let now = c.in_ok-position-in-None.ensures.graphs in
    let called = rw now at c.in_ok-position-in-None.ensures.called in
    rw (← c.self.view_is, ← key, c.place.ensures, now) (does-push (graph_at c.args.place i.graphs).name c.in_ok-position-in-None.position c.args.place c.args.way id (Some c.args.place) c.args.tag a c.key-key.result c.key-key.ensures (λ n o h. c.self.invariant.0.life n o.unit (ap unit_of h)) lives.0 lives.1 keyed called)

pub returns-in_ok-position-in-Some-clause-moves : goal.returns-in_ok-position-in-Some-clause-moves
returns-in_ok-position-in-Some-clause-moves c =
    let i = c.self.inside in
    let id = c.args.object in
    let a : LivingState = record { side = i.side; slots = i.slots.slots.items; begun = i.begun.counts.items; standings = i.standings.standings.items; asked = i.asked; contents = i.contents; graphs = i.graphs } in
    let lives = subst (λ (s : LivingState). (l : Living) × HasLife (lives_of s.slots) id.unit id.life l) (sym c.self.view_is) c.requires.lives in
    let alive = is-living i.slots.slots.items id.unit id.life lives.0 lives.1 in
    let told = values-told (object_at i.slots.slots.items id.unit) in
    let keyed : c.args.way ≡ Ordered → 0 < length (values_of (object_at i.slots.slots.items id.unit)) = λ w. subst (λ (vs : List ℕ). 0 < length vs) told (subst (λ (s : LivingState). c.args.way ≡ Ordered → 0 < length (values_in (lives_of s.slots id.unit))) (sym c.self.view_is) c.requires.keyed w) in
    let key : c.key-key.result ≡ key_of (values_in (lives_of i.slots.slots.items id.unit)) = c.key-key.ensures ∙ ap key_of (sym told) in
    rw (← c.self.view_is, ← key) c.in_ok-position-in-Some.ensures.moves

pub returns-in_ok-position-in-None-clause-moves : goal.returns-in_ok-position-in-None-clause-moves
returns-in_ok-position-in-None-clause-moves c =
    let i = c.self.inside in
    let id = c.args.object in
    let a : LivingState = record { side = i.side; slots = i.slots.slots.items; begun = i.begun.counts.items; standings = i.standings.standings.items; asked = i.asked; contents = i.contents; graphs = i.graphs } in
    let lives = subst (λ (s : LivingState). (l : Living) × HasLife (lives_of s.slots) id.unit id.life l) (sym c.self.view_is) c.requires.lives in
    let alive = is-living i.slots.slots.items id.unit id.life lives.0 lives.1 in
    let told = values-told (object_at i.slots.slots.items id.unit) in
    let keyed : c.args.way ≡ Ordered → 0 < length (values_of (object_at i.slots.slots.items id.unit)) = λ w. subst (λ (vs : List ℕ). 0 < length vs) told (subst (λ (s : LivingState). c.args.way ≡ Ordered → 0 < length (values_in (lives_of s.slots id.unit))) (sym c.self.view_is) c.requires.keyed w) in
    let key : c.key-key.result ≡ key_of (values_in (lives_of i.slots.slots.items id.unit)) = c.key-key.ensures ∙ ap key_of (sym told) in
    rw (← c.self.view_is, ← key) c.in_ok-position-in-None.ensures.moves
