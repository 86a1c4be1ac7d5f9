use Rattle.std.proofs.Common.{◌≡◌, None, Some, subst, sym}
use Rattle.bm_journal.specs.declared.past.PastCall.TheVariants as past
use Rattle.bm_law_order.specs.Graphs.{graph_at, standing_from}
use Rattle.bm_world.specs.LivingState.{LivingState}
use Rattle.bm_world.proofs.LivingCalls.{does-remove, is-some-living, known-placed, living-placed, rights-placed, shelved-removed, stands-has, stands-living}
use Rattle.bm_world.proofs.living.LivingSideLives.remove.Goals as goal

pub place-requires-clause-there : goal.place-requires-clause-there
place-requires-clause-there c =
    let i = c.self.inside in
    let id = c.args.object in
    let stood = subst (λ (s : LivingState). standing_from 0 s.graphs id.unit ≡ Some (record { life = id.life; place = c.args.place })) (sym c.self.view_is) c.requires.stands in
    is-some-living i.slots.slots.items i.graphs id.unit (record { life = id.life; place = c.args.place }) c.self.invariant.2 stood

pub invariant_of-self-2 : goal.invariant_of-self-2
invariant_of-self-2 c =
    let i = c.self.inside in
    let id = c.args.object in
    let stood = subst (λ (s : LivingState). standing_from 0 s.graphs id.unit ≡ Some (record { life = id.life; place = c.args.place })) (sym c.self.view_is) c.requires.stands in
    let lt = stands-living i.slots.slots.items i.graphs id.unit (record { life = id.life; place = c.args.place }) c.self.invariant.2 stood in
    rw c.place.ensures (living-placed i.side.post i.side.grace.plain.number i.side.grace.tracing.number i.slots.slots.items i.begun.counts.items i.standings.standings.items i.asked id.unit None lt c.self.invariant.0, c.self.invariant.1, shelved-removed i.slots.slots.items i.graphs c.remove.new.self c.args.place id lt c.in_ok-position.ensures.moves c.self.invariant.2)

pub returns-clause-known : goal.returns-clause-known
returns-clause-known c =
    let i = c.self.inside in
    let id = c.args.object in
    let a : LivingState = record { side = i.side; slots = i.slots.slots.items; begun = i.begun.counts.items; standings = i.standings.standings.items; asked = i.asked; contents = i.contents; graphs = i.graphs } in
    let stood = subst (λ (s : LivingState). standing_from 0 s.graphs id.unit ≡ Some (record { life = id.life; place = c.args.place })) (sym c.self.view_is) c.requires.stands in
    let lt = stands-living i.slots.slots.items i.graphs id.unit (record { life = id.life; place = c.args.place }) c.self.invariant.2 stood in
    rw (← c.self.view_is, c.place.ensures, c.in_ok-position.ensures.graphs) (known-placed c.args.place (past.Remove id) c.args.tag id.unit None a lt)

pub returns-clause-same : goal.returns-clause-same
returns-clause-same c =
    let i = c.self.inside in
    let id = c.args.object in
    let stood = subst (λ (s : LivingState). standing_from 0 s.graphs id.unit ≡ Some (record { life = id.life; place = c.args.place })) (sym c.self.view_is) c.requires.stands in
    let lt = stands-living i.slots.slots.items i.graphs id.unit (record { life = id.life; place = c.args.place }) c.self.invariant.2 stood in
    rw (← c.self.view_is, c.place.ensures) (rights-placed i.side.post i.side.grace.plain.number i.side.grace.tracing.number i.slots.slots.items i.begun.counts.items i.standings.standings.items id.unit None lt)

pub returns-clause-does : goal.returns-clause-does
returns-clause-does c =
    let i = c.self.inside in
    let id = c.args.object in
    let a : LivingState = record { side = i.side; slots = i.slots.slots.items; begun = i.begun.counts.items; standings = i.standings.standings.items; asked = i.asked; contents = i.contents; graphs = i.graphs } in
    let stood = subst (λ (s : LivingState). standing_from 0 s.graphs id.unit ≡ Some (record { life = id.life; place = c.args.place })) (sym c.self.view_is) c.requires.stands in
    let lt = stands-living i.slots.slots.items i.graphs id.unit (record { life = id.life; place = c.args.place }) c.self.invariant.2 stood in
    let now = c.in_ok-position.ensures.graphs in
    rw (← c.self.view_is, c.place.ensures, now) (does-remove (graph_at c.args.place i.graphs).name c.in_ok-position.position c.args.place id c.args.tag a lt (rw now at c.in_ok-position.ensures.called))

pub returns-clause-lives : goal.returns-clause-lives
returns-clause-lives c =
    let i = c.self.inside in
    let id = c.args.object in
    let stood = subst (λ (s : LivingState). standing_from 0 s.graphs id.unit ≡ Some (record { life = id.life; place = c.args.place })) (sym c.self.view_is) c.requires.stands in
    rw (← c.self.view_is) (stands-has i.slots.slots.items i.graphs id.unit (record { life = id.life; place = c.args.place }) c.self.invariant.2 stood)

pub returns-in_err-position-clause-lives : goal.returns-in_err-position-clause-lives
returns-in_err-position-clause-lives c =
    let i = c.self.inside in
    let id = c.args.object in
    let stood = subst (λ (s : LivingState). standing_from 0 s.graphs id.unit ≡ Some (record { life = id.life; place = c.args.place })) (sym c.self.view_is) c.requires.stands in
    rw (← c.self.view_is) (stands-has i.slots.slots.items i.graphs id.unit (record { life = id.life; place = c.args.place }) c.self.invariant.2 stood)

pub returns-clause-moves : goal.returns-clause-moves
returns-clause-moves c = rw (← c.self.view_is) c.in_ok-position.ensures.moves
