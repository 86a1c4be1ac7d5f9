use Rattle.bm_world.proofs.Alive.{fetches-living, living-fetched}
use Rattle.bm_world.proofs.Lived.{lived-fetched}
use Rattle.bm_world.proofs.living.LivingSidePost.fetch.Goals as goal
use Rattle.std.proofs.Common.{arith, [], ◌∷◌, drop, length, refl}
use Rattle.bm_law_order.specs.Act as act
use Rattle.bm_post.specs.Rights.{numbers}
use Rattle.bm_world.specs.Standings.{waits_told}
use Rattle.bm_world.proofs.LivingDid.{keep-one, kept-none, lifts-ok, made-one, on-ok}

pub invariant_of-self : goal.invariant_of-self
invariant_of-self c =
    let i = c.self.inside in
    let k = c.self.invariant.0 in
    let said = c.fetch.ensures in (
      rw c.fetch.ensures.grace (living-fetched i.side.grace.plain.number i.side.grace.tracing.number i.standings.standings.items c.fetch.result c.args.class c.args.want c.args.out.now.items c.fetch.new.out.items i.side.post c.fetch.new.self.post i.slots.slots.items i.begun.counts.items i.asked said.state said.err_state said.ok said.same
          (lived-fetched c.fetch.result c.args.class c.args.want i.begun.counts.items i.standings.standings.items i.side.post c.fetch.new.self.post said.state said.err_state k.lived) k),
      c.self.invariant.1,
      c.self.invariant.2,
    )

pub returns-clause-ok : goal.returns-clause-ok
returns-clause-ok c =
    let i = c.self.inside in
    let said = c.fetch.ensures in
    rw (← c.self.view_is, c.fetch.ensures.grace) (fetches-living i.side.grace.plain.number i.side.grace.tracing.number i.standings.standings.items c.fetch.result c.args.class c.args.want c.args.out.now.items c.fetch.new.out.items i.side.post c.fetch.new.self.post i.slots.slots.items i.begun.counts.items i.asked c.self.invariant.0 said.units said.each said.ok)

pub returns-clause-does : goal.returns-clause-does
returns-clause-does c =
    let i = c.self.inside in
    rw (← c.self.view_is) (lifts-ok c.fetch.result (act.Fetches c.args.class c.args.want (numbers (drop (length c.args.out.now.items) c.fetch.new.out.items)) ∷ []) (record { side = i.side; slots = i.slots.slots.items; begun = i.begun.counts.items; standings = i.standings.standings.items; asked = i.asked; contents = i.contents; graphs = i.graphs }) (record { side = c.fetch.new.self; slots = i.slots.slots.items; begun = i.begun.counts.items; standings = i.standings.standings.items; asked = i.asked; contents = i.contents; graphs = i.graphs }) refl refl (omega arith) refl refl (on-ok c.fetch.result (keep-one (act.Fetches c.args.class c.args.want (numbers (drop (length c.args.out.now.items) c.fetch.new.out.items))) (λ w. refl) (waits_told i.standings.standings.items))) (on-ok c.fetch.result (kept-none (act.Fetches c.args.class c.args.want (numbers (drop (length c.args.out.now.items) c.fetch.new.out.items)) ∷ []) i.standings.standings.items)) (made-one (act.Fetches c.args.class c.args.want (numbers (drop (length c.args.out.now.items) c.fetch.new.out.items))) (λ w. refl) (λ w. refl) (λ names w. refl)) c.fetch.ensures.does)
