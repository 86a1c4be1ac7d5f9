use Rattle.std.proofs.Common.{[], ◌∷◌, refl}
use Rattle.bm_journal.specs.declared.entry.Entry.TheVariants as entry
use Rattle.bm_journal.specs.declared.units.Units.TheVariants.{Whole}
use Rattle.bm_law_order.specs.Act as act
use Rattle.bm_law_order.specs.Chunk as chunk
use Rattle.bm_work.proofs.Going.{released}
use Rattle.bm_work.proofs.Owing.{owes-stepped, shows}
use Rattle.bm_work.proofs.loans.end_send.Goals as goal

pub returns-clause-drained : goal.returns-clause-drained
returns-clause-drained g c o =
    let i = c.args.class in
    let to = c.args.to in
    let ns = c.args.numbers.items in
    owes-stepped g.H.Host.face g.H.Host.held g.H.Host.with_held g.R.Recorder.log g.H.Host.sound g.H.Desk.asked_owes g.met.H.Desk.asked_stepped c.args.host.now c.caches.result.now c.sent.new.self c.level-level.result (entry.Send i to (Whole ns)) c.level-level.ensures.same c.caches.ensures.held refl c.sent.ensures.step.records c.sent.ensures.step.processor (act.Drains i to ns ∷ []) (λ _. shows (chunk.Draining i to ns) refl) o

pub returns-clause-released : goal.returns-clause-released
returns-clause-released g c stamp number m o =
    released g.H.Host.face g.H.Host.held g.H.Host.with_held g.R.Recorder.log g.H.Host.sound g.H.Desk.asked_owes g.met.H.Desk.asked_released c.args.host.now c.caches.result.now c.sent.new.self c.level-level.result c.args.class c.args.to c.args.numbers.items stamp number c.level-level.ensures.same c.caches.ensures.held c.sent.ensures.step.records c.sent.ensures.step.processor m o
