use Rattle.std.proofs.Common.{[], ◌∷◌, refl}
use Rattle.bm_journal.specs.declared.entry.Entry.TheVariants as entry
use Rattle.bm_journal.specs.declared.units.Units.TheVariants.{Whole}
use Rattle.bm_law_order.specs.Act as act
use Rattle.bm_law_order.specs.Chunk as chunk
use Rattle.bm_work.proofs.Owing.{owes-stepped, shows}
use Rattle.bm_work.proofs.returns.end_return.Goals as goal

pub returns-clause-sound : goal.returns-clause-sound
returns-clause-sound g c o =
    let i = c.args.class in
    let ns = c.args.numbers.items in
    owes-stepped g.H.Host.face g.H.Host.held g.H.Host.with_held g.R.Recorder.log g.H.Host.sound g.H.Desk.asked_owes g.met.H.Desk.asked_stepped c.args.host.now c.caches.result.now c.returned.new.self c.level-level.result (entry.Return i (Whole ns)) c.level-level.ensures.same c.caches.ensures.held refl c.returned.ensures.step.records c.returned.ensures.step.processor (act.GivesBack ns ∷ []) (λ _. shows (chunk.GivingBack i ns) refl) o
