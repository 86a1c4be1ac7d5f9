use Rattle.std.proofs.Common.{[], ◌∷◌, map, inl, sym, subst, refl}
use Rattle.bm_journal.specs.declared.units.Units.TheVariants.{Whole}
use Rattle.bm_journal.specs.declared.entry.Entry.TheVariants as entry
use Rattle.bm_cache.specs.Listed.{TookUnits}
use Rattle.bm_cache.specs.Tokens.{number_of}
use Rattle.bm_cache.specs.declared.caches.Caches.{Caches}
use Rattle.bm_work.proofs.Steps.{stands-entry, units-at}
use Rattle.bm_law_order.specs.Act as act
use Rattle.bm_law_order.specs.Chunk as chunk
use Rattle.bm_law_order.specs.Chunk.{Shows}
use Rattle.bm_journal.specs.declared.units.Units.{Units}
use Rattle.bm_work.proofs.Owing.{owes-stepped, shows}
use Rattle.bm_work.proofs.fetches.note_fetched.Goals as goal

pub returns-clause-stands : goal.returns-clause-stands
returns-clause-stands g c =
    let h = c.args.host.now in
    let z = c.take_fetched.new.self in
    let i = c.args.class in
    let us = c.args.units.items in
    let y = g.H.Host.held h in
    let t = units-at g.R.Recorder.log (g.H.Host.face h).level c.level-level.result (entry.Fetch i c.args.want) (map number_of us) us y c.caches.result.now z c.level-level.ensures.same c.caches.ensures.held c.take_fetched.ensures.step in
    stands-entry g.R.Recorder.log g.R.Recorder.counts (λ _. Unit {0}) g.H.Host.tests g.H.Host.face g.H.Host.held h (g.H.Host.with_held h z) z (entry.Fetch i c.args.want (Whole (map number_of us))) us (g.met.H.Host.held_back h z) (g.met.H.Host.tests_back h z) (g.met.H.Host.face_back h z) tt t.after t.processor c.take_fetched.ensures.placed tt (λ i u n. inl (c.requires.reusable i u n)) tt c.requires.stands.dated c.requires.stands

pub returns-clause-step : goal.returns-clause-step
returns-clause-step g c =
    let h = c.args.host.now in
    let z = c.take_fetched.new.self in
    let us = c.args.units.items in
    let e = entry.Fetch c.args.class c.args.want in
    let F : Caches g.row.R.Denot → Type 0 = λ x. TookUnits g.R.Recorder.log (g.H.Host.face h).level e (map number_of us) us (g.H.Host.held h) x in
    subst F (sym (g.met.H.Host.held_back h z)) (units-at g.R.Recorder.log (g.H.Host.face h).level c.level-level.result e (map number_of us) us (g.H.Host.held h) c.caches.result.now z c.level-level.ensures.same c.caches.ensures.held c.take_fetched.ensures.step)

pub returns-clause-sound : goal.returns-clause-sound
returns-clause-sound g c o =
    let i = c.args.class in
    let n = c.args.want in
    let ns = map number_of c.args.units.items in
    let t = c.take_fetched.ensures.step in
    let F : Units → Type 0 = λ us. Shows (act.Fetches i n ns ∷ []) (entry.Fetch i n us ∷ []) in
    owes-stepped g.H.Host.face g.H.Host.held g.H.Host.with_held g.R.Recorder.log g.H.Host.sound g.H.Desk.asked_owes g.met.H.Desk.asked_stepped c.args.host.now c.caches.result.now c.take_fetched.new.self c.level-level.result (entry.Fetch i n t.units) c.level-level.ensures.same c.caches.ensures.held refl t.records t.processor (act.Fetches i n ns ∷ []) (λ k. subst F (sym (t.whole (t.told k))) (shows (chunk.Fetching i n ns) refl)) o
