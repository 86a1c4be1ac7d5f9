use Rattle.std.proofs.Common.{◌≡◌, [], ℕ, not, List, length, map, nat_eq, ◌∙◌, ap, arith}
use Rattle.std.specs.Prelude.{vec_len}
use Rattle.bm_journal.specs.declared.units.Units.TheVariants.{Whole}
use Rattle.bm_journal.specs.declared.entry.Entry.{Entry}
use Rattle.bm_journal.specs.declared.entry.Entry.TheVariants as entry
use Rattle.bm_law.specs.Lists.{after}
use Rattle.bm_cache.specs.Tokens.{number_of}
use Rattle.bm_law_work.specs.Parts.{Part, Say, Stand}
use Rattle.bm_law_work.specs.WorkPhrases.{IsOne}
use Rattle.bm_work_lists.proofs.Grown.{say-after}
use Rattle.bm_work.specs.Periods.{GetsParcel}
use Rattle.bm_work.proofs.Mail.{works-received}
use Rattle.bm_work.proofs.Sides.{works-join}
use Rattle.bm_work.proofs.Came.{gets-parcel}
use Rattle.bm_work.proofs.Owing.{stands-with}
use Rattle.bm_work.proofs.parcels.receive_one.Goals as goal

pub returns-clause-works : goal.returns-clause-works
returns-clause-works g c =
    let j = g.met.H.Desk.stays_join in
    let i = c.args.class in
    let us = c.get_parcel-units.result.items in
    let P : ℕ → Part = λ l. Say l (IsOne (entry.Receive i (Whole (map number_of us)))) in
    let Q : ℕ → Part = λ l. Say l (GetsParcel i (not c.is_empty-some.result)) in
    let t = works-received g.R.Recorder.log g.H.Host.face g.H.Host.pending g.H.Desk.stays g.H.Host.held g.H.Desk.shared g.H.W.Knows.known g.H.Host.tests j c.pause.new.host c.get_parcel-units.new.host c.note_parcel.new.host i us c.get_parcel-units.ensures.posted c.note_parcel.ensures.handled c.note_parcel.ensures.step in
    let n : vec_len c.get_parcel-units.result ≡ length us = omega (arith, c.get_parcel-units.result.ok.0) in
    let b : c.is_empty-some.result ≡ nat_eq (length us) 0 = c.is_empty-some.ensures ∙ ap (λ m. nat_eq m 0) n in
    let f : (own : List Entry) → IsOne (entry.Receive i (Whole (map number_of us))) own → GetsParcel i (not c.is_empty-some.result) own = λ own e. gets-parcel i us c.is_empty-some.result own b e in
    works-join g.R.Recorder.log g.R.Recorder.counts g.H.Host.face g.H.Host.pending g.H.Desk.stays g.H.Host.held (λ h. g.H.W.Knows.known (g.H.Desk.shared h)) j 0 0 0 0 (λ l. Stand l []) P Q c.args.host.now c.pause.new.host c.note_parcel.new.host (λ l s one two h k. say-after l (GetsParcel i (not c.is_empty-some.result)) s (after s one) one two h (k.0, f k.0 k.1, k.2)) c.requires.stands.fine.placed c.pause.ensures.stands.fine.placed c.pause.ensures.works t

pub returns-clause-stands : goal.returns-clause-stands
returns-clause-stands g c =
    let y = c.note_parcel.new.host in
    let o = c.get_parcel-units.ensures.owes [] (g.met.H.Desk.asked_open c.pause.new.host c.pause.ensures.stands.sound) in
    stands-with g.R.Recorder.log g.R.Recorder.counts (λ _. Unit {0}) g.H.Host.sound g.H.Host.tests g.H.Host.face g.H.Host.held y (c.note_parcel.ensures.sound o) c.note_parcel.ensures.stands
