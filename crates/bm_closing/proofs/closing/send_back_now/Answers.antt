use Rattle.std.proofs.Common.{rules, ◌≡◌, ◌∙◌, ◌∷◌, ℕ, List, [], map, refl, sym, ap, subst, arith}
use Rattle.bm_journal.specs.declared.units.Units.TheVariants.{Whole}
use Rattle.bm_journal.specs.declared.entry.Entry.TheVariants as entry
use Rattle.bm_law.specs.Alone.{Adds}
use Rattle.bm_law.specs.Stands.{Known}
use Rattle.bm_law.proofs.Alone.{Adds-one}
use Rattle.bm_law_order.specs.Act.{Act, Sealed, sealed, units_of}
use Rattle.bm_law_order.specs.Act as act
use Rattle.bm_post.specs.Rights.{Holds, numbers}
use Rattle.bm_cache.specs.Lent.{Ended, Lends, with_second}
use Rattle.bm_cache.specs.Placed.{Placed}
use Rattle.bm_cache.specs.Shown.{shown}
use Rattle.bm_cache.specs.Span.{Face}
use Rattle.bm_cache.specs.Tests.{Tests, Proper}
use Rattle.bm_cache.specs.Tokens.{Token, number_of}
use Rattle.bm_cache.specs.declared.caches.Caches.{Caches}
use Rattle.bm_work.specs.DeskTests.{tests_by}
use Rattle.bm_work.specs.Goes.{Alike}
use Rattle.bm_work.specs.Onward.{Onward}
use Rattle.bm_work.specs.Owed.{Whatever}
use Rattle.bm_work.proofs.Alike.{alike-posts}
use Rattle.bm_work.proofs.Came.{lasting-onward}
use Rattle.bm_work.proofs.Gone.{returned-apart, returned-once}
use Rattle.bm_work.proofs.Owing.{owes-called, units-sealed}
use Rattle.bm_work.proofs.Sides.{tests-shared}
use Rattle.bm_closing.specs.SentBack.{SentBack}
use Rattle.bm_closing.proofs.Closes.{closes-moved}
use Rattle.bm_closing.proofs.Returning.{at-end-returned, second-held, sent-back}
use Rattle.bm_closing.proofs.closing.send_back_now.Goals as goal

pub put_back-requires-clause-mine : goal.put_back-requires-clause-mine
put_back-requires-clause-mine g c =
    let h = c.args.host.now in
    let i = c.args.class in
    let s = shown (g.H.Host.held h) in
    let us = (s.rows i).deferred.second in
    let R = g.H.W.Knows.rights in
    let v = c.world.result.now in
    let p = c.requires.at_end.fine in
    let k : Known 0 (entry.Return i (Whole (map number_of us))) = record { level = omega (arith); class = search rules } in
    let side : v ≡ g.H.Desk.shared h = c.world.ensures.held ∙ g.met.H.Desk.shared_apart h c.second_out.new.self in
    let are : g.H.Host.tests h ≡ tests_by (R v) = g.met.H.Desk.tests_are h ∙ ap (λ y. tests_by (R y)) (sym side) in
    let proper : Proper (tests_by (R v)) s = subst (λ (t : Tests). Proper t s) are p.proper in
    let units : c.in_ok-units.units.items ≡ us = c.in_ok-units.ensures.units ∙ ap (λ (x : Caches g.row.R.Denot). ((shown x).rows i).deferred.second) c.caches.ensures.held in
    let F : List Token → Type 0 = λ z. Holds (R v) z in
    subst F (sym units) (second-held (R v) i s proper (returned-once 0 i (map number_of us) s k p.placed.once refl))

pub returns-clause-at_end : goal.returns-clause-at_end
returns-clause-at_end g c =
    let h = c.args.host.now in
    let z = c.second_out.new.self in
    let h1 = g.H.Host.with_held h z in
    let v = c.world.result.now in
    let w = c.put_back.new.self in
    let h2 = g.H.Desk.with_shared h1 w in
    let y = c.returned.new.self in
    let h3 = g.H.Host.with_held h2 y in
    let i = c.args.class in
    let R = g.H.W.Knows.rights in
    let N = g.H.W.Knows.known in
    let T = g.H.Host.tests in
    let L = g.R.Recorder.log in
    let C = g.R.Recorder.counts in
    let s = shown (g.H.Host.held h) in
    let us = (s.rows i).deferred.second in
    let ms : List ℕ = map number_of us in
    let p = c.requires.at_end.fine in
    let k : Known 0 (entry.Return i (Whole ms)) = record { level = omega (arith); class = search rules } in
    let units : c.in_ok-units.units.items ≡ us = c.in_ok-units.ensures.units ∙ ap (λ (x : Caches g.row.R.Denot). ((shown x).rows i).deferred.second) c.caches.ensures.held in
    let named : c.write_numbers.new.numbers.items ≡ ms = c.write_numbers.ensures ∙ ap (map number_of) units in
    let alike : Alike (N (g.H.Desk.shared h1)) (N w) = subst (λ x. Alike (N x) (N w)) c.world.ensures.held (alike-posts _ (N v) (N w) c.put_back.ensures.known) in
    let A : Caches g.row.R.Denot → Type 0 = λ x. Lends L C (with_second i [] (shown x)) x z in
    let E : Caches g.row.R.Denot → Type 0 = λ x. Ended L c.level-level.result (entry.Return i (Whole c.write_numbers.new.numbers.items)) x y in
    let lent : A (g.H.Host.held h) = subst A c.caches.ensures.held c.in_ok-units.ensures.lent in
    let ended : E z = subst E (c.caches-2.ensures.held ∙ g.met.H.Desk.held_apart h1 w ∙ g.met.H.Host.held_back h z) c.returned.ensures.step in
    let back : SentBack L i (g.H.Host.held h) y = sent-back L C i c.level-level.result c.write_numbers.new.numbers.items (g.H.Host.held h) z y (c.level-level.ensures.same ∙ c.requires.at_end.ordinary) named lent ended in
    let there : g.H.Host.held h3 ≡ y = g.met.H.Host.held_back h2 y in
    let P : Caches g.row.R.Denot → Type 0 = λ x. Placed L C x in
    let gone : List ℕ = numbers c.in_ok-units.units.items in
    let on : Onward gone (tests_by (R v)) (tests_by (R w)) = lasting-onward (R v) (R w) gone (λ n none m. c.put_back.ensures.back.others n none ∙ m) c.put_back.ensures.lasts in
    let on2 : Onward gone (T h1) (T h2) = tests-shared L C Whatever T g.H.Host.face g.H.Host.held g.H.Desk.shared g.H.Desk.with_shared N R g.met.H.Desk.shared_back g.met.H.Desk.held_apart g.met.H.Desk.face_apart (λ x q a s. s) g.met.H.Desk.tests_are gone h1 v w c.world.ensures.held on in
    let O : List ℕ → Tests → Tests → Type 0 = λ xs t q. Onward xs t q in
    let on3 : Onward ms (T h) (T h3) = subst (λ xs. O xs (T h) (T h3)) (ap (λ (x : List Token). numbers x) units) (subst (O gone (T h)) (sym (g.met.H.Host.tests_back h2 y)) (subst (λ t. O gone t (T h2)) (g.met.H.Host.tests_back h z) on2)) in
    let r0 : g.R.Recorder.log z.recorder ≡ g.R.Recorder.log (g.H.Host.held h).recorder = ap g.R.Recorder.log lent.recorder in
    let o1 = g.met.H.Desk.owes_open h1 (g.met.H.Host.sound_back h z lent.processor r0 c.requires.at_end.sound) in
    let given : List Sealed = sealed c.in_ok-units.units.items in
    let o2 = owes-called g.H.Desk.shared g.H.Desk.with_shared N g.H.W.Knows.does (λ (done : List Act). g.H.Desk.owes done []) (λ x q done more. g.met.H.Desk.owes_done x q done more []) h1 v w (N w) (act.Returns given ∷ []) c.world.ensures.held refl (alike-posts _ (N v) (N w) c.put_back.ensures.known) c.put_back.ensures.does [] o1 in
    let ns = c.write_numbers.new.numbers.items in
    let x = entry.Return i (Whole ns) in
    let G : ℕ → Caches g.row.R.Denot → Type 0 = λ n q. Adds n (x ∷ []) (L q.recorder) (L y.recorder) in
    let a0 : G c.level-level.result c.caches-2.result.now = Adds-one c.level-level.result x (L c.caches-2.result.now.recorder) (L y.recorder) c.returned.ensures.step.records in
    let fx : c.level-level.result ≡ (g.H.Host.face h2).level = c.level-level.ensures.same ∙ sym (ap (λ (f : Face). f.level) (g.met.H.Desk.face_apart h1 w alike ∙ g.met.H.Host.face_back h z)) in
    let a1 : G (g.H.Host.face h2).level (g.H.Host.held h2) = subst (λ n. G n (g.H.Host.held h2)) fx (subst (G c.level-level.result) c.caches-2.ensures.held a0) in
    let o3 = g.met.H.Ended.owes_noted h2 y (act.Returns given ∷ []) [] (x ∷ []) (c.returned.ensures.step.processor ∙ ap (λ (q : Caches g.row.R.Denot). q.processor) c.caches-2.ensures.held) a1 o2 in
    let names : units_of given ≡ ns = units-sealed c.in_ok-units.units.items ∙ sym c.write_numbers.ensures in
    let sound = g.met.H.Ended.owes_returned h3 i given (subst (λ (q : List ℕ). g.H.Desk.owes (act.Returns given ∷ []) (entry.Return i (Whole q) ∷ []) h3) (sym names) o3) in
    at-end-returned L C g.H.Host.sound T g.H.Host.face g.H.Host.held h h3 i ms
    (g.met.H.Host.face_back h2 y ∙ g.met.H.Desk.face_apart h1 w alike ∙ g.met.H.Host.face_back h z)
    sound
    (subst P (sym there) c.returned.ensures.placed)
    (ap (λ (x : Caches g.row.R.Denot). shown x) there ∙ back.lists)
    (ap (λ (x : Caches g.row.R.Denot). x.processor) there ∙ back.processor)
    (returned-apart 0 i ms s k p.placed.once refl)
    on3 c.requires.at_end

pub returns-clause-goes : goal.returns-clause-goes
returns-clause-goes g c =
    let h = c.args.host.now in
    let z = c.second_out.new.self in
    let h1 = g.H.Host.with_held h z in
    let w = c.put_back.new.self in
    let h2 = g.H.Desk.with_shared h1 w in
    let y = c.returned.new.self in
    let h3 = g.H.Host.with_held h2 y in
    let N = g.H.W.Knows.known in
    let join = g.met.H.Desk.stays_join in
    let alike : Alike (N (g.H.Desk.shared h1)) (N w) = subst (λ x. Alike (N x) (N w)) c.world.ensures.held (alike-posts _ (N c.world.result.now) (N w) c.put_back.ensures.known) in
    record {
      face = g.met.H.Host.face_back h2 y ∙ g.met.H.Desk.face_apart h1 w alike ∙ g.met.H.Host.face_back h z;
      pending = omega (arith, g.met.H.Host.pending_back h2 y, g.met.H.Desk.pending_apart h1 w, g.met.H.Host.pending_back h z);
      keeps = join h h2 h3 (join h h1 h2 (g.met.H.Desk.keeps_stays h h1 (g.met.H.Host.keeps_back h z)) (g.met.H.Desk.stays_apart h1 w alike)) (g.met.H.Desk.keeps_stays h2 h3 (g.met.H.Host.keeps_back h2 y));
    }

pub returns-clause-does : goal.returns-clause-does
returns-clause-does g c =
    let h = c.args.host.now in
    let z = c.second_out.new.self in
    let h1 = g.H.Host.with_held h z in
    let v = c.world.result.now in
    let w = c.put_back.new.self in
    let h2 = g.H.Desk.with_shared h1 w in
    let y = c.returned.new.self in
    let given : List Sealed = sealed c.in_ok-units.units.items in
    closes-moved g.H.W.Knows.does (g.H.Desk.shared h) v w (g.H.Desk.shared (g.H.Host.with_held h2 y)) (c.world.ensures.held ∙ g.met.H.Desk.shared_apart h z) (g.met.H.Desk.shared_apart h2 y ∙ g.met.H.Desk.shared_back h1 w) (act.Returns given ∷ [], (tt, tt), c.put_back.ensures.does)
