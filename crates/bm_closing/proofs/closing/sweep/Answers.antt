use Rattle.std.proofs.Common.{◌≡◌, ◌∙◌, ◌<◌, ◌+◌, ◌++◌, ◌∷◌, [], ℕ, List, length, map, refl, sym, ap, subst, arith}
use Rattle.std.specs.List.{flat_map}
use Rattle.bm_journal.specs.declared.ids.Domain.TheVariants.{Tracing}
use Rattle.bm_grace.specs.Rest.{MovesNumber}
use Rattle.bm_law.specs.State.{seven_lists}
use Rattle.bm_post.specs.Rights.{Loses, numbers}
use Rattle.bm_law_order.specs.Act as act
use Rattle.bm_law_order.specs.Chunk as chunk
use Rattle.bm_work.specs.Owed.{Whatever}
use Rattle.bm_work.proofs.Owing.{shows}
use Rattle.bm_work.proofs.Sides.{on-err, on-err-any}
use Rattle.bm_closing.specs.Told.{receives_all}
use Rattle.bm_closing.proofs.Owed.{at-end-with}
use Rattle.bm_cache.specs.Shown.{shown}
use Rattle.bm_cache.specs.Tokens.{Token, number_of}
use Rattle.bm_cache.specs.declared.caches.Caches.{Caches}
use Rattle.bm_cache.specs.Span.{Goes}
use Rattle.bm_closing.proofs.AtEnds.{at-end-still, when-ok, with-ok}
use Rattle.bm_closing.proofs.Closes.{closes-join, closes-moved}
use Rattle.bm_closing.specs.Closes.{ClosesBy}
use Rattle.bm_closing.proofs.Stops.{stops-before, stops-swept}
use Rattle.bm_closing.proofs.Swept.{all-gone, emptied-still, sweeps-none, sweeps-some, told-came}
use Rattle.bm_closing.proofs.closing.sweep.Goals as goal

pub returns-then-hold_nothing-clause-sweeps : goal.returns-then-hold_nothing-clause-sweeps
returns-then-hold_nothing-clause-sweeps g c =
    let a = c.args.host.now in
    let b = c.empty_inbox.new.host in
    let d = c.hold_nothing.new.host in
    let us = flat_map (λ p. p.items) c.in_ok-parcels.parcels.items in
    let K = λ (h : g.row.H.Denot). g.H.W.Knows.known (g.H.Desk.shared h) in
    let R = λ (h : g.row.H.Denot). g.H.W.Knows.rights (g.H.Desk.shared h) in
    let q = c.hold_nothing.ensures in
    let n = q.nothing c.if-hold_nothing.true in
    let go : Goes g.H.Host.face g.H.Host.pending g.H.Desk.stays b d = record { face = q.handled.face; pending = omega (arith, q.handled.pending); keeps = q.handled.stays } in
    let e = emptied-still g.R.Recorder.log g.H.Host.face g.H.Host.pending g.H.Desk.stays g.H.Host.held K g.met.H.Desk.stays_join R c.args.class us a b d q.same (ap g.H.W.Knows.known q.handled.shared_is) (ap g.H.W.Knows.rights q.handled.shared_is) go c.in_ok-parcels.ensures.emptied in
    sweeps-none g.R.Recorder.log g.H.Host.face g.H.Host.pending g.H.Desk.stays g.H.Host.held K g.met.H.Desk.stays_join R c.args.class us a d e (ap (λ (x : Caches g.row.R.Denot). seven_lists ((shown x).rows c.args.class)) q.same ∙ n.0) (ap (flat_map (λ p. p.items)) n.1)

pub returns-clause-gone : goal.returns-clause-gone
returns-clause-gone g c =
    let a = c.args.host.now in
    let b = c.empty_inbox.new.host in
    let d = c.hold_nothing.new.host in
    let f = c.sweep_all.new.host in
    let i = c.args.class in
    let us = flat_map (λ p. p.items) c.in_ok-parcels.parcels.items in
    let N = g.H.W.Knows.known in
    let R = g.H.W.Knows.rights in
    let side = g.H.Desk.shared in
    let r = c.sweep_all.result in
    let q = c.hold_nothing.ensures in
    let e = c.in_ok-parcels.ensures.emptied in
    let xs = seven_lists ((shown (g.H.Host.held a)).rows i) in
    let lists : seven_lists ((shown (g.H.Host.held d)).rows i) ≡ xs = ap (λ (x : Caches g.row.R.Denot). seven_lists ((shown x).rows i)) (q.same ∙ e.held) in
    let F : List Token → Type 0 = λ ys. Loses (map number_of (ys ++ us)) (R (side d)) (R (side f)) in
    let G : g.row.H-W.Denot → Type 0 = λ x. Loses (map number_of (xs ++ us)) (R x) (R (side f)) in
    with-ok r _ (λ o. all-gone i xs us (R (side a)) (R (side b)) (R (side f)) (N (side a)) (N (side b)) e.came (subst G q.handled.shared_is (subst F lists (when-ok r _ o c.sweep_all.ensures.gone))))

pub returns-clause-sweeps : goal.returns-clause-sweeps
returns-clause-sweeps g c =
    let a = c.args.host.now in
    let b = c.empty_inbox.new.host in
    let d = c.hold_nothing.new.host in
    let f = c.sweep_all.new.host in
    let i = c.args.class in
    let us = flat_map (λ p. p.items) c.in_ok-parcels.parcels.items in
    let K = λ (h : g.row.H.Denot). g.H.W.Knows.known (g.H.Desk.shared h) in
    let R = λ (h : g.row.H.Denot). g.H.W.Knows.rights (g.H.Desk.shared h) in
    let r = c.sweep_all.result in
    let q = c.hold_nothing.ensures in
    let go : Goes g.H.Host.face g.H.Host.pending g.H.Desk.stays b d = record { face = q.handled.face; pending = omega (arith, q.handled.pending); keeps = q.handled.stays } in
    let e = emptied-still g.R.Recorder.log g.H.Host.face g.H.Host.pending g.H.Desk.stays g.H.Host.held K g.met.H.Desk.stays_join R i us a b d q.same (ap g.H.W.Knows.known q.handled.shared_is) (ap g.H.W.Knows.rights q.handled.shared_is) go c.in_ok-parcels.ensures.emptied in
    let S : Caches g.row.R.Denot → Type 0 = λ x. 0 < length (seven_lists ((shown x).rows i) ++ us) in
    let some : S (g.H.Host.held d) = subst S (sym q.same) (q.something c.if-hold_nothing.false) in
    with-ok r _ (λ o. sweeps-some g.R.Recorder.log g.H.Host.face g.H.Host.pending g.H.Desk.stays g.H.Host.held K g.met.H.Desk.stays_join R i us a d e f some (when-ok r _ o c.sweep_all.ensures.swept))

pub returns-clause-rest : goal.returns-clause-rest
returns-clause-rest g c =
    let side = g.H.Desk.shared in
    let b = c.empty_inbox.new.host in
    let f = c.sweep_all.new.host in
    let r = c.sweep_all.result in
    let q = c.hold_nothing.ensures in
    let still = c.in_ok-parcels.ensures.rest in
    with-ok r _ (λ o n two.
    let F : g.row.H-W.Denot → Type 0 = λ x. MovesNumber g.H.W.Knows.rest Tracing n (n + 2) x (side f) in
    let m : MovesNumber g.H.W.Knows.rest Tracing n (n + 2) (side b) (side f) = subst F q.handled.shared_is (when-ok r _ o c.sweep_all.ensures.rest n two) in
    (n + 2, (omega (arith, two), record { moves = λ h. m.moves (still Tracing n h); other = λ d k ne h. m.other d k ne (still d k h) })))

pub returns-then-hold_nothing-clause-at_end : goal.returns-then-hold_nothing-clause-at_end
returns-then-hold_nothing-clause-at_end g c =
    let b = c.empty_inbox.new.host in
    let d = c.hold_nothing.new.host in
    let i = c.args.class in
    let q = c.hold_nothing.ensures in
    let ps = c.in_ok-parcels.parcels.items in
    let none : map (λ p. numbers p.items) ps ≡ [] = ap (map (λ p. numbers p.items)) (q.nothing c.if-hold_nothing.true).1 in
    let o = q.owes (receives_all i (map (λ p. numbers p.items) ps)) [] c.in_ok-parcels.ensures.owes in
    let F : List (List ℕ) → Type 0 = λ z. g.H.Desk.owes (receives_all i z) [] d in
    let sound = g.met.H.Desk.owes_closed d (act.Receives i [] ∷ []) [] (shows (chunk.FindingNone i) refl) (subst F none o) in
    at-end-with g.R.Recorder.log g.R.Recorder.counts Whatever g.H.Host.sound g.H.Host.tests g.H.Host.face g.H.Host.held d sound (at-end-still g.R.Recorder.log g.R.Recorder.counts Whatever g.H.Host.tests g.H.Host.face g.H.Host.held b d q.same q.handled.face q.handled.tests_are tt c.in_ok-parcels.ensures.at_end)

pub returns-then-hold_nothing-clause-does : goal.returns-then-hold_nothing-clause-does
returns-then-hold_nothing-clause-does g c =
    let side = g.H.Desk.shared in
    let b = c.empty_inbox.new.host in
    closes-moved g.H.W.Knows.does (side c.args.host.now) (side c.args.host.now) (side b) (side c.hold_nothing.new.host) refl c.hold_nothing.ensures.handled.shared_is c.in_ok-parcels.ensures.does

pub returns-clause-does : goal.returns-clause-does
returns-clause-does g c =
    let side = g.H.Desk.shared in
    let b = c.empty_inbox.new.host in
    let f = c.sweep_all.new.host in
    let r = c.sweep_all.result in
    let F : g.row.H-W.Denot → Type 0 = λ x. ClosesBy g.H.W.Knows.does x (side f) in
    with-ok r _ (λ o. closes-join g.H.W.Knows.does g.H.W.Knows.does_join (side c.args.host.now) (side b) (side f) c.in_ok-parcels.ensures.does (subst F c.hold_nothing.ensures.handled.shared_is (when-ok r _ o c.sweep_all.ensures.does)))

pub returns-in_err-parcels-clause-memory : goal.returns-in_err-parcels-clause-memory
returns-in_err-parcels-clause-memory g c =
    let K = λ (h : g.row.H.Denot). g.H.W.Knows.known (g.H.Desk.shared h) in
    on-err-any c.from_residual.result (stops-before g.R.Recorder.log g.R.Recorder.counts g.H.Host.face g.H.Host.held K c.args.class c.args.host.now c.empty_inbox.new.host c.in_err-parcels.ensures.refused c.requires.at_end.fine.placed)

pub returns-clause-memory : goal.returns-clause-memory
returns-clause-memory g c =
    let a = c.args.host.now in
    let b = c.empty_inbox.new.host in
    let d = c.hold_nothing.new.host in
    let f = c.sweep_all.new.host in
    let i = c.args.class in
    let us = flat_map (λ p. p.items) c.in_ok-parcels.parcels.items in
    let K = λ (h : g.row.H.Denot). g.H.W.Knows.known (g.H.Desk.shared h) in
    let R = λ (h : g.row.H.Denot). g.H.W.Knows.rights (g.H.Desk.shared h) in
    let q = c.hold_nothing.ensures in
    let e = c.in_ok-parcels.ensures.emptied in
    let told = told-came g.R.Recorder.log g.H.Host.face g.H.Host.pending g.H.Desk.stays g.H.Host.held K g.met.H.Desk.stays_join R i us a b e in
    let S : Caches g.row.R.Denot → Type 0 = λ x. 0 < length (seven_lists ((shown x).rows i) ++ us) in
    let some : S (g.H.Host.held d) = subst S (sym q.same) (q.something c.if-hold_nothing.false) in
    on-err c.sweep_all.result (λ u. stops-swept g.R.Recorder.log g.R.Recorder.counts g.H.Host.face g.H.Host.held K i us a d f (q.same ∙ e.held) told some u) c.sweep_all.ensures.memory
