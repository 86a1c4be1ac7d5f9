use Rattle.std.proofs.Common.{map, subst, arith}
use Rattle.bm_grace.specs.Rest.{StaysAtRest}
use Rattle.bm_post.specs.Rights.{Loses}
use Rattle.bm_cache.specs.Shown.{shown}
use Rattle.bm_cache.specs.Span.{Goes}
use Rattle.bm_cache.specs.Tokens.{number_of}
use Rattle.bm_cache.specs.declared.caches.Caches.{Caches}
use Rattle.bm_cache.proofs.Moments.{goes-join}
use Rattle.bm_work.specs.Goes.{Alike}
use Rattle.bm_work.proofs.Sides.{on-ok}
use Rattle.bm_closing.specs.Closes.{ClosesBy}
use Rattle.bm_closing.specs.SentBack.{SentBack}
use Rattle.bm_closing.proofs.closing.send_back.Goals as goal

pub returns-clause-gone : goal.returns-clause-gone
returns-clause-gone g c =
    let b = c.room_for_return.new.host in
    let d = c.send_back_now.new.host in
    let R = g.H.W.Knows.rights in
    let side = g.H.Desk.shared in
    let e = c.room_for_return.ensures in
    let F : Caches g.row.R.Denot → g.row.H-W.Denot → Type 0 = λ x w. Loses (map number_of ((shown x).rows c.args.class).deferred.second) (R w) (R (side d)) in
    on-ok c.send_back_now.result (λ l. subst (F (g.H.Host.held c.args.host.now)) e.handled.shared_is (subst (λ x. F x (side b)) e.same l)) c.send_back_now.ensures.gone

pub returns-clause-sent : goal.returns-clause-sent
returns-clause-sent g c =
    let F : Caches g.row.R.Denot → Type 0 = λ x. SentBack g.R.Recorder.log c.args.class x (g.H.Host.held c.send_back_now.new.host) in
    on-ok c.send_back_now.result (λ s. subst F c.room_for_return.ensures.same s) c.send_back_now.ensures.sent

pub returns-clause-alike : goal.returns-clause-alike
returns-clause-alike g c =
    let N = g.H.W.Knows.known in
    let F : g.row.H-W.Denot → Type 0 = λ w. Alike (N w) (N (g.H.Desk.shared c.send_back_now.new.host)) in
    on-ok c.send_back_now.result (λ s. subst F c.room_for_return.ensures.handled.shared_is s) c.send_back_now.ensures.alike

pub returns-clause-does : goal.returns-clause-does
returns-clause-does g c =
    let F : g.row.H-W.Denot → Type 0 = λ w. ClosesBy g.H.W.Knows.does w (g.H.Desk.shared c.send_back_now.new.host) in
    on-ok c.send_back_now.result (λ s. subst F c.room_for_return.ensures.handled.shared_is s) c.send_back_now.ensures.does

pub returns-clause-rest : goal.returns-clause-rest
returns-clause-rest g c =
    let F : g.row.H-W.Denot → Type 0 = λ w. StaysAtRest g.H.W.Knows.rest w (g.H.Desk.shared c.send_back_now.new.host) in
    on-ok c.send_back_now.result (λ s. subst F c.room_for_return.ensures.handled.shared_is s) c.send_back_now.ensures.rest

pub returns-clause-goes : goal.returns-clause-goes
returns-clause-goes g c =
    let h = c.room_for_return.ensures.handled in
    let first : Goes g.H.Host.face g.H.Host.pending g.H.Desk.stays c.args.host.now c.room_for_return.new.host = record { face = h.face; pending = omega (arith, h.pending); keeps = h.stays } in
    on-ok c.send_back_now.result (λ s. goes-join g.met.H.Desk.stays_join first s) c.send_back_now.ensures.goes
