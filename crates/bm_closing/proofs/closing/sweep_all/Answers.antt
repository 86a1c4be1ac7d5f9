use Rattle.std.proofs.Common.{◌≡◌, ◌≤◌, ◌+◌, ℕ, sym, subst, arith}
use Rattle.std.specs.List.{flat_map}
use Rattle.bm_cache.specs.declared.caches.Caches.{Caches}
use Rattle.bm_work.proofs.Sides.{on-err}
use Rattle.bm_closing.specs.Stops.{Unreturned}
use Rattle.bm_closing.proofs.AtEnds.{when-ok, with-ok}
use Rattle.bm_closing.proofs.Closes.{closes-join}
use Rattle.bm_closing.proofs.Stops.{unreturned}
use Rattle.bm_closing.proofs.Swept.{swept-of}
use Rattle.bm_closing.proofs.closing.sweep_all.Goals as goal

-- a number that is the stamp has reached it
reached : (x m n : ℕ) → x ≡ n + 2 → m ≡ n + 2 → x ≤ m
reached x m n e f = omega (arith, e, f)

pub returns-clause-swept : goal.returns-clause-swept
returns-clause-swept g c =
    let a = c.args.host.now in
    let b = c.gather_all.new.host in
    let d = c.send_back.new.host in
    let us = flat_map (λ p. p.items) c.args.parcels.items in
    let r = c.send_back.result in
    let one = c.gather_all.ensures in
    let two = c.send_back.ensures in
    let w = one.gathered.0 in
    let rest = c.requires.rest in
    let at = one.gathered.1 rest.0 rest.1.0 rest.1.1 in
    let passed = reached w.stamp w.seen rest.0 at.stamp at.seen in
    with-ok r _ (λ e. swept-of g.R.Recorder.log g.H.Host.face g.H.Host.pending g.H.Desk.stays g.H.Host.held (λ h. g.H.W.Knows.known (g.H.Desk.shared h)) g.met.H.Desk.stays_join c.args.class us w a b d at.domain passed one.gathered.2 (when-ok r _ e two.sent) one.goes (when-ok r _ e two.goes) one.alike (when-ok r _ e two.alike) one.parcels (when-ok r _ e two.parcels) (when-ok r _ e two.grace) one.plain one.begins)

pub returns-clause-does : goal.returns-clause-does
returns-clause-does g c =
    let side = g.H.Desk.shared in
    let r = c.send_back.result in
    with-ok r _ (λ e. closes-join g.H.W.Knows.does g.H.W.Knows.does_join (side c.args.host.now) (side c.gather_all.new.host) (side c.send_back.new.host) c.gather_all.ensures.does (when-ok r _ e c.send_back.ensures.does))

pub returns-clause-memory : goal.returns-clause-memory
returns-clause-memory g c =
    let log = g.R.Recorder.log in
    let counts = g.R.Recorder.counts in
    let held = g.H.Host.held in
    let a = c.args.host.now in
    let b = c.gather_all.new.host in
    let us = flat_map (λ p. p.items) c.args.parcels.items in
    let one = c.gather_all.ensures in
    let w = one.gathered.0 in
    let rest = c.requires.rest in
    let at = one.gathered.1 rest.0 rest.1.0 rest.1.1 in
    let passed = reached w.stamp w.seen rest.0 at.stamp at.seen in
    let U : Caches g.row.R.Denot → Type 0 = λ x. Unreturned log counts c.args.class us (held a) x in
    let u : U (held b) = unreturned log counts c.args.class us w (held a) (held b) at.domain passed one.gathered.2 one.at_end.fine.placed in
    on-err c.send_back.result (λ e. subst U (sym e) u) c.send_back.ensures.refused
