use Rattle.std.proofs.Common.{◌≡◌, ◌≤◌, ◌+◌, ℕ, List, [], ◌∷◌, length, drop, ap, sym, subst, ◌∙◌, arith}
use Rattle.std.proofs.lemmas.List.{drop_all, drop_more}
use Rattle.bm_journal.specs.declared.ids.Domain.TheVariants.{Tracing}
use Rattle.bm_grace.specs.Known.{side}
use Rattle.bm_work.proofs.Sides.{on-err-any}
use Rattle.bm_closing.specs.Stops.{StopsEach}
use Rattle.bm_closing.specs.SweepsEach.{SweepsEach}
use Rattle.bm_closing.proofs.Closes.{closes-join}
use Rattle.bm_closing.proofs.Classes.{each-more, each-none, rests-even}
use Rattle.bm_closing.proofs.Stops.{stops-first, stops-later}
use Rattle.bm_closing.proofs.whole.sweep_each.Goals as goal

pub loop-class-init : goal.loop-class-init
loop-class-init g c = record {
  then_swept = λ d r. r;
  then_stopped = λ d r. r;
  rest = c.requires.rest;
  room = c.requires.room;
  does = ([], tt, g.H.W.Knows.does_same (g.H.Desk.shared c.args.host.now));
  at_end = c.requires.at_end;
}

pub loop-class-preserved : goal.loop-class-preserved
loop-class-preserved g c =
    let i = c.loop-class.class-index in
    let cs = c.args.classes.now in
    let b = c.loop-class.host in
    let z = c.sweep.new.host in
    let w = c.in_ok-sweep.ensures in
    let v = c.loop-class.invariant in
    let x = c.class-item.result in
    let N = λ (h : g.row.H.Denot). g.H.W.Knows.known (g.H.Desk.shared h) in
    let e : drop i cs ≡ x ∷ drop (i + 1) cs = drop_more cs i x c.loop-class-test.true ∙ ap (λ (y : ℕ). y ∷ drop (i + 1) cs) (sym c.class-item.is) in
    let begins : (side Tracing (N b)).begins ≤ (side Tracing (N z)).begins + 1 = w.sweeps.tracing_begins in
    let S : List ℕ → g.row.H.Denot → g.row.H.Denot → Type 0 = λ ys h k. SweepsEach g.R.Recorder.log g.H.Host.face g.H.Host.pending g.H.Desk.stays g.H.Host.held N ys h k in
    let Z : List ℕ → g.row.H.Denot → g.row.H.Denot → Type 0 = λ ys h k. StopsEach g.R.Recorder.log g.R.Recorder.counts g.H.Host.face g.H.Host.pending g.H.Desk.stays g.H.Host.held N ys h k in
    record {
      then_swept = λ d r. v.then_swept d (subst (λ (ys : List ℕ). S ys b d) (sym e) (each-more g.R.Recorder.log g.H.Host.face g.H.Host.pending g.H.Desk.stays g.H.Host.held N g.R.Recorder.counts g.met.H.Desk.stays_join x (drop (i + 1) cs) b z d v.at_end.fine.placed w.at_end.fine.placed w.sweeps r));
      then_stopped = λ d r. v.then_stopped d (subst (λ (ys : List ℕ). Z ys b d) (sym e) (stops-later g.R.Recorder.log g.R.Recorder.counts g.H.Host.face g.H.Host.held N g.H.Host.pending g.H.Desk.stays g.met.H.Desk.stays_join x (drop (i + 1) cs) b z d v.at_end.fine.placed w.at_end.fine.placed w.sweeps r));
      rest = rests-even g.H.W.Knows.rest (g.H.Desk.shared b) (g.H.Desk.shared z) v.rest w.rest;
      room = let n = ap length e in let m = v.room in omega (arith, n, m, begins);
      does = closes-join g.H.W.Knows.does g.H.W.Knows.does_join (g.H.Desk.shared c.args.host.now) (g.H.Desk.shared b) (g.H.Desk.shared z) v.does w.does;
      at_end = w.at_end;
    }

pub returns-clause-sweeps : goal.returns-clause-sweeps
returns-clause-sweeps g c =
    let i = c.loop-class.class-index in
    let cs = c.args.classes.now in
    let b = c.loop-class.host in
    let N = λ (h : g.row.H.Denot). g.H.W.Knows.known (g.H.Desk.shared h) in
    let none : drop i cs ≡ [] = drop_all i cs (omega arith) in
    let S : List ℕ → Type 0 = λ ys. SweepsEach g.R.Recorder.log g.H.Host.face g.H.Host.pending g.H.Desk.stays g.H.Host.held N ys b b in
    c.loop-class.invariant.then_swept b (subst S (sym none) (each-none g.R.Recorder.log g.H.Host.face g.H.Host.pending g.H.Desk.stays g.H.Host.held N b (g.met.H.Desk.keeps_stays b b (g.met.H.Host.keeps_same b))))

pub returns-in_err-sweep-clause-memory : goal.returns-in_err-sweep-clause-memory
returns-in_err-sweep-clause-memory g c =
    let i = c.loop-class.class-index in
    let cs = c.args.classes.now in
    let b = c.loop-class.host in
    let z = c.sweep.new.host in
    let x = c.class-item.result in
    let N = λ (h : g.row.H.Denot). g.H.W.Knows.known (g.H.Desk.shared h) in
    let e : drop i cs ≡ x ∷ drop (i + 1) cs = drop_more cs i x c.loop-class-test.true ∙ ap (λ (y : ℕ). y ∷ drop (i + 1) cs) (sym c.class-item.is) in
    let Z : List ℕ → Type 0 = λ ys. StopsEach g.R.Recorder.log g.R.Recorder.counts g.H.Host.face g.H.Host.pending g.H.Desk.stays g.H.Host.held N ys b z in
    let first = stops-first g.R.Recorder.log g.R.Recorder.counts g.H.Host.face g.H.Host.held N g.H.Host.pending g.H.Desk.stays x (drop (i + 1) cs) b z (g.met.H.Desk.keeps_stays b b (g.met.H.Host.keeps_same b)) c.loop-class.invariant.at_end.fine.placed c.in_err-sweep.ensures.memory in
    on-err-any c.from_residual.result (c.loop-class.invariant.then_stopped z (subst Z (sym e) first))
