use Rattle.std.proofs.Common.{◌≡◌, ◌≤◌, ◌%◌, ℕ, drop, length}
use Rattle.bm_journal.specs.declared.ids.Domain.{Domain}
use Rattle.bm_journal.specs.declared.ids.Domain.TheVariants.{Tracing}
use Rattle.bm_grace.specs.Known.{side}
use Rattle.bm_closing.specs.AtEnd.{AtEnd}
use Rattle.bm_closing.specs.Closes.{ClosesBy}
use Rattle.bm_closing.specs.Stops.{StopsEach}
use Rattle.bm_closing.specs.SweepsEach.{SweepsEach}
use Rattle.bm_closing.proofs.whole.sweep_each.Given as goal

-- whatever sweeps the rest then, all are swept; where that stops, so do all
abbrev pub invariant-loop-class : goal.invariant-loop-class
invariant-loop-class g l = record {
  then_swept : (d : g.row.H.Denot) → SweepsEach g.R.Recorder.log g.H.Host.face g.H.Host.pending g.H.Desk.stays g.H.Host.held (λ h. g.H.W.Knows.known (g.H.Desk.shared h)) (drop l.class-index l.classes) l.host d → SweepsEach g.R.Recorder.log g.H.Host.face g.H.Host.pending g.H.Desk.stays g.H.Host.held (λ h. g.H.W.Knows.known (g.H.Desk.shared h)) l.classes l.initial.host d;
  then_stopped : (d : g.row.H.Denot) → StopsEach g.R.Recorder.log g.R.Recorder.counts g.H.Host.face g.H.Host.pending g.H.Desk.stays g.H.Host.held (λ h. g.H.W.Knows.known (g.H.Desk.shared h)) (drop l.class-index l.classes) l.host d → StopsEach g.R.Recorder.log g.R.Recorder.counts g.H.Host.face g.H.Host.pending g.H.Desk.stays g.H.Host.held (λ h. g.H.W.Knows.known (g.H.Desk.shared h)) l.classes l.initial.host d;
  rest : (d : Domain) → (n : ℕ) × (g.H.W.Knows.rest (g.H.Desk.shared l.host) d n × (n % 2 ≡ 0));
  room : length (drop l.class-index l.classes) ≤ (side Tracing (g.H.W.Knows.known (g.H.Desk.shared l.host))).begins;
  does : ClosesBy g.H.W.Knows.does (g.H.Desk.shared l.initial.host) (g.H.Desk.shared l.host);
  at_end : AtEnd g.R.Recorder.log g.R.Recorder.counts g.H.Host.sound g.H.Host.tests g.H.Host.face g.H.Host.held l.host;
}
