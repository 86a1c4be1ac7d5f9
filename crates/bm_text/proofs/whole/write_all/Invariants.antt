-- The bytes done so far were appended, no write failed, and nothing was flushed.
use Rattle.std.proofs.Common.{◌≡◌, ◌≤◌, ◌-◌, length, take}
use Rattle.std.specs.Io.KnownBytes.{Appends}
use Rattle.bm_text.proofs.whole.write_all.Given as goal

abbrev pub invariant-turns : goal.invariant-turns
invariant-turns g l = record {
  within : l.done ≤ length l.bytes;
  appended : Appends (g.K.Sink.written l.initial.sink) (g.K.Sink.written l.sink) (take l.done l.bytes);
  not_flushed : g.K.Sink.flushed l.sink ≡ g.K.Sink.flushed l.initial.sink;
  faultless : g.K.Sink.faults l.sink ≡ g.K.Sink.faults l.initial.sink;
}

abbrev pub decreases-turns : goal.decreases-turns
decreases-turns g l = length l.bytes - l.done
