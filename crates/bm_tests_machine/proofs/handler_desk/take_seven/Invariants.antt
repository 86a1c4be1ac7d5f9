use Rattle.bm_cache.specs.Span.{Came, Fine, Goes}
use Rattle.bm_tests_machine.proofs.handler_desk.take_seven.Given as goal

abbrev pub invariant-loop-turn : goal.invariant-loop-turn
invariant-loop-turn g l = record {
  came : Came g.R.Recorder.log (g.H.Host.face l.initial.host).level (g.H.Host.tests l.initial.host) (g.H.Host.tests l.host) (g.H.Host.held l.initial.host) (g.H.Host.held l.host);
  fine : Fine g.R.Recorder.log g.R.Recorder.counts (g.H.Host.tests l.host) (g.H.Host.face l.host).processors (g.H.Host.face l.host).level (g.H.Host.held l.host);
  goes : Goes g.H.Host.face g.H.Host.pending g.H.Host.keeps l.initial.host l.host;
  sound : g.H.Host.sound l.host;
}
