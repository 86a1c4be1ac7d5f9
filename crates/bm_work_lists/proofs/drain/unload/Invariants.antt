use Rattle.std.proofs.Common.{◌≡◌, ◌<◌, ◌+◌, ◌-◌, ◌++◌, List, length, map}
use Rattle.std.specs.List.{All}
use Rattle.bm_law.specs.declared.mark.Mark.TheVariants as mark
use Rattle.bm_cache.specs.Tokens.{Token, number_of}
use Rattle.bm_cache.specs.Tests.{Same}
use Rattle.bm_cache.specs.Shown.{shown}
use Rattle.bm_cache.specs.Span.{Fine, Goes, RaisesNone, Span, Unbroken}
use Rattle.bm_law_work.specs.WorkPhrases.{Moved, takes}
use Rattle.bm_work_lists.specs.Fit.{Fit}
use Rattle.bm_work_lists.specs.Takes.{popped}
use Rattle.bm_work_lists.proofs.drain.unload.Given as goal

-- each take so far left more than the middle, and the hand has gained what they took
abbrev pub invariant-takes : goal.invariant-takes
invariant-takes g l = record {
  sound : g.H.Host.sound l.host;
  fine : Fine g.R.Recorder.log g.R.Recorder.counts (g.H.Host.tests l.host) (g.H.Host.face l.host).processors ((g.H.Host.face l.host).level + 1) (g.H.Host.held l.host);
  goes : Goes g.H.Host.face g.H.Host.pending g.H.Host.keeps l.initial.host l.host;
  alone : Unbroken g.H.Host.face g.H.Host.pending g.H.Host.held g.R.Recorder.log l.initial.host l.host;
  flags : RaisesNone g.H.Host.pending g.H.Host.held l.initial.host l.host;
  idle : ((shown (g.H.Host.held l.host)).rows l.class).active ≡ 0;
  quiet : ((shown (g.H.Host.held l.host)).sides (g.H.Host.face l.host).level).mark ≡ mark.Quiet;
  lasts : All (Same (g.H.Host.tests l.initial.host) (g.H.Host.tests l.host)) ((shown (g.H.Host.held l.initial.host)).sides (g.H.Host.face l.initial.host).level).hand;
  over : (xs : List Moved) × (units : List Token) × All (λ (x : Moved). l.middle < x.count) xs × (popped (takes l.class xs) ≡ map number_of units) × (((shown (g.H.Host.held l.host)).sides (g.H.Host.face l.initial.host).level).hand ≡ ((shown (g.H.Host.held l.initial.host)).sides (g.H.Host.face l.initial.host).level).hand ++ units) × All (Fit (g.H.Host.tests l.host) l.class) units × Span g.R.Recorder.log (g.H.Host.face l.initial.host).level l.class 0 0 (takes l.class xs) (g.H.Host.tests l.initial.host) (g.H.Host.tests l.host) (g.H.Host.held l.initial.host) (g.H.Host.held l.host);
}

-- the hand has room for so many
abbrev pub decreases-takes : goal.decreases-takes
decreases-takes g l = 65536 - length ((shown (g.H.Host.held l.host)).sides (g.H.Host.face l.host).level).hand
