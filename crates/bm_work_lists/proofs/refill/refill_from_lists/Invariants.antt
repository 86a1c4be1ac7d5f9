use Rattle.std.proofs.Common.{◌≡◌, ◌+◌, ◌-◌, ℕ, List, Option, length}
use Rattle.std.specs.List.{All}
use Rattle.bm_journal.specs.declared.entry.Entry.{Entry}
use Rattle.bm_law.specs.Lists.{Log}
use Rattle.bm_law.specs.State.{seen, idle_side}
use Rattle.bm_cache.specs.Tokens.{number_of}
use Rattle.bm_cache.specs.Tests.{Reusable}
use Rattle.bm_cache.specs.Shown.{shown}
use Rattle.bm_cache.specs.Span.{Fine, Goes, RaisesNone, Unbroken}
use Rattle.bm_work_lists.specs.FromLists.{FromLists, less}
use Rattle.bm_work_lists.specs.Grown.{GrewBy}
use Rattle.bm_work_lists.specs.WorkSpan.{WorkSpan}
use Rattle.bm_work_lists.proofs.refill.refill_from_lists.Given as goal

-- the lists hold what is still to be taken of them, and a refill of what is left makes the whole one
abbrev pub invariant-brings : goal.invariant-brings
invariant-brings g l = record {
  sound : g.H.Host.sound l.host;
  fine : Fine g.R.Recorder.log g.R.Recorder.counts (g.H.Host.tests l.host) (g.H.Host.face l.host).processors ((g.H.Host.face l.host).level + 1) (g.H.Host.held l.host);
  goes : Goes g.H.Host.face g.H.Host.pending g.H.Host.keeps l.initial.host l.host;
  alone : Unbroken g.H.Host.face g.H.Host.pending g.H.Host.held g.R.Recorder.log l.initial.host l.host;
  flags : RaisesNone g.H.Host.pending g.H.Host.held l.initial.host l.host;
  idle : ((shown (g.H.Host.held l.host)).rows l.class).active ≡ 0;
  empty : (shown (g.H.Host.held l.host)).sides (g.H.Host.face l.host).level ≡ idle_side;
  settled : All (Reusable (g.H.Host.tests l.host)) ((shown (g.H.Host.held l.host)).rows l.class).deferred.second;
  rest : less l.left ((shown (g.H.Host.held l.host)).rows l.class).deferred ≡ less l.want ((shown (g.H.Host.held l.initial.host)).rows l.class).deferred;
  count : l.left - (length ((shown (g.H.Host.held l.host)).rows l.class).deferred.ready + length ((shown (g.H.Host.held l.host)).rows l.class).deferred.second) ≡ l.want - (length ((shown (g.H.Host.held l.initial.host)).rows l.class).deferred.ready + length ((shown (g.H.Host.held l.initial.host)).rows l.class).deferred.second);
  span : (own : List Entry) × WorkSpan g.R.Recorder.log (g.H.Host.face l.initial.host).level l.class own (g.H.Host.tests l.initial.host) (g.H.Host.tests l.host) (g.H.Host.held l.initial.host) (g.H.Host.held l.host);
  phrase : (k : ℕ) (now : Option Log) → GrewBy (FromLists (g.H.Host.face l.initial.host).level l.class l.left k) (seen number_of (shown (g.H.Host.held l.host))) (g.R.Recorder.log (g.H.Host.held l.host).recorder) now → GrewBy (FromLists (g.H.Host.face l.initial.host).level l.class l.want k) (seen number_of (shown (g.H.Host.held l.initial.host))) (g.R.Recorder.log (g.H.Host.held l.initial.host).recorder) now;
}

abbrev pub decreases-brings : goal.decreases-brings
decreases-brings g l = l.left
