use Rattle.std.proofs.Common.{◌≡◌, ◌+◌, false, Option, sym, ◌∙◌, ap, subst}
use Rattle.bm_journal.specs.declared.counts.Counts.{Counts}
use Rattle.bm_law.specs.Lists.{Log, is_unstamped}
use Rattle.bm_law.specs.State.{Deferred}
use Rattle.bm_law.proofs.Between.{Ready-up}
use Rattle.bm_cache.specs.Tokens.{Token}
use Rattle.bm_cache.specs.Tests.{Tests}
use Rattle.bm_cache.specs.Shown.{shown}
use Rattle.bm_cache.specs.Span.{Came, Face, Fine}
use Rattle.bm_cache.specs.declared.caches.Caches.{Caches}
use Rattle.bm_cache.proofs.Steady.{sound-by}
use Rattle.bm_work.proofs.Points.{stands-point}
use Rattle.bm_exec_levels.specs.Settled.{Settled}
use Rattle.bm_tests_machine.proofs.behind_tests.asks.Goals as goal

-- a call of the desk's level on its caches has left it so
settled-called : {H R : Type 0} (log : R → Option Log) (counts : R → Counts) (sound : H → Type 0) (tests : H → Tests) (faces : H → Face) (holds : H → Caches R) (a b : H) → Came log (faces a).level (tests a) (tests b) (holds a) (holds b) → sound b → Fine log counts (tests b) (faces b).processors (faces b).level (holds b) → faces b ≡ faces a → Settled log counts sound tests faces holds a → Settled log counts sound tests faces holds b
settled-called log counts sound tests faces holds a b m s f e r =
    let l = (faces b).level in
    let D : Deferred Token → Type 0 = λ d. is_unstamped d.plain ≡ false in
    let up : Fine log counts (tests b) (faces b).processors (l + 1) (holds b) = record { placed = f.placed; ready = Ready-up l (shown (holds b)) f.ready; proper = f.proper; aimed = f.aimed } in
    record {
      stands = stands-point log counts sound tests faces holds (faces a).level a b m s up r.stands;
      ordinary = ap (λ (z : Face). z.level) e ∙ r.ordinary;
      quiet = f.ready;
      stamped = λ c. subst D (sym (m.kept.rows c).deferred) (r.stamped c);
    }

pub returns-clause-at_rest : goal.returns-clause-at_rest
returns-clause-at_rest g c =
    let e = c.alloc.ensures in
    settled-called g.R.Recorder.log g.R.Recorder.counts g.H.Host.sound g.H.Host.tests g.H.Host.face g.H.Host.held c.args.host.now c.alloc.new.host e.came (sound-by g.H.Host.sound g.H.Host.gave c.alloc.new.host c.alloc.result (λ u life h. g.met.H.Gives.sound_gave u life c.alloc.new.host h) e.sound) e.fine e.goes.face c.requires.at_rest
