use Rattle.std.proofs.Common.{◌≡◌, ◌+◌, ◌<◌, ℕ, [], ap, ◌∙◌, sym, subst, arith, refl}
use Rattle.bm_journal.specs.declared.entry.Entry.TheVariants as entry
use Rattle.bm_law.specs.declared.mark.Mark.TheVariants as mark
use Rattle.bm_law.specs.State.{Side, State}
use Rattle.bm_cache.specs.Tokens.{Token}
use Rattle.bm_cache.specs.Shown.{shown, waiting, Took}
use Rattle.bm_cache.specs.Span.{Face, Fine}
use Rattle.bm_cache.proofs.Stretch.{stretch, fine-step, between-count}
use Rattle.bm_cache.proofs.Moments.{took-at, counted-up}
use Rattle.bm_cache.proofs.Flags.{raises-none-step}
use Rattle.bm_cache.proofs.Unbroken.{unbroken-step}
use Rattle.bm_cache.proofs.Steady.{sound-step}
use Rattle.bm_work_lists.proofs.add.count_push.Goals as goal

pub returns-clause-span : goal.returns-clause-span
returns-clause-span g c =
    let n : ((shown (g.H.Host.held c.point.new.self)).rows c.args.class).active ≡ 1 = (c.point.ensures.came.kept.rows c.args.class).active ∙ c.requires.one in
    stretch g.R.Recorder.log (g.H.Host.face c.args.host.now).level c.args.class _ 1 1 (entry.Count c.args.class c.count_up.result) _ _ _ (g.H.Host.held c.args.host.now) (g.H.Host.held c.point.new.self) _ _ _ c.level-level.ensures.same c.caches.ensures.held (g.met.H.Host.held_back c.point.new.self c.count_up.new.self) (g.met.H.Host.tests_back c.point.new.self c.count_up.new.self) c.point.ensures.came c.count_up.ensures.step (between-count (g.H.Host.face c.args.host.now).level c.args.class (shown (g.H.Host.held c.point.new.self)) c.count_up.result n)

pub returns-clause-waits : goal.returns-clause-waits
returns-clause-waits g c =
    let l4 : (g.H.Host.face c.args.host.now).level < 4 = omega (arith, c.level-level.ensures.same, c.level-level.ensures.bound) in
    let t : Took g.R.Recorder.log (g.H.Host.face c.args.host.now).level (entry.Count c.args.class c.count_up.result) [] (g.H.Host.held c.point.new.self) c.count_up.new.self = took-at g.R.Recorder.log (g.H.Host.face c.args.host.now).level _ (entry.Count c.args.class c.count_up.result) [] (g.H.Host.held c.point.new.self) _ _ c.level-level.ensures.same c.caches.ensures.held c.count_up.ensures.step in
    let m : ((shown (g.H.Host.held c.point.new.self)).sides (g.H.Host.face c.args.host.now).level).mark ≡ mark.Gave c.args.class = ap (λ (s : Side Token). s.mark) (c.point.ensures.came.kept.sides (g.H.Host.face c.args.host.now).level (omega arith)) ∙ c.requires.gave in
    let F : State Token → Type 0 = λ s. waiting c.args.class s ≡ 0 in
    rw (g.met.H.Host.held_back c.point.new.self c.count_up.new.self) (subst F (sym t.after) (counted-up c.args.class (g.H.Host.face c.args.host.now).level c.count_up.result (shown (g.H.Host.held c.point.new.self)) l4 m c.point.ensures.fine.placed.agree))

pub returns-clause-fine : goal.returns-clause-fine
returns-clause-fine g c = fine-step g.R.Recorder.log g.R.Recorder.counts (g.H.Host.face c.args.host.now).level _ (entry.Count c.args.class c.count_up.result) _ _ (g.H.Host.face c.point.new.self) _ (g.H.Host.held c.point.new.self) _ _ _ c.level-level.ensures.same c.caches.ensures.held (g.met.H.Host.held_back c.point.new.self c.count_up.new.self) (g.met.H.Host.tests_back c.point.new.self c.count_up.new.self) (g.met.H.Host.face_back c.point.new.self c.count_up.new.self) (ap (λ (f : Face). f.level) c.point.ensures.goes.face) (let F : ℕ → Type 0 = λ n. Fine g.R.Recorder.log g.R.Recorder.counts (g.H.Host.tests c.point.new.self) (g.H.Host.face c.point.new.self).processors (n + 1) (g.H.Host.held c.point.new.self) in subst F (ap (λ (f : Face). f.level) c.point.ensures.goes.face) c.point.ensures.fine) c.count_up.ensures.step c.count_up.ensures.placed tt tt tt

pub returns-clause-alone : goal.returns-clause-alone
returns-clause-alone g c =
    unbroken-step g.H.Host.face g.H.Host.pending g.H.Host.held g.R.Recorder.log c.args.host.now c.point.new.self (g.H.Host.with_held c.point.new.self c.count_up.new.self) c.caches.result.now c.count_up.new.self c.level-level.result (entry.Count c.args.class c.count_up.result) [] c.point.ensures.quiet c.level-level.ensures.same c.caches.ensures.held (g.met.H.Host.held_back c.point.new.self c.count_up.new.self) (g.met.H.Host.pending_back c.point.new.self c.count_up.new.self) c.count_up.ensures.step

pub returns-clause-flags : goal.returns-clause-flags
returns-clause-flags g c =
    raises-none-step g.H.Host.pending g.H.Host.held g.R.Recorder.log c.args.host.now c.point.new.self (g.H.Host.with_held c.point.new.self c.count_up.new.self) c.caches.result.now c.count_up.new.self c.level-level.result (entry.Count c.args.class c.count_up.result) [] refl c.point.ensures.quiet c.caches.ensures.held (g.met.H.Host.held_back c.point.new.self c.count_up.new.self) (g.met.H.Host.pending_back c.point.new.self c.count_up.new.self) c.count_up.ensures.step

pub returns-clause-sound : goal.returns-clause-sound
returns-clause-sound g c =
    sound-step g.H.Host.face g.H.Host.held g.H.Host.with_held g.R.Recorder.log g.H.Host.asked g.H.Host.sound g.met.H.Host.sound_stepped c.args.host.now c.point.new.self c.caches.result.now c.count_up.new.self c.level-level.result (entry.Count c.args.class c.count_up.result) c.point.ensures.goes.face c.point.ensures.asked c.level-level.ensures.same c.caches.ensures.held refl c.count_up.ensures.step.records c.count_up.ensures.step.processor
