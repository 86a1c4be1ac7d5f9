use Rattle.std.proofs.Common.{◌≡◌, ◌+◌, ℕ, List, [], map, refl, ap, ◌∙◌, sym, subst}
use Rattle.bm_journal.specs.declared.units.Units.TheVariants.{Whole}
use Rattle.bm_journal.specs.declared.entry.Entry.TheVariants as entry
use Rattle.bm_law.specs.Kept.{Ready}
use Rattle.bm_law.specs.State.{State}
use Rattle.bm_law.specs.Places.{Extra_delayed as extra_list}
use Rattle.bm_cache.specs.Tokens.{Token, number_of}
use Rattle.bm_cache.specs.Shown.{shown, waiting, Took}
use Rattle.bm_cache.specs.Span.{Face, Fine}
use Rattle.bm_cache.proofs.Stretch.{stretch, fine-step}
use Rattle.bm_cache.proofs.Moments.{took-at, waiting-kept}
use Rattle.bm_cache.proofs.Flags.{raises-none-step}
use Rattle.bm_cache.proofs.Unbroken.{unbroken-step}
use Rattle.bm_work_lists.proofs.Lists.{took-list, between-gathered, waits-gathered}
use Rattle.bm_cache.proofs.Steady.{sound-step}
use Rattle.bm_work_lists.proofs.batch.move_delayed.Goals as goal

pub returns-clause-span : goal.returns-clause-span
returns-clause-span g c =
    let l = (g.H.Host.face c.args.host.now).level in
    let i = c.args.class in
    let x = g.H.Host.held c.args.host.now in
    let y = g.H.Host.held c.point.new.self in
    let z = c.take_extra_delayed.new.self in
    let w = c.caches.result.now in
    let us : List ℕ = map number_of ((shown w).rows i).extra_delayed in
    let q = took-list g.R.Recorder.log c.level-level.result (entry.TakeDelayed i) us w z refl c.take_extra_delayed.ensures.step in
    let n : ((shown y).rows i).active ≡ 1 = (c.point.ensures.came.kept.rows i).active ∙ c.requires.one in
    (us, stretch g.R.Recorder.log l i _ 1 1 (entry.TakeDelayed i (Whole us)) _ _ _ x y _ _ _ c.level-level.ensures.same c.caches.ensures.held (g.met.H.Host.held_back c.point.new.self z) (g.met.H.Host.tests_back c.point.new.self z) c.point.ensures.came q (between-gathered l i us (shown y) n))

pub returns-clause-waits : goal.returns-clause-waits
returns-clause-waits g c =
    let l = (g.H.Host.face c.args.host.now).level in
    let i = c.args.class in
    let x = g.H.Host.held c.args.host.now in
    let y = g.H.Host.held c.point.new.self in
    let z = c.take_extra_delayed.new.self in
    let w = c.caches.result.now in
    let us : List ℕ = map number_of ((shown w).rows i).extra_delayed in
    let q = took-list g.R.Recorder.log c.level-level.result (entry.TakeDelayed i) us w z refl c.take_extra_delayed.ensures.step in
    let t : Took g.R.Recorder.log l (entry.TakeDelayed i (Whole us)) [] y z = took-at g.R.Recorder.log l _ (entry.TakeDelayed i (Whole us)) [] y _ _ c.level-level.ensures.same c.caches.ensures.held q in
    let F : State Token → Type 0 = λ s. waiting i s ≡ 0 in
    let wt : waiting i (shown y) ≡ 0 = waiting-kept (l + 1) i (shown x) (shown y) c.point.ensures.came.kept c.requires.fine.ready (let G : ℕ → Type 0 = λ k. Ready (k + 1) (shown y) in subst G (ap (λ (f : Face). f.level) c.point.ensures.goes.face) c.point.ensures.fine.ready) ∙ c.requires.waits in
    rw (g.met.H.Host.held_back c.point.new.self z) (subst F (sym t.after) (waits-gathered l i us (shown y) wt))

pub returns-clause-fine : goal.returns-clause-fine
returns-clause-fine g c =
    let i = c.args.class in
    let y = g.H.Host.held c.point.new.self in
    let z = c.take_extra_delayed.new.self in
    let w = c.caches.result.now in
    let us : List ℕ = map number_of ((shown w).rows i).extra_delayed in
    let q = took-list g.R.Recorder.log c.level-level.result (entry.TakeDelayed i) us w z refl c.take_extra_delayed.ensures.step in
    fine-step g.R.Recorder.log g.R.Recorder.counts (g.H.Host.face c.args.host.now).level _ (entry.TakeDelayed i (Whole us)) _ _ (g.H.Host.face c.point.new.self) _ y _ _ _ c.level-level.ensures.same c.caches.ensures.held (g.met.H.Host.held_back c.point.new.self z) (g.met.H.Host.tests_back c.point.new.self z) (g.met.H.Host.face_back c.point.new.self z) (ap (λ (f : Face). f.level) c.point.ensures.goes.face) (let F : ℕ → Type 0 = λ n. Fine g.R.Recorder.log g.R.Recorder.counts (g.H.Host.tests c.point.new.self) (g.H.Host.face c.point.new.self).processors (n + 1) y in subst F (ap (λ (f : Face). f.level) c.point.ensures.goes.face) c.point.ensures.fine) q c.take_extra_delayed.ensures.placed tt (c.point.ensures.fine.proper.lists i extra_list) tt

pub returns-clause-alone : goal.returns-clause-alone
returns-clause-alone g c =
    let i = c.args.class in
    let z = c.take_extra_delayed.new.self in
    let w = c.caches.result.now in
    let us : List ℕ = map number_of ((shown w).rows i).extra_delayed in
    let q = took-list g.R.Recorder.log c.level-level.result (entry.TakeDelayed i) us w z refl c.take_extra_delayed.ensures.step in
    unbroken-step g.H.Host.face g.H.Host.pending g.H.Host.held g.R.Recorder.log c.args.host.now c.point.new.self (g.H.Host.with_held c.point.new.self z) w z c.level-level.result (entry.TakeDelayed i (Whole us)) [] c.point.ensures.quiet c.level-level.ensures.same c.caches.ensures.held (g.met.H.Host.held_back c.point.new.self z) (g.met.H.Host.pending_back c.point.new.self z) q

pub returns-clause-flags : goal.returns-clause-flags
returns-clause-flags g c =
    let i = c.args.class in
    let z = c.take_extra_delayed.new.self in
    let w = c.caches.result.now in
    let us : List ℕ = map number_of ((shown w).rows i).extra_delayed in
    let q = took-list g.R.Recorder.log c.level-level.result (entry.TakeDelayed i) us w z refl c.take_extra_delayed.ensures.step in
    raises-none-step g.H.Host.pending g.H.Host.held g.R.Recorder.log c.args.host.now c.point.new.self (g.H.Host.with_held c.point.new.self z) w z c.level-level.result (entry.TakeDelayed i (Whole us)) [] refl c.point.ensures.quiet c.caches.ensures.held (g.met.H.Host.held_back c.point.new.self z) (g.met.H.Host.pending_back c.point.new.self z) q

pub returns-clause-sound : goal.returns-clause-sound
returns-clause-sound g c =
    let i = c.args.class in
    let z = c.take_extra_delayed.new.self in
    let w = c.caches.result.now in
    let us : List ℕ = map number_of ((shown w).rows i).extra_delayed in
    let q = took-list g.R.Recorder.log c.level-level.result (entry.TakeDelayed i) us w z refl c.take_extra_delayed.ensures.step in
    sound-step g.H.Host.face g.H.Host.held g.H.Host.with_held g.R.Recorder.log g.H.Host.asked g.H.Host.sound g.met.H.Host.sound_stepped c.args.host.now c.point.new.self w z c.level-level.result (entry.TakeDelayed i (Whole us)) c.point.ensures.goes.face c.point.ensures.asked c.level-level.ensures.same c.caches.ensures.held refl q.records q.processor
