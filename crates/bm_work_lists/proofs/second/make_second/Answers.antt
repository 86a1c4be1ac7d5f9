use Rattle.std.proofs.Common.{◌≡◌, ◌+◌, ◌++◌, ◌<◌, ℕ, List, [], Some, length, map, refl, ap, inl, ◌∙◌, sym, subst}
use Rattle.bm_journal.specs.declared.units.Units.TheVariants.{Whole}
use Rattle.bm_journal.specs.declared.entry.Entry.TheVariants as entry
use Rattle.bm_law.specs.State.{State, Deferred}
use Rattle.bm_law.specs.Places.{Ready as ready_list}
use Rattle.bm_cache.specs.Tokens.{Token, number_of}
use Rattle.bm_cache.specs.Shown.{shown, Took}
use Rattle.bm_cache.specs.Span.{Face, Fine}
use Rattle.bm_cache.specs.declared.caches.Caches.{Caches}
use Rattle.bm_cache.proofs.Stretch.{stretch, fine-step}
use Rattle.bm_cache.proofs.Moments.{took-at}
use Rattle.bm_cache.proofs.Flags.{raises-none-step}
use Rattle.bm_cache.proofs.Unbroken.{unbroken-step}
use Rattle.bm_work_lists.proofs.Lists.{took-list, between-second, second-deferred, second-others}
use Rattle.bm_work_lists.proofs.Spans.{span-active}
use Rattle.bm_cache.proofs.Steady.{sound-step}
use Rattle.bm_work_lists.proofs.second.make_second.Goals as goal

pub returns-clause-span : goal.returns-clause-span
returns-clause-span g c =
    let l = (g.H.Host.face c.args.host.now).level in
    let i = c.args.class in
    let x = g.H.Host.held c.args.host.now in
    let y = g.H.Host.held c.point.new.self in
    let z = c.take_all_ready.new.self in
    let w = c.caches.result.now in
    let us : List ℕ = map number_of ((shown w).rows i).deferred.ready in
    let q = took-list g.R.Recorder.log c.level-level.result (entry.BeginSecond i) us w z refl c.take_all_ready.ensures.step in
    (us, stretch g.R.Recorder.log l i _ 0 0 (entry.BeginSecond i (Whole us)) _ _ _ x y _ _ _ c.level-level.ensures.same c.caches.ensures.held (g.met.H.Host.held_back c.point.new.self z) (g.met.H.Host.tests_back c.point.new.self z) c.point.ensures.came q (between-second l i us (shown y)))

pub returns-clause-fine : goal.returns-clause-fine
returns-clause-fine g c =
    let i = c.args.class in
    let y = g.H.Host.held c.point.new.self in
    let z = c.take_all_ready.new.self in
    let w = c.caches.result.now in
    let us : List ℕ = map number_of ((shown w).rows i).deferred.ready in
    let q = took-list g.R.Recorder.log c.level-level.result (entry.BeginSecond i) us w z refl c.take_all_ready.ensures.step in
    fine-step g.R.Recorder.log g.R.Recorder.counts (g.H.Host.face c.args.host.now).level _ (entry.BeginSecond i (Whole us)) _ _ (g.H.Host.face c.point.new.self) _ y _ _ _ c.level-level.ensures.same c.caches.ensures.held (g.met.H.Host.held_back c.point.new.self z) (g.met.H.Host.tests_back c.point.new.self z) (g.met.H.Host.face_back c.point.new.self z) (ap (λ (f : Face). f.level) c.point.ensures.goes.face) (let F : ℕ → Type 0 = λ n. Fine g.R.Recorder.log g.R.Recorder.counts (g.H.Host.tests c.point.new.self) (g.H.Host.face c.point.new.self).processors (n + 1) y in subst F (ap (λ (f : Face). f.level) c.point.ensures.goes.face) c.point.ensures.fine) q c.take_all_ready.ensures.placed tt (λ k d m. inl (c.point.ensures.fine.proper.lists i ready_list k d m)) tt

pub returns-clause-alone : goal.returns-clause-alone
returns-clause-alone g c =
    let i = c.args.class in
    let z = c.take_all_ready.new.self in
    let w = c.caches.result.now in
    let us : List ℕ = map number_of ((shown w).rows i).deferred.ready in
    let q = took-list g.R.Recorder.log c.level-level.result (entry.BeginSecond i) us w z refl c.take_all_ready.ensures.step in
    unbroken-step g.H.Host.face g.H.Host.pending g.H.Host.held g.R.Recorder.log c.args.host.now c.point.new.self (g.H.Host.with_held c.point.new.self z) w z c.level-level.result (entry.BeginSecond i (Whole us)) [] c.point.ensures.quiet c.level-level.ensures.same c.caches.ensures.held (g.met.H.Host.held_back c.point.new.self z) (g.met.H.Host.pending_back c.point.new.self z) q

pub returns-clause-flags : goal.returns-clause-flags
returns-clause-flags g c =
    let i = c.args.class in
    let z = c.take_all_ready.new.self in
    let w = c.caches.result.now in
    let us : List ℕ = map number_of ((shown w).rows i).deferred.ready in
    let q = took-list g.R.Recorder.log c.level-level.result (entry.BeginSecond i) us w z refl c.take_all_ready.ensures.step in
    raises-none-step g.H.Host.pending g.H.Host.held g.R.Recorder.log c.args.host.now c.point.new.self (g.H.Host.with_held c.point.new.self z) w z c.level-level.result (entry.BeginSecond i (Whole us)) [] refl c.point.ensures.quiet c.caches.ensures.held (g.met.H.Host.held_back c.point.new.self z) (g.met.H.Host.pending_back c.point.new.self z) q

pub returns-clause-deferred : goal.returns-clause-deferred
returns-clause-deferred g c =
    let l = (g.H.Host.face c.args.host.now).level in
    let i = c.args.class in
    let x = g.H.Host.held c.args.host.now in
    let y = g.H.Host.held c.point.new.self in
    let z = c.take_all_ready.new.self in
    let w = c.caches.result.now in
    let us : List ℕ = map number_of ((shown w).rows i).deferred.ready in
    let q = took-list g.R.Recorder.log c.level-level.result (entry.BeginSecond i) us w z refl c.take_all_ready.ensures.step in
    let t : Took g.R.Recorder.log l (entry.BeginSecond i (Whole us)) [] y z = took-at g.R.Recorder.log l _ (entry.BeginSecond i (Whole us)) [] y _ _ c.level-level.ensures.same c.caches.ensures.held q in
    let d : ((shown y).rows i).deferred ≡ ((shown x).rows i).deferred = (c.point.ensures.came.kept.rows i).deferred in
    let D : Deferred Token → Deferred Token = λ v. record v { ready = []; second = v.ready ++ v.second; tracing = Some 0 } in
    rw (g.met.H.Host.held_back c.point.new.self z) (ap (λ (s : State Token). (s.rows i).deferred) t.after ∙ second-deferred l i us (shown y) ∙ ap D d)

pub returns-clause-kept : goal.returns-clause-kept
returns-clause-kept g c k ne =
    let l = (g.H.Host.face c.args.host.now).level in
    let i = c.args.class in
    let y = g.H.Host.held c.point.new.self in
    let z = c.take_all_ready.new.self in
    let w = c.caches.result.now in
    let us : List ℕ = map number_of ((shown w).rows i).deferred.ready in
    let q = took-list g.R.Recorder.log c.level-level.result (entry.BeginSecond i) us w z refl c.take_all_ready.ensures.step in
    let t : Took g.R.Recorder.log l (entry.BeginSecond i (Whole us)) [] y z = took-at g.R.Recorder.log l _ (entry.BeginSecond i (Whole us)) [] y _ _ c.level-level.ensures.same c.caches.ensures.held q in
    rw (g.met.H.Host.held_back c.point.new.self z) (ap (λ (s : State Token). (s.rows k).deferred) t.after ∙ second-others l i us (shown y) k ne ∙ (c.point.ensures.came.kept.rows k).deferred)

pub take_all_ready-requires-clause-some : goal.take_all_ready-requires-clause-some
take_all_ready-requires-clause-some g c =
    let i = c.args.class in
    let F : Caches g.row.R.Denot → Type 0 = λ d. 0 < length ((shown d).rows i).deferred.ready in
    subst F (sym c.caches.ensures.held) (let G : Deferred Token → Type 0 = λ v. 0 < length v.ready in subst G (sym (c.point.ensures.came.kept.rows i).deferred) c.requires.some)

pub take_all_ready-requires-clause-none : goal.take_all_ready-requires-clause-none
take_all_ready-requires-clause-none g c =
    let i = c.args.class in
    ap (λ (d : Caches g.row.R.Denot). ((shown d).rows i).deferred.tracing) c.caches.ensures.held ∙ ap (λ (v : Deferred Token). v.tracing) (c.point.ensures.came.kept.rows i).deferred ∙ c.requires.none

pub returns-clause-active : goal.returns-clause-active
returns-clause-active g c = span-active g.R.Recorder.log _ _ _ _ _ _ _ (returns-clause-span g c).1

pub returns-clause-sound : goal.returns-clause-sound
returns-clause-sound g c =
    let i = c.args.class in
    let z = c.take_all_ready.new.self in
    let w = c.caches.result.now in
    let us : List ℕ = map number_of ((shown w).rows i).deferred.ready in
    let q = took-list g.R.Recorder.log c.level-level.result (entry.BeginSecond i) us w z refl c.take_all_ready.ensures.step in
    sound-step g.H.Host.face g.H.Host.held g.H.Host.with_held g.R.Recorder.log g.H.Host.asked g.H.Host.sound g.met.H.Host.sound_stepped c.args.host.now c.point.new.self w z c.level-level.result (entry.BeginSecond i (Whole us)) c.point.ensures.goes.face c.point.ensures.asked c.level-level.ensures.same c.caches.ensures.held refl q.records q.processor
