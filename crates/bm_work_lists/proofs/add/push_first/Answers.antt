use Rattle.std.proofs.Common.{◌≡◌, ◌+◌, ℕ, [], ◌∷◌, ap, ◌∙◌, sym, subst, arith, refl}
use Rattle.bm_journal.specs.declared.entry.Entry.TheVariants as entry
use Rattle.bm_law.specs.State.{Side, State}
use Rattle.bm_cache.specs.Tokens.{Token}
use Rattle.bm_cache.specs.Tests.{Reusable}
use Rattle.bm_cache.specs.Shown.{shown, Took}
use Rattle.bm_cache.specs.Span.{Face, Fine}
use Rattle.bm_cache.proofs.Asked.{one-first}
use Rattle.bm_cache.proofs.Stretch.{stretch, fine-step, between-push}
use Rattle.bm_cache.proofs.Moments.{took-at, one-token}
use Rattle.bm_cache.proofs.Flags.{raises-none-step}
use Rattle.bm_cache.proofs.Unbroken.{unbroken-step}
use Rattle.bm_work_lists.proofs.Steps.{pushed-more, first-lasts}
use Rattle.bm_cache.proofs.Steady.{sound-step}
use Rattle.bm_work_lists.proofs.add.push_first.Goals as goal

pub returns-clause-pushed : goal.returns-clause-pushed
returns-clause-pushed g c =
    let l = (g.H.Host.face c.args.host.now).level in
    let y = g.H.Host.held c.point.new.self in
    let n : ((shown y).rows c.args.class).active ≡ 1 = (c.point.ensures.came.kept.rows c.args.class).active ∙ c.requires.one in
    let q = c.push.ensures.pushed in
    let v = c.requires.hand in
    let he : ((shown y).sides l).hand ≡ ((shown (g.H.Host.held c.args.host.now)).sides l).hand = ap (λ (s : Side Token). s.hand) (c.point.ensures.came.kept.sides l (omega arith)) in
    let e : ((shown y).sides l).hand ≡ v.0 ∷ v.1 = he ∙ v.2 in
    let f : ((shown y).sides l).hand ≡ q.0 ∷ q.1 = rw (← c.level-level.ensures.same, ← c.caches.ensures.held) q.2 in
    let u : v.0 ≡ q.0 = one-token _ _ _ _ _ e f in
    let t0 : Took g.R.Recorder.log c.level-level.result (entry.Push c.args.class v.0.number) [] c.caches.result.now c.push.new.self = let F : Token → Type 0 = λ v. Took g.R.Recorder.log c.level-level.result (entry.Push c.args.class v.number) [] c.caches.result.now c.push.new.self in subst F (sym u) q.3 in
    let t : Took g.R.Recorder.log l (entry.Push c.args.class v.0.number) [] y c.push.new.self = took-at g.R.Recorder.log l _ (entry.Push c.args.class v.0.number) [] y _ _ c.level-level.ensures.same c.caches.ensures.held t0 in
    let s : (shown c.push.new.self).sides l ≡ _ = ap (λ (z : State Token). z.sides l) t.after ∙ pushed-more c.args.class l v.0.number (shown y) v.0 v.1 e in (
      v.0,
      v.1,
      v.2,
      rw (g.met.H.Host.held_back c.point.new.self c.push.new.self) s,
      stretch g.R.Recorder.log l c.args.class _ 1 1 (entry.Push c.args.class v.0.number) _ _ _ (g.H.Host.held c.args.host.now) y _ _ _ c.level-level.ensures.same c.caches.ensures.held (g.met.H.Host.held_back c.point.new.self c.push.new.self) (g.met.H.Host.tests_back c.point.new.self c.push.new.self) c.point.ensures.came t0 (between-push l c.args.class (shown y) v.0.number n),
    )

pub returns-clause-fine : goal.returns-clause-fine
returns-clause-fine g c =
    let l = (g.H.Host.face c.args.host.now).level in
    let y = g.H.Host.held c.point.new.self in
    let q = c.push.ensures.pushed in
    let v = c.requires.hand in
    let he : ((shown y).sides l).hand ≡ ((shown (g.H.Host.held c.args.host.now)).sides l).hand = ap (λ (s : Side Token). s.hand) (c.point.ensures.came.kept.sides l (omega arith)) in
    let e : ((shown y).sides l).hand ≡ v.0 ∷ v.1 = he ∙ v.2 in
    let p : Reusable (g.H.Host.tests c.point.new.self) v.0 = first-lasts (g.H.Host.tests c.args.host.now) (g.H.Host.tests c.point.new.self) 0 v.0 _ v.1 v.2 (c.point.ensures.came.lasting.hands l (omega arith)) v.3.reusable in
    fine-step g.R.Recorder.log g.R.Recorder.counts l _ (entry.Push c.args.class q.0.number) _ _ (g.H.Host.face c.point.new.self) _ y _ _ _ c.level-level.ensures.same c.caches.ensures.held (g.met.H.Host.held_back c.point.new.self c.push.new.self) (g.met.H.Host.tests_back c.point.new.self c.push.new.self) (g.met.H.Host.face_back c.point.new.self c.push.new.self) (ap (λ (f : Face). f.level) c.point.ensures.goes.face) (let F : ℕ → Type 0 = λ n. Fine g.R.Recorder.log g.R.Recorder.counts (g.H.Host.tests c.point.new.self) (g.H.Host.face c.point.new.self).processors (n + 1) y in subst F (ap (λ (f : Face). f.level) c.point.ensures.goes.face) c.point.ensures.fine) q.3 c.push.ensures.placed tt (one-first (Reusable (g.H.Host.tests c.point.new.self)) _ v.1 v.0 e p) tt

pub returns-clause-alone : goal.returns-clause-alone
returns-clause-alone g c =
    let q = c.push.ensures.pushed in
    unbroken-step g.H.Host.face g.H.Host.pending g.H.Host.held g.R.Recorder.log c.args.host.now c.point.new.self (g.H.Host.with_held c.point.new.self c.push.new.self) c.caches.result.now c.push.new.self c.level-level.result (entry.Push c.args.class q.0.number) [] c.point.ensures.quiet c.level-level.ensures.same c.caches.ensures.held (g.met.H.Host.held_back c.point.new.self c.push.new.self) (g.met.H.Host.pending_back c.point.new.self c.push.new.self) q.3

pub returns-clause-flags : goal.returns-clause-flags
returns-clause-flags g c =
    let q = c.push.ensures.pushed in
    raises-none-step g.H.Host.pending g.H.Host.held g.R.Recorder.log c.args.host.now c.point.new.self (g.H.Host.with_held c.point.new.self c.push.new.self) c.caches.result.now c.push.new.self c.level-level.result (entry.Push c.args.class q.0.number) [] refl c.point.ensures.quiet c.caches.ensures.held (g.met.H.Host.held_back c.point.new.self c.push.new.self) (g.met.H.Host.pending_back c.point.new.self c.push.new.self) q.3

pub returns-clause-sound : goal.returns-clause-sound
returns-clause-sound g c =
    let q = c.push.ensures.pushed in
    sound-step g.H.Host.face g.H.Host.held g.H.Host.with_held g.R.Recorder.log g.H.Host.asked g.H.Host.sound g.met.H.Host.sound_stepped c.args.host.now c.point.new.self c.caches.result.now c.push.new.self c.level-level.result (entry.Push c.args.class q.0.number) c.point.ensures.goes.face c.point.ensures.asked c.level-level.ensures.same c.caches.ensures.held refl q.3.records q.3.processor
