use Rattle.std.proofs.Common.{◌≡◌, ◌+◌, ◌∙◌, ℕ, [], false, refl, ap, eq-eqb}
use Rattle.bm_journal.specs.declared.entry.Entry.TheVariants as entry
use Rattle.bm_law.specs.Effect.{effect}
use Rattle.bm_law.specs.Kept.{Between}
use Rattle.bm_law.specs.State.{State}
use Rattle.bm_law.proofs.Between as between
use Rattle.bm_cache.specs.Tokens.{Token}
use Rattle.bm_cache.specs.Shown.{shown}
use Rattle.bm_cache.proofs.Moments.{came-none}
use Rattle.bm_cache.proofs.Stretch.{stretch, fine-step}
use Rattle.bm_cache.proofs.Flags.{raises-none-step}
use Rattle.bm_cache.proofs.Unbroken.{unbroken-step}
use Rattle.bm_law_work.specs.WorkPhrases.{IsOne}
use Rattle.bm_work_lists.proofs.Grown.{grew-say}
use Rattle.bm_work_lists.proofs.Spans.{span-active, span-still}
use Rattle.bm_cache.proofs.Steady.{sound-say}
use Rattle.bm_work_lists.proofs.count.begin_work.Goals as goal

between-work : (l c : ℕ) (s : State Token) → Between l c 0 0 s (effect l (entry.Work c) [] s)
between-work l c s = between.Between-row l c 0 0 _ s refl (λ _. record { free = refl; count = refl; delayed = refl; more = []; extra = refl; more_delayed = []; extra_delayed = refl })

lowered : (l c : ℕ) (s : State Token) → ((effect l (entry.Work c) [] s).rows c).raised ≡ false
lowered l c s = rw (eq-eqb c c refl) refl

pub returns-clause-span : goal.returns-clause-span
returns-clause-span g c =
    let l = (g.H.Host.face c.args.host.now).level in
    let x = g.H.Host.held c.args.host.now in
    stretch g.R.Recorder.log l c.args.class _ 0 0 (entry.Work c.args.class) _ _ _ x x _ _ _ c.level-level.ensures.same c.caches.ensures.held (g.met.H.Host.held_back c.args.host.now c.lower.new.self) (g.met.H.Host.tests_back c.args.host.now c.lower.new.self) (came-none g.R.Recorder.log (l + 1) (g.H.Host.tests c.args.host.now) x) c.lower.ensures.step (between-work l c.args.class (shown x))

pub returns-clause-phrase : goal.returns-clause-phrase
returns-clause-phrase g c = grew-say _ (IsOne (entry.Work c.args.class)) _ _ _ _ (returns-clause-span g c).records refl

pub returns-clause-lowered : goal.returns-clause-lowered
returns-clause-lowered g c = rw (g.met.H.Host.held_back c.args.host.now c.lower.new.self) (ap (λ (s : State Token). (s.rows c.args.class).raised) c.lower.ensures.step.after ∙ lowered c.level-level.result c.args.class (shown c.caches.result.now))

pub returns-clause-active : goal.returns-clause-active
returns-clause-active g c = span-active g.R.Recorder.log _ _ _ _ _ _ _ (returns-clause-span g c)

pub returns-clause-kept : goal.returns-clause-kept
returns-clause-kept g c = span-still g.R.Recorder.log _ _ _ _ _ _ _ (returns-clause-span g c) refl

pub returns-clause-fine : goal.returns-clause-fine
returns-clause-fine g c = fine-step g.R.Recorder.log g.R.Recorder.counts (g.H.Host.face c.args.host.now).level _ (entry.Work c.args.class) _ _ (g.H.Host.face c.args.host.now) _ (g.H.Host.held c.args.host.now) _ _ _ c.level-level.ensures.same c.caches.ensures.held (g.met.H.Host.held_back c.args.host.now c.lower.new.self) (g.met.H.Host.tests_back c.args.host.now c.lower.new.self) (g.met.H.Host.face_back c.args.host.now c.lower.new.self) refl c.requires.fine c.lower.ensures.step c.lower.ensures.placed tt tt tt

pub returns-clause-alone : goal.returns-clause-alone
returns-clause-alone g c =
    unbroken-step g.H.Host.face g.H.Host.pending g.H.Host.held g.R.Recorder.log c.args.host.now c.args.host.now (g.H.Host.with_held c.args.host.now c.lower.new.self) c.caches.result.now c.lower.new.self c.level-level.result (entry.Work c.args.class) [] (λ _. refl) c.level-level.ensures.same c.caches.ensures.held (g.met.H.Host.held_back c.args.host.now c.lower.new.self) (g.met.H.Host.pending_back c.args.host.now c.lower.new.self) c.lower.ensures.step

pub returns-clause-flags : goal.returns-clause-flags
returns-clause-flags g c =
    raises-none-step g.H.Host.pending g.H.Host.held g.R.Recorder.log c.args.host.now c.args.host.now (g.H.Host.with_held c.args.host.now c.lower.new.self) c.caches.result.now c.lower.new.self c.level-level.result (entry.Work c.args.class) [] refl (λ _. refl) c.caches.ensures.held (g.met.H.Host.held_back c.args.host.now c.lower.new.self) (g.met.H.Host.pending_back c.args.host.now c.lower.new.self) c.lower.ensures.step

pub returns-clause-sound : goal.returns-clause-sound
returns-clause-sound g c =
    sound-say g.H.Host.face g.H.Host.held g.H.Host.with_held g.R.Recorder.log g.H.Host.sound g.met.H.Host.sound_said c.args.host.now c.caches.result.now c.lower.new.self c.level-level.result (entry.Work c.args.class) c.requires.sound c.level-level.ensures.same c.caches.ensures.held refl c.lower.ensures.step.records c.lower.ensures.step.processor
