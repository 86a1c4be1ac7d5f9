use Rattle.std.proofs.Common.{◌+◌, ◌∙◌, ℕ, [], refl, ap, sym, subst}
use Rattle.bm_journal.specs.declared.entry.Entry.TheVariants as entry
use Rattle.bm_law.specs.State.{State}
use Rattle.bm_cache.specs.Tokens.{Token}
use Rattle.bm_cache.specs.Shown.{shown}
use Rattle.bm_cache.specs.Span.{Face, Fine}
use Rattle.bm_cache.proofs.Stretch.{stretch, fine-step, between-none}
use Rattle.bm_cache.proofs.Flags.{raises-none-step}
use Rattle.bm_cache.proofs.Unbroken.{unbroken-step}
use Rattle.bm_law_work.specs.WorkPhrases.{IsOne}
use Rattle.bm_work_lists.proofs.Grown.{grew-say}
use Rattle.bm_work_lists.proofs.Spans.{span-active, span-still}
use Rattle.bm_cache.proofs.Steady.{sound-step}
use Rattle.bm_work_lists.proofs.count.read_count.Goals as goal

pub returns-clause-answer : goal.returns-clause-answer
returns-clause-answer g c =
    let i = c.args.class in
    let z = c.read.new.self in
    rw (g.met.H.Host.held_back c.point.new.self z) (c.read.ensures.answer ∙ ap (λ (s : State Token). (s.rows i).count) (sym c.read.ensures.step.after))

pub returns-clause-span : goal.returns-clause-span
returns-clause-span g c = stretch g.R.Recorder.log (g.H.Host.face c.args.host.now).level c.args.class _ 0 0 (entry.Read c.args.class c.read.result) _ _ _ (g.H.Host.held c.args.host.now) (g.H.Host.held c.point.new.self) _ _ _ c.level-level.ensures.same c.caches.ensures.held (g.met.H.Host.held_back c.point.new.self c.read.new.self) (g.met.H.Host.tests_back c.point.new.self c.read.new.self) c.point.ensures.came c.read.ensures.step (between-none (g.H.Host.face c.args.host.now).level c.args.class (shown (g.H.Host.held c.point.new.self)) 0)

pub returns-clause-phrase : goal.returns-clause-phrase
returns-clause-phrase g c = grew-say _ (IsOne (entry.Read c.args.class c.read.result)) _ _ _ _ (returns-clause-span g c).records refl

pub returns-clause-active : goal.returns-clause-active
returns-clause-active g c = span-active g.R.Recorder.log _ _ _ _ _ _ _ (returns-clause-span g c)

pub returns-clause-kept : goal.returns-clause-kept
returns-clause-kept g c = span-still g.R.Recorder.log _ _ _ _ _ _ _ (returns-clause-span g c) refl

pub returns-clause-fine : goal.returns-clause-fine
returns-clause-fine g c = fine-step g.R.Recorder.log g.R.Recorder.counts (g.H.Host.face c.args.host.now).level _ (entry.Read c.args.class c.read.result) _ _ (g.H.Host.face c.point.new.self) _ (g.H.Host.held c.point.new.self) _ _ _ c.level-level.ensures.same c.caches.ensures.held (g.met.H.Host.held_back c.point.new.self c.read.new.self) (g.met.H.Host.tests_back c.point.new.self c.read.new.self) (g.met.H.Host.face_back c.point.new.self c.read.new.self) (ap (λ (f : Face). f.level) c.point.ensures.goes.face) (let F : ℕ → Type 0 = λ n. Fine g.R.Recorder.log g.R.Recorder.counts (g.H.Host.tests c.point.new.self) (g.H.Host.face c.point.new.self).processors (n + 1) (g.H.Host.held c.point.new.self) in subst F (ap (λ (f : Face). f.level) c.point.ensures.goes.face) c.point.ensures.fine) c.read.ensures.step c.read.ensures.placed tt tt tt

pub returns-clause-alone : goal.returns-clause-alone
returns-clause-alone g c =
    unbroken-step g.H.Host.face g.H.Host.pending g.H.Host.held g.R.Recorder.log c.args.host.now c.point.new.self (g.H.Host.with_held c.point.new.self c.read.new.self) c.caches.result.now c.read.new.self c.level-level.result (entry.Read c.args.class c.read.result) [] c.point.ensures.quiet c.level-level.ensures.same c.caches.ensures.held (g.met.H.Host.held_back c.point.new.self c.read.new.self) (g.met.H.Host.pending_back c.point.new.self c.read.new.self) c.read.ensures.step

pub returns-clause-flags : goal.returns-clause-flags
returns-clause-flags g c =
    raises-none-step g.H.Host.pending g.H.Host.held g.R.Recorder.log c.args.host.now c.point.new.self (g.H.Host.with_held c.point.new.self c.read.new.self) c.caches.result.now c.read.new.self c.level-level.result (entry.Read c.args.class c.read.result) [] refl c.point.ensures.quiet c.caches.ensures.held (g.met.H.Host.held_back c.point.new.self c.read.new.self) (g.met.H.Host.pending_back c.point.new.self c.read.new.self) c.read.ensures.step

pub returns-clause-sound : goal.returns-clause-sound
returns-clause-sound g c =
    sound-step g.H.Host.face g.H.Host.held g.H.Host.with_held g.R.Recorder.log g.H.Host.asked g.H.Host.sound g.met.H.Host.sound_stepped c.args.host.now c.point.new.self c.caches.result.now c.read.new.self c.level-level.result (entry.Read c.args.class c.read.result) c.point.ensures.goes.face c.point.ensures.asked c.level-level.ensures.same c.caches.ensures.held refl c.read.ensures.step.records c.read.ensures.step.processor
