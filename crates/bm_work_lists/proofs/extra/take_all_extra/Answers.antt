use Rattle.std.proofs.Common.{◌≡◌, ◌+◌, ◌++◌, ℕ, List, [], length, map, refl, ap, ◌∙◌, subst, arith, inl}
use Rattle.std.specs.List.{All}
use Rattle.bm_journal.specs.declared.units.Units.TheVariants.{Whole}
use Rattle.bm_journal.specs.declared.entry.Entry.TheVariants as entry
use Rattle.bm_law.specs.declared.mark.Mark.TheVariants as mark
use Rattle.bm_law.specs.State.{Side, State}
use Rattle.bm_law.specs.Places.{Extra as extra_list}
use Rattle.bm_cache.specs.Listed.{TookList}
use Rattle.bm_cache.specs.Tokens.{Token, number_of}
use Rattle.bm_cache.specs.Shown.{shown, Took}
use Rattle.bm_cache.specs.Span.{Face, Fine}
use Rattle.bm_cache.specs.declared.caches.Caches.{Caches}
use Rattle.bm_cache.proofs.Stretch.{stretch, fine-step}
use Rattle.bm_cache.proofs.Moments.{took-at}
use Rattle.bm_cache.proofs.Flags.{raises-none-step}
use Rattle.bm_cache.proofs.Unbroken.{unbroken-step}
use Rattle.bm_law_work.specs.WorkPhrases.{IsTakeExtra}
use Rattle.bm_work_lists.specs.Fit.{Fit}
use Rattle.bm_work_lists.proofs.Grown.{grew-say}
use Rattle.bm_work_lists.proofs.Lists.{took-list, side-extra, no-extra, between-extra}
use Rattle.bm_work_lists.proofs.Spans.{span-active, span-still}
use Rattle.bm_cache.proofs.Steady.{sound-step}
use Rattle.bm_work_lists.proofs.extra.take_all_extra.Goals as goal

pub returns-clause-side : goal.returns-clause-side
returns-clause-side g c =
    let l = (g.H.Host.face c.args.host.now).level in
    let i = c.args.class in
    let x = g.H.Host.held c.args.host.now in
    let y = g.H.Host.held c.point.new.self in
    let z = c.take_extra.new.self in
    let back = g.met.H.Host.held_back c.point.new.self z in
    let tb = g.met.H.Host.tests_back c.point.new.self z in
    let held = c.caches.ensures.held in
    let us : List Token = ((shown y).rows i).extra in
    let L : Caches g.row.R.Denot → Type 0 = λ d. TookList g.R.Recorder.log c.level-level.result (entry.TakeExtra i) (map number_of ((shown d).rows i).extra) c.caches.result.now z in
    let q : Took g.R.Recorder.log c.level-level.result (entry.TakeExtra i (Whole (map number_of us))) [] c.caches.result.now z = took-list g.R.Recorder.log c.level-level.result (entry.TakeExtra i) (map number_of us) c.caches.result.now z refl (subst L held c.take_extra.ensures.step) in
    let t : Took g.R.Recorder.log l (entry.TakeExtra i (Whole (map number_of us))) [] y z = took-at g.R.Recorder.log l _ (entry.TakeExtra i (Whole (map number_of us))) [] y _ _ c.level-level.ensures.same held q in
    let n : ((shown y).rows i).active ≡ 0 = (c.point.ensures.came.kept.rows i).active ∙ c.requires.idle in
    let he : ((shown y).sides l).hand ≡ ((shown x).sides l).hand = ap (λ (s : Side Token). s.hand) (c.point.ensures.came.kept.sides l (omega arith)) in
    let s : (shown z).sides l ≡ record { hand = ((shown x).sides l).hand ++ us; mark = mark.Quiet } = ap (λ (v : State Token). v.sides l) t.after ∙ side-extra l i (map number_of us) (shown y) ∙ ap (λ (hs : List Token). let w : Side Token = record { hand = hs ++ us; mark = mark.Quiet } in w) he in
    let f : All (Fit (g.H.Host.tests c.point.new.self) i) us = λ k d m. record { class = (c.point.ensures.fine.placed.classed.lists i extra_list k d m).class; reusable = c.point.ensures.fine.proper.lists i extra_list k d m } in (
      us,
      c.take_extra.ensures.answer ∙ ap (λ (d : Caches g.row.R.Denot). length ((shown d).rows i).extra) held,
      rw back s,
      rw tb f,
      stretch g.R.Recorder.log l i _ 0 0 (entry.TakeExtra i (Whole (map number_of us))) _ _ _ x y _ _ _ c.level-level.ensures.same held back tb c.point.ensures.came q (between-extra l i (map number_of us) (shown y) n),
    )

pub returns-clause-empty : goal.returns-clause-empty
returns-clause-empty g c =
    let i = c.args.class in
    let z = c.take_extra.new.self in
    let w = c.caches.result.now in
    rw (g.met.H.Host.held_back c.point.new.self z) (ap (λ (v : State Token). (v.rows i).extra) c.take_extra.ensures.step.after ∙ no-extra c.level-level.result i (map number_of ((shown w).rows i).extra) (shown w))

pub returns-clause-phrase : goal.returns-clause-phrase
returns-clause-phrase g c =
    let s = returns-clause-side g c in
    grew-say _ (IsTakeExtra c.args.class) _ _ _ _ s.4.records (map number_of s.0, refl)

pub returns-clause-active : goal.returns-clause-active
returns-clause-active g c = let s = returns-clause-side g c in span-active g.R.Recorder.log _ _ _ _ _ _ _ s.4

pub returns-clause-kept : goal.returns-clause-kept
returns-clause-kept g c = let s = returns-clause-side g c in span-still g.R.Recorder.log _ _ _ _ _ _ _ s.4 refl

pub returns-clause-fine : goal.returns-clause-fine
returns-clause-fine g c =
    let i = c.args.class in
    let y = g.H.Host.held c.point.new.self in
    let z = c.take_extra.new.self in
    let us : List Token = ((shown y).rows i).extra in
    let L : Caches g.row.R.Denot → Type 0 = λ d. TookList g.R.Recorder.log c.level-level.result (entry.TakeExtra i) (map number_of ((shown d).rows i).extra) c.caches.result.now z in
    let q : Took g.R.Recorder.log c.level-level.result (entry.TakeExtra i (Whole (map number_of us))) [] c.caches.result.now z = took-list g.R.Recorder.log c.level-level.result (entry.TakeExtra i) (map number_of us) c.caches.result.now z refl (subst L c.caches.ensures.held c.take_extra.ensures.step) in
    fine-step g.R.Recorder.log g.R.Recorder.counts (g.H.Host.face c.args.host.now).level _ (entry.TakeExtra i (Whole (map number_of us))) _ _ (g.H.Host.face c.point.new.self) _ y _ _ _ c.level-level.ensures.same c.caches.ensures.held (g.met.H.Host.held_back c.point.new.self z) (g.met.H.Host.tests_back c.point.new.self z) (g.met.H.Host.face_back c.point.new.self z) (ap (λ (f : Face). f.level) c.point.ensures.goes.face) (let F : ℕ → Type 0 = λ n. Fine g.R.Recorder.log g.R.Recorder.counts (g.H.Host.tests c.point.new.self) (g.H.Host.face c.point.new.self).processors (n + 1) y in subst F (ap (λ (f : Face). f.level) c.point.ensures.goes.face) c.point.ensures.fine) q c.take_extra.ensures.placed tt (λ k d m. inl (c.point.ensures.fine.proper.lists i extra_list k d m)) tt

pub returns-clause-alone : goal.returns-clause-alone
returns-clause-alone g c =
    let i = c.args.class in
    let z = c.take_extra.new.self in
    let q = took-list g.R.Recorder.log c.level-level.result (entry.TakeExtra i) _ c.caches.result.now z refl c.take_extra.ensures.step in
    unbroken-step g.H.Host.face g.H.Host.pending g.H.Host.held g.R.Recorder.log c.args.host.now c.point.new.self (g.H.Host.with_held c.point.new.self z) c.caches.result.now z c.level-level.result (entry.TakeExtra i (Whole _)) [] c.point.ensures.quiet c.level-level.ensures.same c.caches.ensures.held (g.met.H.Host.held_back c.point.new.self z) (g.met.H.Host.pending_back c.point.new.self z) q

pub returns-clause-flags : goal.returns-clause-flags
returns-clause-flags g c =
    let i = c.args.class in
    let z = c.take_extra.new.self in
    let q = took-list g.R.Recorder.log c.level-level.result (entry.TakeExtra i) _ c.caches.result.now z refl c.take_extra.ensures.step in
    raises-none-step g.H.Host.pending g.H.Host.held g.R.Recorder.log c.args.host.now c.point.new.self (g.H.Host.with_held c.point.new.self z) c.caches.result.now z c.level-level.result (entry.TakeExtra i (Whole _)) [] refl c.point.ensures.quiet c.caches.ensures.held (g.met.H.Host.held_back c.point.new.self z) (g.met.H.Host.pending_back c.point.new.self z) q

pub returns-clause-sound : goal.returns-clause-sound
returns-clause-sound g c =
    let i = c.args.class in
    let z = c.take_extra.new.self in
    let q = took-list g.R.Recorder.log c.level-level.result (entry.TakeExtra i) _ c.caches.result.now z refl c.take_extra.ensures.step in
    sound-step g.H.Host.face g.H.Host.held g.H.Host.with_held g.R.Recorder.log g.H.Host.asked g.H.Host.sound g.met.H.Host.sound_stepped c.args.host.now c.point.new.self c.caches.result.now z c.level-level.result (entry.TakeExtra i (Whole _)) c.point.ensures.goes.face c.point.ensures.asked c.level-level.ensures.same c.caches.ensures.held refl q.records q.processor
