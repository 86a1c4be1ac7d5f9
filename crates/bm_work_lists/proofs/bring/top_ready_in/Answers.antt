use Rattle.std.proofs.Common.{◌≡◌, ◌+◌, ℕ, Bool, [], ◌∷◌, true, false, refl, ap, ◌∙◌, sym, subst, arith, List, length}
use Rattle.bm_journal.specs.declared.entry.Entry.TheVariants as entry
use Rattle.bm_law.specs.declared.mark.Mark.TheVariants as mark
use Rattle.bm_law.specs.State.{Side, State, Deferred}
use Rattle.bm_law.specs.Places.{Ready as ready_list}
use Rattle.bm_cache.specs.Tokens.{Token}
use Rattle.bm_cache.specs.Tests.{Reusable}
use Rattle.bm_cache.specs.Shown.{shown, Took}
use Rattle.bm_cache.specs.Span.{Face, Fine, RaisesNone, Unbroken}
use Rattle.bm_cache.specs.declared.caches.Caches.{Caches}
use Rattle.bm_cache.proofs.Stretch.{fine-step}
use Rattle.bm_cache.proofs.Moments.{took-at, reusable-either, first-reusable, first-sits, fine-same}
use Rattle.bm_cache.proofs.Flags.{raises-none-point, raises-none-step}
use Rattle.bm_cache.proofs.Unbroken.{unbroken-step}
use Rattle.bm_work_lists.proofs.Spans.{work-step, between-ready, less-ready, deferred-ready, side-ready}
use Rattle.bm_work_lists.proofs.Steps.{unbroken-point}
use Rattle.bm_cache.proofs.Steady.{sound-step}
use Rattle.bm_work_lists.proofs.bring.top_ready_in.Goals as goal

pub returns-clause-some : goal.returns-clause-some
returns-clause-some g c h =
    let l = (g.H.Host.face c.args.host.now).level in
    let i = c.args.class in
    let x = g.H.Host.held c.args.host.now in
    let y = g.H.Host.held c.point.new.self in
    let z = c.take_ready.new.self in
    let back = g.met.H.Host.held_back c.point.new.self z in
    let tb = g.met.H.Host.tests_back c.point.new.self z in
    let q = c.take_ready.ensures.some h in
    let u = q.0 in
    let t : Took g.R.Recorder.log l (entry.Ready i u.number) [] y z = took-at g.R.Recorder.log l _ (entry.Ready i u.number) [] y _ _ c.level-level.ensures.same c.caches.ensures.held q.3 in
    let r : ((shown y).rows i).deferred.ready ≡ u ∷ q.1 = ap (λ (d : Caches g.row.R.Denot). ((shown d).rows i).deferred.ready) (sym c.caches.ensures.held) ∙ q.2 in
    let d : ((shown y).rows i).deferred ≡ ((shown x).rows i).deferred = (c.point.ensures.came.kept.rows i).deferred in
    let rx : ((shown x).rows i).deferred.ready ≡ u ∷ q.1 = ap (λ (v : Deferred Token). v.ready) (sym d) ∙ r in
    let dz : ((shown z).rows i).deferred ≡ record ((shown x).rows i).deferred { ready = q.1 } = ap (λ (s : State Token). (s.rows i).deferred) t.after ∙ deferred-ready l i (shown y) u.number u q.1 r ∙ ap (λ (v : Deferred Token). let w : Deferred Token = record v { ready = q.1 } in w) d in
    let e : ((shown y).sides l).hand ≡ [] = ap (λ (s : Side Token). s.hand) (c.point.ensures.came.kept.sides l (omega arith) ∙ c.requires.empty) in
    let sz : (shown z).sides l ≡ record { hand = u ∷ []; mark = mark.Quiet } = ap (λ (s : State Token). s.sides l) t.after ∙ side-ready l i (shown y) u.number u q.1 e r in
    let f : Reusable (g.H.Host.tests c.point.new.self) u = first-reusable (g.H.Host.tests c.point.new.self) _ q.1 u r (c.point.ensures.fine.proper.lists i ready_list) in (
      u,
      q.1,
      rx,
      rw back dz,
      rw back sz,
      record { class = first-sits i _ q.1 u r (c.point.ensures.fine.placed.classed.lists i ready_list); reusable = rw tb f },
      work-step g.R.Recorder.log l i _ (entry.Ready i u.number) _ _ _ x y _ _ _ c.level-level.ensures.same c.caches.ensures.held back tb c.point.ensures.came q.3 (between-ready l i (shown y) u.number) (less-ready l i (shown y) u.number),
    )

pub returns-clause-none : goal.returns-clause-none
returns-clause-none g c h =
    let l = (g.H.Host.face c.args.host.now).level in
    let i = c.args.class in
    let x = g.H.Host.held c.args.host.now in
    let y = g.H.Host.held c.point.new.self in
    let z = c.take_ready.new.self in
    let q = c.take_ready.ensures.none h in
    let same : z ≡ y = q.1 ∙ c.caches.ensures.held in
    let r : ((shown y).rows i).deferred.ready ≡ [] = ap (λ (d : Caches g.row.R.Denot). ((shown d).rows i).deferred.ready) (sym c.caches.ensures.held) ∙ q.0 in
    let rx : ((shown x).rows i).deferred.ready ≡ [] = ap (λ (v : Deferred Token). v.ready) (sym (c.point.ensures.came.kept.rows i).deferred) ∙ r in
    (rx, rw (g.met.H.Host.held_back c.point.new.self z, g.met.H.Host.tests_back c.point.new.self z, same) c.point.ensures.came)

pub returns-clause-fine : goal.returns-clause-fine
returns-clause-fine g c =
    go c.take_ready.result refl
  where
    go : (b : Bool) → c.take_ready.result ≡ b → Fine g.R.Recorder.log g.R.Recorder.counts (g.H.Host.tests (g.H.Host.with_held c.point.new.self c.take_ready.new.self)) (g.H.Host.face (g.H.Host.with_held c.point.new.self c.take_ready.new.self)).processors ((g.H.Host.face (g.H.Host.with_held c.point.new.self c.take_ready.new.self)).level + 1) (g.H.Host.held (g.H.Host.with_held c.point.new.self c.take_ready.new.self))
    go true h =
        let q = c.take_ready.ensures.some h in
        fine-step g.R.Recorder.log g.R.Recorder.counts (g.H.Host.face c.args.host.now).level _ (entry.Ready c.args.class q.0.number) _ _ (g.H.Host.face c.point.new.self) _ (g.H.Host.held c.point.new.self) _ _ _ c.level-level.ensures.same c.caches.ensures.held (g.met.H.Host.held_back c.point.new.self c.take_ready.new.self) (g.met.H.Host.tests_back c.point.new.self c.take_ready.new.self) (g.met.H.Host.face_back c.point.new.self c.take_ready.new.self) (ap (λ (f : Face). f.level) c.point.ensures.goes.face) (let F : ℕ → Type 0 = λ n. Fine g.R.Recorder.log g.R.Recorder.counts (g.H.Host.tests c.point.new.self) (g.H.Host.face c.point.new.self).processors (n + 1) (g.H.Host.held c.point.new.self) in subst F (ap (λ (f : Face). f.level) c.point.ensures.goes.face) c.point.ensures.fine) q.3 c.take_ready.ensures.placed tt (reusable-either (g.H.Host.tests c.point.new.self) _ (c.point.ensures.fine.proper.lists c.args.class ready_list)) tt
    go false h =
        let q = c.take_ready.ensures.none h in
        fine-same g.R.Recorder.log g.R.Recorder.counts (g.H.Host.face c.args.host.now).level _ _ (g.H.Host.face c.point.new.self) _ (g.H.Host.held c.point.new.self) _ _ _ c.caches.ensures.held (g.met.H.Host.held_back c.point.new.self c.take_ready.new.self) (g.met.H.Host.tests_back c.point.new.self c.take_ready.new.self) (g.met.H.Host.face_back c.point.new.self c.take_ready.new.self) c.point.ensures.fine (ap (λ (d : Caches g.row.R.Denot). shown d) q.1) (ap (λ (d : Caches g.row.R.Denot). d.processor) q.1) c.take_ready.ensures.placed

pub returns-clause-alone : goal.returns-clause-alone
returns-clause-alone g c =
    go c.take_ready.result refl
  where
    go : (b : Bool) → c.take_ready.result ≡ b → Unbroken g.H.Host.face g.H.Host.pending g.H.Host.held g.R.Recorder.log c.args.host.now (g.H.Host.with_held c.point.new.self c.take_ready.new.self)
    go true h =
        let q = c.take_ready.ensures.some h in
        unbroken-step g.H.Host.face g.H.Host.pending g.H.Host.held g.R.Recorder.log c.args.host.now c.point.new.self (g.H.Host.with_held c.point.new.self c.take_ready.new.self) c.caches.result.now c.take_ready.new.self c.level-level.result (entry.Ready c.args.class q.0.number) [] c.point.ensures.quiet c.level-level.ensures.same c.caches.ensures.held (g.met.H.Host.held_back c.point.new.self c.take_ready.new.self) (g.met.H.Host.pending_back c.point.new.self c.take_ready.new.self) q.3
    go false h =
        let q = c.take_ready.ensures.none h in
        unbroken-point g.H.Host.face g.H.Host.pending g.H.Host.held g.R.Recorder.log c.args.host.now c.point.new.self (g.H.Host.with_held c.point.new.self c.take_ready.new.self) c.point.ensures.quiet (g.met.H.Host.held_back c.point.new.self c.take_ready.new.self ∙ q.1 ∙ c.caches.ensures.held) (g.met.H.Host.pending_back c.point.new.self c.take_ready.new.self)

pub returns-clause-flags : goal.returns-clause-flags
returns-clause-flags g c =
    go c.take_ready.result refl
  where
    go : (b : Bool) → c.take_ready.result ≡ b → RaisesNone g.H.Host.pending g.H.Host.held c.args.host.now (g.H.Host.with_held c.point.new.self c.take_ready.new.self)
    go true h =
        let q = c.take_ready.ensures.some h in
        raises-none-step g.H.Host.pending g.H.Host.held g.R.Recorder.log c.args.host.now c.point.new.self (g.H.Host.with_held c.point.new.self c.take_ready.new.self) c.caches.result.now c.take_ready.new.self c.level-level.result (entry.Ready c.args.class q.0.number) [] refl c.point.ensures.quiet c.caches.ensures.held (g.met.H.Host.held_back c.point.new.self c.take_ready.new.self) (g.met.H.Host.pending_back c.point.new.self c.take_ready.new.self) q.3
    go false h =
        let q = c.take_ready.ensures.none h in
        raises-none-point g.H.Host.pending g.H.Host.held c.args.host.now c.point.new.self (g.H.Host.with_held c.point.new.self c.take_ready.new.self) c.point.ensures.quiet (g.met.H.Host.held_back c.point.new.self c.take_ready.new.self ∙ q.1 ∙ c.caches.ensures.held) (g.met.H.Host.pending_back c.point.new.self c.take_ready.new.self)

pub returns-clause-sound : goal.returns-clause-sound
returns-clause-sound g c =
    go c.take_ready.result refl
  where
    go : (b : Bool) → c.take_ready.result ≡ b → g.H.Host.sound (g.H.Host.with_held c.point.new.self c.take_ready.new.self)
    go true h =
        let q = c.take_ready.ensures.some h in
        sound-step g.H.Host.face g.H.Host.held g.H.Host.with_held g.R.Recorder.log g.H.Host.asked g.H.Host.sound g.met.H.Host.sound_stepped c.args.host.now c.point.new.self c.caches.result.now c.take_ready.new.self c.level-level.result (entry.Ready c.args.class q.0.number) c.point.ensures.goes.face c.point.ensures.asked c.level-level.ensures.same c.caches.ensures.held refl q.3.records q.3.processor
    go false h =
        let q = c.take_ready.ensures.none h in
        let r : ((shown (g.H.Host.held c.point.new.self)).rows c.args.class).deferred.ready ≡ [] = ap (λ (d : Caches g.row.R.Denot). ((shown d).rows c.args.class).deferred.ready) (sym c.caches.ensures.held) ∙ q.0 in
        let none : ((shown (g.H.Host.held c.args.host.now)).rows c.args.class).deferred.ready ≡ [] = ap (λ (v : Deferred Token). v.ready) (sym (c.point.ensures.came.kept.rows c.args.class).deferred) ∙ r in
        let some = c.requires.some in
        absurd (omega (arith, some, ap (λ (us : List Token). length us) none))
