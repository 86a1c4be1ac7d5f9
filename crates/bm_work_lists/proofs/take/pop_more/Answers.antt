use Rattle.std.proofs.Common.{◌≡◌, ◌+◌, ◌++◌, ◌<◌, ℕ, List, Bool, [], ◌∷◌, true, false, length, refl, ap, ◌∙◌, sym, subst, arith}
use Rattle.bm_journal.specs.declared.entry.Entry.TheVariants as entry
use Rattle.bm_law.specs.declared.mark.Mark.TheVariants as mark
use Rattle.bm_law.specs.State.{Side, State}
use Rattle.bm_law.specs.Places.{Free as free_list}
use Rattle.bm_cache.specs.Tokens.{Token}
use Rattle.bm_cache.specs.Tests.{Reusable}
use Rattle.bm_cache.specs.Shown.{shown, waiting, Took}
use Rattle.bm_cache.specs.Span.{Face, Fine, RaisesNone, Unbroken}
use Rattle.bm_law.specs.Kept.{Ready}
use Rattle.bm_cache.specs.declared.caches.Caches.{Caches}
use Rattle.bm_cache.proofs.Placed.{room}
use Rattle.bm_cache.proofs.Stretch.{stretch, fine-step, between-pop, between-none}
use Rattle.bm_cache.proofs.Moments.{took-at, waiting-kept, reusable-either, first-reusable, first-sits}
use Rattle.bm_cache.proofs.Flags.{raises-none-step}
use Rattle.bm_cache.proofs.Unbroken.{unbroken-step}
use Rattle.bm_work_lists.proofs.Steps.{popped-more, hand-room}
use Rattle.bm_cache.proofs.Steady.{sound-step}
use Rattle.bm_work_lists.proofs.take.pop_more.Goals as goal

pub returns-clause-some : goal.returns-clause-some
returns-clause-some g c h =
    let l = (g.H.Host.face c.args.host.now).level in
    let i = c.args.class in
    let x = g.H.Host.held c.args.host.now in
    let y = g.H.Host.held c.point.new.self in
    let z = c.pop.new.self in
    let back = g.met.H.Host.held_back c.point.new.self z in
    let tb = g.met.H.Host.tests_back c.point.new.self z in
    let n : ((shown y).rows i).active ≡ 1 = (c.point.ensures.came.kept.rows i).active ∙ c.requires.one in
    let q = c.pop.ensures.some h in
    let u = q.0 in
    let t : Took g.R.Recorder.log l (entry.Pop i u.number) [] y z = took-at g.R.Recorder.log l _ (entry.Pop i u.number) [] y _ _ c.level-level.ensures.same c.caches.ensures.held q.3 in
    let he : ((shown y).sides l).hand ≡ ((shown x).sides l).hand = ap (λ (s : Side Token). s.hand) (c.point.ensures.came.kept.sides l (omega arith)) in
    let f : ((shown y).rows i).free ≡ u ∷ q.1 = ap (λ (d : Caches g.row.R.Denot). ((shown d).rows i).free) (sym c.caches.ensures.held) ∙ q.2 in
    let k = (c.point.ensures.came.kept.rows i).inside (omega (arith, c.requires.one)) in
    let s : (shown z).sides l ≡ record { hand = ((shown x).sides l).hand ++ u ∷ []; mark = mark.Took i } = ap (λ (z : State Token). z.sides l) t.after ∙ popped-more i l u.number (shown y) u q.1 f ∙ ap (λ (us : List Token). let w : Side Token = record { hand = us ++ u ∷ []; mark = mark.Took i } in w) he in
    let r : Reusable (g.H.Host.tests c.point.new.self) u = first-reusable (g.H.Host.tests c.point.new.self) _ q.1 u f (c.point.ensures.fine.proper.lists i free_list) in
    let i11 : i < 11 = omega (arith, c.index-class.ensures.same, c.index-class.ensures.in_range) in
    let l4 : l < 4 = omega (arith, c.level-level.ensures.same, c.level-level.ensures.bound) in
    let hr : length ((shown y).sides l).hand < 65536 = hand-room (shown y) i l u q.1 f (room (shown y) i l i11 l4 c.point.ensures.fine.placed.once c.point.ensures.fine.placed.classed) in
    let F : List Token → Type 0 = λ us. length us < 65536 in (
      u,
      q.1,
      sym k.free ∙ f,
      rw back s,
      record { class = first-sits i _ q.1 u f (c.point.ensures.fine.placed.classed.lists i free_list); reusable = rw tb r },
      subst F he hr,
      stretch g.R.Recorder.log l i _ 1 1 (entry.Pop i u.number) _ _ _ x y _ _ _ c.level-level.ensures.same c.caches.ensures.held back tb c.point.ensures.came q.3 (between-pop l i (shown y) u.number n),
    )

pub returns-clause-none : goal.returns-clause-none
returns-clause-none g c h =
    let q = c.pop.ensures.none h in
    let t : Took g.R.Recorder.log (g.H.Host.face c.args.host.now).level (entry.PopNone c.args.class) [] (g.H.Host.held c.point.new.self) c.pop.new.self = took-at g.R.Recorder.log (g.H.Host.face c.args.host.now).level _ (entry.PopNone c.args.class) [] (g.H.Host.held c.point.new.self) _ _ c.level-level.ensures.same c.caches.ensures.held q.1 in
    let se : (shown (g.H.Host.held c.point.new.self)).sides (g.H.Host.face c.args.host.now).level ≡ (shown (g.H.Host.held c.args.host.now)).sides (g.H.Host.face c.args.host.now).level = c.point.ensures.came.kept.sides (g.H.Host.face c.args.host.now).level (omega arith) in
    let f : ((shown (g.H.Host.held c.point.new.self)).rows c.args.class).free ≡ [] = ap (λ (d : Caches g.row.R.Denot). ((shown d).rows c.args.class).free) (sym c.caches.ensures.held) ∙ q.0 in
    let i = (c.point.ensures.came.kept.rows c.args.class).inside (omega (arith, c.requires.one)) in
    let F : State Token → Type 0 = λ s. waiting c.args.class s ≡ 0 in
    let wt : waiting c.args.class (shown (g.H.Host.held c.point.new.self)) ≡ 0 = waiting-kept ((g.H.Host.face c.args.host.now).level + 1) c.args.class (shown (g.H.Host.held c.args.host.now)) (shown (g.H.Host.held c.point.new.self)) c.point.ensures.came.kept c.requires.fine.ready (let G : ℕ → Type 0 = λ k. Ready (k + 1) (shown (g.H.Host.held c.point.new.self)) in subst G (ap (λ (f : Face). f.level) c.point.ensures.goes.face) c.point.ensures.fine.ready) ∙ c.requires.waits in (
      sym i.free ∙ f,
      rw (g.met.H.Host.held_back c.point.new.self c.pop.new.self) (ap (λ (z : State Token). z.sides (g.H.Host.face c.args.host.now).level) t.after ∙ se),
      rw (g.met.H.Host.held_back c.point.new.self c.pop.new.self) (subst F (sym t.after) wt),
      stretch g.R.Recorder.log (g.H.Host.face c.args.host.now).level c.args.class _ 1 1 (entry.PopNone c.args.class) _ _ _ (g.H.Host.held c.args.host.now) (g.H.Host.held c.point.new.self) _ _ _ c.level-level.ensures.same c.caches.ensures.held (g.met.H.Host.held_back c.point.new.self c.pop.new.self) (g.met.H.Host.tests_back c.point.new.self c.pop.new.self) c.point.ensures.came q.1 (between-none (g.H.Host.face c.args.host.now).level c.args.class (shown (g.H.Host.held c.point.new.self)) 1),
    )

pub returns-clause-fine : goal.returns-clause-fine
returns-clause-fine g c =
    go c.pop.result refl
  where
    go : (b : Bool) → c.pop.result ≡ b → Fine g.R.Recorder.log g.R.Recorder.counts (g.H.Host.tests (g.H.Host.with_held c.point.new.self c.pop.new.self)) (g.H.Host.face (g.H.Host.with_held c.point.new.self c.pop.new.self)).processors ((g.H.Host.face (g.H.Host.with_held c.point.new.self c.pop.new.self)).level + 1) (g.H.Host.held (g.H.Host.with_held c.point.new.self c.pop.new.self))
    go true h =
        let q = c.pop.ensures.some h in
        fine-step g.R.Recorder.log g.R.Recorder.counts (g.H.Host.face c.args.host.now).level _ (entry.Pop c.args.class q.0.number) _ _ (g.H.Host.face c.point.new.self) _ (g.H.Host.held c.point.new.self) _ _ _ c.level-level.ensures.same c.caches.ensures.held (g.met.H.Host.held_back c.point.new.self c.pop.new.self) (g.met.H.Host.tests_back c.point.new.self c.pop.new.self) (g.met.H.Host.face_back c.point.new.self c.pop.new.self) (ap (λ (f : Face). f.level) c.point.ensures.goes.face) (let F : ℕ → Type 0 = λ n. Fine g.R.Recorder.log g.R.Recorder.counts (g.H.Host.tests c.point.new.self) (g.H.Host.face c.point.new.self).processors (n + 1) (g.H.Host.held c.point.new.self) in subst F (ap (λ (f : Face). f.level) c.point.ensures.goes.face) c.point.ensures.fine) q.3 c.pop.ensures.placed tt (reusable-either (g.H.Host.tests c.point.new.self) _ (c.point.ensures.fine.proper.lists c.args.class free_list)) tt
    go false h =
        let q = c.pop.ensures.none h in
        fine-step g.R.Recorder.log g.R.Recorder.counts (g.H.Host.face c.args.host.now).level _ (entry.PopNone c.args.class) _ _ (g.H.Host.face c.point.new.self) _ (g.H.Host.held c.point.new.self) _ _ _ c.level-level.ensures.same c.caches.ensures.held (g.met.H.Host.held_back c.point.new.self c.pop.new.self) (g.met.H.Host.tests_back c.point.new.self c.pop.new.self) (g.met.H.Host.face_back c.point.new.self c.pop.new.self) (ap (λ (f : Face). f.level) c.point.ensures.goes.face) (let F : ℕ → Type 0 = λ n. Fine g.R.Recorder.log g.R.Recorder.counts (g.H.Host.tests c.point.new.self) (g.H.Host.face c.point.new.self).processors (n + 1) (g.H.Host.held c.point.new.self) in subst F (ap (λ (f : Face). f.level) c.point.ensures.goes.face) c.point.ensures.fine) q.1 c.pop.ensures.placed tt tt tt

pub returns-clause-alone : goal.returns-clause-alone
returns-clause-alone g c =
    go c.pop.result refl
  where
    go : (b : Bool) → c.pop.result ≡ b → Unbroken g.H.Host.face g.H.Host.pending g.H.Host.held g.R.Recorder.log c.args.host.now (g.H.Host.with_held c.point.new.self c.pop.new.self)
    go true h =
        let q = c.pop.ensures.some h in
        unbroken-step g.H.Host.face g.H.Host.pending g.H.Host.held g.R.Recorder.log c.args.host.now c.point.new.self (g.H.Host.with_held c.point.new.self c.pop.new.self) c.caches.result.now c.pop.new.self c.level-level.result (entry.Pop c.args.class q.0.number) [] c.point.ensures.quiet c.level-level.ensures.same c.caches.ensures.held (g.met.H.Host.held_back c.point.new.self c.pop.new.self) (g.met.H.Host.pending_back c.point.new.self c.pop.new.self) q.3
    go false h =
        let q = c.pop.ensures.none h in
        unbroken-step g.H.Host.face g.H.Host.pending g.H.Host.held g.R.Recorder.log c.args.host.now c.point.new.self (g.H.Host.with_held c.point.new.self c.pop.new.self) c.caches.result.now c.pop.new.self c.level-level.result (entry.PopNone c.args.class) [] c.point.ensures.quiet c.level-level.ensures.same c.caches.ensures.held (g.met.H.Host.held_back c.point.new.self c.pop.new.self) (g.met.H.Host.pending_back c.point.new.self c.pop.new.self) q.1

pub returns-clause-flags : goal.returns-clause-flags
returns-clause-flags g c =
    go c.pop.result refl
  where
    go : (b : Bool) → c.pop.result ≡ b → RaisesNone g.H.Host.pending g.H.Host.held c.args.host.now (g.H.Host.with_held c.point.new.self c.pop.new.self)
    go true h =
        let q = c.pop.ensures.some h in
        raises-none-step g.H.Host.pending g.H.Host.held g.R.Recorder.log c.args.host.now c.point.new.self (g.H.Host.with_held c.point.new.self c.pop.new.self) c.caches.result.now c.pop.new.self c.level-level.result (entry.Pop c.args.class q.0.number) [] refl c.point.ensures.quiet c.caches.ensures.held (g.met.H.Host.held_back c.point.new.self c.pop.new.self) (g.met.H.Host.pending_back c.point.new.self c.pop.new.self) q.3
    go false h =
        let q = c.pop.ensures.none h in
        raises-none-step g.H.Host.pending g.H.Host.held g.R.Recorder.log c.args.host.now c.point.new.self (g.H.Host.with_held c.point.new.self c.pop.new.self) c.caches.result.now c.pop.new.self c.level-level.result (entry.PopNone c.args.class) [] refl c.point.ensures.quiet c.caches.ensures.held (g.met.H.Host.held_back c.point.new.self c.pop.new.self) (g.met.H.Host.pending_back c.point.new.self c.pop.new.self) q.1

pub returns-clause-sound : goal.returns-clause-sound
returns-clause-sound g c =
    go c.pop.result refl
  where
    go : (b : Bool) → c.pop.result ≡ b → g.H.Host.sound (g.H.Host.with_held c.point.new.self c.pop.new.self)
    go true h =
        let q = c.pop.ensures.some h in
        sound-step g.H.Host.face g.H.Host.held g.H.Host.with_held g.R.Recorder.log g.H.Host.asked g.H.Host.sound g.met.H.Host.sound_stepped c.args.host.now c.point.new.self c.caches.result.now c.pop.new.self c.level-level.result (entry.Pop c.args.class q.0.number) c.point.ensures.goes.face c.point.ensures.asked c.level-level.ensures.same c.caches.ensures.held refl q.3.records q.3.processor
    go false h =
        let q = c.pop.ensures.none h in
        sound-step g.H.Host.face g.H.Host.held g.H.Host.with_held g.R.Recorder.log g.H.Host.asked g.H.Host.sound g.met.H.Host.sound_stepped c.args.host.now c.point.new.self c.caches.result.now c.pop.new.self c.level-level.result (entry.PopNone c.args.class) c.point.ensures.goes.face c.point.ensures.asked c.level-level.ensures.same c.caches.ensures.held refl q.1.records q.1.processor
