use Rattle.std.proofs.Common.{◌≡◌, ◌<◌, ℕ, ◌∙◌, [], ◌∷◌, refl, ap, subst, arith}
use Rattle.bm_journal.specs.declared.units.Units.TheVariants.{Whole}
use Rattle.bm_journal.specs.declared.entry.Entry.TheVariants as entry
use Rattle.bm_law.specs.State.{seen}
use Rattle.bm_law.specs.Spans.{Records}
use Rattle.bm_law.proofs.Spans.{Records-join}
use Rattle.bm_cache.specs.Tokens.{number_of}
use Rattle.bm_cache.specs.Shown.{shown}
use Rattle.bm_cache.specs.Span.{Face}
use Rattle.bm_cache.specs.Tests.{Lasting}
use Rattle.bm_cache.proofs.Stretch.{lasting-join, walk-still}
use Rattle.bm_work_lists.proofs.Spans.{lasting-ends, lasting-more}
use Rattle.bm_cache.proofs.Moments.{goes-join, span-at}
use Rattle.bm_cache.proofs.Flags.{raises-none-join}
use Rattle.bm_cache.proofs.Unbroken.{unbroken-join}
use Rattle.bm_law_work.specs.Parts.{Part, Say, Then, When}
use Rattle.bm_law_work.specs.WorkPhrases.{IsBatch, IsGathering, IsLeave, may_batch}
use Rattle.bm_work_lists.specs.Grown.{GrewBy}
use Rattle.bm_work_lists.proofs.Grown.{grew-say, grew-then}
use Rattle.bm_work_lists.proofs.batch.gather_delayed.Goals as goal

pub returns-clause-phrase : goal.returns-clause-phrase
returns-clause-phrase g c =
    let l = (g.H.Host.face c.args.host.now).level in
    let i = c.args.class in
    let log = g.R.Recorder.log in
    let x = g.H.Host.held c.args.host.now in
    let y = g.H.Host.held c.raise_active.new.host in
    let z = g.H.Host.held c.move_delayed.new.host in
    let v = g.H.Host.held c.batch_if_any-begun.new.host in
    let w = g.H.Host.held c.lower_active.new.host in
    let ly : (g.H.Host.face c.raise_active.new.host).level ≡ l = ap (λ (f : Face). f.level) c.raise_active.ensures.goes.face in
    let lz : (g.H.Host.face c.move_delayed.new.host).level ≡ l = ap (λ (f : Face). f.level) c.move_delayed.ensures.goes.face ∙ ly in
    let lv : (g.H.Host.face c.batch_if_any-begun.new.host).level ≡ l = ap (λ (f : Face). f.level) c.batch_if_any-begun.ensures.goes.face ∙ lz in
    let one : c.raise_active.result ≡ 1 = omega (arith, c.raise_active.ensures.span.between.active, c.raise_active.ensures.answer, c.requires.idle) in
    let r1 : Records l (entry.Enter i 1 ∷ []) (log x.recorder) (log y.recorder) = subst (λ n. Records l (entry.Enter i n ∷ []) (log x.recorder) (log y.recorder)) one c.raise_active.ensures.span.records in
    let m = c.move_delayed.ensures.span in
    let r2 : Records l (entry.TakeDelayed i (Whole m.0) ∷ []) (log y.recorder) (log z.recorder) = subst (λ k. Records k (entry.TakeDelayed i (Whole m.0) ∷ []) (log y.recorder) (log z.recorder)) ly m.1.records in
    let r3 : Records l (entry.Leave i c.lower_active.result ∷ []) (log v.recorder) (log w.recorder) = subst (λ k. Records k (entry.Leave i c.lower_active.result ∷ []) (log v.recorder) (log w.recorder)) lv c.lower_active.ensures.span.records in
    let P1 : Part = Say l (IsGathering i) in
    let P2 : Part = When (may_batch i) (Say l (IsBatch i)) in
    let P3 : Part = Say l (IsLeave i) in
    let g1 : GrewBy P1 (seen number_of (shown x)) (log x.recorder) (log z.recorder) = grew-say l (IsGathering i) (entry.Enter i 1 ∷ entry.TakeDelayed i (Whole m.0) ∷ []) (seen number_of (shown x)) (log x.recorder) (log z.recorder) (Records-join l (entry.Enter i 1 ∷ []) (entry.TakeDelayed i (Whole m.0) ∷ []) (log x.recorder) (log y.recorder) (log z.recorder) r1 r2) (m.0, refl) in
    let g2 : GrewBy P2 (seen number_of (shown z)) (log z.recorder) (log v.recorder) = subst (λ k. GrewBy (When (may_batch i) (Say k (IsBatch i))) (seen number_of (shown z)) (log z.recorder) (log v.recorder)) lz c.batch_if_any-begun.ensures.phrase in
    let g3 : GrewBy P3 (seen number_of (shown v)) (log v.recorder) (log w.recorder) = grew-say l (IsLeave i) (entry.Leave i c.lower_active.result ∷ []) (seen number_of (shown v)) (log v.recorder) (log w.recorder) r3 (c.lower_active.result, refl) in
    let g23 : GrewBy (Then P2 P3) (seen number_of (shown z)) (log z.recorder) (log w.recorder) = grew-then log g.R.Recorder.counts P2 P3 z v (log w.recorder) c.batch_if_any-begun.ensures.processor c.move_delayed.ensures.fine.placed c.batch_if_any-begun.ensures.fine.placed g2 g3 in
    grew-then log g.R.Recorder.counts P1 (Then P2 P3) x z (log w.recorder) (m.1.processor ∙ c.raise_active.ensures.span.processor) c.requires.fine.placed c.move_delayed.ensures.fine.placed g1 g23

pub returns-clause-goes : goal.returns-clause-goes
returns-clause-goes g c = goes-join g.met.H.Host.keeps_join c.raise_active.ensures.goes (goes-join g.met.H.Host.keeps_join c.move_delayed.ensures.goes (goes-join g.met.H.Host.keeps_join c.batch_if_any-begun.ensures.goes c.lower_active.ensures.goes))

pub returns-clause-alone : goal.returns-clause-alone
returns-clause-alone g c =
    let j = g.met.H.Host.keeps_join in
    let t = goes-join j c.batch_if_any-begun.ensures.goes c.lower_active.ensures.goes in
    unbroken-join c.raise_active.ensures.goes (goes-join j c.move_delayed.ensures.goes t) c.raise_active.ensures.alone
    (unbroken-join c.move_delayed.ensures.goes t c.move_delayed.ensures.alone
    (unbroken-join c.batch_if_any-begun.ensures.goes c.lower_active.ensures.goes c.batch_if_any-begun.ensures.alone c.lower_active.ensures.alone))

pub returns-clause-flags : goal.returns-clause-flags
returns-clause-flags g c =
    let j = g.met.H.Host.keeps_join in
    let t = goes-join j c.batch_if_any-begun.ensures.goes c.lower_active.ensures.goes in
    raises-none-join c.raise_active.ensures.goes (goes-join j c.move_delayed.ensures.goes t) c.raise_active.ensures.flags
    (raises-none-join c.move_delayed.ensures.goes t c.move_delayed.ensures.flags
    (raises-none-join c.batch_if_any-begun.ensures.goes c.lower_active.ensures.goes c.batch_if_any-begun.ensures.flags c.lower_active.ensures.flags))

pub returns-clause-lasting : goal.returns-clause-lasting
returns-clause-lasting g c =
    let l = (g.H.Host.face c.args.host.now).level in
    let i = c.args.class in
    let log = g.R.Recorder.log in
    let T = g.H.Host.tests in
    let x = g.H.Host.held c.args.host.now in
    let y = g.H.Host.held c.raise_active.new.host in
    let z = g.H.Host.held c.move_delayed.new.host in
    let v = g.H.Host.held c.batch_if_any-begun.new.host in
    let w = g.H.Host.held c.lower_active.new.host in
    let tx = T c.args.host.now in
    let ty = T c.raise_active.new.host in
    let tz = T c.move_delayed.new.host in
    let tv = T c.batch_if_any-begun.new.host in
    let tw = T c.lower_active.new.host in
    let ly : (g.H.Host.face c.raise_active.new.host).level ≡ l = ap (λ (f : Face). f.level) c.raise_active.ensures.goes.face in
    let lz : (g.H.Host.face c.move_delayed.new.host).level ≡ l = ap (λ (f : Face). f.level) c.move_delayed.ensures.goes.face ∙ ly in
    let lv : (g.H.Host.face c.batch_if_any-begun.new.host).level ≡ l = ap (λ (f : Face). f.level) c.batch_if_any-begun.ensures.goes.face ∙ lz in
    let m = c.move_delayed.ensures.span in
    let s1 = c.raise_active.ensures.span in
    let s2 = span-at log l _ i 1 1 (entry.TakeDelayed i (Whole m.0) ∷ []) ty tz y z ly m.1 in
    let s4 = span-at log l _ i 1 0 (entry.Leave i c.lower_active.result ∷ []) tv tw v w lv c.lower_active.ensures.span in
    let s3 : Lasting l (shown z) tz tv = subst (λ k. Lasting k (shown z) tz tv) lz c.batch_if_any-begun.ensures.lasting in
    let F : ℕ → Type 0 = λ k. (j : ℕ) → j < k → (shown v).sides j ≡ (shown z).sides j in
    let o : Lasting l (shown z) tv tw = lasting-more l (shown z) (shown v) tv tw (subst F lz c.batch_if_any-begun.ensures.below) c.batch_if_any-begun.ensures.more s4.lasting in
    let p : Lasting l (shown z) tz tw = lasting-ends l (shown z) tz tv tw s3 o in
    let q : Lasting l (shown y) ty tw = lasting-join l (shown y) (shown z) ty tz tw s2.between.sides (walk-still l (entry.TakeDelayed i (Whole m.0) ∷ []) (shown y) (shown z) s2.walk refl) s2.lasting p in
    lasting-join l (shown x) (shown y) tx ty tw s1.between.sides (walk-still l (entry.Enter i c.raise_active.result ∷ []) (shown x) (shown y) s1.walk refl) s1.lasting q
