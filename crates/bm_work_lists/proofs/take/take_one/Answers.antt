use Rattle.std.proofs.Common.{◌≡◌, ◌++◌, ◌<◌, ℕ, List, [], ◌∷◌, length, Some, None, refl, ap, ◌∙◌, sym, subst, arith}
use Rattle.std.specs.List.{All}
use Rattle.bm_journal.specs.declared.entry.Entry.TheVariants as entry
use Rattle.bm_law.specs.declared.mark.Mark.TheVariants as mark
use Rattle.bm_law.specs.State.{Side}
use Rattle.bm_cache.specs.Tokens.{Token}
use Rattle.bm_cache.specs.Tests.{Same}
use Rattle.bm_cache.specs.Shown.{shown}
use Rattle.bm_cache.specs.Span.{Face, Span}
use Rattle.bm_cache.proofs.Stretch.{span-join}
use Rattle.bm_cache.proofs.Moments.{span-at, goes-join}
use Rattle.bm_cache.proofs.Flags.{raises-none-join}
use Rattle.bm_cache.proofs.Unbroken.{unbroken-join}
use Rattle.bm_law_work.specs.WorkPhrases.{Moved, take_of, empty_take}
use Rattle.bm_work_lists.specs.Fit.{Fit}
use Rattle.bm_work_lists.proofs.Grown.{grew-say}
use Rattle.bm_work_lists.proofs.Spans.{span-active, span-still}
use Rattle.bm_work_lists.specs.Takes.{IsTake}
use Rattle.bm_work_lists.proofs.Fits.{fit-last, same-front}
use Rattle.bm_work_lists.proofs.Steps.{same-join}
use Rattle.bm_work_lists.proofs.take.take_one.Goals as goal

pub returns-then-pop_more-clause-some : goal.returns-then-pop_more-clause-some
returns-then-pop_more-clause-some g c =
    let l = (g.H.Host.face c.args.host.now).level in
    let i = c.args.class in
    let log = g.R.Recorder.log in
    let x = g.H.Host.held c.args.host.now in
    let y = g.H.Host.held c.raise_active.new.host in
    let z = g.H.Host.held c.pop_more.new.host in
    let w = g.H.Host.held c.count_taken-count.new.host in
    let d = g.H.Host.held c.lower_active.new.host in
    let tz = g.H.Host.tests c.pop_more.new.host in
    let tw = g.H.Host.tests c.count_taken-count.new.host in
    let td = g.H.Host.tests c.lower_active.new.host in
    let k = c.count_taken-count.result in
    let a = c.lower_active.result in
    let q = c.pop_more.ensures.some c.if-pop_more.true in
    let u = q.0 in
    let h = ((shown x).sides l).hand in
    let ly : (g.H.Host.face c.raise_active.new.host).level ≡ l = ap (λ (f : Face). f.level) c.raise_active.ensures.goes.face in
    let lz : (g.H.Host.face c.pop_more.new.host).level ≡ l = ap (λ (f : Face). f.level) c.pop_more.ensures.goes.face ∙ ly in
    let lw : (g.H.Host.face c.count_taken-count.new.host).level ≡ l = ap (λ (f : Face). f.level) c.count_taken-count.ensures.goes.face ∙ lz in
    let one : c.raise_active.result ≡ 1 = omega (arith, c.raise_active.ensures.span.between.active, c.raise_active.ensures.answer, c.requires.idle) in
    let S : ℕ → Type 0 = λ n. Span log l i 0 1 (entry.Enter i n ∷ []) (g.H.Host.tests c.args.host.now) (g.H.Host.tests c.raise_active.new.host) x y in
    let s1 : S 1 = subst S one c.raise_active.ensures.span in
    let s2 : Span log l i 1 1 (entry.Pop i u.number ∷ []) (g.H.Host.tests c.raise_active.new.host) tz y z = span-at log l _ i 1 1 _ _ _ y z ly q.6 in
    let s3 : Span log l i 1 1 (entry.Count i k ∷ []) tz tw z w = span-at log l _ i 1 1 _ _ _ z w lz c.count_taken-count.ensures.span in
    let s4 : Span log l i 1 0 (entry.Leave i a ∷ []) tw td w d = span-at log l _ i 1 0 _ _ _ w d lw c.lower_active.ensures.span in
    let s12 = span-join log l i 0 1 1 (entry.Enter i 1 ∷ []) (entry.Pop i u.number ∷ []) _ _ _ x y z refl s1 s2 in
    let s13 = span-join log l i 0 1 1 (entry.Enter i 1 ∷ entry.Pop i u.number ∷ []) (entry.Count i k ∷ []) _ _ _ x z w refl s12 s3 in
    let all = span-join log l i 0 1 0 (entry.Enter i 1 ∷ entry.Pop i u.number ∷ entry.Count i k ∷ []) (entry.Leave i a ∷ []) _ _ _ x w d refl s13 s4 in
    let hy : ((shown y).sides l).hand ≡ h = ap (λ (s : Side Token). s.hand) c.raise_active.ensures.side in
    let e1 : (shown z).sides l ≡ record { hand = ((shown y).sides l).hand ++ u ∷ []; mark = mark.Took i } = (let F : ℕ → Type 0 = λ n. (shown z).sides n ≡ record { hand = ((shown y).sides n).hand ++ u ∷ []; mark = mark.Took i } in subst F ly q.3) in
    let e2 : (shown w).sides l ≡ record ((shown z).sides l) { mark = mark.Quiet } = (let F : ℕ → Type 0 = λ n. (shown w).sides n ≡ record ((shown z).sides n) { mark = mark.Quiet } in subst F lz c.count_taken-count.ensures.side) in
    let e3 : (shown d).sides l ≡ (shown w).sides l = (let F : ℕ → Type 0 = λ n. (shown d).sides n ≡ (shown w).sides n in subst F lw c.lower_active.ensures.side) in
    let quiet : Side Token → Side Token = λ s. record s { mark = mark.Quiet } in
    let sw : (shown w).sides l ≡ record { hand = h ++ u ∷ []; mark = mark.Quiet } = e2 ∙ ap quiet e1 ∙ ap (λ (us : List Token). let r : Side Token = record { hand = us ++ u ∷ []; mark = mark.Quiet } in r) hy in
    let hz : ((shown z).sides l).hand ≡ h ++ u ∷ [] = ap (λ (s : Side Token). s.hand) e1 ∙ ap (λ (us : List Token). us ++ u ∷ []) hy in
    let hw : ((shown w).sides l).hand ≡ h ++ u ∷ [] = ap (λ (s : Side Token). s.hand) sw in
    let r3 : All (Same tz tw) (h ++ u ∷ []) = (let F : List Token → Type 0 = λ us. All (Same tz tw) us in subst F hz (let G : ℕ → Type 0 = λ n. All (Same tz tw) ((shown z).sides n).hand in subst G lz c.count_taken-count.ensures.lasts)) in
    let r4 : All (Same tw td) (h ++ u ∷ []) = (let F : List Token → Type 0 = λ us. All (Same tw td) us in subst F hw (let G : ℕ → Type 0 = λ n. All (Same tw td) ((shown w).sides n).hand in subst G lw c.lower_active.ensures.lasts)) in
    let fit : Fit td i u = fit-last i tz td u h (same-join tz tw td (h ++ u ∷ []) r3 r4) q.4 in
    let N : ℕ → Type 0 = λ n. length ((shown y).sides n).hand < 65536 in
    let L : List Token → Type 0 = λ us. length us < 65536 in
    (u, a, e3 ∙ sw, fit, subst L hy (subst N ly q.5), all)

pub returns-else-pop_more-clause-none : goal.returns-else-pop_more-clause-none
returns-else-pop_more-clause-none g c _ =
    let l = (g.H.Host.face c.args.host.now).level in
    let i = c.args.class in
    let log = g.R.Recorder.log in
    let x = g.H.Host.held c.args.host.now in
    let y = g.H.Host.held c.raise_active.new.host in
    let z = g.H.Host.held c.pop_more.new.host in
    let d = g.H.Host.held c.lower_active-else-pop_more.new.host in
    let a = c.lower_active-else-pop_more.result in
    let q = c.pop_more.ensures.none c.if-pop_more.false in
    let ly : (g.H.Host.face c.raise_active.new.host).level ≡ l = ap (λ (f : Face). f.level) c.raise_active.ensures.goes.face in
    let lz : (g.H.Host.face c.pop_more.new.host).level ≡ l = ap (λ (f : Face). f.level) c.pop_more.ensures.goes.face ∙ ly in
    let one : c.raise_active.result ≡ 1 = omega (arith, c.raise_active.ensures.span.between.active, c.raise_active.ensures.answer, c.requires.idle) in
    let S : ℕ → Type 0 = λ n. Span log l i 0 1 (entry.Enter i n ∷ []) (g.H.Host.tests c.args.host.now) (g.H.Host.tests c.raise_active.new.host) x y in
    let s1 : S 1 = subst S one c.raise_active.ensures.span in
    let s2 : Span log l i 1 1 (entry.PopNone i ∷ []) (g.H.Host.tests c.raise_active.new.host) (g.H.Host.tests c.pop_more.new.host) y z = span-at log l _ i 1 1 _ _ _ y z ly q.3 in
    let s3 : Span log l i 1 0 (entry.Leave i a ∷ []) (g.H.Host.tests c.pop_more.new.host) (g.H.Host.tests c.lower_active-else-pop_more.new.host) z d = span-at log l _ i 1 0 _ _ _ z d lz c.lower_active-else-pop_more.ensures.span in
    let s12 = span-join log l i 0 1 1 (entry.Enter i 1 ∷ []) (entry.PopNone i ∷ []) _ _ _ x y z refl s1 s2 in
    let all = span-join log l i 0 1 0 (entry.Enter i 1 ∷ entry.PopNone i ∷ []) (entry.Leave i a ∷ []) _ _ _ x z d refl s12 s3 in
    let ex : (shown y).sides l ≡ (shown x).sides l = c.raise_active.ensures.side ∙ ap (λ m. let r : Side Token = record ((shown x).sides l) { mark = m } in r) (sym c.requires.quiet) in
    let e1 : (shown z).sides l ≡ (shown y).sides l = (let F : ℕ → Type 0 = λ n. (shown z).sides n ≡ (shown y).sides n in subst F ly q.1) in
    let e3 : (shown d).sides l ≡ (shown z).sides l = (let F : ℕ → Type 0 = λ n. (shown d).sides n ≡ (shown z).sides n in subst F lz c.lower_active-else-pop_more.ensures.side) in
    (a, e3 ∙ e1 ∙ ex, all)

pub returns-then-pop_more-clause-lasts : goal.returns-then-pop_more-clause-lasts
returns-then-pop_more-clause-lasts g c =
    let l = (g.H.Host.face c.args.host.now).level in
    let i = c.args.class in
    let x = g.H.Host.held c.args.host.now in
    let y = g.H.Host.held c.raise_active.new.host in
    let z = g.H.Host.held c.pop_more.new.host in
    let w = g.H.Host.held c.count_taken-count.new.host in
    let tx = g.H.Host.tests c.args.host.now in
    let ty = g.H.Host.tests c.raise_active.new.host in
    let tz = g.H.Host.tests c.pop_more.new.host in
    let tw = g.H.Host.tests c.count_taken-count.new.host in
    let td = g.H.Host.tests c.lower_active.new.host in
    let q = c.pop_more.ensures.some c.if-pop_more.true in
    let h = ((shown x).sides l).hand in
    let ly : (g.H.Host.face c.raise_active.new.host).level ≡ l = ap (λ (f : Face). f.level) c.raise_active.ensures.goes.face in
    let lz : (g.H.Host.face c.pop_more.new.host).level ≡ l = ap (λ (f : Face). f.level) c.pop_more.ensures.goes.face ∙ ly in
    let lw : (g.H.Host.face c.count_taken-count.new.host).level ≡ l = ap (λ (f : Face). f.level) c.count_taken-count.ensures.goes.face ∙ lz in
    let hy : ((shown y).sides l).hand ≡ h = ap (λ (s : Side Token). s.hand) c.raise_active.ensures.side in
    let hz : ((shown z).sides l).hand ≡ h ++ q.0 ∷ [] = (let F : ℕ → Type 0 = λ n. ((shown z).sides n).hand ≡ ((shown y).sides n).hand ++ q.0 ∷ [] in subst F ly (ap (λ (s : Side Token). s.hand) q.3)) ∙ ap (λ (us : List Token). us ++ q.0 ∷ []) hy in
    let hw : ((shown w).sides l).hand ≡ h ++ q.0 ∷ [] = (let F : ℕ → Type 0 = λ n. ((shown w).sides n).hand ≡ ((shown z).sides n).hand in subst F lz (ap (λ (s : Side Token). s.hand) c.count_taken-count.ensures.side)) ∙ hz in
    let r2 : All (Same ty tz) h = (let F : List Token → Type 0 = λ us. All (Same ty tz) us in subst F hy (let G : ℕ → Type 0 = λ n. All (Same ty tz) ((shown y).sides n).hand in subst G ly c.pop_more.ensures.lasts)) in
    let r3 : All (Same tz tw) (h ++ q.0 ∷ []) = (let F : List Token → Type 0 = λ us. All (Same tz tw) us in subst F hz (let G : ℕ → Type 0 = λ n. All (Same tz tw) ((shown z).sides n).hand in subst G lz c.count_taken-count.ensures.lasts)) in
    let r4 : All (Same tw td) (h ++ q.0 ∷ []) = (let F : List Token → Type 0 = λ us. All (Same tw td) us in subst F hw (let G : ℕ → Type 0 = λ n. All (Same tw td) ((shown w).sides n).hand in subst G lw c.lower_active.ensures.lasts)) in
    same-join tx tz td h (same-join tx ty tz h c.raise_active.ensures.lasts r2) (same-front tz td h (q.0 ∷ []) (same-join tz tw td (h ++ q.0 ∷ []) r3 r4))

pub returns-else-pop_more-clause-lasts : goal.returns-else-pop_more-clause-lasts
returns-else-pop_more-clause-lasts g c =
    let l = (g.H.Host.face c.args.host.now).level in
    let x = g.H.Host.held c.args.host.now in
    let y = g.H.Host.held c.raise_active.new.host in
    let z = g.H.Host.held c.pop_more.new.host in
    let tx = g.H.Host.tests c.args.host.now in
    let ty = g.H.Host.tests c.raise_active.new.host in
    let tz = g.H.Host.tests c.pop_more.new.host in
    let td = g.H.Host.tests c.lower_active-else-pop_more.new.host in
    let q = c.pop_more.ensures.none c.if-pop_more.false in
    let h = ((shown x).sides l).hand in
    let ly : (g.H.Host.face c.raise_active.new.host).level ≡ l = ap (λ (f : Face). f.level) c.raise_active.ensures.goes.face in
    let lz : (g.H.Host.face c.pop_more.new.host).level ≡ l = ap (λ (f : Face). f.level) c.pop_more.ensures.goes.face ∙ ly in
    let hy : ((shown y).sides l).hand ≡ h = ap (λ (s : Side Token). s.hand) c.raise_active.ensures.side in
    let hz : ((shown z).sides l).hand ≡ h = (let F : ℕ → Type 0 = λ n. ((shown z).sides n).hand ≡ ((shown y).sides n).hand in subst F ly (ap (λ (s : Side Token). s.hand) q.1)) ∙ hy in
    let r2 : All (Same ty tz) h = (let F : List Token → Type 0 = λ us. All (Same ty tz) us in subst F hy (let G : ℕ → Type 0 = λ n. All (Same ty tz) ((shown y).sides n).hand in subst G ly c.pop_more.ensures.lasts)) in
    let r3 : All (Same tz td) h = (let F : List Token → Type 0 = λ us. All (Same tz td) us in subst F hz (let G : ℕ → Type 0 = λ n. All (Same tz td) ((shown z).sides n).hand in subst G lz c.lower_active-else-pop_more.ensures.lasts)) in
    same-join tx tz td h (same-join tx ty tz h c.raise_active.ensures.lasts r2) r3

pub returns-then-pop_more-clause-active : goal.returns-then-pop_more-clause-active
returns-then-pop_more-clause-active g c = let s = returns-then-pop_more-clause-some g c in span-active g.R.Recorder.log _ _ _ _ _ _ _ s.5

pub returns-then-pop_more-clause-kept : goal.returns-then-pop_more-clause-kept
returns-then-pop_more-clause-kept g c = let s = returns-then-pop_more-clause-some g c in span-still g.R.Recorder.log _ _ _ _ _ _ _ s.5 refl

pub returns-else-pop_more-clause-active : goal.returns-else-pop_more-clause-active
returns-else-pop_more-clause-active g c = let s = returns-else-pop_more-clause-none g c refl in span-active g.R.Recorder.log _ _ _ _ _ _ _ s.2

pub returns-else-pop_more-clause-kept : goal.returns-else-pop_more-clause-kept
returns-else-pop_more-clause-kept g c = let s = returns-else-pop_more-clause-none g c refl in span-still g.R.Recorder.log _ _ _ _ _ _ _ s.2 refl

pub returns-then-pop_more-clause-goes : goal.returns-then-pop_more-clause-goes
returns-then-pop_more-clause-goes g c = goes-join g.met.H.Host.keeps_join c.raise_active.ensures.goes (goes-join g.met.H.Host.keeps_join c.pop_more.ensures.goes (goes-join g.met.H.Host.keeps_join c.count_taken-count.ensures.goes c.lower_active.ensures.goes))

pub returns-then-pop_more-clause-alone : goal.returns-then-pop_more-clause-alone
returns-then-pop_more-clause-alone g c =
    let r3 = goes-join g.met.H.Host.keeps_join c.count_taken-count.ensures.goes c.lower_active.ensures.goes in
    let r2 = goes-join g.met.H.Host.keeps_join c.pop_more.ensures.goes r3 in
    unbroken-join c.raise_active.ensures.goes r2 c.raise_active.ensures.alone (unbroken-join c.pop_more.ensures.goes r3 c.pop_more.ensures.alone (unbroken-join c.count_taken-count.ensures.goes c.lower_active.ensures.goes c.count_taken-count.ensures.alone c.lower_active.ensures.alone))

pub returns-then-pop_more-clause-flags : goal.returns-then-pop_more-clause-flags
returns-then-pop_more-clause-flags g c =
    let r3 = goes-join g.met.H.Host.keeps_join c.count_taken-count.ensures.goes c.lower_active.ensures.goes in
    let r2 = goes-join g.met.H.Host.keeps_join c.pop_more.ensures.goes r3 in
    raises-none-join c.raise_active.ensures.goes r2 c.raise_active.ensures.flags (raises-none-join c.pop_more.ensures.goes r3 c.pop_more.ensures.flags (raises-none-join c.count_taken-count.ensures.goes c.lower_active.ensures.goes c.count_taken-count.ensures.flags c.lower_active.ensures.flags))

pub returns-else-pop_more-clause-goes : goal.returns-else-pop_more-clause-goes
returns-else-pop_more-clause-goes g c = goes-join g.met.H.Host.keeps_join c.raise_active.ensures.goes (goes-join g.met.H.Host.keeps_join c.pop_more.ensures.goes c.lower_active-else-pop_more.ensures.goes)

pub returns-else-pop_more-clause-alone : goal.returns-else-pop_more-clause-alone
returns-else-pop_more-clause-alone g c =
    let r2 = goes-join g.met.H.Host.keeps_join c.pop_more.ensures.goes c.lower_active-else-pop_more.ensures.goes in
    unbroken-join c.raise_active.ensures.goes r2 c.raise_active.ensures.alone (unbroken-join c.pop_more.ensures.goes c.lower_active-else-pop_more.ensures.goes c.pop_more.ensures.alone c.lower_active-else-pop_more.ensures.alone)

pub returns-else-pop_more-clause-flags : goal.returns-else-pop_more-clause-flags
returns-else-pop_more-clause-flags g c =
    let r2 = goes-join g.met.H.Host.keeps_join c.pop_more.ensures.goes c.lower_active-else-pop_more.ensures.goes in
    raises-none-join c.raise_active.ensures.goes r2 c.raise_active.ensures.flags (raises-none-join c.pop_more.ensures.goes c.lower_active-else-pop_more.ensures.goes c.pop_more.ensures.flags c.lower_active-else-pop_more.ensures.flags)

pub returns-then-pop_more-clause-phrase : goal.returns-then-pop_more-clause-phrase
returns-then-pop_more-clause-phrase g c =
    let s = returns-then-pop_more-clause-some g c in
    let k : ℕ = c.count_taken-count.result in
    let m : Moved = record { unit = s.0.number; count = k; active = s.1 } in
    grew-say (g.H.Host.face c.args.host.now).level (IsTake c.args.class (Some k)) (take_of c.args.class m) _ _ _ s.5.records (m, refl, refl)

pub returns-else-pop_more-clause-phrase : goal.returns-else-pop_more-clause-phrase
returns-else-pop_more-clause-phrase g c =
    let s = returns-else-pop_more-clause-none g c refl in
    grew-say (g.H.Host.face c.args.host.now).level (IsTake c.args.class None) (empty_take c.args.class s.0) _ _ _ s.2.records (s.0, refl)
