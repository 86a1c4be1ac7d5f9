use Rattle.std.proofs.Common.{◌≡◌, ℕ, List, [], ◌∷◌, drop, refl, ap, ◌∙◌, sym, subst, arith}
use Rattle.std.specs.List.{All}
use Rattle.bm_journal.specs.declared.entry.Entry.TheVariants as entry
use Rattle.bm_law.specs.declared.mark.Mark.TheVariants as mark
use Rattle.bm_law.specs.State.{Side}
use Rattle.bm_law.specs.Phrases.{added, AddPhrase}
use Rattle.bm_cache.specs.Tokens.{Token}
use Rattle.bm_cache.specs.Tests.{Same}
use Rattle.bm_cache.specs.Shown.{shown}
use Rattle.bm_cache.specs.Span.{Face, Span}
use Rattle.bm_cache.proofs.Stretch.{span-join}
use Rattle.bm_cache.proofs.Moments.{span-at, one-token, goes-join}
use Rattle.bm_cache.proofs.Flags.{raises-none-join}
use Rattle.bm_cache.proofs.Unbroken.{unbroken-join}
use Rattle.bm_work_lists.proofs.Grown.{grew-say}
use Rattle.bm_work_lists.proofs.Spans.{span-active, span-still}
use Rattle.bm_work_lists.proofs.Steps.{one-rest, same-join, rest-lasts, first-lasts}
use Rattle.bm_work_lists.proofs.add.add_unit.Goals as goal

pub push_first-requires-clause-hand : goal.push_first-requires-clause-hand
push_first-requires-clause-hand g c =
    let l = (g.H.Host.face c.args.host.now).level in
    let v = c.requires.hand in
    let y = g.H.Host.held c.raise_active.new.host in
    let ly : (g.H.Host.face c.raise_active.new.host).level ≡ l = ap (λ (f : Face). f.level) c.raise_active.ensures.goes.face in
    let e : ((shown y).sides l).hand ≡ v.0 ∷ v.1 = ap (λ (s : Side Token). s.hand) c.raise_active.ensures.side ∙ v.2 in
    let F : ℕ → Type 0 = λ n. ((shown y).sides n).hand ≡ v.0 ∷ v.1 in
    (v.0, v.1, subst F (sym ly) e, record { class = v.3.class; reusable = first-lasts (g.H.Host.tests c.args.host.now) (g.H.Host.tests c.raise_active.new.host) 0 v.0 _ v.1 v.2 c.raise_active.ensures.lasts v.3.reusable })

pub returns-clause-span : goal.returns-clause-span
returns-clause-span g c =
    let l = (g.H.Host.face c.args.host.now).level in
    let i = c.args.class in
    let log = g.R.Recorder.log in
    let v = c.requires.hand in
    let x = g.H.Host.held c.args.host.now in
    let y = g.H.Host.held c.raise_active.new.host in
    let z = g.H.Host.held c.push_first.new.host in
    let w = g.H.Host.held c.count_push.new.host in
    let d = g.H.Host.held c.lower_active.new.host in
    let k = c.count_push.result in
    let a = c.lower_active.result in
    let q = c.push_first.ensures.pushed in
    let ly : (g.H.Host.face c.raise_active.new.host).level ≡ l = ap (λ (f : Face). f.level) c.raise_active.ensures.goes.face in
    let lz : (g.H.Host.face c.push_first.new.host).level ≡ l = ap (λ (f : Face). f.level) c.push_first.ensures.goes.face ∙ ly in
    let lw : (g.H.Host.face c.count_push.new.host).level ≡ l = ap (λ (f : Face). f.level) c.count_push.ensures.goes.face ∙ lz in
    let one : c.raise_active.result ≡ 1 = omega (arith, c.raise_active.ensures.span.between.active, c.raise_active.ensures.answer, c.requires.idle) in
    let S : ℕ → Type 0 = λ n. Span log l i 0 1 (entry.Enter i n ∷ []) (g.H.Host.tests c.args.host.now) (g.H.Host.tests c.raise_active.new.host) x y in
    let s1 : S 1 = subst S one c.raise_active.ensures.span in
    let e : ((shown y).sides l).hand ≡ v.0 ∷ v.1 = ap (λ (s : Side Token). s.hand) c.raise_active.ensures.side ∙ v.2 in
    let f : ((shown y).sides l).hand ≡ q.0 ∷ q.1 = (let F : ℕ → Type 0 = λ n. ((shown y).sides n).hand ≡ q.0 ∷ q.1 in subst F ly q.2) in
    let u : q.0 ≡ v.0 = one-token _ _ _ _ _ f e in
    let T : Token → Type 0 = λ t. Span log l i 1 1 (entry.Push i t.number ∷ []) (g.H.Host.tests c.raise_active.new.host) (g.H.Host.tests c.push_first.new.host) y z in
    let s2 : T v.0 = subst T u (span-at log l _ i 1 1 _ _ _ y z ly q.4) in
    let s3 : Span log l i 1 1 (entry.Count i k ∷ []) (g.H.Host.tests c.push_first.new.host) (g.H.Host.tests c.count_push.new.host) z w = span-at log l _ i 1 1 _ _ _ z w lz c.count_push.ensures.span in
    let s4 : Span log l i 1 0 (entry.Leave i a ∷ []) (g.H.Host.tests c.count_push.new.host) (g.H.Host.tests c.lower_active.new.host) w d = span-at log l _ i 1 0 _ _ _ w d lw c.lower_active.ensures.span in
    let s12 = span-join log l i 0 1 1 (entry.Enter i 1 ∷ []) (entry.Push i v.0.number ∷ []) _ _ _ x y z refl s1 s2 in
    let s13 = span-join log l i 0 1 1 (entry.Enter i 1 ∷ entry.Push i v.0.number ∷ []) (entry.Count i k ∷ []) _ _ _ x z w refl s12 s3 in
    (v.0, v.1, k, a, v.2, span-join log l i 0 1 0 (entry.Enter i 1 ∷ entry.Push i v.0.number ∷ entry.Count i k ∷ []) (entry.Leave i a ∷ []) _ _ _ x w d refl s13 s4)

pub returns-clause-phrase : goal.returns-clause-phrase
returns-clause-phrase g c =
    let l = (g.H.Host.face c.args.host.now).level in
    let s = returns-clause-span g c in
    (s.0, s.1, s.4, grew-say l (AddPhrase c.args.class s.0.number) (added c.args.class s.0.number s.2 s.3) _ _ _ s.5.records (s.2, s.3, refl))

pub returns-clause-active : goal.returns-clause-active
returns-clause-active g c = let s = returns-clause-span g c in span-active g.R.Recorder.log _ _ _ _ _ _ _ s.5

pub returns-clause-kept : goal.returns-clause-kept
returns-clause-kept g c = let s = returns-clause-span g c in span-still g.R.Recorder.log _ _ _ _ _ _ _ s.5 refl

pub returns-clause-side : goal.returns-clause-side
returns-clause-side g c =
    let l = (g.H.Host.face c.args.host.now).level in
    let i = c.args.class in
    let y = g.H.Host.held c.raise_active.new.host in
    let z = g.H.Host.held c.push_first.new.host in
    let w = g.H.Host.held c.count_push.new.host in
    let d = g.H.Host.held c.lower_active.new.host in
    let q = c.push_first.ensures.pushed in
    let ly : (g.H.Host.face c.raise_active.new.host).level ≡ l = ap (λ (f : Face). f.level) c.raise_active.ensures.goes.face in
    let lz : (g.H.Host.face c.push_first.new.host).level ≡ l = ap (λ (f : Face). f.level) c.push_first.ensures.goes.face ∙ ly in
    let lw : (g.H.Host.face c.count_push.new.host).level ≡ l = ap (λ (f : Face). f.level) c.count_push.ensures.goes.face ∙ lz in
    let f : ((shown y).sides l).hand ≡ q.0 ∷ q.1 = (let F : ℕ → Type 0 = λ n. ((shown y).sides n).hand ≡ q.0 ∷ q.1 in subst F ly q.2) in
    let h : q.1 ≡ drop 1 ((shown (g.H.Host.held c.args.host.now)).sides l).hand = ap (λ (us : List Token). drop 1 us) (sym f ∙ ap (λ (s : Side Token). s.hand) c.raise_active.ensures.side) in
    let e1 : (shown z).sides l ≡ record { hand = q.1; mark = mark.Gave i } = (let F : ℕ → Type 0 = λ n. (shown z).sides n ≡ record { hand = q.1; mark = mark.Gave i } in subst F ly q.3) in
    let e2 : (shown w).sides l ≡ record ((shown z).sides l) { mark = mark.Quiet } = (let F : ℕ → Type 0 = λ n. (shown w).sides n ≡ record ((shown z).sides n) { mark = mark.Quiet } in subst F lz c.count_push.ensures.side) in
    let e3 : (shown d).sides l ≡ (shown w).sides l = (let F : ℕ → Type 0 = λ n. (shown d).sides n ≡ (shown w).sides n in subst F lw c.lower_active.ensures.side) in
    e3 ∙ e2 ∙ ap (λ (s : Side Token). let r : Side Token = record s { mark = mark.Quiet } in r) e1 ∙ ap (λ (us : List Token). let r : Side Token = record { hand = us; mark = mark.Quiet } in r) h

pub returns-clause-lasts : goal.returns-clause-lasts
returns-clause-lasts g c =
    let l = (g.H.Host.face c.args.host.now).level in
    let v = c.requires.hand in
    let x = g.H.Host.held c.args.host.now in
    let y = g.H.Host.held c.raise_active.new.host in
    let z = g.H.Host.held c.push_first.new.host in
    let w = g.H.Host.held c.count_push.new.host in
    let q = c.push_first.ensures.pushed in
    let tx = g.H.Host.tests c.args.host.now in
    let ty = g.H.Host.tests c.raise_active.new.host in
    let tz = g.H.Host.tests c.push_first.new.host in
    let tw = g.H.Host.tests c.count_push.new.host in
    let td = g.H.Host.tests c.lower_active.new.host in
    let ly : (g.H.Host.face c.raise_active.new.host).level ≡ l = ap (λ (f : Face). f.level) c.raise_active.ensures.goes.face in
    let lz : (g.H.Host.face c.push_first.new.host).level ≡ l = ap (λ (f : Face). f.level) c.push_first.ensures.goes.face ∙ ly in
    let lw : (g.H.Host.face c.count_push.new.host).level ≡ l = ap (λ (f : Face). f.level) c.count_push.ensures.goes.face ∙ lz in
    let f : ((shown y).sides l).hand ≡ q.0 ∷ q.1 = (let F : ℕ → Type 0 = λ n. ((shown y).sides n).hand ≡ q.0 ∷ q.1 in subst F ly q.2) in
    let e : ((shown y).sides l).hand ≡ v.0 ∷ v.1 = ap (λ (s : Side Token). s.hand) c.raise_active.ensures.side ∙ v.2 in
    let h : q.1 ≡ v.1 = one-rest _ _ _ _ _ f e in
    let hz : ((shown z).sides l).hand ≡ v.1 = (let F : ℕ → Type 0 = λ n. ((shown z).sides n).hand ≡ q.1 in subst F ly (ap (λ (s : Side Token). s.hand) q.3)) ∙ h in
    let hw : ((shown w).sides l).hand ≡ v.1 = (let F : ℕ → Type 0 = λ n. ((shown w).sides n).hand ≡ ((shown z).sides n).hand in subst F lz (ap (λ (s : Side Token). s.hand) c.count_push.ensures.side)) ∙ hz in
    let r1 : All (Same tx ty) v.1 = rest-lasts tx ty v.0 _ v.1 v.2 c.raise_active.ensures.lasts in
    let r2 : All (Same ty tz) v.1 = rest-lasts ty tz v.0 _ v.1 e (let F : ℕ → Type 0 = λ n. All (Same ty tz) ((shown y).sides n).hand in subst F ly c.push_first.ensures.lasts) in
    let r3 : All (Same tz tw) v.1 = (let F : List Token → Type 0 = λ us. All (Same tz tw) us in subst F hz (let G : ℕ → Type 0 = λ n. All (Same tz tw) ((shown z).sides n).hand in subst G lz c.count_push.ensures.lasts)) in
    let r4 : All (Same tw td) v.1 = (let F : List Token → Type 0 = λ us. All (Same tw td) us in subst F hw (let G : ℕ → Type 0 = λ n. All (Same tw td) ((shown w).sides n).hand in subst G lw c.lower_active.ensures.lasts)) in
    let L : List Token → Type 0 = λ us. All (Same tx td) (drop 1 us) in
    subst L (sym v.2) (same-join tx tw td v.1 (same-join tx tz tw v.1 (same-join tx ty tz v.1 r1 r2) r3) r4)

pub returns-clause-goes : goal.returns-clause-goes
returns-clause-goes g c = goes-join g.met.H.Host.keeps_join c.raise_active.ensures.goes (goes-join g.met.H.Host.keeps_join c.push_first.ensures.goes (goes-join g.met.H.Host.keeps_join c.count_push.ensures.goes c.lower_active.ensures.goes))

pub returns-clause-alone : goal.returns-clause-alone
returns-clause-alone g c =
    let r3 = goes-join g.met.H.Host.keeps_join c.count_push.ensures.goes c.lower_active.ensures.goes in
    let r2 = goes-join g.met.H.Host.keeps_join c.push_first.ensures.goes r3 in
    unbroken-join c.raise_active.ensures.goes r2 c.raise_active.ensures.alone (unbroken-join c.push_first.ensures.goes r3 c.push_first.ensures.alone (unbroken-join c.count_push.ensures.goes c.lower_active.ensures.goes c.count_push.ensures.alone c.lower_active.ensures.alone))

pub returns-clause-flags : goal.returns-clause-flags
returns-clause-flags g c =
    let r3 = goes-join g.met.H.Host.keeps_join c.count_push.ensures.goes c.lower_active.ensures.goes in
    let r2 = goes-join g.met.H.Host.keeps_join c.push_first.ensures.goes r3 in
    raises-none-join c.raise_active.ensures.goes r2 c.raise_active.ensures.flags (raises-none-join c.push_first.ensures.goes r3 c.push_first.ensures.flags (raises-none-join c.count_push.ensures.goes c.lower_active.ensures.goes c.count_push.ensures.flags c.lower_active.ensures.flags))
