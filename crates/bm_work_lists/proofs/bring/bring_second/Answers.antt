use Rattle.std.proofs.Common.{◌≡◌, ℕ, [], ◌∷◌, refl, ap, ◌∙◌, sym, subst}
use Rattle.bm_journal.specs.declared.entry.Entry.TheVariants as entry
use Rattle.bm_law.specs.Phrases.{added, AddPhrase}
use Rattle.bm_law.specs.State.{Side, seen}
use Rattle.bm_cache.specs.Tokens.{Token, number_of}
use Rattle.bm_cache.specs.Shown.{shown}
use Rattle.bm_cache.specs.Span.{Face, Span}
use Rattle.bm_cache.proofs.Moments.{span-at, one-token}
use Rattle.bm_cache.proofs.Flags.{raises-none-join}
use Rattle.bm_cache.proofs.Unbroken.{unbroken-join}
use Rattle.bm_law_work.specs.Parts.{Say}
use Rattle.bm_law_work.specs.WorkPhrases.{IsOne}
use Rattle.bm_work_lists.specs.Grown.{GrewBy}
use Rattle.bm_work_lists.proofs.Grown.{grew-say, grew-then}
use Rattle.bm_work_lists.proofs.Spans.{work-plain, work-join, less-same, span-still}
use Rattle.bm_work_lists.proofs.bring.bring_second.Goals as goal

pub add_unit-requires-clause-hand : goal.add_unit-requires-clause-hand
add_unit-requires-clause-hand g c =
    let l = (g.H.Host.face c.args.host.now).level in
    let y = g.H.Host.held c.second_in.new.host in
    let t = c.second_in.ensures.some c.if-not-second_in.false in
    let ly : (g.H.Host.face c.second_in.new.host).level ≡ l = ap (λ (f : Face). f.level) c.second_in.ensures.goes.face in
    let F : ℕ → Type 0 = λ n. ((shown y).sides n).hand ≡ t.0 ∷ [] in
    (t.0, [], subst F (sym ly) (ap (λ (s : Side Token). s.hand) t.4), t.5)

pub returns-clause-some : goal.returns-clause-some
returns-clause-some g c _ =
    let l = (g.H.Host.face c.args.host.now).level in
    let i = c.args.class in
    let log = g.R.Recorder.log in
    let x = g.H.Host.held c.args.host.now in
    let y = g.H.Host.held c.second_in.new.host in
    let z = g.H.Host.held c.add_unit.new.host in
    let t = c.second_in.ensures.some c.if-not-second_in.false in
    let v = c.add_unit.ensures.span in
    let ly : (g.H.Host.face c.second_in.new.host).level ≡ l = ap (λ (f : Face). f.level) c.second_in.ensures.goes.face in
    let h : ((shown y).sides l).hand ≡ t.0 ∷ [] = ap (λ (s : Side Token). s.hand) t.4 in
    let f : ((shown y).sides l).hand ≡ v.0 ∷ v.1 = (let F : ℕ → Type 0 = λ n. ((shown y).sides n).hand ≡ v.0 ∷ v.1 in subst F ly v.4) in
    let u : v.0 ≡ t.0 = one-token _ _ _ _ _ f h in
    let S : Token → Type 0 = λ w. Span log l i 0 0 (added i w.number v.2 v.3) (g.H.Host.tests c.second_in.new.host) (g.H.Host.tests c.add_unit.new.host) y z in
    let s : S t.0 = subst S u (span-at log l _ i 0 0 _ _ _ y z ly v.5) in
    let w = work-plain log l i (added i t.0.number v.2 v.3) _ _ y z refl s in
    let still : ((shown z).rows i).deferred ≡ ((shown y).rows i).deferred = span-still log l i _ _ _ y z s refl i in
    let d : ((shown z).rows i).deferred ≡ record ((shown x).rows i).deferred { second = t.1 } = still ∙ t.3 in
    (t.0, t.1, v.2, v.3, t.2, d, work-join log l i (entry.Second i t.0.number ∷ []) (added i t.0.number v.2 v.3) _ _ _ x y z (less-same _ _ still) t.6 w)

pub returns-clause-phrase : goal.returns-clause-phrase
returns-clause-phrase g c _ =
    let l = (g.H.Host.face c.args.host.now).level in
    let i = c.args.class in
    let log = g.R.Recorder.log in
    let x = g.H.Host.held c.args.host.now in
    let y = g.H.Host.held c.second_in.new.host in
    let z = g.H.Host.held c.add_unit.new.host in
    let t = c.second_in.ensures.some c.if-not-second_in.false in
    let v = c.add_unit.ensures.phrase in
    let ly : (g.H.Host.face c.second_in.new.host).level ≡ l = ap (λ (f : Face). f.level) c.second_in.ensures.goes.face in
    let h : ((shown y).sides l).hand ≡ t.0 ∷ [] = ap (λ (s : Side Token). s.hand) t.4 in
    let f : ((shown y).sides l).hand ≡ v.0 ∷ v.1 = (let F : ℕ → Type 0 = λ n. ((shown y).sides n).hand ≡ v.0 ∷ v.1 in subst F ly v.2) in
    let u : v.0 ≡ t.0 = one-token _ _ _ _ _ f h in
    let S : ℕ → Token → Type 0 = λ n w. GrewBy (Say n (AddPhrase i w.number)) (seen number_of (shown y)) (log y.recorder) (log z.recorder) in
    let s : S l t.0 = subst (S l) u (subst (λ n. S n v.0) ly v.3) in
    let e : entry.Second i t.0.number ∷ [] ≡ entry.Second i t.0.number ∷ [] = refl in
    (t.0, t.1, t.2, grew-then log g.R.Recorder.counts (Say l (IsOne (entry.Second i t.0.number))) (Say l (AddPhrase i t.0.number)) x y (log z.recorder) t.6.processor c.requires.fine.placed c.second_in.ensures.fine.placed (grew-say l (IsOne (entry.Second i t.0.number)) (entry.Second i t.0.number ∷ []) _ _ _ t.6.records e) s)

pub returns-clause-alone : goal.returns-clause-alone
returns-clause-alone g c = unbroken-join c.second_in.ensures.goes c.add_unit.ensures.goes c.second_in.ensures.alone c.add_unit.ensures.alone

pub returns-clause-flags : goal.returns-clause-flags
returns-clause-flags g c = raises-none-join c.second_in.ensures.goes c.add_unit.ensures.goes c.second_in.ensures.flags c.add_unit.ensures.flags
