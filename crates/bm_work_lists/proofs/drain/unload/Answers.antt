use Rattle.std.proofs.Common.{◌≡◌, ◌<◌, ◌++◌, ℕ, List, [], ◌∷◌, map, refl, ap, ◌∙◌, sym, subst, append_assoc, inl, inr}
use Rattle.std.specs.List.{All}
use Rattle.std.proofs.lemmas.List.Elements.{All-nil}
use Rattle.bm_journal.specs.declared.entry.Entry.{Entry}
use Rattle.bm_law.specs.declared.mark.Mark.TheVariants as mark
use Rattle.bm_law.specs.State.{Side}
use Rattle.bm_cache.specs.Tokens.{Token, number_of}
use Rattle.bm_cache.specs.Tests.{Same}
use Rattle.bm_cache.specs.Shown.{shown}
use Rattle.bm_cache.specs.Span.{Face, Span}
use Rattle.bm_cache.proofs.Stretch.{span-join, span-none}
use Rattle.bm_cache.proofs.Moments.{span-at, goes-join, goes-back}
use Rattle.bm_cache.proofs.Flags.{raises-none-join, raises-none-same}
use Rattle.bm_cache.proofs.Unbroken.{unbroken-join, unbroken-same}
use Rattle.bm_law_work.specs.WorkPhrases.{Moved, take_of, takes, empty_take, Unloads}
use Rattle.bm_work_lists.specs.Fit.{Fit}
use Rattle.bm_work_lists.specs.Takes.{popped}
use Rattle.bm_work_lists.proofs.Fits.{all-front, all-back, fit-all, lasts-on}
use Rattle.bm_work_lists.proofs.Grown.{grew-say}
use Rattle.bm_work_lists.proofs.Spans.{span-active, span-still}
use Rattle.bm_work_lists.proofs.Steps.{same-join, side-of}
use Rattle.bm_work_lists.proofs.Takes.{takes-more, takes-plain, popped-last, popped-none, all-more, hand-end}
use Rattle.bm_work_lists.proofs.drain.unload.Goals as goal

pub takes-init : goal.takes-init
takes-init g c =
    let h = c.args.host.now in
    let x = g.H.Host.held h in
    record {
      sound = c.requires.sound;
      fine = c.requires.fine;
      goes = goes-back h h refl refl (g.met.H.Host.keeps_same h);
      alone = unbroken-same g.H.Host.face g.H.Host.pending g.H.Host.held g.R.Recorder.log h h refl;
      flags = raises-none-same g.H.Host.pending g.H.Host.held h h refl;
      idle = c.requires.idle;
      quiet = c.requires.quiet;
      lasts = λ i e n j. refl;
      over = ([], [], All-nil (λ (x : Moved). c.args.middle < x.count), refl, hand-end ((shown x).sides (g.H.Host.face h).level).hand, All-nil (Fit (g.H.Host.tests h) c.args.class), span-none g.R.Recorder.log (g.H.Host.face h).level c.args.class 0 (g.H.Host.tests h) x);
    }

pub takes-preserved : goal.takes-preserved
takes-preserved g c =
    let l = (g.H.Host.face c.args.host.now).level in
    let i = c.args.class in
    let log = g.R.Recorder.log in
    let v = c.takes.invariant in
    let x = g.H.Host.held c.args.host.now in
    let y = g.H.Host.held c.takes.host in
    let z = g.H.Host.held c.take_one.new.host in
    let tx = g.H.Host.tests c.args.host.now in
    let ty = g.H.Host.tests c.takes.host in
    let tz = g.H.Host.tests c.take_one.new.host in
    let h = ((shown x).sides l).hand in
    let ly : (g.H.Host.face c.takes.host).level ≡ l = ap (λ (f : Face). f.level) v.goes.face in
    let lz : (g.H.Host.face c.take_one.new.host).level ≡ (g.H.Host.face c.takes.host).level = ap (λ (f : Face). f.level) c.take_one.ensures.goes.face in
    let xs = v.over.0 in
    let us = v.over.1 in
    let t = c.in-Some.ensures.some in
    let m : Moved = record { unit = t.0.number; count = c.in-Some.count; active = t.1 } in
    let s1 : Span log l i 0 0 (take_of i m) ty tz y z = span-at log l _ i 0 0 _ _ _ y z ly t.5 in
    let P : List Entry → Type 0 = λ own. Span log l i 0 0 own tx tz x z in
    let all : P (takes i (xs ++ m ∷ [])) = subst P (takes-more i xs m) (span-join log l i 0 0 0 (takes i xs) (take_of i m) tx ty tz x y z (takes-plain i xs) v.over.6 s1) in
    let S : ℕ → Type 0 = λ n. (shown z).sides n ≡ record { hand = ((shown y).sides n).hand ++ t.0 ∷ []; mark = mark.Quiet } in
    let side : S l = subst S ly t.2 in
    let Q : ℕ → Type 0 = λ n. ((shown z).sides n).mark ≡ mark.Quiet in
    let hz : ((shown z).sides l).hand ≡ h ++ (us ++ t.0 ∷ []) = ap (λ (s : Side Token). s.hand) side ∙ ap (λ (ws : List Token). ws ++ t.0 ∷ []) v.over.4 ∙ append_assoc h us (t.0 ∷ []) in
    let L : ℕ → Type 0 = λ n. All (Same ty tz) ((shown y).sides n).hand in
    let M : List Token → Type 0 = λ ws. All (Same ty tz) ws in
    let last : All (Same ty tz) (h ++ us) = subst M v.over.4 (subst L ly c.take_one.ensures.lasts) in
    let T : List Moved → Type 0 = λ ws. popped (takes i ws) ≡ map number_of (us ++ t.0 ∷ []) in
    record {
      sound = c.take_one.ensures.sound;
      fine = c.take_one.ensures.fine;
      goes = goes-join g.met.H.Host.keeps_join v.goes c.take_one.ensures.goes;
      alone = unbroken-join v.goes c.take_one.ensures.goes v.alone c.take_one.ensures.alone;
      flags = raises-none-join v.goes c.take_one.ensures.goes v.flags c.take_one.ensures.flags;
      idle = c.take_one.ensures.active i ∙ v.idle;
      quiet = subst Q (sym lz) (ap (λ (s : Side Token). s.mark) t.2);
      lasts = same-join tx ty tz h v.lasts (all-front (Same ty tz) h us last);
      over = (
        xs ++ m ∷ [],
        us ++ t.0 ∷ [],
        all-more (λ (x : Moved). c.args.middle < x.count) xs m v.over.2 c.if-count-middle.false,
        ap popped (sym (takes-more i xs m)) ∙ popped-last i xs (take_of i m) us (t.0 ∷ []) v.over.3 refl,
        hz,
        all-more (Fit tz i) us t.0 (fit-all i ty tz us (all-back (Same ty tz) h us last) v.over.5) t.3,
        all,
      );
    }

pub returns-then-count-middle-clause-side : goal.returns-then-count-middle-clause-side
returns-then-count-middle-clause-side g c =
    let l = (g.H.Host.face c.args.host.now).level in
    let i = c.args.class in
    let log = g.R.Recorder.log in
    let v = c.takes.invariant in
    let x = g.H.Host.held c.args.host.now in
    let y = g.H.Host.held c.takes.host in
    let z = g.H.Host.held c.take_one.new.host in
    let ty = g.H.Host.tests c.takes.host in
    let tz = g.H.Host.tests c.take_one.new.host in
    let h = ((shown x).sides l).hand in
    let ly : (g.H.Host.face c.takes.host).level ≡ l = ap (λ (f : Face). f.level) v.goes.face in
    let xs = v.over.0 in
    let us = v.over.1 in
    let t = c.in-Some.ensures.some in
    let m : Moved = record { unit = t.0.number; count = c.in-Some.count; active = t.1 } in
    let s1 : Span log l i 0 0 (take_of i m) ty tz y z = span-at log l _ i 0 0 _ _ _ y z ly t.5 in
    let S : ℕ → Type 0 = λ n. (shown z).sides n ≡ record { hand = ((shown y).sides n).hand ++ t.0 ∷ []; mark = mark.Quiet } in
    let side : S l = subst S ly t.2 in
    let hy : ((shown y).sides l).hand ++ t.0 ∷ [] ≡ h ++ (us ++ t.0 ∷ []) = ap (λ (ws : List Token). ws ++ t.0 ∷ []) v.over.4 ∙ append_assoc h us (t.0 ∷ []) in
    let L : ℕ → Type 0 = λ n. All (Same ty tz) ((shown y).sides n).hand in
    let M : List Token → Type 0 = λ ws. All (Same ty tz) ws in
    let last : All (Same ty tz) (h ++ us) = subst M v.over.4 (subst L ly c.take_one.ensures.lasts) in
    let w : Unloads i c.args.middle (takes i xs ++ take_of i m) = record { over = xs; above = v.over.2; last = take_of i m; is_last = inl (m, c.if-count-middle.true, refl); own_is = refl } in
    (us ++ t.0 ∷ [], takes i xs ++ take_of i m, side ∙ ap (λ (ws : List Token). let r : Side Token = record { hand = ws; mark = mark.Quiet } in r) hy, all-more (Fit tz i) us t.0 (fit-all i ty tz us (all-back (Same ty tz) h us last) v.over.5) t.3, popped-last i xs (take_of i m) us (t.0 ∷ []) v.over.3 refl, w, span-join log l i 0 0 0 (takes i xs) (take_of i m) _ ty tz x y z (takes-plain i xs) v.over.6 s1)

pub returns-in-None-clause-side : goal.returns-in-None-clause-side
returns-in-None-clause-side g c =
    let l = (g.H.Host.face c.args.host.now).level in
    let i = c.args.class in
    let log = g.R.Recorder.log in
    let v = c.takes.invariant in
    let x = g.H.Host.held c.args.host.now in
    let y = g.H.Host.held c.takes.host in
    let z = g.H.Host.held c.take_one.new.host in
    let ty = g.H.Host.tests c.takes.host in
    let tz = g.H.Host.tests c.take_one.new.host in
    let h = ((shown x).sides l).hand in
    let ly : (g.H.Host.face c.takes.host).level ≡ l = ap (λ (f : Face). f.level) v.goes.face in
    let xs = v.over.0 in
    let us = v.over.1 in
    let t = c.in-None.ensures.none refl in
    let s1 : Span log l i 0 0 (empty_take i t.0) ty tz y z = span-at log l _ i 0 0 _ _ _ y z ly t.2 in
    let S : ℕ → Type 0 = λ n. (shown z).sides n ≡ (shown y).sides n in
    let side : S l = subst S ly t.1 in
    let Q : ℕ → Type 0 = λ n. ((shown y).sides n).mark ≡ mark.Quiet in
    let quiet : Q l = subst Q ly v.quiet in
    let L : ℕ → Type 0 = λ n. All (Same ty tz) ((shown y).sides n).hand in
    let M : List Token → Type 0 = λ ws. All (Same ty tz) ws in
    let last : All (Same ty tz) (h ++ us) = subst M v.over.4 (subst L ly c.take_one.ensures.lasts) in
    let w : Unloads i c.args.middle (takes i xs ++ empty_take i t.0) = record { over = xs; above = v.over.2; last = empty_take i t.0; is_last = inr (t.0, refl); own_is = refl } in
    let p : popped (takes i xs ++ empty_take i t.0) ≡ map number_of us = popped-none i xs (empty_take i t.0) us v.over.3 refl in
    (us, takes i xs ++ empty_take i t.0, side ∙ side-of ((shown y).sides l) (h ++ us) v.over.4 quiet, fit-all i ty tz us (all-back (Same ty tz) h us last) v.over.5, p, w, span-join log l i 0 0 0 (takes i xs) (empty_take i t.0) _ ty tz x y z (takes-plain i xs) v.over.6 s1)

pub returns-then-count-middle-clause-phrase : goal.returns-then-count-middle-clause-phrase
returns-then-count-middle-clause-phrase g c =
    let s = returns-then-count-middle-clause-side g c in
    grew-say (g.H.Host.face c.args.host.now).level (Unloads c.args.class c.args.middle) s.1 _ _ _ s.6.records s.5

pub returns-in-None-clause-phrase : goal.returns-in-None-clause-phrase
returns-in-None-clause-phrase g c =
    let s = returns-in-None-clause-side g c in
    grew-say (g.H.Host.face c.args.host.now).level (Unloads c.args.class c.args.middle) s.1 _ _ _ s.6.records s.5

pub returns-then-count-middle-clause-lasts : goal.returns-then-count-middle-clause-lasts
returns-then-count-middle-clause-lasts g c = lasts-on g.H.Host.tests g.H.Host.held c.args.host.now c.takes.host c.take_one.new.host (g.H.Host.face c.args.host.now).level (g.H.Host.face c.takes.host).level c.takes.invariant.over.1 (ap (λ (f : Face). f.level) c.takes.invariant.goes.face) c.takes.invariant.over.4 c.takes.invariant.lasts c.take_one.ensures.lasts

pub returns-in-None-clause-lasts : goal.returns-in-None-clause-lasts
returns-in-None-clause-lasts g c = lasts-on g.H.Host.tests g.H.Host.held c.args.host.now c.takes.host c.take_one.new.host (g.H.Host.face c.args.host.now).level (g.H.Host.face c.takes.host).level c.takes.invariant.over.1 (ap (λ (f : Face). f.level) c.takes.invariant.goes.face) c.takes.invariant.over.4 c.takes.invariant.lasts c.take_one.ensures.lasts

pub returns-then-count-middle-clause-active : goal.returns-then-count-middle-clause-active
returns-then-count-middle-clause-active g c k = c.take_one.ensures.active k ∙ span-active g.R.Recorder.log _ _ _ _ _ _ _ c.takes.invariant.over.6 k

pub returns-in-None-clause-active : goal.returns-in-None-clause-active
returns-in-None-clause-active g c k = c.take_one.ensures.active k ∙ span-active g.R.Recorder.log _ _ _ _ _ _ _ c.takes.invariant.over.6 k

pub returns-then-count-middle-clause-kept : goal.returns-then-count-middle-clause-kept
returns-then-count-middle-clause-kept g c k = c.take_one.ensures.kept k ∙ span-still g.R.Recorder.log _ _ _ _ _ _ _ c.takes.invariant.over.6 (takes-plain c.args.class c.takes.invariant.over.0) k

pub returns-in-None-clause-kept : goal.returns-in-None-clause-kept
returns-in-None-clause-kept g c k = c.take_one.ensures.kept k ∙ span-still g.R.Recorder.log _ _ _ _ _ _ _ c.takes.invariant.over.6 (takes-plain c.args.class c.takes.invariant.over.0) k

pub returns-then-count-middle-clause-goes : goal.returns-then-count-middle-clause-goes
returns-then-count-middle-clause-goes g c = goes-join g.met.H.Host.keeps_join c.takes.invariant.goes c.take_one.ensures.goes

pub returns-in-None-clause-goes : goal.returns-in-None-clause-goes
returns-in-None-clause-goes g c = goes-join g.met.H.Host.keeps_join c.takes.invariant.goes c.take_one.ensures.goes

pub returns-then-count-middle-clause-alone : goal.returns-then-count-middle-clause-alone
returns-then-count-middle-clause-alone g c = unbroken-join c.takes.invariant.goes c.take_one.ensures.goes c.takes.invariant.alone c.take_one.ensures.alone

pub returns-then-count-middle-clause-flags : goal.returns-then-count-middle-clause-flags
returns-then-count-middle-clause-flags g c = raises-none-join c.takes.invariant.goes c.take_one.ensures.goes c.takes.invariant.flags c.take_one.ensures.flags

pub returns-in-None-clause-alone : goal.returns-in-None-clause-alone
returns-in-None-clause-alone g c = unbroken-join c.takes.invariant.goes c.take_one.ensures.goes c.takes.invariant.alone c.take_one.ensures.alone

pub returns-in-None-clause-flags : goal.returns-in-None-clause-flags
returns-in-None-clause-flags g c = raises-none-join c.takes.invariant.goes c.take_one.ensures.goes c.takes.invariant.flags c.take_one.ensures.flags
