use Rattle.std.proofs.Common.{◌≡◌, ◌++◌, ◌∷◌, ◌∙◌, [], ℕ, List, map, ap, subst, append_assoc}
use Rattle.std.specs.List.{All}
use Rattle.std.proofs.lemmas.List.Elements.{All-append}
use Rattle.bm_journal.specs.declared.units.Units.TheVariants.{Whole}
use Rattle.bm_journal.specs.declared.entry.Entry.{Entry}
use Rattle.bm_journal.specs.declared.entry.Entry.TheVariants as entry
use Rattle.bm_law.specs.declared.mark.Mark.TheVariants as mark
use Rattle.bm_law.specs.State.{Side, seen}
use Rattle.bm_cache.specs.Tokens.{Token, number_of}
use Rattle.bm_cache.specs.Tests.{Same}
use Rattle.bm_cache.specs.Shown.{shown}
use Rattle.bm_cache.specs.Span.{Face, Span}
use Rattle.bm_cache.proofs.Moments.{span-at}
use Rattle.bm_cache.proofs.Stretch.{span-join}
use Rattle.bm_cache.proofs.Flags.{raises-none-join}
use Rattle.bm_cache.proofs.Unbroken.{unbroken-join}
use Rattle.bm_law_work.specs.Parts.{Say}
use Rattle.bm_law_work.specs.WorkPhrases.{IsTakeExtra, Unloads}
use Rattle.bm_work_lists.specs.Fit.{Fit}
use Rattle.bm_work_lists.specs.Grown.{GrewBy}
use Rattle.bm_work_lists.proofs.Fits.{all-back, fit-all, lasts-on}
use Rattle.bm_work_lists.proofs.Grown.{grew-then}
use Rattle.bm_work_lists.proofs.Takes.{unloads-plain}
use Rattle.bm_work_lists.proofs.drain.drain_to_hand.Goals as goal

pub returns-clause-phrase : goal.returns-clause-phrase
returns-clause-phrase g c =
    let l = (g.H.Host.face c.args.host.now).level in
    let x = g.H.Host.held c.args.host.now in
    let y = g.H.Host.held c.unload.new.host in
    let z = g.H.Host.held c.take_all_extra.new.host in
    let ly : (g.H.Host.face c.unload.new.host).level ≡ l = ap (λ (f : Face). f.level) c.unload.ensures.goes.face in
    let p : GrewBy (Say l (IsTakeExtra c.args.class)) (seen number_of (shown y)) (g.R.Recorder.log y.recorder) (g.R.Recorder.log z.recorder) = subst (λ k. GrewBy (Say k (IsTakeExtra c.args.class)) (seen number_of (shown y)) (g.R.Recorder.log y.recorder) (g.R.Recorder.log z.recorder)) ly c.take_all_extra.ensures.phrase in
    grew-then g.R.Recorder.log g.R.Recorder.counts (Say l (Unloads c.args.class c.args.middle)) (Say l (IsTakeExtra c.args.class)) x y (g.R.Recorder.log z.recorder) c.unload.ensures.side.6.processor c.requires.fine.placed c.unload.ensures.fine.placed c.unload.ensures.phrase p

pub returns-clause-side : goal.returns-clause-side
returns-clause-side g c =
    let l = (g.H.Host.face c.args.host.now).level in
    let i = c.args.class in
    let x = g.H.Host.held c.args.host.now in
    let y = g.H.Host.held c.unload.new.host in
    let z = g.H.Host.held c.take_all_extra.new.host in
    let ty = g.H.Host.tests c.unload.new.host in
    let tz = g.H.Host.tests c.take_all_extra.new.host in
    let ly : (g.H.Host.face c.unload.new.host).level ≡ l = ap (λ (f : Face). f.level) c.unload.ensures.goes.face in
    let a = c.unload.ensures.side in
    let b = c.take_all_extra.ensures.side in
    let h = ((shown x).sides l).hand in
    let hy : ((shown y).sides l).hand ≡ h ++ a.0 = ap (λ (s : Side Token). s.hand) a.2 in
    let sz : (shown z).sides l ≡ record { hand = ((shown y).sides l).hand ++ b.0; mark = mark.Quiet } = (let F : ℕ → Type 0 = λ n. (shown z).sides n ≡ record { hand = ((shown y).sides n).hand ++ b.0; mark = mark.Quiet } in subst F ly b.2) in
    let s : All (Same ty tz) (h ++ a.0) = (let F : List Token → Type 0 = λ us. All (Same ty tz) us in subst F hy (let G : ℕ → Type 0 = λ n. All (Same ty tz) ((shown y).sides n).hand in subst G ly c.take_all_extra.ensures.lasts)) in
    let W : List Token → Side Token = λ us. record { hand = us; mark = mark.Quiet } in
    let e : List Entry = entry.TakeExtra i (Whole (map number_of b.0)) ∷ [] in
    let t : Span g.R.Recorder.log l i 0 0 e ty tz y z = span-at g.R.Recorder.log l (g.H.Host.face c.unload.new.host).level i 0 0 e ty tz y z ly b.4 in (
      a.0,
      b.0,
      a.1,
      sz ∙ ap W (ap (λ us. us ++ b.0) hy ∙ append_assoc h a.0 b.0),
      All-append (Fit tz i) a.0 b.0 (fit-all i ty tz a.0 (all-back (Same ty tz) h a.0 s) a.3) b.3,
      a.4,
      a.5,
      span-join g.R.Recorder.log l i 0 0 0 a.1 e (g.H.Host.tests c.args.host.now) ty tz x y z (unloads-plain i c.args.middle a.1 a.5) a.6 t,
    )

pub returns-clause-lasts : goal.returns-clause-lasts
returns-clause-lasts g c =
    let l = (g.H.Host.face c.args.host.now).level in
    let a = c.unload.ensures.side in
    lasts-on g.H.Host.tests g.H.Host.held c.args.host.now c.unload.new.host c.take_all_extra.new.host l (g.H.Host.face c.unload.new.host).level a.0 (ap (λ (f : Face). f.level) c.unload.ensures.goes.face) (ap (λ (s : Side Token). s.hand) a.2) c.unload.ensures.lasts c.take_all_extra.ensures.lasts

pub returns-clause-alone : goal.returns-clause-alone
returns-clause-alone g c = unbroken-join c.unload.ensures.goes c.take_all_extra.ensures.goes c.unload.ensures.alone c.take_all_extra.ensures.alone

pub returns-clause-flags : goal.returns-clause-flags
returns-clause-flags g c = raises-none-join c.unload.ensures.goes c.take_all_extra.ensures.goes c.unload.ensures.flags c.take_all_extra.ensures.flags
