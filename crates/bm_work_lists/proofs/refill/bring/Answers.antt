use Rattle.std.proofs.Common.{◌≡◌, ◌+◌, ℕ, List, [], ◌∷◌, map, Bool, true, false, refl, ap, ◌∙◌, sym, subst}
use Rattle.bm_journal.specs.declared.entry.Entry.{Entry}
use Rattle.bm_journal.specs.declared.entry.Entry.TheVariants as entry
use Rattle.bm_law.specs.Phrases.{added}
use Rattle.bm_law.specs.State.{Deferred, seen}
use Rattle.bm_law.proofs.Spans.{Records-points}
use Rattle.bm_cache.specs.Tokens.{Token, number_of}
use Rattle.bm_cache.specs.Shown.{shown}
use Rattle.bm_cache.specs.Span.{Face, Came}
use Rattle.bm_cache.proofs.Flags.{raises-none-join}
use Rattle.bm_cache.proofs.Unbroken.{unbroken-join}
use Rattle.bm_law_work.specs.Parts.{Part, Stand}
use Rattle.bm_law_work.specs.WorkPhrases.{Brings}
use Rattle.bm_work_lists.specs.FromLists.{FromLists}
use Rattle.bm_work_lists.specs.Grown.{GrewBy}
use Rattle.bm_work_lists.specs.WorkSpan.{WorkSpan}
use Rattle.bm_work_lists.proofs.FromLists.{from-ready, from-second, less-ready, less-second, numbers-of, some-left, some-left_second}
use Rattle.bm_work_lists.proofs.Grown.{grew-stand, grew-map, grew-parts, then-after}
use Rattle.bm_work_lists.proofs.Spans.{came-join, work-none, work-join, work-at, less-of-second}
use Rattle.bm_work_lists.proofs.refill.bring.Goals as goal

pub returns-then-bring_ready-clause-some : goal.returns-then-bring_ready-clause-some
returns-then-bring_ready-clause-some g c _ =
    let l = (g.H.Host.face c.args.host.now).level in
    let i = c.args.class in
    let log = g.R.Recorder.log in
    let x = g.H.Host.held c.args.host.now in
    let z = g.H.Host.held c.bring_ready.new.host in
    let t = c.bring_ready.ensures.some c.if-bring_ready.true in
    let v = c.bring_ready.ensures.phrase c.if-bring_ready.true in
    let d = ((shown x).rows i).deferred in (
      some-left d.ready d.second t.0 t.1 t.4,
      t.5 ∙ sym (less-ready d t.0 t.1 t.4),
      grew-map (Brings l i (entry.Ready i v.0.number) v.0.number) (FromLists l i 1 0) (seen number_of (shown x)) (log x.recorder) (log z.recorder) (λ part h. from-ready l i v.0.number (map number_of v.1) (seen number_of (shown x)) part (numbers-of d.ready v.0 v.1 v.2) h) v.3,
    )

pub returns-clause-some : goal.returns-clause-some
returns-clause-some g c h =
    let l = (g.H.Host.face c.args.host.now).level in
    let i = c.args.class in
    let log = g.R.Recorder.log in
    let x = g.H.Host.held c.args.host.now in
    let y = g.H.Host.held c.bring_ready.new.host in
    let z = g.H.Host.held c.bring_second.new.host in
    let ly : (g.H.Host.face c.bring_ready.new.host).level ≡ l = ap (λ (f : Face). f.level) c.bring_ready.ensures.goes.face in
    let n = c.bring_ready.ensures.none c.if-bring_ready.false in
    let t = c.bring_second.ensures.some h in
    let v = c.bring_second.ensures.phrase h in
    let d = ((shown x).rows i).deferred in
    let e : ((shown y).rows i).deferred ≡ d = (n.1.kept.rows i).deferred in
    let s : d.second ≡ t.0 ∷ t.1 = ap (λ (w : Deferred Token). w.second) (sym e) ∙ t.4 in
    let sv : d.second ≡ v.0 ∷ v.1 = ap (λ (w : Deferred Token). w.second) (sym e) ∙ v.2 in
    let dz : ((shown z).rows i).deferred ≡ record d { second = t.1 } = t.5 ∙ ap (λ (w : Deferred Token). let r : Deferred Token = record w { second = t.1 } in r) e in
    let B : Part = Brings l i (entry.Second i v.0.number) v.0.number in
    let G : ℕ → Type 0 = λ k. GrewBy (Brings k i (entry.Second i v.0.number) v.0.number) (seen number_of (shown y)) (log y.recorder) (log z.recorder) in
    let p : GrewBy B (seen number_of (shown x)) (log x.recorder) (log z.recorder) =
    grew-parts log g.R.Recorder.counts (Stand l []) B B x y (log z.recorder) (λ one two a b. then-after l _ _ (seen number_of (shown x)) one two a b) n.1.processor c.requires.fine.placed c.bring_ready.ensures.fine.placed (grew-stand l [] (seen number_of (shown x)) (log x.recorder) (log y.recorder) (Records-points l (log x.recorder) (log y.recorder) n.1.above)) (subst G ly v.3) in (
      some-left_second d.ready d.second t.0 t.1 s,
      dz ∙ sym (less-second d t.0 t.1 n.0 s),
      grew-map B (FromLists l i 1 0) (seen number_of (shown x)) (log x.recorder) (log z.recorder) (λ part k. from-second l i v.0.number (map number_of v.1) (seen number_of (shown x)) part (ap (map number_of) n.0) (numbers-of d.second v.0 v.1 sv) k) p,
    )

pub returns-clause-none : goal.returns-clause-none
returns-clause-none g c h =
    let l = (g.H.Host.face c.args.host.now).level in
    let i = c.args.class in
    let log = g.R.Recorder.log in
    let x = g.H.Host.held c.args.host.now in
    let y = g.H.Host.held c.bring_ready.new.host in
    let z = g.H.Host.held c.bring_second.new.host in
    let ly : (g.H.Host.face c.bring_ready.new.host).level ≡ l = ap (λ (f : Face). f.level) c.bring_ready.ensures.goes.face in
    let n = c.bring_ready.ensures.none c.if-bring_ready.false in
    let m = c.bring_second.ensures.none h in
    let C : ℕ → Type 0 = λ k. Came log (k + 1) (g.H.Host.tests c.bring_ready.new.host) (g.H.Host.tests c.bring_second.new.host) y z in
    (n.0, ap (λ (w : Deferred Token). w.second) (sym (n.1.kept.rows i).deferred) ∙ m.0, came-join log (l + 1) _ _ _ x y z n.1 (subst C ly m.1))

pub returns-clause-span : goal.returns-clause-span
returns-clause-span g c =
    go c.bring_second.result refl
  where
    go : (b : Bool) → c.bring_second.result ≡ b → (own : List Entry) × WorkSpan g.R.Recorder.log (g.H.Host.face c.args.host.now).level c.args.class own (g.H.Host.tests c.args.host.now) (g.H.Host.tests c.bring_second.new.host) (g.H.Host.held c.args.host.now) (g.H.Host.held c.bring_second.new.host)
    go true h =
        let l = (g.H.Host.face c.args.host.now).level in
        let i = c.args.class in
        let log = g.R.Recorder.log in
        let x = g.H.Host.held c.args.host.now in
        let y = g.H.Host.held c.bring_ready.new.host in
        let z = g.H.Host.held c.bring_second.new.host in
        let ly : (g.H.Host.face c.bring_ready.new.host).level ≡ l = ap (λ (f : Face). f.level) c.bring_ready.ensures.goes.face in
        let n = c.bring_ready.ensures.none c.if-bring_ready.false in
        let t = c.bring_second.ensures.some h in
        let own : List Entry = entry.Second i t.0.number ∷ added i t.0.number t.2 t.3 in
        (own, work-join log l i [] own _ _ _ x y z (less-of-second ((shown y).rows i).deferred ((shown z).rows i).deferred t.0 t.1 t.4 t.5) (work-none log l i _ _ x y n.1) (work-at log l i _ own _ _ y z ly t.6))
    go false h = ([], work-none g.R.Recorder.log (g.H.Host.face c.args.host.now).level c.args.class _ _ (g.H.Host.held c.args.host.now) (g.H.Host.held c.bring_second.new.host) (returns-clause-none g c h).2)

pub returns-clause-alone : goal.returns-clause-alone
returns-clause-alone g c = unbroken-join c.bring_ready.ensures.goes c.bring_second.ensures.goes c.bring_ready.ensures.alone c.bring_second.ensures.alone

pub returns-clause-flags : goal.returns-clause-flags
returns-clause-flags g c = raises-none-join c.bring_ready.ensures.goes c.bring_second.ensures.goes c.bring_ready.ensures.flags c.bring_second.ensures.flags
