use Rattle.std.proofs.Common.{◌≡◌, ◌<◌, ◌+◌, ◌-◌, ◌++◌, ℕ, suc, List, [], length, map, refl, ap, ◌∙◌, sym, subst, arith}
use Rattle.std.specs.List.{All}
use Rattle.bm_law.specs.State.{Deferred, seen, idle_side}
use Rattle.bm_law.proofs.Spans.{Records-points}
use Rattle.bm_cache.specs.Tokens.{Token, number_of}
use Rattle.bm_cache.specs.Tests.{Same}
use Rattle.bm_cache.specs.Shown.{shown}
use Rattle.bm_cache.specs.Span.{Face, Came}
use Rattle.bm_cache.proofs.Moments.{goes-join, goes-back, came-none}
use Rattle.bm_cache.proofs.Flags.{raises-none-join, raises-none-same}
use Rattle.bm_cache.proofs.Unbroken.{unbroken-join, unbroken-same}
use Rattle.bm_law_work.specs.Parts.{Stand}
use Rattle.bm_work_lists.specs.FromLists.{FromLists, less}
use Rattle.bm_work_lists.specs.Grown.{GrewBy}
use Rattle.bm_work_lists.specs.WorkSpan.{WorkSpan}
use Rattle.bm_work_lists.proofs.FromLists.{from-more, from-none, from-ends, less-less, less-none, less-empty, one-less}
use Rattle.bm_work_lists.proofs.Grown.{grew-none, grew-stand, grew-map, grew-parts}
use Rattle.bm_work_lists.proofs.Spans.{Less, between-active, work-none, work-join, work-at, less-of, less-same, settled-less}
use Rattle.bm_work_lists.proofs.refill.refill_from_lists.Goals as goal

pub brings-init : goal.brings-init
brings-init g c =
    let h = c.args.host.now in
    let x = g.H.Host.held h in
    record {
      sound = c.requires.sound;
      fine = c.requires.fine;
      goes = goes-back h h refl refl (g.met.H.Host.keeps_same h);
      alone = unbroken-same g.H.Host.face g.H.Host.pending g.H.Host.held g.R.Recorder.log h h refl;
      flags = raises-none-same g.H.Host.pending g.H.Host.held h h refl;
      idle = c.requires.idle;
      empty = c.requires.empty;
      settled = c.requires.settled;
      rest = refl;
      count = refl;
      span = ([], work-none g.R.Recorder.log (g.H.Host.face h).level c.args.class (g.H.Host.tests h) (g.H.Host.tests h) x x (came-none g.R.Recorder.log ((g.H.Host.face h).level + 1) (g.H.Host.tests h) x));
      phrase = λ k now p. p;
    }

pub brings-preserved : goal.brings-preserved
brings-preserved g c =
    let l = (g.H.Host.face c.args.host.now).level in
    let i = c.args.class in
    let log = g.R.Recorder.log in
    let v = c.brings.invariant in
    let x = g.H.Host.held c.args.host.now in
    let y = g.H.Host.held c.brings.host in
    let z = g.H.Host.held c.bring.new.host in
    let dy = ((shown y).rows i).deferred in
    let dz = ((shown z).rows i).deferred in
    let ly : (g.H.Host.face c.brings.host).level ≡ l = ap (λ (f : Face). f.level) v.goes.face in
    let lz : (g.H.Host.face c.bring.new.host).level ≡ (g.H.Host.face c.brings.host).level = ap (λ (f : Face). f.level) c.bring.ensures.goes.face in
    let t = c.bring.ensures.some c.if-not-bring.false in
    let n : ℕ = c.brings.left - 1 in
    let e : c.brings.left ≡ suc n = omega (arith, c.brings-test.true) in
    let s : WorkSpan log l i c.bring.ensures.span.0 (g.H.Host.tests c.brings.host) (g.H.Host.tests c.bring.new.host) y z = work-at log l i _ c.bring.ensures.span.0 _ _ y z ly c.bring.ensures.span.1 in
    let lower : Less dy dz = less-of 1 dy dz t.1 in
    let one : length dz.ready + length dz.second + 1 ≡ length dy.ready + length dy.second = ap (λ (w : Deferred Token). length w.ready + length w.second + 1) t.1 ∙ one-less dy t.0 in
    let F : ℕ → Type 0 = λ k. (shown z).sides k ≡ idle_side in
    let G : ℕ → Type 0 = λ k. GrewBy (FromLists k i 1 0) (seen number_of (shown y)) (log y.recorder) (log z.recorder) in
    let more : less n dz ≡ less c.brings.left dy = ap (less n) t.1 ∙ less-less n 1 dy ∙ ap (λ k. less k dy) (let q : 1 + n ≡ c.brings.left = omega (arith, e) in q) in
    record {
      sound = c.bring.ensures.sound;
      fine = c.bring.ensures.fine;
      goes = goes-join g.met.H.Host.keeps_join v.goes c.bring.ensures.goes;
      alone = unbroken-join v.goes c.bring.ensures.goes v.alone c.bring.ensures.alone;
      flags = raises-none-join v.goes c.bring.ensures.goes v.flags c.bring.ensures.flags;
      idle = between-active l i (shown y) (shown z) s.between i ∙ v.idle;
      empty = subst F (sym lz) c.bring.ensures.side;
      settled = settled-less (g.H.Host.tests c.brings.host) (g.H.Host.tests c.bring.new.host) dy.second dz.second lower.gone_second lower.second (s.lasting.second i) v.settled;
      rest = more ∙ v.rest;
      count = omega (arith, v.count, one, e);
      span = (v.span.0 ++ c.bring.ensures.span.0, work-join log l i v.span.0 c.bring.ensures.span.0 _ _ _ x y z lower v.span.1 s);
      phrase = λ k now p. v.phrase k now (grew-parts log g.R.Recorder.counts (FromLists l i 1 0) (FromLists l i n k) (FromLists l i c.brings.left k) y z now (λ one two a b. from-more l i c.brings.left n k (seen number_of (shown y)) one two e a b) s.processor v.fine.placed c.bring.ensures.fine.placed (subst G ly t.2) p);
    }

pub returns-then-not-bring-clause-answer : goal.returns-then-not-bring-clause-answer
returns-then-not-bring-clause-answer g c =
    let n = c.bring.ensures.none c.if-not-bring.true in
    let len : List Token → ℕ = λ us. length us in
    let v = c.brings.invariant in
    omega (arith, v.count, ap len n.0, ap len n.1)

pub returns-then-not-bring-clause-phrase : goal.returns-then-not-bring-clause-phrase
returns-then-not-bring-clause-phrase g c =
    let l = (g.H.Host.face c.args.host.now).level in
    let i = c.args.class in
    let log = g.R.Recorder.log in
    let v = c.brings.invariant in
    let y = g.H.Host.held c.brings.host in
    let z = g.H.Host.held c.bring.new.host in
    let ly : (g.H.Host.face c.brings.host).level ≡ l = ap (λ (f : Face). f.level) v.goes.face in
    let n = c.bring.ensures.none c.if-not-bring.true in
    let left : 0 < c.brings.left = omega (arith, c.brings-test.true) in
    let C : ℕ → Type 0 = λ k. Came log (k + 1) (g.H.Host.tests c.brings.host) (g.H.Host.tests c.bring.new.host) y z in
    let m : C l = subst C ly n.2 in
    v.phrase c.brings.left (log z.recorder) (grew-map (Stand l []) (FromLists l i c.brings.left c.brings.left) (seen number_of (shown y)) (log y.recorder) (log z.recorder) (λ part h. from-ends l i c.brings.left (seen number_of (shown y)) part left (ap (map number_of) n.0) (ap (map number_of) n.1) h) (grew-stand l [] (seen number_of (shown y)) (log y.recorder) (log z.recorder) (Records-points l (log y.recorder) (log z.recorder) m.above)))

pub returns-then-not-bring-clause-span : goal.returns-then-not-bring-clause-span
returns-then-not-bring-clause-span g c =
    let l = (g.H.Host.face c.args.host.now).level in
    let i = c.args.class in
    let log = g.R.Recorder.log in
    let v = c.brings.invariant in
    let x = g.H.Host.held c.args.host.now in
    let y = g.H.Host.held c.brings.host in
    let z = g.H.Host.held c.bring.new.host in
    let ly : (g.H.Host.face c.brings.host).level ≡ l = ap (λ (f : Face). f.level) v.goes.face in
    let n = c.bring.ensures.none c.if-not-bring.true in
    let C : ℕ → Type 0 = λ k. Came log (k + 1) (g.H.Host.tests c.brings.host) (g.H.Host.tests c.bring.new.host) y z in
    let m : C l = subst C ly n.2 in
    (v.span.0 ++ [], work-join log l i v.span.0 [] _ _ _ x y z (less-same _ _ (m.kept.rows i).deferred) v.span.1 (work-none log l i _ _ y z m))

pub returns-then-not-bring-clause-rest : goal.returns-then-not-bring-clause-rest
returns-then-not-bring-clause-rest g c =
    let i = c.args.class in
    let v = c.brings.invariant in
    let y = g.H.Host.held c.brings.host in
    let z = g.H.Host.held c.bring.new.host in
    let n = c.bring.ensures.none c.if-not-bring.true in
    (n.2.kept.rows i).deferred ∙ sym (less-empty c.brings.left ((shown y).rows i).deferred n.0 n.1) ∙ v.rest

pub returns-then-not-bring-clause-kept : goal.returns-then-not-bring-clause-kept
returns-then-not-bring-clause-kept g c k d = let s = returns-then-not-bring-clause-span g c in (s.1.between.others k d).deferred

pub returns-then-not-bring-clause-active : goal.returns-then-not-bring-clause-active
returns-then-not-bring-clause-active g c = let s = returns-then-not-bring-clause-span g c in between-active (g.H.Host.face c.args.host.now).level c.args.class _ _ s.1.between

pub returns-then-not-bring-clause-settled : goal.returns-then-not-bring-clause-settled
returns-then-not-bring-clause-settled g c =
    let i = c.args.class in
    let v = c.brings.invariant in
    let y = g.H.Host.held c.brings.host in
    let z = g.H.Host.held c.bring.new.host in
    let n = c.bring.ensures.none c.if-not-bring.true in
    let e : ((shown z).rows i).deferred.second ≡ ((shown y).rows i).deferred.second = ap (λ (w : Deferred Token). w.second) (n.2.kept.rows i).deferred in
    let F : List Token → Type 0 = λ us. All (Same (g.H.Host.tests c.brings.host) (g.H.Host.tests c.bring.new.host)) us in
    settled-less (g.H.Host.tests c.brings.host) (g.H.Host.tests c.bring.new.host) ((shown y).rows i).deferred.second ((shown z).rows i).deferred.second 0 e (subst F (sym e) (n.2.lasting.second i)) v.settled

pub returns-then-not-bring-clause-side : goal.returns-then-not-bring-clause-side
returns-then-not-bring-clause-side g c =
    let F : ℕ → Type 0 = λ k. (shown (g.H.Host.held c.bring.new.host)).sides k ≡ idle_side in
    subst F (ap (λ (f : Face). f.level) c.brings.invariant.goes.face) c.bring.ensures.side

pub returns-then-not-bring-clause-goes : goal.returns-then-not-bring-clause-goes
returns-then-not-bring-clause-goes g c = goes-join g.met.H.Host.keeps_join c.brings.invariant.goes c.bring.ensures.goes

pub returns-then-not-bring-clause-alone : goal.returns-then-not-bring-clause-alone
returns-then-not-bring-clause-alone g c = unbroken-join c.brings.invariant.goes c.bring.ensures.goes c.brings.invariant.alone c.bring.ensures.alone

pub returns-then-not-bring-clause-flags : goal.returns-then-not-bring-clause-flags
returns-then-not-bring-clause-flags g c = raises-none-join c.brings.invariant.goes c.bring.ensures.goes c.brings.invariant.flags c.bring.ensures.flags

pub returns-clause-answer : goal.returns-clause-answer
returns-clause-answer g c =
    let v = c.brings.invariant in
    omega (arith, v.count, c.brings-test.false)

pub returns-clause-phrase : goal.returns-clause-phrase
returns-clause-phrase g c =
    let l = (g.H.Host.face c.args.host.now).level in
    let i = c.args.class in
    let v = c.brings.invariant in
    let y = g.H.Host.held c.brings.host in
    let none : c.brings.left ≡ 0 = omega (arith, c.brings-test.false) in
    v.phrase c.brings.left (g.R.Recorder.log y.recorder) (grew-none (FromLists l i c.brings.left c.brings.left) (seen number_of (shown y)) (g.R.Recorder.log y.recorder) (from-none l i c.brings.left (seen number_of (shown y)) none))

pub returns-clause-rest : goal.returns-clause-rest
returns-clause-rest g c =
    let v = c.brings.invariant in
    let none : c.brings.left ≡ 0 = omega (arith, c.brings-test.false) in
    sym (less-none c.brings.left ((shown (g.H.Host.held c.brings.host)).rows c.args.class).deferred none) ∙ v.rest

pub returns-clause-kept : goal.returns-clause-kept
returns-clause-kept g c k d = (c.brings.invariant.span.1.between.others k d).deferred

pub returns-clause-active : goal.returns-clause-active
returns-clause-active g c = between-active (g.H.Host.face c.args.host.now).level c.args.class _ _ c.brings.invariant.span.1.between

pub returns-clause-side : goal.returns-clause-side
returns-clause-side g c =
    let F : ℕ → Type 0 = λ k. (shown (g.H.Host.held c.brings.host)).sides k ≡ idle_side in
    subst F (ap (λ (f : Face). f.level) c.brings.invariant.goes.face) c.brings.invariant.empty
