use Rattle.std.proofs.Common.{◌≡◌, ◌++◌, ℕ, List, [], ◌∷◌, length, map, drop, take, refl, ap, ◌∙◌, sym, subst, arith}
use Rattle.bm_journal.specs.declared.entry.Entry.TheVariants as entry
use Rattle.bm_law.specs.declared.mark.Mark.TheVariants as mark
use Rattle.bm_journal.specs.Recording.{Appends}
use Rattle.bm_cache_lists.specs.Housed.{row_at}
use Rattle.std.specs.Prelude.{set}
use Rattle.bm_cache.proofs.Fresh.{fresh-hand}
use Rattle.bm_law.specs.State.{Row, Side}
use Rattle.bm_cache.specs.Tokens.{Token, number_of}
use Rattle.bm_cache.specs.Shown.{shown, Took}
use Rattle.bm_cache.proofs.Shown.{at-side, wrote-both, below_eleven, below_four}
use Rattle.bm_cache.proofs.Placed.{placed-step}
use Rattle.bm_cache.proofs.Asked.{sound, number-first, sits-first, some-length}
use Rattle.bm_cache.proofs.caches.Caches.push.Goals as goal

pub push-requires-clause-fresh : goal.push-requires-clause-fresh
push-requires-clause-fresh g c =
    let s = at-side c.args.self.now c.args.level _ _ c.number-side.ensures.same c.number-side.ensures.bound c.index_mut.ensures.value in
    let e : ((shown c.args.self.now).sides c.args.level).hand ≡ c.in-Some.unit ∷ c.hand_over.new.self.hand = ap (λ (x : Side Token). x.hand) (sym s) ∙ c.in-Some.ensures.unit in
    fresh-hand c.args.self.now c.args.level c.in-Some.unit c.hand_over.new.self.hand (below_four _ _ c.number-side.ensures.same c.number-side.ensures.bound) c.requires.placed.once e

pub unreachable-requires : goal.unreachable-requires
unreachable-requires g c =
    let s = at-side c.args.self.now c.args.level _ _ c.number-side.ensures.same c.number-side.ensures.bound c.index_mut.ensures.value in
    let n : length ((shown c.args.self.now).sides c.args.level).hand ≡ 0 = ap (λ (x : Side Token). length x.hand) (sym s) ∙ ap (λ (x : List Token). length x) c.in-None.ensures.unit in
    omega (arith, n, some-length _ _ _ c.requires.held.2)

pub returns-clause-pushed : goal.returns-clause-pushed
returns-clause-pushed g c =
    let s = at-side c.args.self.now c.args.level _ _ c.number-side.ensures.same c.number-side.ensures.bound c.index_mut.ensures.value in
    let e : ((shown c.args.self.now).sides c.args.level).hand ≡ c.in-Some.unit ∷ c.hand_over.new.self.hand = ap (λ (x : Side Token). x.hand) (sym s) ∙ c.in-Some.ensures.unit in
    let one : take 1 ((shown c.args.self.now).sides c.args.level).hand ≡ c.in-Some.unit ∷ [] = rw e refl in
    let f : Row Token → Row Token = λ r. record r { free = take 1 ((shown c.args.self.now).sides c.args.level).hand ++ r.free } in
    let row = row_at c.args.self.now.rows c.index-row.result in
    let q : c.push.new.self ≡ set c.args.self.now.rows c.index-row.result (f row) = c.push.ensures ∙ ap (λ (xs : List Token). let r : Row Token = record row { free = xs ++ row.free } in set c.args.self.now.rows c.index-row.result r) (sym one) in
    let n : take 1 (map number_of ((shown c.args.self.now).sides c.args.level).hand) ≡ c.in-Some.unit.number ∷ [] = number-first _ _ _ e in
    let w = wrote-both c.args.self.now _ c.args.class _ c.args.level _ f (λ h. record { hand = drop 1 h.hand; mark = mark.Gave c.args.class }) _ _ c.index-row.ensures.same c.index-row.ensures.in_range c.number-side.ensures.same c.number-side.ensures.bound q c.index_mut.ensures.value c.in-Some.ensures.side refl refl in
    let t : Took g.R.Recorder.log c.args.level (entry.Push c.args.class c.in-Some.unit.number) [] c.args.self.now _ = record {
      names = n;
      brings = refl;
      after = w;
      records = let F : ℕ → Type 0 = λ m. Appends (g.R.Recorder.log c.args.self.now.recorder) c.args.level (entry.Push c.args.class m) (g.R.Recorder.log c.put.new.self) in subst F c.number-number.ensures c.put.ensures.recorded;
      number = c.saturating_add-self.ensures;
      processor = refl;
    } in
    (c.in-Some.unit, c.hand_over.new.self.hand, e, t)

pub returns-clause-placed : goal.returns-clause-placed
unfolding returns-clause-pushed
returns-clause-placed g c =
    let t = returns-clause-pushed g c in
    placed-step g.R.Recorder.log g.R.Recorder.counts c.args.self.now _ c.args.level (entry.Push c.args.class t.0.number) [] c.requires.placed t.3 c.put.ensures.counted
    (sound g.R.Recorder.log g.R.Recorder.counts c.args.self.now c.requires.placed c.args.level (entry.Push c.args.class t.0.number) (below_four _ _ c.number-side.ensures.same c.number-side.ensures.bound) (below_eleven _ _ c.index-row.ensures.same c.index-row.ensures.in_range) (c.requires.quiet, c.requires.active, c.requires.none, some-length _ _ _ c.requires.held.2) (some-length _ _ _ t.2)
    (sits-first c.args.class _ _ _ c.requires.held.2 c.requires.held.3 (c.requires.placed.classed.hands c.args.level)) refl)
