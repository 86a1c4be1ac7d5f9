use Rattle.bm_cache.proofs.Opened.{no-items}
use Rattle.std.proofs.Common.{◌≡◌, ◌++◌, ℕ, List, [], ◌∷◌, length, map, drop, take, refl, ap, ◌∙◌, sym, subst, arith}
use Rattle.bm_journal.specs.declared.entry.Entry.TheVariants as entry
use Rattle.bm_journal.specs.Recording.{Appends}
use Rattle.bm_law.specs.declared.mark.Mark.TheVariants as mark
use Rattle.bm_cache_lists.specs.Housed.{row_at}
use Rattle.bm_law.specs.State.{Row, Side}
use Rattle.bm_law.specs.Places.{Ready as ready_list}
use Rattle.bm_cache.specs.Tokens.{Token, number_of}
use Rattle.bm_cache.specs.Shown.{shown, Took}
use Rattle.bm_cache.proofs.Shown.{at-row, at-side, wrote-both, below_eleven, below_four}
use Rattle.bm_cache.proofs.Placed.{placed-step}
use Rattle.bm_cache.proofs.Asked.{rooms, sound, number-first, some-length, held-first}
use Rattle.bm_cache.proofs.caches.Caches.take_ready.Goals as goal

pub returns-then-len-eq0-clause-none : goal.returns-then-len-eq0-clause-none
returns-then-len-eq0-clause-none g c _ =
    let r = ap (λ (x : Row Token). length x.deferred.ready) (at-row c.args.self.now c.args.class _ c.index-row.ensures.same c.index-row.ensures.in_range) in
    (no-items ((shown c.args.self.now).rows c.args.class).deferred.ready (omega (arith, r, c.len.ensures, c.if-len-eq0.true)), refl)

pub take_in-requires : goal.take_in-requires
take_in-requires g c =
    let s = ap (λ (x : Side Token). length x.hand) (at-side c.args.self.now c.args.level _ _ c.number-side.ensures.same c.number-side.ensures.bound c.index_mut.ensures.value) in
    let q = at-row c.args.self.now c.args.class _ c.index-row.ensures.same c.index-row.ensures.in_range in
    let e : length ((shown c.args.self.now).rows c.args.class).deferred.ready ≡ length (c.in-Some.unit ∷ drop 1 (row_at c.args.self.now.rows c.index-row.result).deferred.ready) = ap (λ (x : Row Token). length x.deferred.ready) (sym q) ∙ ap (λ (x : List Token). length x) c.in-Some.ensures.unit in
    let m = (rooms g.R.Recorder.log g.R.Recorder.counts c.args.self.now c.requires.placed c.args.class c.args.level (below_eleven _ _ c.index-row.ensures.same c.index-row.ensures.in_range) (below_four _ _ c.number-side.ensures.same c.number-side.ensures.bound)).ready in
    omega (arith, s, e, m)

pub unreachable-requires : goal.unreachable-requires
unreachable-requires g c =
    let q = ap (λ (x : Row Token). length x.deferred.ready) (at-row c.args.self.now c.args.class _ c.index-row.ensures.same c.index-row.ensures.in_range) in
    let r = ap (λ (x : Row Token). length x.deferred.ready) (at-row c.args.self.now c.args.class _ c.index-row.ensures.same c.index-row.ensures.in_range) in
    let n : length (row_at c.args.self.now.rows c.index-row.result).deferred.ready ≡ 0 = ap (λ (x : List Token). length x) c.in-None.ensures.unit in
    omega (arith, q, r, n, c.len.ensures, c.if-len-eq0.false)

pub returns-clause-some : goal.returns-clause-some
returns-clause-some g c _ =
    let q = at-row c.args.self.now c.args.class _ c.index-row.ensures.same c.index-row.ensures.in_range in
    let e : ((shown c.args.self.now).rows c.args.class).deferred.ready ≡ c.in-Some.unit ∷ drop 1 (row_at c.args.self.now.rows c.index-row.result).deferred.ready = ap (λ (x : Row Token). x.deferred.ready) (sym q) ∙ c.in-Some.ensures.unit in
    let one : take 1 ((shown c.args.self.now).rows c.args.class).deferred.ready ≡ c.in-Some.unit ∷ [] = rw e refl in
    let h : Side Token → Side Token = λ h. record { hand = h.hand ++ take 1 ((shown c.args.self.now).rows c.args.class).deferred.ready; mark = mark.Quiet } in
    let p : c.take_in.new.self ≡ h c.index_mut.result.now = c.take_in.ensures ∙ ap (λ (xs : List Token). let r : Side Token = record { hand = c.index_mut.result.now.hand ++ xs; mark = mark.Quiet } in r) (sym one) in
    let n : take 1 (map number_of ((shown c.args.self.now).rows c.args.class).deferred.ready) ≡ c.in-Some.unit.number ∷ [] = number-first _ _ _ e in
    let w = wrote-both c.args.self.now _ c.args.class _ c.args.level _ (λ r. record r { deferred = record r.deferred { ready = drop 1 r.deferred.ready } }) h _ _ c.index-row.ensures.same c.index-row.ensures.in_range c.number-side.ensures.same c.number-side.ensures.bound c.in-Some.ensures.rows c.index_mut.ensures.value p refl refl in
    let t : Took g.R.Recorder.log c.args.level (entry.Ready c.args.class c.in-Some.unit.number) [] c.args.self.now _ = record {
      names = n;
      brings = refl;
      after = w;
      records = let F : ℕ → Type 0 = λ m. Appends (g.R.Recorder.log c.args.self.now.recorder) c.args.level (entry.Ready c.args.class m) (g.R.Recorder.log c.put.new.self) in subst F c.number-number.ensures c.put.ensures.recorded;
      number = c.saturating_add-self.ensures;
      processor = refl;
    } in
    (c.in-Some.unit, drop 1 (row_at c.args.self.now.rows c.index-row.result).deferred.ready, e, t)

pub returns-clause-placed : goal.returns-clause-placed
unfolding returns-clause-some
returns-clause-placed g c =
    let t = returns-clause-some g c refl in
    let u = c.requires.placed.classed.lists c.args.class ready_list in
    placed-step g.R.Recorder.log g.R.Recorder.counts c.args.self.now _ c.args.level (entry.Ready c.args.class t.0.number) [] c.requires.placed t.3 c.put.ensures.counted
    (sound g.R.Recorder.log g.R.Recorder.counts c.args.self.now c.requires.placed c.args.level (entry.Ready c.args.class t.0.number) (below_four _ _ c.number-side.ensures.same c.number-side.ensures.bound) (below_eleven _ _ c.index-row.ensures.same c.index-row.ensures.in_range) c.requires.quiet (some-length _ _ _ t.2) (held-first c.args.class _ _ _ t.2 u) refl)
