use Rattle.std.proofs.Common.{◌≡◌, ◌≢◌, ◌<◌, ◌++◌, ℕ, List, [], ◌∷◌, length, map, drop, take, refl, ap, ◌∙◌, sym, subst, arith}
use Rattle.std.proofs.lemmas.List.{length-map}
use Rattle.bm_journal.specs.declared.entry.Entry.TheVariants as entry
use Rattle.bm_journal.specs.Recording.{Appends}
use Rattle.bm_law.specs.declared.mark.Mark.TheVariants as mark
use Rattle.bm_cache_lists.specs.Housed.{row_at}
use Rattle.std.specs.Prelude.{set}
use Rattle.bm_cache.proofs.Fresh.{fresh-hand}
use Rattle.bm_law.specs.State.{Row, Side}
use Rattle.bm_cache.specs.Tokens.{Token, number_of}
use Rattle.bm_cache.specs.Shown.{shown, Took}
use Rattle.bm_cache.proofs.Shown.{at-row, at-side, wrote-both, wrote-side, below_eleven, below_four}
use Rattle.bm_cache.proofs.Placed.{placed-step}
use Rattle.bm_cache.proofs.Asked.{sound, number-first, sits-first, some-length}
use Rattle.bm_cache.proofs.caches.Caches.put.Goals as goal

pub returns-then-len-seen-clause-lost : goal.returns-then-len-seen-clause-lost
returns-then-len-seen-clause-lost g c _ =
    let r = ap (λ (x : Row Token). length x.extra) (at-row c.args.self.now c.args.class _ c.index-row.ensures.same c.index-row.ensures.in_range) in
    let d : c.len.result ≢ c.args.seen = c.if-len-seen.true in
    let n : c.args.seen < length ((shown c.args.self.now).rows c.args.class).extra = omega (arith, r, c.len.ensures, c.requires.longer, d) in
    let n' : c.args.seen < length (map number_of ((shown c.args.self.now).rows c.args.class).extra) = rw (length-map ((shown c.args.self.now).rows c.args.class).extra number_of) n in
    let w = wrote-side c.args.self.now _ c.args.level _ (λ h. record h { mark = mark.Quiet }) _ _ c.number-side.ensures.same c.number-side.ensures.bound c.index_mut.ensures.value c.set_mark.ensures refl refl refl in
    let t : Took g.R.Recorder.log c.args.level (entry.Lost c.args.class) [] c.args.self.now _ = record {
      names = rw c.requires.saw (refl, n');
      brings = refl;
      after = w;
      records = c.put.ensures.recorded;
      number = c.saturating_add-self.ensures;
      processor = refl;
    } in
    (n, t)

pub returns-then-len-seen-clause-placed : goal.returns-then-len-seen-clause-placed
unfolding returns-then-len-seen-clause-lost
returns-then-len-seen-clause-placed g c =
    let t = returns-then-len-seen-clause-lost g c refl in
    placed-step g.R.Recorder.log g.R.Recorder.counts c.args.self.now _ c.args.level (entry.Lost c.args.class) [] c.requires.placed t.1 c.put.ensures.counted
    (sound g.R.Recorder.log g.R.Recorder.counts c.args.self.now c.requires.placed c.args.level (entry.Lost c.args.class) (below_four _ _ c.number-side.ensures.same c.number-side.ensures.bound) (below_eleven _ _ c.index-row.ensures.same c.index-row.ensures.in_range) (rw c.requires.saw refl) tt tt refl)

pub push-requires-clause-fresh : goal.push-requires-clause-fresh
push-requires-clause-fresh g c =
    let s = at-side c.args.self.now c.args.level _ _ c.number-side.ensures.same c.number-side.ensures.bound c.index_mut-2.ensures.value in
    let e : ((shown c.args.self.now).sides c.args.level).hand ≡ c.in-Some.unit ∷ c.hand_over.new.self.hand = ap (λ (x : Side Token). x.hand) (sym s) ∙ c.in-Some.ensures.unit in
    fresh-hand c.args.self.now c.args.level c.in-Some.unit c.hand_over.new.self.hand (below_four _ _ c.number-side.ensures.same c.number-side.ensures.bound) c.requires.placed.once e

pub unreachable-requires : goal.unreachable-requires
unreachable-requires g c =
    let s = at-side c.args.self.now c.args.level _ _ c.number-side.ensures.same c.number-side.ensures.bound c.index_mut-2.ensures.value in
    let n : length ((shown c.args.self.now).sides c.args.level).hand ≡ 0 = ap (λ (x : Side Token). length x.hand) (sym s) ∙ ap (λ (x : List Token). length x) c.in-None.ensures.unit in
    omega (arith, n, some-length _ _ _ c.requires.held.2)

pub returns-clause-put : goal.returns-clause-put
returns-clause-put g c _ =
    let s = at-side c.args.self.now c.args.level _ _ c.number-side.ensures.same c.number-side.ensures.bound c.index_mut-2.ensures.value in
    let e : ((shown c.args.self.now).sides c.args.level).hand ≡ c.in-Some.unit ∷ c.hand_over.new.self.hand = ap (λ (x : Side Token). x.hand) (sym s) ∙ c.in-Some.ensures.unit in
    let one : take 1 ((shown c.args.self.now).sides c.args.level).hand ≡ c.in-Some.unit ∷ [] = rw e refl in
    let f : Row Token → Row Token = λ r. record r { extra = take 1 ((shown c.args.self.now).sides c.args.level).hand ++ r.extra } in
    let row = row_at c.args.self.now.rows c.index-row.result in
    let q : c.push.new.self ≡ set c.args.self.now.rows c.index-row.result (f row) = c.push.ensures ∙ ap (λ (xs : List Token). let r : Row Token = record row { extra = xs ++ row.extra } in set c.args.self.now.rows c.index-row.result r) (sym one) in
    let n : take 1 (map number_of ((shown c.args.self.now).sides c.args.level).hand) ≡ c.in-Some.unit.number ∷ [] = number-first _ _ _ e in
    let r = ap (λ (x : Row Token). length x.extra) (at-row c.args.self.now c.args.class _ c.index-row.ensures.same c.index-row.ensures.in_range) in
    let k : c.args.seen ≡ length (map number_of ((shown c.args.self.now).rows c.args.class).extra) = rw (length-map ((shown c.args.self.now).rows c.args.class).extra number_of) (omega (arith, r, c.len.ensures, c.if-len-seen.false)) in
    let w = wrote-both c.args.self.now _ c.args.class _ c.args.level _ f (λ h. record { hand = drop 1 h.hand; mark = mark.Quiet }) _ _ c.index-row.ensures.same c.index-row.ensures.in_range c.number-side.ensures.same c.number-side.ensures.bound q c.index_mut-2.ensures.value c.in-Some.ensures.side refl refl in
    let t : Took g.R.Recorder.log c.args.level (entry.Put c.args.class c.in-Some.unit.number) [] c.args.self.now _ = record {
      names = (n, c.requires.saw ∙ ap (mark.Saw c.args.class) k);
      brings = refl;
      after = w;
      records = let F : ℕ → Type 0 = λ m. Appends (g.R.Recorder.log c.args.self.now.recorder) c.args.level (entry.Put c.args.class m) (g.R.Recorder.log c.put-in-Some.new.self) in subst F c.number-number.ensures c.put-in-Some.ensures.recorded;
      number = c.saturating_add-self-in-Some.ensures;
      processor = refl;
    } in
    (c.in-Some.unit, c.hand_over.new.self.hand, e, t)

pub returns-clause-placed : goal.returns-clause-placed
unfolding returns-clause-put
returns-clause-placed g c =
    let t = returns-clause-put g c refl in
    placed-step g.R.Recorder.log g.R.Recorder.counts c.args.self.now _ c.args.level (entry.Put c.args.class t.0.number) [] c.requires.placed t.3 c.put-in-Some.ensures.counted
    (sound g.R.Recorder.log g.R.Recorder.counts c.args.self.now c.requires.placed c.args.level (entry.Put c.args.class t.0.number) (below_four _ _ c.number-side.ensures.same c.number-side.ensures.bound) (below_eleven _ _ c.index-row.ensures.same c.index-row.ensures.in_range) (rw c.requires.saw refl) (some-length _ _ _ t.2)
    (sits-first c.args.class _ _ _ c.requires.held.2 c.requires.held.3 (c.requires.placed.classed.hands c.args.level)) refl)
