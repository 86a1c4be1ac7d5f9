use Rattle.std.proofs.Common.{◌≡◌, ◌++◌, List, [], set, refl, ap, ◌∙◌, append-nil}
use Rattle.bm_law.specs.State.{Row}
use Rattle.bm_cache_lists.specs.Housed.{row_at}
use Rattle.bm_cache.specs.Tokens.{Token}
use Rattle.bm_cache.specs.Shown.{shown}
use Rattle.bm_cache.proofs.Shown.{at-row, wrote-row, below_eleven}
use Rattle.bm_cache.proofs.Fresh.{fresh-rows, fresh-lent}
use Rattle.bm_cache.proofs.Outside.{lent-first, first-back, placed-back}
use Rattle.bm_cache.proofs.caches.Caches.first_in.Goals as goal

pub put_on-requires-clause-fresh : goal.put_on-requires-clause-fresh
put_on-requires-clause-fresh g c =
    let w = c.requires.lent in
    fresh-rows c.args.self.now c.args.units.items (fresh-lent c.args.self.now c.args.class c.args.units.items w.0 (below_eleven _ _ c.index-row.ensures.same c.index-row.ensures.in_range) w.1.lists w.1.placed.once w.1.units)

pub returns-clause-back : goal.returns-clause-back
returns-clause-back g c =
    let w = c.requires.lent in
    let i = c.index-row.result in
    let s = at-row c.args.self.now c.args.class _ c.index-row.ensures.same c.index-row.ensures.in_range in
    let old : Row Token = row_at c.args.self.now.rows i in
    let none : old.deferred.first ≡ [] = ap (λ (x : Row Token). x.deferred.first) (s ∙ lent-first c.args.class [] w.0 (shown c.args.self.now) w.1.lists) in
    let f = λ (xs : List Token). let r : Row Token = record old { deferred = record old.deferred { first = xs } } in set c.args.self.now.rows i r in
    let q = c.put_on.ensures ∙ ap (λ (xs : List Token). f (c.args.units.items ++ xs)) none ∙ ap f (append-nil c.args.units.items) in
    record {
      lists = wrote-row c.args.self.now _ c.args.class _ (λ r. record r { deferred = record r.deferred { first = c.args.units.items } }) c.index-row.ensures.same c.index-row.ensures.in_range q refl refl;
      recorder = refl;
      number = refl;
      processor = refl;
    }

pub returns-clause-placed : goal.returns-clause-placed
returns-clause-placed g c =
    let w = c.requires.lent in
    let t = returns-clause-back g c in
    placed-back g.R.Recorder.log g.R.Recorder.counts c.args.self.now _ w.0 _ w.1.placed (first-back c.args.class c.args.units.items w.0 (shown c.args.self.now) w.1.lists w.1.units) t.lists t.recorder t.number t.processor
