use Rattle.std.proofs.Common.{◌≡◌, None, List, [], refl, ap, ◌∙◌}
use Rattle.bm_journal.specs.declared.entry.Entry.TheVariants as entry
use Rattle.bm_journal.specs.declared.units.Units.TheVariants.{Whole}
use Rattle.bm_cache_lists.specs.Housed.{row_at}
use Rattle.std.specs.Prelude.{set}
use Rattle.bm_law.specs.State.{Row}
use Rattle.bm_cache.specs.Tokens.{Token}
use Rattle.bm_cache.specs.Shown.{shown}
use Rattle.bm_cache.proofs.Shown.{at-row, wrote-row, below_eleven, below_four}
use Rattle.bm_cache.proofs.Placed.{placed-from}
use Rattle.bm_cache.proofs.Lent.{lent-row, return-lent, lent-names, return-sound}
use Rattle.bm_cache.proofs.caches.Caches.returned.Goals as goal

pub returns-clause-step : goal.returns-clause-step
returns-clause-step g c =
    let w = c.requires.lent.1 in
    let r = at-row c.args.self.now c.args.class _ c.index-row.ensures.same c.index-row.ensures.in_range in
    let none : (row_at c.args.self.now.rows c.index-row.result).deferred.second ≡ [] = ap (λ (x : Row Token). x.deferred.second) (r ∙ lent-row c.args.class c.args.level c.requires.lent.0 (shown c.args.self.now) w.lists) in
    let q = c.set_stamp.ensures ∙ ap (λ (xs : List Token). let x : Row Token = record (row_at c.args.self.now.rows c.index-row.result) { deferred = record (row_at c.args.self.now.rows c.index-row.result).deferred { second = xs; tracing = None } } in set c.args.self.now.rows c.index-row.result x) none in
    record {
      after = wrote-row c.args.self.now _ c.args.class _ (λ r. record r { deferred = record r.deferred { second = []; tracing = None } }) c.index-row.ensures.same c.index-row.ensures.in_range q refl refl;
      records = rw (← c.new.ensures) c.put.ensures.recorded;
      number = c.saturating_add-self.ensures;
      processor = refl;
    }

pub returns-clause-placed : goal.returns-clause-placed
returns-clause-placed g c =
    let w = c.requires.lent.1 in
    let s = c.requires.lent.0 in
    let t = returns-clause-step g c in
    let q = return-lent c.args.class c.args.level s (shown c.args.self.now) w.lists c.args.numbers.items in
    placed-from g.R.Recorder.log g.R.Recorder.counts c.args.self.now _ c.args.level (entry.Return c.args.class (Whole c.args.numbers.items)) [] s w.placed
    (record {
      names = lent-names c.args.class c.args.level s (shown c.args.self.now) w.lists c.args.numbers.items w.named c.requires.progress;
      brings = refl;
      after = t.after ∙ q;
      records = t.records;
      number = t.number;
      processor = t.processor;
    })
    c.put.ensures.counted
    (return-sound g.R.Recorder.log g.R.Recorder.counts c.args.self.now s w.placed c.args.class c.args.level c.args.numbers.items (below_eleven _ _ c.index-row.ensures.same c.index-row.ensures.in_range) (below_four _ _ c.number-level.ensures.same c.number-level.ensures.bound))
