use Rattle.std.proofs.Common.{◌≡◌, ◌++◌, Some, List, [], length, map, refl, ap, ◌∙◌, sym}
use Rattle.std.proofs.lemmas.List.{length-map}
use Rattle.bm_journal.specs.declared.entry.Entry.TheVariants as entry
use Rattle.bm_journal.specs.declared.units.Units.TheVariants.{Whole}
use Rattle.bm_cache.proofs.Fresh.{fresh-rows}
use Rattle.bm_cache_lists.specs.Housed.{row_at}
use Rattle.bm_law.specs.State.{empty_row}
use Rattle.std.proofs.Common.{get_or-set_same, ◌<◌, arith}
use Rattle.bm_law.specs.State.{Row, seven_lists}
use Rattle.bm_law.specs.Stands.{Known}
use Rattle.bm_cache.specs.Tokens.{Token, number_of}
use Rattle.bm_cache.specs.Shown.{shown}
use Rattle.bm_cache.proofs.Shown.{at-row, wrote-row, below_eleven, below_four}
use Rattle.bm_cache.proofs.Placed.{placed-units}
use Rattle.bm_cache.proofs.Lent.{sweep-names, sweep-brings, sweep-count, sweep-sound}
use Rattle.std.specs.Prelude.{flat_map}
use Rattle.bm_cache.proofs.caches.Caches.sweep_in.Goals as goal

pub sweep-requires-clause-fresh : goal.sweep-requires-clause-fresh
sweep-requires-clause-fresh g c = fresh-rows c.args.self.now (flat_map (λ p. p.items) c.args.parcels.items) c.requires.fresh

pub returns-clause-step : goal.returns-clause-step
returns-clause-step g c =
    let us : List Token = flat_map (λ p. p.items) c.args.parcels.items in
    let row : Row Token = (shown c.args.self.now).rows c.args.class in
    let r = at-row c.args.self.now c.args.class _ c.index-row.ensures.same c.index-row.ensures.in_range in
    let x : (row_at c.sweep.new.self c.index-row.result).deferred.second ≡ seven_lists row ++ us = ap (λ (ys : List (Row Token)). (row_at ys c.index-row.result).deferred.second) c.sweep.ensures ∙ ap (λ (y : Row Token). y.deferred.second) (get_or-set_same c.args.self.now.rows c.index-row.result _ (empty_row 0) (let b : c.index-row.result < length c.args.self.now.rows = omega (arith, c.args.self.now.rows_whole, c.index-row.ensures.in_range) in b)) ∙ ap (λ (y : Row Token). seven_lists y ++ us) r in
    record {
      units = c.names-units.result;
      count = c.names-units.ensures.count ∙ ap length x ∙ sym (length-map (seven_lists row ++ us) number_of);
      whole = λ h. c.names-units.ensures.whole h ∙ ap (λ (ts : List Token). Whole (map number_of ts)) x;
      names = sweep-names row us;
      brings = sweep-brings row us;
      after = wrote-row c.args.self.now _ c.args.class _ (λ r. record r { free = []; extra = []; delayed = []; extra_delayed = []; count = 0; deferred = record r.deferred { first = []; ready = []; second = seven_lists r ++ us; tracing = Some 0 } }) c.index-row.ensures.same c.index-row.ensures.in_range c.sweep.ensures refl refl;
      records = c.put.ensures.recorded;
      told = c.put.ensures.whole;
      number = c.saturating_add-self.ensures;
      processor = refl;
    }

pub returns-clause-placed : goal.returns-clause-placed
unfolding returns-clause-step
returns-clause-placed g c =
    let us : List Token = flat_map (λ p. p.items) c.args.parcels.items in
    let row : Row Token = (shown c.args.self.now).rows c.args.class in
    let t = returns-clause-step g c in
    let k : Known c.args.level (entry.Sweep c.args.class t.units) = record { level = (below_four _ _ c.number-level.ensures.same c.number-level.ensures.bound); class = (below_eleven _ _ c.index-row.ensures.same c.index-row.ensures.in_range) } in
    placed-units g.R.Recorder.log g.R.Recorder.counts c.args.self.now _ c.args.level (entry.Sweep c.args.class) (map number_of (seven_lists row ++ us)) us c.requires.placed t c.put.ensures.counted
    (sweep-sound g.R.Recorder.log g.R.Recorder.counts c.args.self.now c.requires.placed c.args.class c.args.level us (below_eleven _ _ c.index-row.ensures.same c.index-row.ensures.in_range) (below_four _ _ c.number-level.ensures.same c.number-level.ensures.bound) c.requires.sit c.requires.none c.requires.fresh)
    (λ ns. refl) k (t.count ∙ sweep-count row us) refl
