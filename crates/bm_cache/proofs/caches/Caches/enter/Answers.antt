use Rattle.std.proofs.Common.{◌≡◌, ◌+◌, [], refl, ap, ◌∙◌, arith}
use Rattle.bm_journal.specs.declared.entry.Entry.TheVariants.{Enter}
use Rattle.bm_law.specs.declared.mark.Mark.TheVariants.{Quiet}
use Rattle.bm_cache_lists.specs.Housed.{row_at}
use Rattle.std.specs.Prelude.{set}
use Rattle.bm_law.specs.State.{Row, Side}
use Rattle.bm_law.specs.Effect.{aimed}
use Rattle.bm_cache.specs.Tokens.{Token}
use Rattle.bm_cache.specs.Shown.{shown}
use Rattle.bm_cache.proofs.Shown.{at-row, at-side, wrote-both, below_eleven, below_four}
use Rattle.bm_cache.proofs.Placed.{placed-step, still}
use Rattle.bm_cache.proofs.caches.Caches.enter.Goals as goal

pub enter-active-requires-clause-room : goal.enter-active-requires-clause-room
enter-active-requires-clause-room g c =
    let r = at-row c.args.self.now c.args.class _ c.index-row.ensures.same c.index-row.ensures.in_range in
    rw r c.requires.room

pub returns-clause-answer : goal.returns-clause-answer
returns-clause-answer g c =
    let r = at-row c.args.self.now c.args.class _ c.index-row.ensures.same c.index-row.ensures.in_range in
    c.enter-active.ensures.answer ∙ ap (λ (x : Row Token). x.active + 1) r

pub returns-clause-step : goal.returns-clause-step
returns-clause-step g c =
    let s = at-side c.args.self.now c.args.level _ _ c.number-side.ensures.same c.number-side.ensures.bound c.index.ensures in
    let f : Row Token → Row Token = λ r. record r { active = r.active + 1; target = aimed ((shown c.args.self.now).sides c.args.level).mark r.target } in
    let m : c.mark.result ≡ ((shown c.args.self.now).sides c.args.level).mark = c.mark.ensures ∙ ap (λ (x : Side Token). x.mark) s in
    let row = row_at c.args.self.now.rows c.index-row.result in
    let e : c.enter-active.new.self ≡ set c.args.self.now.rows c.index-row.result (f row) = rw (← m) c.enter-active.ensures.rows in
    record {
      names = returns-clause-answer g c;
      brings = refl;
      after = wrote-both c.args.self.now _ c.args.class _ c.args.level _ f (λ h. record h { mark = Quiet }) _ _ c.index-row.ensures.same c.index-row.ensures.in_range c.number-side.ensures.same c.number-side.ensures.bound e c.index_mut.ensures.value c.set_mark.ensures refl refl;
      records = c.put.ensures.recorded;
      number = c.saturating_add-self.ensures;
      processor = refl;
    }

pub returns-clause-placed : goal.returns-clause-placed
returns-clause-placed g c =
    placed-step g.R.Recorder.log g.R.Recorder.counts c.args.self.now _ c.args.level (Enter c.args.class c.enter-active.result) [] c.requires.placed (returns-clause-step g c) c.put.ensures.counted
    (record {
      known = record { level = below_four _ _ c.number-side.ensures.same c.number-side.ensures.bound; class = below_eleven _ _ c.index-row.ensures.same c.index-row.ensures.in_range };
      steady = c.requires.quiet;
      sized = tt;
      arrives = tt;
      few = omega arith;
      fresh = still g.R.Recorder.log g.R.Recorder.counts c.args.self.now (Enter c.args.class c.enter-active.result) c.requires.placed refl;
    })
