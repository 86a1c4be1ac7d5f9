use Rattle.std.proofs.Common.{[], refl, ap, ◌∙◌}
use Rattle.bm_cache_lists.specs.Housed.{row_at}
use Rattle.std.specs.Prelude.{◌++◌, List}
use Rattle.bm_law.specs.State.{Row}
use Rattle.bm_cache.specs.Tokens.{Token}
use Rattle.bm_cache.proofs.Shown.{at-row, wrote-row}
use Rattle.bm_cache.proofs.caches.Caches.first_out.Goals as goal

pub returns-clause-units : goal.returns-clause-units
returns-clause-units g c =
    let r = at-row c.args.self.now c.args.class _ c.index-row.ensures.same c.index-row.ensures.in_range in
    c.move_out.ensures.out ∙ ap (λ (us : List Token). us ++ (row_at c.args.self.now.rows c.index-row.result).deferred.first) c.in_ok-units.ensures.items ∙ ap (λ (x : Row Token). x.deferred.first) r

pub returns-clause-lent : goal.returns-clause-lent
returns-clause-lent g c =
    let p = c.requires.placed in
    record {
      lists = wrote-row c.args.self.now _ c.args.class _ (λ r. record r { deferred = record r.deferred { first = [] } }) c.index-row.ensures.same c.index-row.ensures.in_range c.move_out.ensures.rows refl refl;
      placed = record { once = p.once; classed = p.classed; agree = p.agree; tells = p.tells; told = p.told; number = p.number };
      recorder = refl;
      number = refl;
      processor = refl;
    }
