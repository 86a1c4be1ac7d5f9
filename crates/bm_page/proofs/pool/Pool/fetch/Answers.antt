use Rattle.std.proofs.Common.{◌≡◌, length, ap, arith}
use Rattle.bm_page.specs.Stock.{Stock}
use Rattle.bm_page.proofs.OutLemmas.{IsSettled-pool, fetched-le-units, fetched-le-want}
use Rattle.bm_page.proofs.pool.Pool.fetch.Goals as goal

pub give_units-requires : goal.give_units-requires
give_units-requires c =
    let settled = rw c.self.view_is at (IsSettled-pool c.self.inside.classes.items c.self.inside.lows.items c.self.inside.units.items c.self.invariant) in
    let units = fetched-le-units c.args.class c.args.want c.args.self.now settled in
    let want = fetched-le-want c.args.class c.args.want c.args.self.now in
    let ok = c.in_ok-reserve.ensures.ok in
    let same : length c.self.inside.units.items ≡ length c.args.self.now.units = ap (λ (s : Stock). length s.units) c.self.view_is in
    omega (arith, units, want, ok, same)
