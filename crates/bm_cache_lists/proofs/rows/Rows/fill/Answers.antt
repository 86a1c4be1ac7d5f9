use Rattle.std.proofs.Common.{◌≡◌, ◌<◌, ◌+◌, ◌++◌, ℕ, length, reverse, set, ap, ◌∙◌, arith}
use Rattle.bm_page.specs.UnitState.{UnitState}
use Rattle.bm_law.specs.State.{Row}
use Rattle.bm_cache_lists.specs.Housed.{row_at}
use Rattle.bm_cache_lists.proofs.Houses.{eleven-rows}
use Rattle.bm_cache_lists.proofs.Loops.{twice}
use Rattle.bm_cache_lists.proofs.rows.Rows.fill.Goals as goal

pub returns : goal.returns
returns c =
    let old = c.args.self.now in
    let r = row_at old c.args.row in
    let l : length old ≡ 11 = eleven-rows c.self.inside.places.items c.self.inside.lines.items c.args.self.now c.self.invariant.0 c.self.view_is in
    let b : c.args.row < length old = omega (arith, l, c.requires.row) in
    let k : c.numbers-count.result.count + c.len-number.result ≡ r.count + length c.args.units.items = omega (arith, ap (λ n. n.count) c.numbers-count.ensures, c.len-number.ensures, c.args.units.ok.0) in
    twice c.args.row (λ s. record s { count = c.numbers-count.result.count + c.len-number.result }) (record r { free = reverse c.args.units.items ++ r.free }) old c.push_all.new.self c.set_count.new.self b c.push_all.ensures c.set_count.ensures
    ∙ ap (λ (n : ℕ). let s : Row UnitState = record r { free = reverse c.args.units.items ++ r.free; count = n } in set old c.args.row s) k
