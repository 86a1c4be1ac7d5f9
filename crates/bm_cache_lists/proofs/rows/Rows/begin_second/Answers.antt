use Rattle.std.proofs.Common.{◌<◌, ◌++◌, [], Some, length, arith}
use Rattle.bm_page.specs.UnitState.{UnitState}
use Rattle.bm_journal.specs.declared.change.Stack.TheVariants.{Ready, Second}
use Rattle.bm_journal.specs.declared.ids.Domain.TheVariants.{Tracing}
use Rattle.bm_law.specs.Places.{list_at}
use Rattle.bm_law.specs.State.{Row}
use Rattle.bm_cache_lists.specs.Housed.{row_at}
use Rattle.bm_cache_lists.specs.Stacks.{with_list}
use Rattle.bm_cache_lists.specs.Stamps.{with_stamp}
use Rattle.bm_cache_lists.proofs.Houses.{eleven-rows}
use Rattle.bm_cache_lists.proofs.Loops.{twice}
use Rattle.bm_cache_lists.proofs.rows.Rows.begin_second.Goals as goal

pub returns : goal.returns
returns c =
    let old = c.args.self.now in
    let r = row_at old c.args.row in
    let moved : Row UnitState = with_list Ready [] (with_list Second (list_at Ready r ++ list_at Second r) r) in
    let b : c.args.row < length old = omega (arith, eleven-rows c.self.inside.places.items c.self.inside.lines.items old c.self.invariant.0 c.self.view_is, c.requires) in
    twice c.args.row (λ (s : Row UnitState). record s { deferred = with_stamp Tracing (Some 0) s.deferred }) moved old c.put_above.new.self c.set_stamp.new.self b c.put_above.ensures c.set_stamp.ensures
