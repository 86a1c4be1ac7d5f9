use Rattle.std.proofs.Common.{◌≡◌, ◌<◌, ◌++◌, [], length, set, Some, ap, ◌∙◌, arith}
use Rattle.bm_page.specs.UnitState.{UnitState}
use Rattle.bm_law.specs.State.{Row}
use Rattle.bm_cache_lists.specs.Housed.{row_at}
use Rattle.bm_law.specs.Places.{list_at}
use Rattle.bm_cache_lists.specs.Stacks.{with_list}
use Rattle.bm_cache_lists.specs.Numbers.{numbers_in, with_numbers}
use Rattle.bm_cache_lists.specs.declared.line.Numbers.{Numbers}
use Rattle.bm_journal.specs.declared.change.Stack.{Stack}
use Rattle.bm_journal.specs.declared.change.Stack.TheVariants.{Free, Extra, Delayed, ExtraDelayed, First, Ready, Second}
use Rattle.bm_cache_lists.proofs.Houses.{eleven-rows}
use Rattle.bm_cache_lists.proofs.Loops.{twice}
use Rattle.bm_cache_lists.proofs.rows.Rows.gather.Goals as goal

onto : Stack → Row UnitState → Row UnitState
onto k s = with_list k [] (with_list Second (list_at k s ++ list_at Second s) s)

ended : Row UnitState → Row UnitState
ended s = with_numbers (record (numbers_in s) { count = 0; tracing = Some 0 }) s

pub returns : goal.returns
unfolding onto ended
returns c =
    let old = c.args.self.now in
    let i = c.args.row in
    let l : length old ≡ 11 = eleven-rows c.self.inside.places.items c.self.inside.lines.items c.args.self.now c.self.invariant.0 c.self.view_is in
    let b : i < length old = omega (arith, l, c.requires) in
    let r1 = onto Ready (row_at old i) in
    let r2 = onto First r1 in
    let r3 = onto ExtraDelayed r2 in
    let r4 = onto Delayed r3 in
    let r5 = onto Extra r4 in
    let r6 = onto Free r5 in
    let e2 = twice i (onto First) r1 old c.put_above.new.self c.put_above-2.new.self b c.put_above.ensures c.put_above-2.ensures in
    let e3 = twice i (onto ExtraDelayed) r2 old c.put_above-2.new.self c.put_above-3.new.self b e2 c.put_above-3.ensures in
    let e4 = twice i (onto Delayed) r3 old c.put_above-3.new.self c.put_above-4.new.self b e3 c.put_above-4.ensures in
    let e5 = twice i (onto Extra) r4 old c.put_above-4.new.self c.put_above-5.new.self b e4 c.put_above-5.ensures in
    let e6 = twice i (onto Free) r5 old c.put_above-5.new.self c.put_above-6.new.self b e5 c.put_above-6.ensures in
    let mid = c.put_above-6.new.self in
    let n : c.set_numbers.new.self ≡ set mid i (ended (row_at mid i)) = c.set_numbers.ensures ∙ ap (λ (n : Numbers). set mid i (with_numbers (record n { count = 0; tracing = Some 0 }) (row_at mid i))) c.numbers-numbers.ensures in
    twice i ended r6 old mid c.set_numbers.new.self b e6 n
