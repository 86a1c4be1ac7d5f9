use Rattle.std.proofs.Common.{◌≡◌, ◌+◌, ◌++◌, ◌∷◌, [], List, drop, ◌∙◌, ap, length, arith, length-append}
use Rattle.bm_page.specs.UnitState.{UnitState}
use Rattle.bm_law.specs.Places.{list_at}
use Rattle.bm_cache_lists.specs.Housed.{row_at}
use Rattle.bm_cache_lists.proofs.Loops.{leaving-step, list-now, written-length}
use Rattle.bm_cache_lists.proofs.rows.Rows.move_out.Goals as goal

pub loop-unit-preserved : goal.loop-unit-preserved
loop-unit-preserved c =
    let k = c.args.stack in
    let row = c.args.row in
    let now = c.loop-unit.self in
    let X = list_at k (row_at now row) in
    let o : c.push.new.self.items ≡ c.loop-unit.out.items ++ c.in-Some.unit ∷ [] = c.in_default-push.ensures.items in
    let n : list_at k (row_at c.pop.new.self row) ≡ drop 1 X = list-now row k now c.pop.new.self (drop 1 X) (omega (arith, c.requires.row, written-length row k c.args.self.now now c.loop-unit.invariant.leaving.written)) c.in-Some.ensures.rows in
    let t : length X ≡ length (c.in-Some.unit ∷ drop 1 X) = ap (λ (us : List UnitState). length us) c.in-Some.ensures.unit in
    let a : length c.push.new.self.items ≡ length c.loop-unit.out.items + 1 = ap (λ (us : List UnitState). length us) o ∙ length-append c.loop-unit.out.items (c.in-Some.unit ∷ []) in
    let b : length (list_at k (row_at c.pop.new.self row)) ≡ length (drop 1 X) = ap (λ (us : List UnitState). length us) n in
    record {
      leaving = rw o (leaving-step row k c.args.out.now.items c.loop-unit.out.items c.in-Some.unit c.args.self.now now c.pop.new.self c.requires.row c.loop-unit.invariant.leaving c.in-Some.ensures.unit c.in-Some.ensures.rows);
      room = omega (arith, c.loop-unit.invariant.room, a, b, t, c.in_default-push.ensures.capacity);
    }
