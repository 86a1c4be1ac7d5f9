use Rattle.std.proofs.Common.{◌≡◌, ◌∷◌, [], drop, List, ap, length, length-append, refl, arith}
use Rattle.bm_page.specs.UnitState.{UnitState}
use Rattle.bm_law.specs.Places.{list_at}
use Rattle.bm_cache_lists.specs.Housed.{row_at}
use Rattle.bm_cache_lists.proofs.Loops.{leaving-step, list-now, written-length}
use Rattle.bm_cache.proofs.hand.Hand.take_all.Goals as goal

pub loop-unit-preserved : goal.loop-unit-preserved
loop-unit-preserved c =
    let k = c.args.stack in
    let row = c.args.row in
    let now = c.loop-unit.rows in
    let X = list_at k (row_at now row) in
    let n : list_at k (row_at c.pop.new.self row) ≡ drop 1 X = list-now row k now c.pop.new.self (drop 1 X) (omega (arith, c.requires.row, written-length row k c.args.rows.now now c.loop-unit.invariant.leaving.written)) c.in-Some.ensures.rows in
    let t : length X ≡ length (c.in-Some.unit ∷ drop 1 X) = ap (λ (us : List UnitState). length us) c.in-Some.ensures.unit in
    let b : length (list_at k (row_at c.pop.new.self row)) ≡ length (drop 1 X) = ap (λ (us : List UnitState). length us) n in
    record {
      leaving = rw c.take_in.ensures (leaving-step row k c.args.self.now.hand c.loop-unit.self.hand c.in-Some.unit c.args.rows.now now c.pop.new.self c.requires.row c.loop-unit.invariant.leaving c.in-Some.ensures.unit c.in-Some.ensures.rows);
      quiet = rw c.take_in.ensures refl;
      room = rw c.take_in.ensures (omega (arith, c.loop-unit.invariant.room, b, t, length-append c.loop-unit.self.hand (c.in-Some.unit ∷ [])));
    }
