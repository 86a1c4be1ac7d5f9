use Rattle.std.proofs.Common.{List, ℕ, [], refl, inr}
use Rattle.bm_run.specs.Between.{Between}
use Rattle.bm_run.proofs.AllTurns.{seat-going}
use Rattle.bm_run.proofs.all_turns.run_lowest.Goals as goal

pub turn_of-requires-clause-there : goal.turn_of-requires-clause-there
turn_of-requires-clause-there c =
    let low = rw c.as_slice.ensures.value at c.in-Some.ensures.some in
    seat-going c.loop-processor.seats.items c.in-Some.processor low.going

pub loop-processor-preserved : goal.loop-processor-preserved
loop-processor-preserved c =
    let low = rw c.as_slice.ensures.value at c.in-Some.ensures.some in
    let turn = λ (turns : List ℕ) (b : Between c.args.program.now turns [] c.loop-processor.seats.items c.loop-processor.world).
    c.in_ok-world.ensures.between turns [] [] (inr (refl, refl, low)) b in
    let some = c.loop-processor.invariant.some in
    record {
      some = (some.0, turn some.0 some.1);
      each = λ turns b. turn turns (c.loop-processor.invariant.each turns b);
    }

pub returns-clause-stopped : goal.returns-clause-stopped
returns-clause-stopped c = rw c.as_slice.ensures.value at c.in_default.ensures.none
