use Rattle.std.proofs.Common.{◌≡◌, true, get_or, arith, below_more, sym, ◌∙◌, ap}
use Rattle.std.proofs.lemmas.List.{get_or-map}
use Rattle.std.proofs.lemmas.Option.{slice_get_within}
use Rattle.bm_run.specs.Between.{ended_of}
use Rattle.bm_run.specs.declared.seats.Seat.{Seat}
use Rattle.bm_run.proofs.AllTurns.{all-stopped}
use Rattle.bm_run.proofs.all_turns.lowest.Goals as goal

pub loop-processor-preserved : goal.loop-processor-preserved
loop-processor-preserved c =
    let seats = c.args.seats.now in
    let i = c.loop-processor.processor in
    let seat : Seat = c.index-seats-processor.result in
    let own : get_or (ended_of seats) i true ≡ true =
    get_or-map (λ (x : Seat). x.ended) seats i seat true c.loop-processor-test.true ∙ (ap (λ (x : Seat). x.ended) (sym c.index-seats-processor.is) ∙ c.if-not-seat.false) in
    below_more _ _ c.loop-processor.invariant own

pub returns-clause-none : goal.returns-clause-none
returns-clause-none c =
    let seats = c.args.seats.now in
    let last = c.loop-processor-test.false in
    all-stopped seats (λ p seat f. let lt = slice_get_within seats p seat f in c.loop-processor.invariant p (omega (arith, lt, last)))
