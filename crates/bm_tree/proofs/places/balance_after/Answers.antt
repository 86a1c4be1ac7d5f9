use Rattle.bm_tree.proofs.places.balance_after.Goals as goal

pub returns-then-red-clause-colours : goal.returns-then-red-clause-colours
returns-then-red-clause-colours c = λ order h fine short. fine c.if-red.true

pub returns-else-red-clause-colours : goal.returns-else-red-clause-colours
returns-else-red-clause-colours c = λ order h fine short. c.balance_take.ensures.colours order h (short c.if-red.false)
