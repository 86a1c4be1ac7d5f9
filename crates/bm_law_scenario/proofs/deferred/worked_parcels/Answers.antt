use Rattle.bm_law_scenario.proofs.Parceled.{received-fits, swept-fits, forgotten-wrong, not_swept-wrong, not_received-wrong, other_received-wrong, received_twice-wrong, elsewhere-wrong}
use Rattle.bm_law_scenario.proofs.deferred.worked_parcels.Goals as goal

pub returns-clause-received : goal.returns-clause-received
returns-clause-received c = received-fits

pub returns-clause-swept : goal.returns-clause-swept
returns-clause-swept c = swept-fits

pub returns-clause-forgotten : goal.returns-clause-forgotten
returns-clause-forgotten c = forgotten-wrong

pub returns-clause-not_swept : goal.returns-clause-not_swept
returns-clause-not_swept c = not_swept-wrong

pub returns-clause-not_received : goal.returns-clause-not_received
returns-clause-not_received c = not_received-wrong

pub returns-clause-other_received : goal.returns-clause-other_received
returns-clause-other_received c = other_received-wrong

pub returns-clause-received_twice : goal.returns-clause-received_twice
returns-clause-received_twice c = received_twice-wrong

pub returns-clause-elsewhere : goal.returns-clause-elsewhere
returns-clause-elsewhere c = elsewhere-wrong
