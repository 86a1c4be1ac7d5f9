use Rattle.bm_law_places.proofs.Apart.{back-in-stock, leaves-alone, only-with, others-part}
use Rattle.bm_law_places.proofs.Once.{once-each, stands-none}
use Rattle.bm_law_places.proofs.laws.apart_law.Goals as goal

pub returns-clause-only : goal.returns-clause-only
returns-clause-only c = only-with

pub returns-clause-others : goal.returns-clause-others
returns-clause-others c = leaves-alone

pub returns-clause-stretch : goal.returns-clause-stretch
returns-clause-stretch c = others-part

pub returns-clause-ended : goal.returns-clause-ended
returns-clause-ended c = back-in-stock

pub returns-clause-once : goal.returns-clause-once
returns-clause-once c = once-each

pub returns-clause-elsewhere : goal.returns-clause-elsewhere
returns-clause-elsewhere c = stands-none
