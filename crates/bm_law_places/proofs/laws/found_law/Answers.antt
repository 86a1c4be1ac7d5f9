use Rattle.bm_law_places.proofs.Logs.{found-join, log-finds, stretch-found}
use Rattle.bm_law_places.proofs.Standing.{found-in-parts, lists-of, shared-of}
use Rattle.bm_law_places.proofs.laws.found_law.Goals as goal

pub returns-clause-parts : goal.returns-clause-parts
returns-clause-parts c = found-in-parts

pub returns-clause-shared : goal.returns-clause-shared
returns-clause-shared c = shared-of

pub returns-clause-lists : goal.returns-clause-lists
returns-clause-lists c = lists-of

pub returns-clause-stretch : goal.returns-clause-stretch
returns-clause-stretch c = stretch-found

pub returns-clause-join : goal.returns-clause-join
returns-clause-join c = found-join

pub returns-clause-one : goal.returns-clause-one
returns-clause-one c = log-finds
