use Rattle.bm_law_objects.proofs.Naming.{made-once, named-made-once, next-named, start-named, took-put}
use Rattle.bm_law_objects.proofs.laws.chain_law.Goals as goal

pub returns-clause-start : goal.returns-clause-start
returns-clause-start c = start-named

pub returns-clause-next : goal.returns-clause-next
returns-clause-next c = next-named

pub returns-clause-took : goal.returns-clause-took
returns-clause-took c = took-put

pub returns-clause-once : goal.returns-clause-once
returns-clause-once c = made-once

pub returns-clause-named : goal.returns-clause-named
returns-clause-named c = named-made-once
