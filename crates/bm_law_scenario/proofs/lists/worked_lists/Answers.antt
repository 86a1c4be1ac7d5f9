use Rattle.bm_law_scenario.proofs.ListRuns.{grown-owns_nothing, grows-leave, list-empties, null-runs, queued-owns_nothing, queues-leave, refused-runs, tree-empties}
use Rattle.bm_law_scenario.proofs.lists.worked_lists.Goals as goal

pub returns-clause-queues : goal.returns-clause-queues
returns-clause-queues c = queues-leave

pub returns-clause-queued : goal.returns-clause-queued
returns-clause-queued c = queued-owns_nothing

pub returns-clause-grows : goal.returns-clause-grows
returns-clause-grows c = grows-leave

pub returns-clause-grown : goal.returns-clause-grown
returns-clause-grown c = grown-owns_nothing

pub returns-clause-null : goal.returns-clause-null
returns-clause-null c = null-runs

pub returns-clause-refused : goal.returns-clause-refused
returns-clause-refused c = refused-runs

pub returns-clause-list : goal.returns-clause-list
returns-clause-list c = list-empties

pub returns-clause-tree : goal.returns-clause-tree
returns-clause-tree c = tree-empties
