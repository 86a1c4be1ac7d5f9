use Rattle.bm_law.proofs.Agree.{names-tell, leaves-lists, lists-leaves}
use Rattle.bm_law.proofs.laws.lists_law.Goals as goal

pub returns-clause-names : goal.returns-clause-names
returns-clause-names c = names-tell

pub returns-clause-lists : goal.returns-clause-lists
returns-clause-lists c = λ p log s. (leaves-lists p log s, lists-leaves p log s)
