use Rattle.bm_law.specs.State.{opening}
use Rattle.bm_law.proofs.Null.{pops-fit, alloc-answers, apart-answers, apart-free, apart-delay, apart-add}
use Rattle.bm_law.proofs.laws.null_law.Goals as goal

pub returns-clause-pops : goal.returns-clause-pops
returns-clause-pops c = λ p log s h. pops-fit (opening p) log h.named

pub returns-clause-replies : goal.returns-clause-replies
returns-clause-replies c = alloc-answers

pub returns-clause-apart : goal.returns-clause-apart
returns-clause-apart c = apart-answers

pub returns-clause-free : goal.returns-clause-free
returns-clause-free c = apart-free

pub returns-clause-delay : goal.returns-clause-delay
returns-clause-delay c = apart-delay

pub returns-clause-add : goal.returns-clause-add
returns-clause-add c = apart-add
