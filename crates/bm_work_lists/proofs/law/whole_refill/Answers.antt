use Rattle.bm_work_lists.proofs.FromLists.{from-whole}
use Rattle.bm_work_lists.proofs.law.whole_refill.Goals as goal

pub returns : goal.returns
returns c = record { whole = from-whole }
