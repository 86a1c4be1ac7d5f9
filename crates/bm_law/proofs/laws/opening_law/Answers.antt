use Rattle.bm_law.proofs.Folds.{leaves-opening}
use Rattle.bm_law.proofs.Once.{stands-opening}
use Rattle.bm_law.proofs.Between.{Ready-opening, Ready-fill}
use Rattle.bm_law.proofs.Waiting.{counts-opened}
use Rattle.bm_law.proofs.laws.opening_law.Goals as goal

pub returns-clause-log : goal.returns-clause-log
returns-clause-log r c = leaves-opening

pub returns-clause-none : goal.returns-clause-none
returns-clause-none r c = stands-opening

pub returns-clause-ready : goal.returns-clause-ready
returns-clause-ready r c = Ready-opening

pub returns-clause-counts : goal.returns-clause-counts
returns-clause-counts r c = counts-opened

pub returns-clause-fill : goal.returns-clause-fill
returns-clause-fill r c = Ready-fill
