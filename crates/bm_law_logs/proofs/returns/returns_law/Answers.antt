use Rattle.bm_law_logs.proofs.Whole as whole
use Rattle.bm_law_logs.proofs.returns.returns_law.Goals as goal

pub returns-clause-together : goal.returns-clause-together
returns-clause-together c = whole.returns

pub returns-clause-journal : goal.returns-clause-journal
returns-clause-journal c = whole.journal-returns

pub returns-clause-arrive : goal.returns-clause-arrive
returns-clause-arrive c = whole.arrive

pub returns-clause-receivers : goal.returns-clause-receivers
returns-clause-receivers c = whole.receivers

pub returns-clause-law : goal.returns-clause-law
returns-clause-law c = whole.lawful-returns
