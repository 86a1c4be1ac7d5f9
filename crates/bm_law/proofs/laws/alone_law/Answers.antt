use Rattle.bm_law.proofs.Alone.{Alone-none, Alone-one, Alone-join, Adds-alone, Adds-none, Adds-one, Adds-join, Records-adds}
use Rattle.bm_law.proofs.laws.alone_law.Goals as goal

pub returns-clause-none : goal.returns-clause-none
returns-clause-none c = Alone-none

pub returns-clause-one : goal.returns-clause-one
returns-clause-one c = Alone-one

pub returns-clause-join : goal.returns-clause-join
returns-clause-join c = Alone-join

pub returns-clause-adds : goal.returns-clause-adds
returns-clause-adds c = Adds-alone

pub returns-clause-adds_none : goal.returns-clause-adds_none
returns-clause-adds_none c = Adds-none

pub returns-clause-adds_one : goal.returns-clause-adds_one
returns-clause-adds_one c = Adds-one

pub returns-clause-adds_join : goal.returns-clause-adds_join
returns-clause-adds_join c = Adds-join

pub returns-clause-records : goal.returns-clause-records
returns-clause-records c = Records-adds
