use Rattle.bm_law.proofs.Spans.{Records-none, Records-one, Records-join, Records-above, Records-points, Above-records, Above-join}
use Rattle.bm_law.proofs.laws.stretch_law.Goals as goal

pub returns-clause-none : goal.returns-clause-none
returns-clause-none c = Records-none

pub returns-clause-join : goal.returns-clause-join
returns-clause-join c = Records-join

pub returns-clause-higher : goal.returns-clause-higher
returns-clause-higher c = Records-above

pub returns-clause-points : goal.returns-clause-points
returns-clause-points c = Records-points

pub returns-clause-above : goal.returns-clause-above
returns-clause-above c = Above-records

pub returns-clause-above_join : goal.returns-clause-above_join
returns-clause-above_join c = Above-join

pub returns-clause-one : goal.returns-clause-one
returns-clause-one c = Records-one
