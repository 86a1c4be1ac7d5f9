use Rattle.bm_law.proofs.Between.{RowKept-refl, Between-none, Inside-join, RowKept-join, Kept-refl, Kept-join, Between-join, Between-point, Kept-between, Ready-end}
use Rattle.bm_law.proofs.laws.kept_law.Goals as goal

pub returns-clause-none : goal.returns-clause-none
returns-clause-none r c = Kept-refl

pub returns-clause-join : goal.returns-clause-join
returns-clause-join r c = Kept-join

pub returns-clause-row : goal.returns-clause-row
returns-clause-row r c = RowKept-join

pub returns-clause-inside : goal.returns-clause-inside
returns-clause-inside r c = Inside-join

pub returns-clause-between : goal.returns-clause-between
returns-clause-between r c = Between-join

pub returns-clause-point : goal.returns-clause-point
returns-clause-point r c = Between-point

pub returns-clause-whole : goal.returns-clause-whole
returns-clause-whole r c = Kept-between

pub returns-clause-ready : goal.returns-clause-ready
returns-clause-ready r c = Ready-end

pub returns-clause-row_none : goal.returns-clause-row_none
returns-clause-row_none r c = RowKept-refl

pub returns-clause-between_none : goal.returns-clause-between_none
returns-clause-between_none r c = Between-none
