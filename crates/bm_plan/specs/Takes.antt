-- A handler is taken off those that haven't run.
use Rattle.std.specs.Prelude.{◌≡◌, List, ◌∷◌, ◌++◌}
use Rattle.bm_lang.specs.declared.scenario.AtLine.{AtLine}
use Rattle.bm_due.specs.Told.{told_of}
use Rattle.bm_due.specs.declared.planned.Due.{Due}

-- Its line stood among them, and the others stand in their order.
pub record Takes (due : Due) (before now : List AtLine) : Type 0 where
  pub front : List AtLine
  pub line : AtLine
  pub rest : List AtLine
  pub was : before ≡ front ++ line ∷ rest
  pub now_is : now ≡ front ++ rest
  pub told : told_of line ≡ due
