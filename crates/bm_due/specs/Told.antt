-- What the caller is told of a handler that is due. (This project's own.)
use Rattle.bm_lang.specs.declared.scenario.AtLine.{AtLine}
use Rattle.bm_due.specs.declared.planned.Due.{Due}

-- its script and its level
abbrev pub told_of : AtLine → Due
told_of line = record { script = line.script; level = line.level }
