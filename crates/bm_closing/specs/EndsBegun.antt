-- The ends of the periods that a side has in progress. (This project's own; see EndsPeriods, which reads the same from a log.)
use Rattle.bm_journal.specs.declared.ids.Domain.TheVariants.{Plain, Tracing}
use Rattle.bm_grace.specs.Known.{Known, side}
use Rattle.bm_law.specs.Begun.{begun_by}
use Rattle.bm_law_work.specs.Parts.{Part, Then}
use Rattle.bm_law_scenario.specs.Closing.{EndsOne}

-- first that of the plain domain, and then that of the tracing one
abbrev pub EndsBegun : Known → Part
EndsBegun known =
    Then (EndsOne Plain (begun_by (side Plain known).number))
    (EndsOne Tracing (begun_by (side Tracing known).number))
