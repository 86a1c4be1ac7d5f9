-- Worked positions: a processor for which two handlers are planned, at levels 1 and 2, in front of its third step.
use Rattle.std.specs.Prelude.{false, List, [], ◌∷◌, ◌++◌, codes}
use Rattle.bm_journal.specs.declared.entry.Entry.TheVariants as entry
use Rattle.bm_lang.specs.declared.scenario.AtLine.{AtLine}
use Rattle.bm_law.specs.Lists.{Log}
use Rattle.bm_due.specs.Worked.{asks, at_step, idles, script_names, unit_taken}
use Rattle.bm_due.specs.declared.planned.Due.{Due}
use Rattle.bm_plan.specs.Position.{Position}

abbrev pub two_planned : List AtLine
two_planned = at_step 3 1 1 ∷ at_step 3 2 2 ∷ []

-- where these haven't run, and these run
abbrev pub at_position : List AtLine → List Due → Position
at_position left running =
    record {
      names = script_names;
      lines = two_planned;
      plan = record { left = left; ended = false };
      running = running;
    }

abbrev pub handler_g : Due
handler_g = record { script = record { 0 = 2 }; level = 2 }

-- the second one of the text has begun, and has gone back
abbrev pub g_begun : Log
g_begun = unit_taken ++ (2, entry.Handler (codes "g")) ∷ []

abbrev pub g_back : Log
g_back = unit_taken ++ idles (codes "g") 2

-- both have run, the first one in three steps
abbrev pub both_back : Log
both_back = g_back ++ asks (codes "h") 1
