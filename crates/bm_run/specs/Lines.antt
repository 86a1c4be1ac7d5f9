-- Stretches of the run of a processor.
use Rattle.std.specs.Prelude.{ℕ, ◌+◌, Bool, true, false, List, Option, Some, None, IsSome, sum_by, slice_get}
use Rattle.bm_world.specs.LivingState.{LivingState}
use Rattle.bm_world.specs.ToldLiving.{knows_living}
use Rattle.std.specs.List.{All}
use Rattle.bm_lang.specs.declared.scenario.RunLine.{RunLine}
use Rattle.bm_lang.specs.declared.scenario.Parts.{Parts}
use Rattle.bm_lang.specs.declared.scenario.Script.{Script}
use Rattle.bm_lang.specs.Limits.{cost_on, script_cost}
use Rattle.bm_law_work.specs.Parts.{Part, Nothing}
use Rattle.bm_law_work.specs.Grown.{GrewBy}
use Rattle.bm_law_scenario.specs.Opened.{opened_classes}
use Rattle.bm_law_scenario.specs.Works.{WorkBehind}
use Rattle.bm_exec_levels.specs.AtProcessor.{lists_of, log_of}
use Rattle.bm_exec_levels.specs.Ordinary.{Ordinary, words_of}
use Rattle.bm_exec_levels.specs.Ready.{asked_of}
use Rattle.bm_exec_levels.specs.declared.processor.Processor.{Processor}

-- how many statements some lines run on processor p at most
abbrev pub lines_cost : ℕ → List Script → List RunLine → ℕ
lines_cost p scripts runs =
    sum_by (λ (r : RunLine). cost_on p r.processor (script_cost (slice_get scripts r.script.0)))
    runs

-- how many objects, works and words of plain sections were asked for, and how many more handlers that haven't run may ask for
abbrev pub asks_in : Parts → Processor LivingState → ℕ
asks_in s m = asked_of knows_living s m + words_of knows_living m

-- each of these lines names a declared script
abbrev pub AreDeclared : Parts → List RunLine → Type 0
AreDeclared s lines = All (λ (r : RunLine). IsSome (slice_get s.scripts r.script.0)) lines

-- the classes for which deferred work runs, if it runs
abbrev pub when_on : Bool → List ℕ → Option (List ℕ)
when_on true classes = Some classes
when_on false classes = None

abbrev pub works_for : Parts → Option (List ℕ)
works_for s = when_on s.deferred (opened_classes s.types)

-- what stands behind a script: the work of each of these classes, and works until no flag is up; or nothing
abbrev pub BehindScript : Option (List ℕ) → Part
BehindScript None = Nothing
BehindScript (Some classes) = WorkBehind classes

-- The log, where it is told, has grown by such a part, among which handlers may stand, by what ordinary code leaves.
pub record Wrote (P : Part) (before now : Processor LivingState) : Type 0 where
  pub grew : GrewBy P (lists_of before) (log_of before) (log_of now)
  pub ordinary : Ordinary knows_living before now
