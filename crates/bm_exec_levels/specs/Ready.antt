-- What handlers need of a processor. (This project's own.)
use Rattle.std.specs.Prelude.{◌≡◌, ◌≤◌, ◌<◌, ◌+◌, ◌*◌, ◌%◌, ◌^◌, ℕ, true, List, All, Some, length, if◌then◌else◌, slice_get, sum_by, vec_capacity}
use Rattle.std.specs.List.{list_all}
use Rattle.bm_journal.specs.declared.ids.Domain.{Domain}
use Rattle.bm_journal.specs.declared.ids.Domain.TheVariants.{Plain}
use Rattle.bm_lang.specs.declared.scenario.AtLine.{AtLine}
use Rattle.bm_lang.specs.declared.scenario.Parts.{Parts}
use Rattle.bm_lang.specs.declared.scenario.Script.{Script}
use Rattle.bm_lang.specs.declared.scenario.ScriptKind.TheVariants as kind
use Rattle.bm_lang.specs.Limits.{script_cost}
use Rattle.bm_check.specs.Scripts.{AllAccepted}
use Rattle.bm_grace.specs.Known.{Known, side}
use Rattle.bm_law_scenario.specs.Declared.{declared_in}
use Rattle.bm_exec.specs.Bindings.{binds_among}
use Rattle.bm_exec.specs.Depth.{block_fits}
use Rattle.bm_exec.specs.Named.{declared_of}
use Rattle.bm_exec.specs.Seen.{has_name}
use Rattle.bm_exec.specs.Runnable.{Classes, can_run_block}
use Rattle.bm_exec.specs.declared.names.NameTable.{NameTable}
use Rattle.bm_exec_levels.specs.Slotted.{AreStocked}
use Rattle.bm_exec_levels.specs.declared.processor.Processor.{Processor}
use Rattle.bm_exec_levels.specs.declared.program.Program.{Program}
use Rattle.bm_grace.specs.declared.grace.Knows.{Ghosts as Knows}

-- the handlers that haven't run
abbrev pub left_of : {W : Type 0} → Processor W → List AtLine
left_of m = m.handlers.planned.left

-- how many objects, calls and works some planned handlers may ask for: three for each statement that they run at most
abbrev pub left_cost : Parts → List AtLine → ℕ
left_cost s lines =
    sum_by (λ (line : AtLine). 3 * script_cost (slice_get s.scripts line.script.0)) lines

-- A line plans a handler script of the scenario.
pub record IsHandlerLine (s : Parts) (line : AtLine) : Type 0 where
  pub script : Script
  pub found : slice_get s.scripts line.script.0 ≡ Some script
  pub handles : script.kind ≡ kind.Handler

-- each name that some of these scripts bind is in the table
abbrev pub BindsAll : List Script → NameTable → Type 0
BindsAll scripts t = list_all (λ (x : Script). binds_among (has_name t) x.body) scripts ≡ true

-- A program whose scripts can run: its types and maps are the scenario's, each type with its class, and each script is accepted, nests at most
-- sixteen blocks, and has only statements that run so far.
pub record IsProgram (p : Program) : Type 0 where
  pub types : p.types.declared.now ≡ p.scenario.now.types
  pub maps : p.types.maps.now ≡ p.scenario.now.maps
  pub classes : Classes p.types.declared.now p.types.classes.now
  pub accepted : AllAccepted p.scenario.now
  pub fits :
      (i : ℕ) (x : Script) → slice_get p.scenario.now.scripts i ≡ Some x
      → block_fits 16 x.body ≡ true
  pub can :
      (i : ℕ) (x : Script) → slice_get p.scenario.now.scripts i ≡ Some x
      → can_run_block (declared_of p.types) x.body ≡ true

module _ {W : Type 0} (knows : Knows W) where
  -- what its side knows
  abbrev pub known_of : Processor W → Known
  known_of m = knows.known m.side

  -- the word of its section of a domain
  abbrev pub word_of : Domain → Processor W → ℕ
  word_of d m = (side d (known_of m)).word

  -- how many objects and works were asked for, and how many those handlers may still ask for that haven't run
  abbrev pub asked_of : Parts → Processor W → ℕ
  asked_of s m = (known_of m).objects.asked + m.settled + left_cost s (left_of m)

  -- A processor on which each handler that is planned can run: its caches are those of its side's processor; a handler's script is
  -- one of the program's; there is a table for each level at which none runs, with all names that a script may bind, and room for
  -- one handler of each level; few enough objects, works and sections are asked for; it is known whether it is in a plain section; each call that its log
  -- has was counted on its side; and what lives, and what slots hold, is as the program's types and maps have it.
  pub record IsReady (p : Program) (m : Processor W) : Type 0 where
    pub fits : IsProgram p
    pub here : m.caches.processor ≡ (known_of m).grace.processor
    pub scripts : m.handlers.scripts ≡ length p.scenario.now.scripts
    pub planned : All (IsHandlerLine p.scenario.now) (left_of m)
    pub bound : All (BindsAll p.scenario.now.scripts) m.tables.items
    pub tables : length m.tables.items + length m.running.items ≡ 3
    pub room_running : 3 ≤ vec_capacity m.running
    pub room_tables : 3 ≤ vec_capacity m.tables
    pub asks : asked_of p.scenario.now m < 2 ^ 22
    pub words : word_of Plain m + 2 * length (left_of m) < 2 ^ 28
    pub inside : word_of Plain m % 2 ≡ (if m.inside then 1 else 0)
    pub calls : m.calls ≤ (known_of m).objects.asked
    pub stocked : AreStocked (declared_in p.scenario.now) (known_of m).objects
