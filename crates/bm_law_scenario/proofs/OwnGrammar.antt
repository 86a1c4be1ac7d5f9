-- What a processor's log is made of, while no handler runs and no deferred work does: entries of one level. A lawful log of
-- ordinary code alone, without deferred work, is made so. (This project's own.)
use Rattle.std.specs.Prelude.{◌≡◌, ℕ, ◌+◌, List, [], ◌∷◌, ◌++◌, Some, slice_get}
use Rattle.bm_journal.specs.declared.entry.Entry.{Entry}
use Rattle.bm_journal.specs.declared.entry.Entry.TheVariants as entry
use Rattle.bm_lang.specs.declared.scenario.RunLine.{RunLine}
use Rattle.bm_lang.specs.declared.scenario.Parts.{Parts}
use Rattle.bm_lang.specs.declared.scenario.Script.{Script}
use Rattle.bm_law.specs.State.{State, seven_lists}
use Rattle.bm_law.specs.Alone.{at_level}
use Rattle.bm_law.specs.Lists.{Log, Leaves}
use Rattle.bm_law.specs.Null.{NullLaw}
use Rattle.bm_law.specs.Worked.{Emptied}
use Rattle.bm_law_scenario.specs.Declared.{declared_in}
use Rattle.bm_law_scenario.specs.Held.{Names, no_names, OwnsNothing}
use Rattle.bm_law_scenario.specs.Fills.{AreFills}
use Rattle.bm_law_scenario.specs.Opened.{opened_classes}
use Rattle.bm_law_lives.specs.SectionWords.{SectionWords}
use Rattle.bm_law_scenario.proofs.OwnRuns.{RunsBlock}
use Rattle.bm_law_scenario.specs.Closing.{close_of, SweepOf}
use Rattle.bm_law_scenario.specs.Grammar.{lines_of, section_of, starts_inside, stock_for}

-- entries of ordinary code, which is level 0
abbrev pub ordinary : List Entry → Log
ordinary own = at_level 0 own

-- A script in its section, whose word is w inside: its block runs from names that hold nothing to names that
-- own nothing.
pub record IsScript (s : Parts) (script : Script) (w : ℕ) (own : List Entry) : Type 0 where
  pub part : List Entry
  pub after : Names
  pub own_is : own ≡ entry.Script script.name ∷ entry.In (section_of script.kind) w ∷ part ++ entry.Out (section_of script.kind) (w + 1) ∷ entry.Done script.name ∷ []
  pub runs : RunsBlock (declared_in s) (starts_inside script) script.body no_names part after
  pub owns_nothing : (x : List ℕ) → OwnsNothing (after x)

-- the scripts that these lines run, in order
abbrev pub AreScripts : Parts → List RunLine → List Entry → Type 0
AreScripts s [] own = own ≡ []
AreScripts s (r ∷ rs) own =
    (script : Script) × (slice_get s.scripts r.script.0 ≡ Some script) ×
    ((w : ℕ) × (one two : List Entry) × (own ≡ one ++ two) × IsScript s script w one × AreScripts s rs two)

-- a sweep where these units stand in the class's lists, and what follows
abbrev pub Swept : ℕ → List ℕ → (List Entry → Type 0) → List Entry → Type 0
Swept c [] Rest own = Rest own
Swept c (u ∷ us) Rest own = (one two : List Entry) × (own ≡ one ++ two) × SweepOf c (u ∷ us) one × Rest two

-- the end of a processor whose lists are these: a sweep of each class that holds a unit
abbrev pub AreSweeps : State ℕ → List ℕ → List Entry → Type 0
AreSweeps s [] own = own ≡ []
AreSweeps s (c ∷ cs) own = Swept c (seven_lists (s.rows c)) (AreSweeps s cs) own

-- The log of processor p, while there is one: the opening, its scripts, and the closing, which sweeps what
-- stands in the lists by then.
pub record IsLog (s : Parts) (p : ℕ) (own : List Entry) : Type 0 where
  pub fills : List Entry
  pub scripts : List Entry
  pub sweeps : List Entry
  pub own_is : own ≡ fills ++ (scripts ++ (entry.Ended ∷ close_of p ++ sweeps))
  pub are_fills : AreFills (opened_classes s.types) (stock_for s p) fills
  pub are_scripts : AreScripts s (lines_of p s.runs) scripts
  pub before : State ℕ
  pub before_is : Leaves p (ordinary (fills ++ scripts)) before
  pub are_sweeps : AreSweeps before (opened_classes s.types) sweeps

-- A log of processor p: what it is made of, the words of its sections, the lists that it leaves, in which nothing stands at its
-- end, and when its allocations answer null.
pub record LawfulLog (s : Parts) (p : ℕ) (log : Log) : Type 0 where
  pub own : List Entry
  pub log_is : log ≡ ordinary own
  pub is_log : IsLog s p own
  pub words : SectionWords log
  pub last : State ℕ
  pub lists : Leaves p log last
  pub emptied : Emptied last
  pub null : NullLaw p log
