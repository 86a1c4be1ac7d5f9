-- What a processor's log is made of. (This project's own.)
use Rattle.std.specs.Prelude.{◌≡◌, ℕ, ◌+◌, Bool, true, false, List, [], ◌∷◌, ◌++◌, Some, nat_eq, slice_get}
use Rattle.std.specs.List.{filter}
use Rattle.bm_journal.specs.declared.ids.Domain.{Domain}
use Rattle.bm_journal.specs.declared.ids.Domain.TheVariants.{Plain, Tracing}
use Rattle.bm_journal.specs.declared.entry.Entry.TheVariants as entry
use Rattle.bm_lang.specs.declared.scenario.RunLine.{RunLine}
use Rattle.bm_lang.specs.declared.scenario.Parts.{Parts}
use Rattle.bm_lang.specs.declared.scenario.Script.{Script}
use Rattle.bm_lang.specs.declared.scenario.ScriptKind.{ScriptKind}
use Rattle.bm_lang.specs.declared.scenario.ScriptKind.TheVariants as kind
use Rattle.bm_law.specs.State.{opening}
use Rattle.bm_law.specs.Lists.{Log, after}
use Rattle.bm_law_work.specs.Parts.{Part, Nothing, Stand, Say, Then, If}
use Rattle.bm_law_scenario.specs.Declared.{declared_in}
use Rattle.bm_law_scenario.specs.Held.{Names, no_names, OwnsNothing}
use Rattle.bm_page.specs.Stock.{Stock}
use Rattle.bm_law_scenario.specs.Fills.{AreFills, opening_stock}
use Rattle.bm_law_scenario.specs.Opened.{opened_classes}
use Rattle.bm_law_scenario.specs.Works.{UntilDown, WorkBehind}
use Rattle.bm_law_scenario.specs.Runs.{RunsBlock}
use Rattle.bm_law_scenario.specs.Closing.{Closing}

-- the deferred work behind each statement of a script, and behind the script: with `deferred off` none runs
abbrev pub behind_statement : Parts → Part
behind_statement s = If s.deferred (UntilDown (opened_classes s.types)) Nothing

abbrev pub behind_script : Parts → Part
behind_script s = If s.deferred (WorkBehind (opened_classes s.types)) Nothing

-- The section that a script runs in from its beginning to its end: a plain one, or, where it may sleep, a tracing one. (In the kernel
-- __bpf_prog_enter_recur takes rcu_read_lock, and __bpf_prog_enter_sleepable_recur rcu_read_lock_trace: kernel/bpf/trampoline.c.)
abbrev pub section_of : ScriptKind → Domain
section_of kind.Sleepable = Tracing
section_of _ = Plain

-- whether that is a plain one, so that a `section` in it is an inner one
abbrev pub is_plain : Domain → Bool
is_plain Plain = true
is_plain Tracing = false

abbrev pub starts_inside : Script → Bool
starts_inside script = is_plain (section_of script.kind)

-- A script's block runs from names that hold nothing to names that own nothing.
abbrev pub IsBody : Parts → Script → Part
IsBody s script l part =
    (names : Names)
    × RunsBlock (declared_in s) 0 (starts_inside script) (behind_statement s) script.body no_names
    names l part
    × ((x : List ℕ) → OwnsNothing (names x))

-- A script in its section, whose word is w inside, and the deferred work after it.
abbrev pub IsScript : Parts → Script → ℕ → Part
IsScript s script w =
    Then (Stand 0 (entry.Script script.name ∷ entry.In (section_of script.kind) w ∷ []))
    (Then (IsBody s script)
    (Then (Stand 0 (entry.Out (section_of script.kind) (w + 1) ∷ entry.Done script.name ∷ []))
    (behind_script s)))

-- The scripts that these lines run, in order. Which word each section has, the words of the whole log tell: handlers in the
-- deferred work behind a script have sections of their own.
abbrev pub AreScripts : Parts → List RunLine → Part
AreScripts s [] l part = Nothing l part
AreScripts s (r ∷ rs) l part =
    (script : Script) × (slice_get s.scripts r.script.0 ≡ Some script) × (w : ℕ)
    × Then (IsScript s script w) (AreScripts s rs) l part

-- the `run` lines of processor p
abbrev pub lines_of : ℕ → List RunLine → List RunLine
lines_of p runs = filter (λ r. nat_eq r.processor p) runs

-- the stock that processor p opens with
abbrev pub stock_for : Parts → ℕ → Stock
stock_for s p = opening_stock (opened_classes s.types) s.pages p

-- the opening of a cache for each class, and the scripts of processor p
abbrev pub Front : Parts → ℕ → Part
Front s p =
    Then (Say 0 (AreFills (opened_classes s.types) (stock_for s p)))
    (AreScripts s (lines_of p s.runs))

-- The log of processor p, while there is one: the opening, its scripts, and the closing.
pub record IsLog (s : Parts) (p : ℕ) (log : Log) : Type 0 where
  pub front : Log
  pub closing : Log
  pub log_is : log ≡ front ++ closing
  pub is_front : Front s p (opening p) front
  pub is_closing :
      Closing (declared_in s) p (opened_classes s.types) front (after (opening p) front) closing
