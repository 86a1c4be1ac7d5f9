-- What the handlers of a log leave. (A handler stands for an interrupt of the kernel. That it runs as a whole in a section, its
-- own where there is none, and owns nothing at its end, is this project's own.)
use Rattle.std.specs.Prelude.{◌≡◌, ℕ, ◌+◌, Bool, true, false, ◌&&◌, if◌then◌else◌, List, [], ◌∷◌, ◌++◌, Some, slice_get}
use Rattle.bm_journal.specs.declared.ids.Domain.TheVariants.{Plain}
use Rattle.bm_journal.specs.declared.entry.Entry.{Entry}
use Rattle.bm_journal.specs.declared.entry.Entry.TheVariants as entry
use Rattle.bm_lang.specs.declared.scenario.Parts.{Parts}
use Rattle.bm_lang.specs.declared.scenario.Script.{Script}
use Rattle.bm_lang.specs.declared.scenario.ScriptKind.TheVariants as kind
use Rattle.bm_law.specs.Lists.{Leaves, Log}
use Rattle.bm_law.specs.Spans.{own_entries}
use Rattle.bm_law.specs.State.{State}
use Rattle.bm_law_work.specs.Parts.{Nothing}
use Rattle.bm_law_scenario.specs.Declared.{declared_in}
use Rattle.bm_law_scenario.specs.Held.{Names, no_names, OwnsNothing}
use Rattle.bm_law_scenario.specs.Runs.{Enclosed, Run, RunsAlone, RunsBlock}
use Rattle.bm_law_lives.specs.SectionWords.{is_outside, word_after}

-- These entries, in a plain section of their own where the word before is that of none, and as they stand where it is that of
-- one.
abbrev pub enclosed : ℕ → List Entry → List Entry
enclosed w own =
    if is_outside w then entry.In Plain (w + 1) ∷ own ++ entry.Out Plain (w + 2) ∷ [] else own

-- What a handler of this name leaves between its begin and its end, where the plain section's word was w before: the name is
-- that of a handler script, whose block runs from names that hold nothing to names that own nothing. No deferred work runs
-- behind its statements.
pub record HandlerPhrase (s : Parts) (name : List ℕ) (w : ℕ) (own : List Entry) : Type 0 where
  pub index : ℕ
  pub script : Script
  pub found : slice_get s.scripts index ≡ Some script
  pub called : script.name ≡ name
  pub handles : script.kind ≡ kind.Handler
  pub part : List Entry
  pub after : Names
  pub own_is : own ≡ enclosed w part
  pub runs : RunsAlone (declared_in s) script.body no_names part after
  pub owns_nothing : (x : List ℕ) → OwnsNothing (after x)

-- the entry neither begins a handler nor ends one
abbrev pub is_within : Entry → Bool
is_within (entry.Handler name) = false
is_within (entry.Back name) = false
is_within _ = true

abbrev pub all_within : List Entry → Bool
all_within [] = true
all_within (e ∷ es) = is_within e && all_within es

-- A part of a log from the begin of a handler to its end, and what stands before and behind: its level, its name, and the name
-- by which it ends. The entries of its level between the two are its own.
pub record Handled (log : Log) : Type 0 where
  pub level : ℕ
  pub name : List ℕ
  pub back : List ℕ
  pub front : Log
  pub part : Log
  pub rest : Log
  pub log_is : log ≡ front ++ (level, entry.Handler name) ∷ part ++ (level, entry.Back back) ∷ rest
  pub within : all_within (own_entries level part) ≡ true

-- a run of level l, in a plain section of its own or in none, where the plain section's word was w before
abbrev pub InSection : (outside : Bool) → (l w : ℕ) → Run → Run
InSection true l w run names after = Enclosed l run (w + 1) names after
InSection false l w run names after = run names after

-- What a handler of this level and name leaves where it stands, with whatever handlers of higher levels within it: from these lists
-- its block runs, from names that hold nothing to names that own nothing, in a plain section of its own where the plain section's word
-- was that of none before.
pub record HandlerRun (s : Parts) (l : ℕ) (name : List ℕ) (w : ℕ) (lists : State ℕ) (part : Log) :
    Type 0 where
  pub index : ℕ
  pub script : Script
  pub found : slice_get s.scripts index ≡ Some script
  pub called : script.name ≡ name
  pub handles : script.kind ≡ kind.Handler
  pub after : Names
  pub runs :
      InSection (is_outside w) l w (RunsBlock (declared_in s) l true Nothing script.body) no_names
      after lists part
  pub owns_nothing : (x : List ℕ) → OwnsNothing (after x)

-- the same, from the lists that a log of processor p leaves which ends with the handler's begin
abbrev pub RunsThere : Parts → (p l : ℕ) → (name : List ℕ) → (front part : Log) → Type 0
RunsThere s p l name front part =
    (lists : State ℕ) → Leaves p (front ++ (l, entry.Handler name) ∷ []) lists
    → HandlerRun s l name (word_after Plain front) lists part

-- In a log of processor p each handler that has gone back went back by its name, left its phrase, and ran from the lists that were there.
-- Others may still run.
abbrev pub HandlersDone : Parts → ℕ → Log → Type 0
HandlersDone s p log =
    (h : Handled log) → (h.back ≡ h.name)
    × HandlerPhrase s h.name (word_after Plain h.front) (own_entries h.level h.part)
    × RunsThere s p h.level h.name h.front h.part

-- whole handlers of one level, one after the other, by their entries
pub data AreHandlers (s : Parts) : List Entry → Type 0 where
  none : AreHandlers s []
  more :
      {own rest : List Entry} (name : List ℕ) (w : ℕ) → HandlerPhrase s name w own
      → AreHandlers s rest → AreHandlers s (entry.Handler name ∷ own ++ entry.Back name ∷ rest)
