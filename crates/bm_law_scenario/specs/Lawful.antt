-- When a journal is lawful for a scenario, as far as its forms have laws by now. (This project's own.)
use Rattle.std.specs.Prelude.{◌≡◌, ℕ, Bool, true, false, List, Some, length, map, slice_get}
use Rattle.std.specs.List.{filter}
use Rattle.bm_journal.specs.declared.journal.Journal.{Journal}
use Rattle.bm_journal.specs.declared.past.Past.{Past}
use Rattle.bm_journal.specs.Totals.{totals_of}
use Rattle.bm_lang.specs.declared.scenario.Parts.{Parts}
use Rattle.bm_lang.specs.declared.scenario.Script.{Script}
use Rattle.bm_lang.specs.declared.scenario.MapDeclaration.{MapDeclaration}
use Rattle.bm_lang.specs.declared.scenario.MapKind.{MapKind}
use Rattle.bm_lang.specs.declared.scenario.MapKind.TheVariants.{Slot}
use Rattle.bm_lang.specs.declared.scenario.TypeDeclaration.{TypeDeclaration}
use Rattle.bm_law.specs.State.{State}
use Rattle.bm_law.specs.Lists.{Log, Leaves}
use Rattle.bm_law.specs.Null.{NullLaw}
use Rattle.bm_law.specs.Worked.{Emptied}
use Rattle.bm_due.specs.Standing.{HandlersStand}
use Rattle.bm_law_scenario.specs.Opened.{opened}
use Rattle.bm_law_scenario.specs.Grammar.{IsLog}
use Rattle.bm_law_scenario.specs.Handlers.{HandlersDone}
use Rattle.bm_law_scenario.specs.Parcels.{ParcelLaw, sends_alone}
use Rattle.bm_law_lives.specs.Short.{JournalShort}
use Rattle.bm_law_lives.specs.SectionWords.{SectionWords}

-- The heading names what the scenario declares.
pub record HeadingOf (s : Parts) (j : Journal) : Type 0 where
  pub processors : j.processors ≡ s.processors
  pub pages : j.pages ≡ s.pages
  pub types : j.types ≡ map (λ (t : TypeDeclaration). t.name) s.types
  pub maps : j.maps ≡ map (λ (m : MapDeclaration). m.name) s.maps
  pub scripts : j.scripts ≡ map (λ (x : Script). x.name) s.scripts
  pub classes : j.classes ≡ opened s.types

-- A log of processor p: handlers stand in it exactly where they are due, each of which left its phrase; what it is made of
-- besides; the words of its sections; the lists that it leaves, in which nothing stands at its end; when its allocations
-- answer null; and which parcels it receives, where it alone sends any.
pub record LawfulLog (s : Parts) (p : ℕ) (log : Log) : Type 0 where
  pub handlers : HandlersStand s p log
  pub phrases : HandlersDone s p log
  pub is_log : IsLog s p log
  pub words : SectionWords log
  pub last : State ℕ
  pub lists : Leaves p log last
  pub emptied : Emptied last
  pub null : NullLaw p log
  pub parcels : sends_alone s ≡ true → ParcelLaw p log

-- a slot is none of the lists and trees
abbrev pub is_graph_kind : MapKind → Bool
is_graph_kind Slot = false
is_graph_kind _ = true

-- the names of the lists and trees that are declared, in order
abbrev pub graph_names : List MapDeclaration → List (List ℕ)
graph_names maps =
    map (λ (m : MapDeclaration). m.name)
    (filter (λ (m : MapDeclaration). is_graph_kind m.kind) maps)

-- A journal: its heading; its logs, of which there is one a processor; where its caches and refills got fewer units than they
-- wanted; a history for each list and tree; and its totals.
pub record LawfulLogs (s : Parts) (j : Journal) : Type 0 where
  pub heading : HeadingOf s j
  pub count : length j.logs ≡ s.processors
  pub logs : (p : ℕ) (log : Log) → slice_get j.logs p ≡ Some log → LawfulLog s p log
  pub short : JournalShort j.pages j.logs
  pub graphs : map (λ (h : List ℕ × List Past). h.0) j.graphs ≡ graph_names s.maps
  pub totals : j.totals ≡ totals_of j.logs
