-- The closing of all processors on one thread: what a step of one of them needs, and what it makes. (This project's own.)
use Rattle.std.specs.Prelude.{◌≡◌, ◌≤◌, ◌<◌, ◌+◌, ◌*◌, ◌%◌, ◌^◌, ◌++◌, ℕ, zero, suc, false, true, List, [], ◌∷◌, Option, None, Some, get_or, length, map, set, slice_get}
use Rattle.std.specs.List.{concat}
use Rattle.bm_journal.specs.declared.ids.Domain.{Domain}
use Rattle.bm_journal.specs.declared.past.Past.{Past}
use Rattle.bm_journal.specs.Recording.{Kept as Recorded}
use Rattle.bm_law.specs.Alone.{AllAt}
use Rattle.bm_law.specs.Lists.{Log}
use Rattle.bm_law.specs.Stands.{times}
use Rattle.bm_law.specs.State.{seen, seven_lists}
use Rattle.bm_law_logs.specs.SweepsTold.{SweepsTold}
use Rattle.bm_law_order.specs.Graphs.{standing_from}
use Rattle.bm_law_order.specs.Orders.{Order}
use Rattle.bm_law_order.specs.Tie.{Tied}
use Rattle.bm_law_work.specs.Parts.{Part}
use Rattle.bm_grace.specs.AtRest.{AreEven, IsDriven}
use Rattle.bm_grace.specs.Known.{side as of_side}
use Rattle.bm_grace.specs.PlainState.{domain_in, side_in}
use Rattle.bm_post.specs.PostState.{told_in}
use Rattle.bm_cache.specs.Shown.{shown}
use Rattle.bm_cache.specs.Span.{Fine}
use Rattle.bm_cache.specs.Tokens.{number_of}
use Rattle.bm_cache.specs.declared.caches.Caches.{Caches}
use Rattle.bm_work.specs.DeskTests.{tests_by}
use Rattle.bm_work.specs.Goes.{Alike}
use Rattle.bm_world.specs.GraphItems.{history_told}
use Rattle.bm_world.specs.Graphs.{items_in}
use Rattle.bm_world.specs.LivingState.{LivingState, known_living, rights_living}
use Rattle.bm_world.specs.Told.{told_boxes}
use Rattle.bm_world.specs.ToldLiving.{LivingDoes, knows_living}
use Rattle.bm_closing.specs.Closes.{ClosesBy}
use Rattle.bm_closing.specs.Crews.{StepsBelow}
use Rattle.bm_closing.specs.EndsBegun.{EndsBegun}
use Rattle.bm_closing.specs.declared.crew.Phase.{Phase}
use Rattle.bm_closing.specs.declared.crew.Phase.TheVariants.{Ends, Sweeps}
use Rattle.bm_exec_levels.specs.AtPolls.{DoesHere, polled}
use Rattle.bm_exec_levels.specs.Ready.{asked_of}
use Rattle.bm_exec_levels.specs.Slotted.{in_hands}
use Rattle.bm_exec_levels.specs.Sound.{Sound}
use Rattle.bm_exec_levels.specs.declared.kept.Kept.{Kept}
use Rattle.bm_exec_levels.specs.declared.program.Program.{Program}
use Rattle.bm_law_scenario.specs.Declared.{declared_in}
use Rattle.bm_run.specs.Asked.{in_its_turn}
use Rattle.bm_run.specs.Between.{GivesFirst}
use Rattle.bm_run.specs.LogsSoFar.{LogsSoFar}
use Rattle.bm_run.specs.SoFar.{at_turn}

-- ---- the world

-- no processor is in a section
abbrev pub AllOutside : LivingState → Type 0
AllOutside world =
    (d : Domain) → AreEven world.side.grace.processors (domain_in d world.side.grace).words

-- each period in progress is that of one of the processors
abbrev pub AllDriven : LivingState → Type 0
AllDriven world = (d : Domain) → IsDriven world.side.grace.processors (domain_in d world.side.grace)

-- no period is in progress
abbrev pub AllDone : LivingState → Type 0
AllDone world = (d : Domain) → (domain_in d world.side.grace).number % 2 ≡ 0

-- processor p has none in progress
abbrev pub NoneBegun : ℕ → LivingState → Type 0
NoneBegun p world = (d : Domain) → (side_in p (domain_in d world.side.grace)).number ≡ 0

-- it may still begin a tracing period for each of these classes
abbrev pub HasRoom : List ℕ → ℕ → LivingState → Type 0
HasRoom classes p world = length classes ≤ (side_in p world.side.grace.tracing).begins

-- a call of ordinary code may begin on these caches and that side
abbrev pub FineHere : Caches Recorded → LivingState → Type 0
FineHere caches side =
    Fine (λ (r : Recorded). r.told) (λ r. r.counted) (tests_by (rights_living side))
    side.side.grace.processors 0 caches

-- ---- a step of one processor

-- What a processor is whose scripts have ended, on its side: this is its log, and a call of ordinary code may begin.
pub record IsResting (kept : Kept) (side : LivingState) (log : Log) : Type 0 where
  pub told : kept.caches.recorder.told ≡ Some log
  pub here : kept.caches.processor ≡ side.side.grace.processor
  pub fine : FineHere kept.caches side
  pub outside : AllOutside side

-- .. and of each phase what else it needs
abbrev pub NeedsFor : Phase → List ℕ → LivingState → Type 0
NeedsFor Ends classes side = Unit {0}
NeedsFor Sweeps classes side = AllDone side × HasRoom classes side.side.grace.processor side

-- A step went from what a processor kept and its side to those, and its log, which was this one, has grown by such a part of ordinary
-- code alone, which is tied to the side.
pub record Stepped (P : Part) (kept : Kept) (side : LivingState) (log : Log) (then : Kept)
    (now : LivingState) : Type 0 where
  pub added : Log
  pub tied :
      Tied (polled knows_living true log side) (DoesHere knows_living) log side 0 [] []
      (log ++ added) now
  pub said : P (seen number_of (shown kept.caches)) added
  pub at : AllAt 0 added
  pub rests : IsResting then now (log ++ added)
  pub driven : AllDriven now
  pub alike : Alike (known_living side) (known_living now)
  pub does : ClosesBy LivingDoes side now
  pub none : NoneBegun now.side.grace.processor now

-- The periods that it had in progress ended.
pub record EndsOf (classes : List ℕ) (kept : Kept) (side : LivingState) (log : Log) (then : Kept)
    (now : LivingState) : Type 0 where
  pub step : Stepped (EndsBegun (known_living side)) kept side log then now
  pub lists : shown then.caches ≡ shown kept.caches
  pub room :
      HasRoom classes side.side.grace.processor side → HasRoom classes now.side.grace.processor now

-- These classes were swept, with what waited in its inboxes.
pub record SweepsOf (classes : List ℕ) (kept : Kept) (side : LivingState) (log : Log) (then : Kept)
    (now : LivingState) : Type 0 where
  pub step : Stepped (SweepsTold classes (told_in side.side.post)) kept side log then now
  pub empty : (c : ℕ) → 0 < times c classes → seven_lists ((shown then.caches).rows c) ≡ []
  pub others :
      (c : ℕ) → times c classes ≡ 0 → (shown then.caches).rows c ≡ (shown kept.caches).rows c
  pub boxes : (c : ℕ) → 0 < times c classes → told_in now.side.post c ≡ []
  pub done : AllDone now

abbrev pub StepOf : Phase → List ℕ → Kept → LivingState → Log → Kept → LivingState → Type 0
StepOf Ends classes kept side log then now = EndsOf classes kept side log then now
StepOf Sweeps classes kept side log then now = SweepsOf classes kept side log then now

-- ---- all of them

-- What they keep, by processor, and the world that they share, while none takes a step.
pub record Gathered : Type 0 where
  pub processors : ℕ
  pub places : List (Option Kept)
  pub world : Option LivingState
  pub classes : List ℕ

-- .. of so many processors as there are places
abbrev pub gathered_with : List (Option Kept) → LivingState → List ℕ → Gathered
gathered_with places world classes =
    record { processors = length places; places = places; world = Some world; classes = classes }

-- processor p keeps this
abbrev pub Keeps : List (Option Kept) → ℕ → Kept → Type 0
Keeps places p kept = slice_get places p ≡ Some (Some kept)

-- the log that is told, if one is
abbrev pub told_log : Option Log → Log
told_log None = []
told_log (Some log) = log

-- processor q tells this log
abbrev pub TellsLog : List (Option Kept) → ℕ → Log → Type 0
TellsLog places q log = (kept : Kept) × Keeps places q kept × (kept.caches.recorder.told ≡ Some log)

-- The logs that so many processors tell have an order that leads to this world; no processor is in a section there.
pub record AreTogether (n : ℕ) (places : List (Option Kept)) (world : LivingState) : Type 0 where
  pub many : length places ≡ n
  pub processors_are : world.side.grace.processors ≡ n
  pub pages : ℕ
  pub order : Order
  pub logs : List Log
  pub so_far : LogsSoFar n pages order logs world
  pub logs_are : (q : ℕ) → q < n → TellsLog places q (get_or logs q [])
  pub outside : AllOutside world
  pub driven : AllDriven world

-- What processor p has of its own before and after its steps.
abbrev pub OwnBefore : Phase → List ℕ → ℕ → Kept → LivingState → Type 0
OwnBefore Ends classes p kept world = HasRoom classes p world
OwnBefore Sweeps classes p kept world = HasRoom classes p world × NoneBegun p world × AllDone world

-- nothing stands in its lists, and nothing waits in its inboxes of these classes
pub record HoldsNone (classes : List ℕ) (p : ℕ) (kept : Kept) (world : LivingState) : Type 0 where
  pub none : NoneBegun p world
  pub lists : (c : ℕ) → seven_lists ((shown kept.caches).rows c) ≡ []
  pub boxes : (c : ℕ) → 0 < times c classes → told_boxes world.side.post p c ≡ []

abbrev pub OwnAfter : Phase → List ℕ → ℕ → Kept → LivingState → Type 0
OwnAfter Ends classes p kept world = HasRoom classes p world × NoneBegun p world
OwnAfter Sweeps classes p kept world = HoldsNone classes p kept world

-- Processor p is among them, with what it has of its own; in its lists stands nothing of other classes than these.
pub record IsAmong (Own : List ℕ → ℕ → Kept → LivingState → Type 0) (g : Gathered) (p : ℕ) :
    Type 0 where
  pub world : LivingState
  pub world_is : g.world ≡ Some world
  pub together : AreTogether g.processors g.places world
  pub there : p < g.processors
  pub kept : Kept
  pub log : Log
  pub keeps : Keeps g.places p kept
  pub rests : IsResting kept (at_turn p world) log
  pub unused : (c : ℕ) → times c g.classes ≡ 0 → seven_lists ((shown kept.caches).rows c) ≡ []
  pub own : Own g.classes p kept world

-- Processor p took its step of a phase: only its place changed, and the world.
pub record TookStep (phase : Phase) (p : ℕ) (before now : Gathered) : Type 0 where
  pub there : p < before.processors
  pub world : LivingState
  pub world_is : before.world ≡ Some world
  pub kept : Kept
  pub log : Log
  pub keeps : Keeps before.places p kept
  pub told : kept.caches.recorder.told ≡ Some log
  pub fine : FineHere kept.caches (at_turn p world)
  pub here : kept.caches.processor ≡ p
  pub then : Kept
  pub after : LivingState
  pub places_are : now.places ≡ set before.places p (Some then)
  pub after_is : now.world ≡ Some after
  pub same : (now.processors ≡ before.processors) × (now.classes ≡ before.classes)
  pub step : StepOf phase before.classes kept (at_turn p world) log then after

-- the number of a domain, where the world is there
abbrev pub number_in : Option LivingState → Domain → ℕ
number_in None d = 0
number_in (Some world) d = (domain_in d world.side.grace).number

-- .. and some processors are
abbrev pub number_among : ℕ → Option LivingState → Domain → ℕ
number_among zero world d = 0
number_among (suc n) world d = number_in world d

-- the units of a class that a processor holds in its lists, and those that wait in its inbox
abbrev pub units_kept : Option (Option Kept) → ℕ → List ℕ
units_kept (Some (Some kept)) c = map number_of (seven_lists ((shown kept.caches).rows c))
units_kept _ c = []

abbrev pub units_waiting : Option LivingState → (p c : ℕ) → List ℕ
units_waiting None p c = []
units_waiting (Some world) p c = concat (told_boxes world.side.post p c)

-- all units of some classes that processor p holds
abbrev pub held_of : List ℕ → Gathered → ℕ → List ℕ
held_of [] g p = []
held_of (c ∷ cs) g p =
    units_kept (slice_get g.places p) c ++ (units_waiting g.world p c ++ held_of cs g p)

-- ---- the begin and the end

-- A scenario has at most 64 maps, and no more objects are in lists and trees than there are units.
abbrev pub AreFew : Program → LivingState → Type 0
AreFew g world = (length g.scenario.now.maps ≤ 64) × (items_in world.graphs ≤ 2 ^ 16)

-- Processor 0 has begun the closing, behind this log: it noted that, and emptied the maps of the program. Names hold what they held, nothing is in lists and trees, no lock is
-- held, it is in a section or in none as before, it asked for no more than that takes, and ordinary code could go on.
pub record BeginsClosing (g : Program) (kept : Kept) (side : LivingState) (log : Log) (then : Kept)
    (now : LivingState) : Type 0 where
  pub added : Log
  pub told : then.caches.recorder.told ≡ Some (log ++ added)
  pub said : GivesFirst (declared_in g.scenario.now) 0 (seen number_of (shown kept.caches)) added
  pub sound : Sound knows_living g (in_its_turn then now)
  pub tied :
      Tied (polled knows_living false log side) (DoesHere knows_living) log side 0 [] []
      (log ++ added) now
  pub asks :
      asked_of knows_living g.scenario.now (in_its_turn then now)
      ≤ asked_of knows_living g.scenario.now (in_its_turn kept side)
      + (2 * length g.scenario.now.maps + 3 * items_in side.graphs)
  pub hands : in_hands (known_living now).objects ≡ in_hands (known_living side).objects
  pub bare : (u : ℕ) → standing_from 0 now.graphs u ≡ None
  pub unlocked : then.locked ≡ None
  pub parity :
      (d : Domain)
      → (of_side d (known_living now)).word % 2 ≡ (of_side d (known_living side)).word % 2

-- what its recorder tells, if it is there
abbrev pub log_kept : Option Kept → Option Log
log_kept None = None
log_kept (Some kept) = kept.caches.recorder.told

-- It is there, and its lists and hands are empty.
pub record IsEmptied (place : Option Kept) : Type 0 where
  pub kept : Kept
  pub there : place ≡ Some kept
  pub lists : (c : ℕ) → seven_lists ((shown kept.caches).rows c) ≡ []
  pub hands : (l : ℕ) → ((shown kept.caches).sides l).hand ≡ []

-- These are the histories of the lists and trees that a world tells, each with its name, if it is there.
abbrev pub TellsHistories : Option LivingState → List (List ℕ × List Past) → Type 0
TellsHistories None histories = Unit {0}
TellsHistories (Some world) histories = histories ≡ map history_told world.graphs

-- They came by the steps of both phases to others that hold nothing, of which these are the logs, and the histories of all maps.
pub record CloseTogether (before : Gathered) (logs : List Log)
    (histories : List (List ℕ × List Past)) : Type 0 where
  pub middle : Gathered
  pub now : Gathered
  pub ends : StepsBelow (TookStep Ends) before.processors before middle
  pub sweeps : StepsBelow (TookStep Sweeps) before.processors middle now
  pub has : (p : ℕ) → p < before.processors → IsAmong (OwnAfter Sweeps) now p
  pub same : now.processors ≡ before.processors
  pub logs_are : map Some logs ≡ map log_kept now.places
  pub histories_are : TellsHistories now.world histories
