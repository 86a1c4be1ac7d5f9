-- What is so of a whole run between two turns. (This project's own.)
use Rattle.std.specs.Prelude.{◌≡◌, ◌<◌, ◌+◌, ◌*◌, ◌-◌, ◌^◌, ◌++◌, ◌∷◌, ℕ, zero, suc, Bool, true, List, [], Some, None, get_or, length, map, slice_get, sum_by}
use Rattle.bm_journal.specs.declared.ids.Domain.{Domain}
use Rattle.bm_journal.specs.declared.past.Past.{Past}
use Rattle.bm_journal.specs.declared.entry.Entry.TheVariants as entry
use Rattle.bm_lang.specs.declared.scenario.MapDeclaration.{MapDeclaration}
use Rattle.bm_lang.specs.declared.scenario.Parts.{Parts}
use Rattle.bm_law.specs.Alone.{AllAt}
use Rattle.bm_law.specs.Kept.{Ready}
use Rattle.bm_law.specs.Lists.{Leaves, Log, after}
use Rattle.bm_law.specs.Stands.{times}
use Rattle.bm_law.specs.State.{State, seen, seven_lists}
use Rattle.bm_law_order.specs.ByDomain.{of}
use Rattle.bm_law_order.specs.Graphs.{graph_names_in, standing_from}
use Rattle.bm_law_order.specs.Orders.{Order, shared_over}
use Rattle.bm_law_order.specs.Shared.{fresh}
use Rattle.bm_law_order.specs.Whole.{joined}
use Rattle.bm_law_logs.specs.SweepsTold.{SweepsTold}
use Rattle.bm_law.specs.Inboxes.{Inboxes}
use Rattle.bm_law_work.specs.Parts.{Part, Stand, Then}
use Rattle.bm_law_scenario.specs.Closing.{Empties, EndsPeriods, close_of}
use Rattle.bm_law_scenario.specs.Declared.{Declared, declared_in}
use Rattle.bm_law_scenario.specs.Opened.{opened_classes}
use Rattle.bm_law_scenario.specs.Grammar.{AreScripts, lines_of}
use Rattle.bm_law_scenario.specs.Handlers.{HandlersDone}
use Rattle.bm_due.specs.Standing.{HandlersStand}
use Rattle.bm_cache.specs.Tokens.{Token, number_of}
use Rattle.bm_exec.specs.Living.{Living, Lives, count_in}
use Rattle.bm_exec_levels.specs.declared.program.Program.{Program}
use Rattle.bm_world.specs.GraphItems.{history_told}
use Rattle.bm_world.specs.LivingState.{LivingState, known_living}
use Rattle.bm_exec_levels.specs.Slotted.{AreUnused, in_hands}
use Rattle.bm_run.specs.InTurns.{AreTaken, TurnsSoFar, one_by_one}
use Rattle.bm_run.specs.LogsSoFar.{LogsSoFar, WaitsSoFar}
use Rattle.bm_run.specs.Openings.{openings}
use Rattle.bm_run.specs.Seated.{IsSeated, opening_lists, opening_log}
use Rattle.bm_run.specs.declared.seats.Seat.{Seat}

-- ---- whose references there are

-- how many references there are to unit u beside those of `base`
abbrev pub owns : (base lives : Lives) → (u : ℕ) → ℕ
owns base lives u = count_in (lives u) - count_in (base u)

abbrev pub sum_below : ℕ → (ℕ → ℕ) → ℕ
sum_below zero f = 0
sum_below (suc n) f = sum_below n f + f n

-- To each object that lives there are references, which are those of the processors: `bases p` are those that the others have.
pub record AddUp (processors : ℕ) (bases : ℕ → Lives) (lives : Lives) : Type 0 where
  pub some : (u : ℕ) (l : Living) → lives u ≡ Some l → 0 < l.count
  pub sums : (u : ℕ) → sum_below processors (λ p. owns (bases p) lives u) ≡ count_in (lives u)

-- ---- the turns

-- which processors have ended
abbrev pub ended_of : List Seat → List Bool
ended_of seats = map (λ (x : Seat). x.ended) seats

-- the openings of all processors of a scenario
abbrev pub all_openings : Parts → Order
all_openings s = openings (opened_classes s.types) s.pages s.processors

-- All processors of a program are between turns, which they take in this order, of which the rest is still to come. By what they may ask for
-- yet, two calls for each map, and three for each object that may be in a list or tree, are left for the closing.
pub record Between (g : Program) (turns rest : List ℕ) (seats : List Seat) (world : LivingState) :
    Type 0 where
  pub many : length seats ≡ g.scenario.now.processors
  pub order : Order
  pub taken : List (List Log)
  pub logs : List Log
  pub bases : ℕ → Lives
  pub shares : List ℕ
  pub turned : TurnsSoFar g.scenario.now.processors turns rest taken (ended_of seats) order
  pub pieces : AreTaken g.scenario.now.processors taken (ended_of seats)
  pub logs_are :
      (p : ℕ) → p < g.scenario.now.processors
      → get_or logs p [] ≡ opening_log g.scenario.now p ++ joined (get_or taken p [])
  pub so_far :
      LogsSoFar g.scenario.now.processors g.scenario.now.pages
      (all_openings g.scenario.now ++ order) logs world
  pub waits : WaitsSoFar (all_openings g.scenario.now ++ order) world
  pub seated :
      (p : ℕ) (seat : Seat) → slice_get seats p ≡ Some seat
      → IsSeated g p (get_or logs p []) (bases p) (get_or shares p 0) world seat
  pub add_up : AddUp g.scenario.now.processors bases (in_hands (known_living world).objects)
  pub shares_many : length shares ≡ g.scenario.now.processors
  pub few : world.asked + sum_by (λ n. n) shares + 3 * 2 ^ 16 + 128 < 2 ^ 22

-- each processor has ended
abbrev pub AllStopped : List Seat → Type 0
AllStopped seats = (p : ℕ) (seat : Seat) → slice_get seats p ≡ Some seat → seat.ended ≡ true

-- ---- the closing

-- What processor p leaves in its closing, after this front and with these lists, once nothing is left to give up: it ends the periods that it has in progress, and sweeps
-- these classes, in whose inboxes these parcels wait by then. At the end nothing stands in their lists; the other classes are as
-- they were, and no call is in a cache or has anything in hand.
pub record ClosesAs (classes : List ℕ) (front : Log) (lists : State ℕ) (p : ℕ)
    (final finishes sweeps : Log) : Type 0 where
  pub finishes_at : AllAt 0 finishes
  pub finishes_are : EndsPeriods front lists finishes
  pub boxes : Inboxes
  pub sweeps_at : AllAt 0 sweeps
  pub sweeps_are : SweepsTold classes boxes (after lists finishes) sweeps
  pub last : State Token
  pub leaves : Leaves p final (seen number_of last)
  pub ready : Ready 0 last
  pub empty : (c : ℕ) → 0 < times c classes → seven_lists (last.rows c) ≡ []
  pub others : (c : ℕ) → times c classes ≡ 0 → (seen number_of last).rows c ≡ lists.rows c

-- what processor p gives up in its closing: processor 0 begins it, and then empties the maps
abbrev pub GivesFirst : Declared → ℕ → Part
GivesFirst d p = Then (Stand 0 (close_of p)) (Empties p d)

-- The log of processor p: its opening, its scripts, in whose middle and at whose end each handler stood where it was due and left its
-- phrase, its end, and its closing, which gives up what the maps hold first.
pub record IsFinal (s : Parts) (p : ℕ) (final given finishes sweeps : Log) : Type 0 where
  pub scripts : Log
  pub final_is :
      final ≡ (opening_log s p ++ scripts) ++ ((0, entry.Ended) ∷ (given ++ (finishes ++ sweeps)))
  pub are_scripts : AreScripts s (lines_of p s.runs) (opening_lists s p) scripts
  pub front_stands : HandlersStand s p (opening_log s p ++ scripts)
  pub front_done : HandlersDone s p (opening_log s p ++ scripts)
  pub lists : State ℕ
  pub front_leaves : Leaves p (opening_log s p ++ scripts) lists
  pub given_at : AllAt 0 given
  pub given_is : GivesFirst (declared_in s) p lists given
  pub stands : HandlersStand s p final
  pub done : HandlersDone s p final
  pub closes :
      ClosesAs (opened_classes s.types) (opening_log s p ++ scripts) (after lists given) p final
      finishes sweeps

-- All processors of a scenario have closed, and these are their logs: the turns made this order; then processor 0 began the closing,
-- and emptied the maps; then each ended its periods, and then each swept its classes. These are the histories of all maps, of which that of a slot is empty.
pub record AllClosed (s : Parts) (turns : List ℕ) (finals : List Log)
    (histories : List (List ℕ × List Past)) : Type 0 where
  pub order : Order
  pub taken : List (List Log)
  pub ended : List Bool
  pub front : LivingState
  pub turned : TurnsSoFar s.processors turns [] taken ended order
  pub pieces : AreTaken s.processors taken ended
  pub all_ended : (p : ℕ) → p < s.processors → get_or ended p true ≡ true
  pub waits : WaitsSoFar (all_openings s ++ order) front
  pub given : List Log
  pub finishes : List Log
  pub sweeps : List Log
  pub given_many : length given ≡ s.processors
  pub finishes_many : length finishes ≡ s.processors
  pub sweeps_many : length sweeps ≡ s.processors
  pub finals_are :
      (p : ℕ) → p < s.processors
      → get_or finals p []
      ≡ (opening_log s p ++ joined (get_or taken p []))
      ++ (get_or given p [] ++ (get_or finishes p [] ++ get_or sweeps p []))
  pub logs :
      (p : ℕ) → p < s.processors
      → IsFinal s p (get_or finals p []) (get_or given p []) (get_or finishes p [])
      (get_or sweeps p [])
  pub world : LivingState
  pub so_far :
      LogsSoFar s.processors s.pages
      (((all_openings s ++ order) ++ one_by_one 0 given)
      ++ (one_by_one 0 finishes ++ one_by_one 0 sweeps))
      finals world
  pub lives : (u : ℕ) → (known_living world).objects.lives u ≡ None
  pub inboxes :
      (p c : ℕ)
      → (shared_over
      (((all_openings s ++ order) ++ one_by_one 0 given)
      ++ (one_by_one 0 finishes ++ one_by_one 0 sweeps))
      (fresh s.processors s.pages)).boxes
      p c
      ≡ []
  pub idle :
      (d : Domain)
      → (of d
      (shared_over
      (((all_openings s ++ order) ++ one_by_one 0 given)
      ++ (one_by_one 0 finishes ++ one_by_one 0 sweeps))
      (fresh s.processors s.pages)).numbers).driver
      ≡ None
  pub names : graph_names_in world.graphs ≡ map (λ (m : MapDeclaration). m.name) s.maps
  pub unused : AreUnused s.maps world.graphs
  pub bare : (u : ℕ) → standing_from 0 world.graphs u ≡ None
  pub histories_are : histories ≡ map history_told world.graphs
