-- What is so of a processor between its turns. (This project's own.)
use Rattle.std.specs.Prelude.{◌≡◌, ◌≤◌, ◌+◌, ◌%◌, ◌++◌, ◌∷◌, ℕ, Bool, true, false, [], Option, Some, None}
use Rattle.bm_journal.specs.declared.entry.Entry.TheVariants as entry
use Rattle.bm_journal.specs.declared.ids.Domain.{Domain}
use Rattle.bm_journal.specs.declared.ids.Domain.TheVariants.{Tracing}
use Rattle.bm_lang.specs.declared.scenario.Parts.{Parts}
use Rattle.bm_law.specs.Lists.{Leaves, Log, after}
use Rattle.bm_law.specs.State.{State, opening}
use Rattle.bm_law_work.specs.Grown.{GrewBy}
use Rattle.bm_law_scenario.specs.Grammar.{AreScripts, lines_of}
use Rattle.bm_law_scenario.specs.Handlers.{HandlersDone}
use Rattle.bm_law_scenario.specs.Opened.{opened_classes}
use Rattle.bm_due.specs.Standing.{HandlersStand}
use Rattle.bm_cache.specs.Opening.{fill_log}
use Rattle.bm_world.specs.LivingState.{LivingState, known_living}
use Rattle.bm_world.specs.ToldLiving.{knows_living}
use Rattle.bm_exec.specs.Living.{Lives}
use Rattle.bm_exec_levels.specs.AtProcessor.{lists_of, log_of}
use Rattle.bm_exec_levels.specs.Ordinary.{words_of}
use Rattle.bm_exec_levels.specs.Ready.{left_cost, left_of, word_of}
use Rattle.bm_exec_levels.specs.Sound.{Sound}
use Rattle.bm_exec_levels.specs.declared.kept.Kept.{Kept}
use Rattle.bm_exec_levels.specs.declared.processor.Processor.{Processor}
use Rattle.bm_exec_levels.specs.declared.program.Program.{Program}
use Rattle.bm_exec_levels.specs.Slotted.{in_hands}
use Rattle.bm_run.specs.Asked.{in_its_turn}
use Rattle.bm_run.specs.Lines.{works_for}
use Rattle.bm_run.specs.Openings.{filling_of}
use Rattle.bm_run.specs.SoFar.{at_turn}
use Rattle.bm_run.specs.Turns.{CanRun, StillRuns, cost_left, owned_by}
use Rattle.bm_run.specs.declared.turns.Remaining.{Remaining}
use Rattle.bm_run.specs.declared.seats.Seat.{Seat}

-- what processor p's opening records, and its lists after it
abbrev pub opening_log : Parts → ℕ → Log
opening_log s p = fill_log (filling_of (opened_classes s.types) s.pages p).fills

abbrev pub opening_lists : Parts → ℕ → State ℕ
opening_lists s p = after (opening p) (opening_log s p)

-- Processor p has scripts to run, and can take its turn: whatever it still runs, with what it has recorded since its opening it runs the
-- scripts of its lines.
pub record IsRunning (s : Parts) (p : ℕ) (m : Processor LivingState) (r : Remaining) : Type 0 where
  pub goes :
      (final : Option Log) → GrewBy (StillRuns s (works_for s) m r) (lists_of m) (log_of m) final
      → GrewBy (AreScripts s (lines_of p s.runs)) (opening_lists s p) (Some (opening_log s p)) final
  pub can : CanRun s (works_for s) m r

-- The scripts of processor p have ended, which is recorded: its log is its opening and they, in which each handler stood where it was
-- due and left its phrase. It is in no section and holds no lock, and no handler is due on it any more.
pub record HasStopped (s : Parts) (p : ℕ) (log : Log) (m : Processor LivingState) (r : Remaining) :
    Type 0 where
  pub scripts : Log
  pub log_is : log ≡ (opening_log s p ++ scripts) ++ (0, entry.Ended) ∷ []
  pub are_scripts : AreScripts s (lines_of p s.runs) (opening_lists s p) scripts
  pub leaves : Leaves p (opening_log s p ++ scripts) (lists_of m)
  pub stands : HandlersStand s p (opening_log s p ++ scripts)
  pub done : HandlersDone s p (opening_log s p ++ scripts)
  pub outside : (d : Domain) → word_of knows_living d m % 2 ≡ 0
  pub unlocked : m.locked ≡ None
  pub ended : m.handlers.planned.ended ≡ true
  pub nothing : r.begun ≡ None

abbrev pub runs_or_stopped : Bool → Parts → ℕ → Log → Processor LivingState → Remaining → Type 0
runs_or_stopped false s p log m r = IsRunning s p m r
runs_or_stopped true s p log m r = HasStopped s p log m r

-- what it may still ask for, and has asked for of its own: works, the words of its sections, and what its handlers and scripts have left
abbrev pub seat_asks : Parts → Processor LivingState → Remaining → ℕ
seat_asks s m r =
    ((m.settled + left_cost s (left_of m))
    + (words_of knows_living m + word_of knows_living Tracing m)) + cost_left s r

-- Processor p of a program, between turns, where this is its log: ordinary code can go on on it. Beside the objects of `base` those live
-- that its names hold, and it may ask for no more than its share.
pub record IsSeated (g : Program) (p : ℕ) (log : Log) (base : Lives) (share : ℕ)
    (world : LivingState) (seat : Seat) : Type 0 where
  pub kept : Kept
  pub kept_is : seat.kept ≡ Some kept
  pub told : kept.caches.recorder.told ≡ Some log
  pub processor : seat.remaining.processor ≡ p
  pub sound : Sound knows_living g (in_its_turn kept (at_turn p world))
  pub runs :
      runs_or_stopped seat.ended g.scenario.now p log (in_its_turn kept (at_turn p world))
      seat.remaining
  pub owns :
      owned_by g.scenario.now base (in_hands (known_living world).objects) seat.remaining.begun
  pub asks : seat_asks g.scenario.now (in_its_turn kept (at_turn p world)) seat.remaining ≤ share
