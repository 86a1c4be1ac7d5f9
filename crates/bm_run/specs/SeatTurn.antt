-- What a turn leaves of the seat of its processor. (This project's own.)
use Rattle.std.specs.Prelude.{◌≡◌, ◌+◌, ◌<◌, ◌^◌, Bool, true, false, [], Option, Some, None}
use Rattle.bm_journal.specs.Recording.{Appends}
use Rattle.bm_journal.specs.declared.entry.Entry.TheVariants as entry
use Rattle.bm_law.specs.Lists.{Log}
use Rattle.bm_law_order.specs.Tie.{Tied}
use Rattle.bm_cache.specs.Shown.{shown}
use Rattle.bm_world.specs.LivingState.{LivingState}
use Rattle.bm_world.specs.ToldLiving.{knows_living}
use Rattle.bm_exec.specs.Yields.{Unyielding, YieldsLast}
use Rattle.bm_exec_levels.specs.AtPolls.{DoesHere, polled}
use Rattle.bm_exec_levels.specs.AtProcessor.{log_of}
use Rattle.bm_exec_levels.specs.Sound.{Sound}
use Rattle.bm_exec_levels.specs.declared.kept.Kept.{Kept}
use Rattle.bm_exec_levels.specs.declared.processor.Processor.{Processor}
use Rattle.bm_exec_levels.specs.declared.program.Program.{Program}
use Rattle.bm_run.specs.Asked.{in_its_turn}
use Rattle.bm_run.specs.Lines.{works_for}
use Rattle.bm_run.specs.Turns.{Advanced, CanRun, cost_left, lines_left, used_in, weight_left}
use Rattle.bm_run.specs.declared.turns.Remaining.{Remaining}
use Rattle.bm_run.specs.declared.seats.Seat.{Seat}

-- ---- one processor

-- It took a turn, which ended with a yield.
pub record HasYielded (g : Program) (before : Processor LivingState) (r : Remaining)
    (now : Processor LivingState) (r' : Remaining) : Type 0 where
  pub advanced : Advanced g.scenario.now (works_for g.scenario.now) before r now r'
  pub turn : YieldsLast 0 (log_of before) (log_of now)
  pub less : weight_left g.scenario.now r' < weight_left g.scenario.now r

-- It took a turn to the end of its scripts, and then recorded that they have ended, since when no handler is due.
pub record HasCeased (g : Program) (before : Processor LivingState) (r : Remaining)
    (now : Processor LivingState) (r' : Remaining) : Type 0 where
  pub last : Processor LivingState
  pub advanced : Advanced g.scenario.now (works_for g.scenario.now) before r last r'
  pub turn : Unyielding 0 (log_of before) (log_of last)
  pub none : r'.begun ≡ None
  pub no_lines : lines_left r' ≡ []
  pub sound : Sound knows_living g last
  pub said : Appends (log_of last) 0 entry.Ended (log_of now)
  pub lists : shown now.caches ≡ shown last.caches
  pub same : now ≡ record last { caches = now.caches; handlers = now.handlers }
  pub planned : now.handlers.planned ≡ record last.handlers.planned { ended = true }

abbrev pub has_gone :
    Bool → Program → Processor LivingState → Remaining → Processor LivingState → Remaining → Type 0
has_gone false g before r now r' = HasYielded g before r now r'
has_gone true g before r now r' = HasCeased g before r now r'

-- ---- its seat

-- The processor of a seat may take a turn in this world, which is its side, where its log is this one.
pub record MayTurn (g : Program) (since : Log) (start : LivingState) (seat : Seat) : Type 0 where
  pub kept : Kept
  pub kept_is : seat.kept ≡ Some kept
  pub told : kept.caches.recorder.told ≡ Some since
  pub sound : Sound knows_living g (in_its_turn kept start)
  pub can : CanRun g.scenario.now (works_for g.scenario.now) (in_its_turn kept start) seat.remaining
  pub room :
      used_in g.scenario.now (in_its_turn kept start) + cost_left g.scenario.now seat.remaining
      < 2 ^ 22

-- It took its turn, by which the world came to be another one, to which its log is tied.
pub record TookTurn (g : Program) (since : Log) (start now : LivingState) (seat seat' : Seat) :
    Type 0 where
  pub kept : Kept
  pub kept_is : seat.kept ≡ Some kept
  pub kept_now : Kept
  pub kept_now_is : seat'.kept ≡ Some kept_now
  pub log : Log
  pub told : kept_now.caches.recorder.told ≡ Some log
  pub tied :
      Tied (polled knows_living false since start) (DoesHere knows_living) since start 0 [] [] log
      now
  pub sound : Sound knows_living g (in_its_turn kept_now now)
  pub processor : seat'.remaining.processor ≡ seat.remaining.processor
  pub went :
      has_gone seat'.ended g (in_its_turn kept start) seat.remaining (in_its_turn kept_now now)
      seat'.remaining

-- the log that a seat keeps
abbrev pub told_or_none : Option Log → Log
told_or_none None = []
told_or_none (Some log) = log

abbrev pub kept_log : Option Kept → Log
kept_log None = []
kept_log (Some kept) = told_or_none kept.caches.recorder.told
