-- What a processor has still to run, and what its turns leave. (This project's own.)
use Rattle.std.specs.Prelude.{◌≡◌, ℕ, ◌+◌, ◌*◌, ◌%◌, ◌<◌, ◌≤◌, true, List, [], ◌∷◌, Option, Some, None, reverse, slice_get}
use Rattle.bm_journal.specs.declared.ids.Domain.{Domain}
use Rattle.bm_journal.specs.declared.ids.Domain.TheVariants.{Plain, Tracing}
use Rattle.bm_journal.specs.declared.entry.Entry.TheVariants as entry
use Rattle.bm_lang.specs.declared.scenario.Parts.{Parts}
use Rattle.bm_lang.specs.declared.scenario.RunLine.{RunLine}
use Rattle.bm_lang.specs.declared.scenario.Script.{Script}
use Rattle.bm_lang.specs.Limits.{block_cost}
use Rattle.bm_law.specs.State.{State}
use Rattle.bm_law.specs.Lists.{Log}
use Rattle.bm_law_work.specs.Grown.{GrewBy}
use Rattle.bm_law_work.specs.Parts.{Part, Stand, Then}
use Rattle.bm_law_scenario.specs.Declared.{declared_in}
use Rattle.bm_law_scenario.specs.Grammar.{AreScripts, lines_of, section_of, starts_inside}
use Rattle.bm_law_scenario.specs.Held.{Names, OwnsNothing, no_names}
use Rattle.bm_law_scenario.specs.Runs.{RunsBlock}
use Rattle.bm_world.specs.LivingState.{LivingState}
use Rattle.bm_world.specs.ToldLiving.{knows_living}
use Rattle.bm_exec.specs.Around.{Around}
use Rattle.bm_exec.specs.Cost.{stack_cost}
use Rattle.bm_exec.specs.Going.{CanGoOn}
use Rattle.bm_exec.specs.Lists.{Behind}
use Rattle.bm_exec.specs.Living.{Holds, Lives}
use Rattle.bm_exec.specs.Seen.{names_of}
use Rattle.bm_exec.specs.Stack.{RunsStack, Sectioned}
use Rattle.bm_exec.specs.Steps.{weight}
use Rattle.bm_exec.specs.Yields.{Unyielding, YieldsLast}
use Rattle.bm_exec.specs.declared.frame.Open.{Open}
use Rattle.bm_exec_levels.specs.AtProcessor.{SameLives, lists_of, log_of}
use Rattle.bm_exec_levels.specs.Ordinary.{Ordinary, around_of}
use Rattle.bm_exec_levels.specs.Ready.{known_of, word_of}
use Rattle.bm_exec_levels.specs.Slotted.{in_hands}
use Rattle.bm_exec_levels.specs.declared.processor.Processor.{Processor}
use Rattle.bm_run.specs.Lines.{AreDeclared, BehindScript, Wrote, asks_in, lines_cost}
use Rattle.bm_run.specs.declared.turns.Begun.{Begun}
use Rattle.bm_run.specs.declared.turns.Remaining.{Remaining}
use Rattle.bm_run.specs.declared.turns.Turned.{Turned}
use Rattle.bm_run.specs.declared.turns.Turned.TheVariants as turned

-- ---- a script that has begun

-- how many objects, calls, works and words were asked for so far, with what handlers that haven't run may ask for
abbrev pub used_in : Parts → Processor LivingState → ℕ
used_in s m = asks_in s m + word_of knows_living Tracing m

-- its open blocks, the innermost first
abbrev pub blocks_of : Begun → List Open
blocks_of b = reverse b.activation.frame.blocks.items

-- what its names hold
abbrev pub held_by : Begun → Names
held_by b = names_of b.activation.names

-- the domain of its section
abbrev pub domain_of : Begun → Domain
domain_of b = section_of b.script.now.kind

-- the plain section around it
abbrev pub around_in : Processor LivingState → Begun → Around
around_in m b = around_of knows_living (starts_inside b.script.now) m

-- outside the sections that its statements begin
abbrev pub outermost : Begun → Around
outermost b = record { whole = starts_inside b.script.now; begun = None }

-- A script stands on a processor so that it can go on, for the classes w of the deferred work behind its statements: it is one of the
-- scenario's, and the processor is in its section and holds no lock.
pub record IsInScript (s : Parts) (w : Option (List ℕ)) (m : Processor LivingState) (b : Begun) :
    Type 0 where
  pub found : (i : ℕ) × (slice_get s.scripts i ≡ Some b.script.now)
  pub can :
      CanGoOn (declared_in s) 0 (around_in m b) w (lists_of m)
      (in_hands (known_of knows_living m).objects) b.activation.names (blocks_of b)
  pub sections : Sectioned (outermost b) (around_in m b) (blocks_of b)
  pub within : starts_inside b.script.now ≡ true → m.inside ≡ true
  pub inside : word_of knows_living (domain_of b) m % 2 ≡ 1
  pub apart : domain_of b ≡ Plain → word_of knows_living Tracing m % 2 ≡ 0
  pub unlocked : m.locked ≡ None

-- On a processor no script has begun, it is in no section and holds no lock, and no work is left to run.
pub record IsOutside (w : Option (List ℕ)) (m : Processor LivingState) : Type 0 where
  pub down : Behind w (lists_of m) []
  pub words : (d : Domain) → word_of knows_living d m % 2 ≡ 0
  pub unlocked : m.locked ≡ None

-- what the statements that are left of it run
abbrev pub RunsBlocks : Parts → Option (List ℕ) → Around → Begun → Part
RunsBlocks s w z b l part =
    (last : Names) × RunsStack (declared_in s) 0 z w (blocks_of b) (held_by b) last l part
    × ((x : List ℕ) → OwnsNothing (last x))

-- the end of a script with this word inside its section, and the deferred work after it
abbrev pub EndsScript : Option (List ℕ) → Script → (word : ℕ) → Part
EndsScript w script word =
    Then (Stand 0 (entry.Out (section_of script.kind) (word + 1) ∷ entry.Done script.name ∷ []))
    (BehindScript w)

-- what is left of it
abbrev pub RunsOn : Parts → Option (List ℕ) → Processor LivingState → Begun → Part
RunsOn s w m b =
    Then (RunsBlocks s w (around_in m b) b)
    (EndsScript w b.script.now (word_of knows_living (domain_of b) m))

-- A script has begun on a processor: its name and its section are recorded, what is left of it is its block, and beside the objects that
-- lived before its names hold none.
pub record HasBegun (s : Parts) (w : Option (List ℕ)) (script : Script)
    (before now : Processor LivingState) (b : Begun) : Type 0 where
  pub same : b.script.now ≡ script
  pub wrote :
      Wrote
      (Stand 0
      (entry.Script script.name
      ∷ entry.In (section_of script.kind)
      (word_of knows_living (section_of script.kind) now)
      ∷ []))
      before now
  pub stands : IsInScript s w now b
  pub runs :
      (l : State ℕ) (part : Log) → RunsBlocks s w (around_in now b) b l part
      → (last : Names)
      × RunsBlock (declared_in s) 0 (starts_inside script) (Behind w) script.body no_names last
      l part
      × ((x : List ℕ) → OwnsNothing (last x))
  pub owns :
      (base : Lives) → in_hands (known_of knows_living before).objects ≡ base
      → Holds s.types base (in_hands (known_of knows_living now).objects) (held_by b)
  pub cost : stack_cost (blocks_of b) ≡ block_cost script.body
  pub light : weight (blocks_of b) ≤ 2 * block_cost script.body + 1
  pub used : used_in s now ≤ used_in s before + 3

-- Some of its statements were run, up to a `yield`: whatever is left of them then, with that they are what was left before.
pub record WentOn (s : Parts) (w : Option (List ℕ)) (before now : Processor LivingState)
    (b b' : Begun) : Type 0 where
  pub same : b'.script.now ≡ b.script.now
  pub grew :
      (mid : Option Log)
      → GrewBy (RunsBlocks s w (around_in now b') b') (lists_of now) (log_of now) mid
      → GrewBy (RunsBlocks s w (around_in before b) b) (lists_of before) (log_of before) mid
  pub stands : IsInScript s w now b'
  pub owns :
      (base : Lives)
      → Holds s.types base (in_hands (known_of knows_living before).objects) (held_by b)
      → Holds s.types base (in_hands (known_of knows_living now).objects) (held_by b')
  pub used :
      used_in s now + 3 * stack_cost (blocks_of b')
      ≤ used_in s before + 3 * stack_cost (blocks_of b)
  pub less : weight (blocks_of b') < weight (blocks_of b)

-- All its statements were run, its names own nothing, and the processor holds no lock.
pub record HasRun (s : Parts) (w : Option (List ℕ)) (before now : Processor LivingState)
    (b : Begun) : Type 0 where
  pub grew :
      GrewBy (RunsBlocks s w (around_in before b) b) (lists_of before) (log_of before) (log_of now)
  pub down : Behind w (lists_of now) []
  pub inside : now.inside ≡ starts_inside b.script.now
  pub unlocked : now.locked ≡ None
  pub owns :
      (base : Lives)
      → Holds s.types base (in_hands (known_of knows_living before).objects) (held_by b)
      → in_hands (known_of knows_living now).objects ≡ base
  pub used : used_in s now ≤ used_in s before + 3 * stack_cost (blocks_of b)

-- A script has ended on a processor, with the deferred work after it.
pub record HasEnded (s : Parts) (w : Option (List ℕ)) (script : Script)
    (before now : Processor LivingState) : Type 0 where
  pub wrote :
      Wrote (EndsScript w script (word_of knows_living (section_of script.kind) before)) before now
  pub outside : IsOutside w now
  pub lives : SameLives knows_living before now
  pub used : used_in s now ≤ used_in s before + 2

-- ---- what remains

-- the `run` lines of its processor that it hasn't come to
abbrev pub lines_left : Remaining → List RunLine
lines_left r = lines_of r.processor r.lines.now

-- This script is that of the next of them, which is taken off.
pub record IsNextOf (s : Parts) (script : Script) (r r' : Remaining) : Type 0 where
  pub line : RunLine
  pub found : slice_get s.scripts line.script.0 ≡ Some script
  pub next : lines_left r ≡ line ∷ lines_left r'
  pub cost :
      lines_cost r.processor s.scripts r.lines.now
      ≡ (10 + block_cost script.body) + lines_cost r.processor s.scripts r'.lines.now

abbrev pub still_begun :
    Parts → Option (List ℕ) → Processor LivingState → Option Begun → Part → Part
still_begun s w m None rest = rest
still_begun s w m (Some b) rest = Then (RunsOn s w m b) rest

-- what the processor has still to run: the rest of the script that it stopped in, and the scripts of its other lines
abbrev pub StillRuns : Parts → Option (List ℕ) → Processor LivingState → Remaining → Part
StillRuns s w m r = still_begun s w m r.begun (AreScripts s (lines_left r))

abbrev pub stands_in : Parts → Option (List ℕ) → Processor LivingState → Option Begun → Type 0
stands_in s w m None = IsOutside w m
stands_in s w m (Some b) = IsInScript s w m b

-- The processor can take its turn.
pub record CanRun (s : Parts) (w : Option (List ℕ)) (m : Processor LivingState) (r : Remaining) :
    Type 0 where
  pub stands : stands_in s w m r.begun
  pub declared : AreDeclared s r.lines.now

-- beside the objects of `base` those live that its names hold
abbrev pub owned_by : Parts → (base lives : Lives) → Option Begun → Type 0
owned_by s base lives None = lives ≡ base
owned_by s base lives (Some b) = Holds s.types base lives (held_by b)

abbrev pub Owns : Parts → Lives → Processor LivingState → Remaining → Type 0
Owns s base m r = owned_by s base (in_hands (known_of knows_living m).objects) r.begun

-- ---- what it costs

abbrev pub begun_cost : Option Begun → ℕ
begun_cost None = 0
begun_cost (Some b) = 3 * stack_cost (blocks_of b) + 2

-- how many may be asked for yet
abbrev pub cost_left : Parts → Remaining → ℕ
cost_left s r = begun_cost r.begun + 3 * lines_cost r.processor s.scripts r.lines.now

abbrev pub begun_weight : Option Begun → ℕ
begun_weight None = 0
begun_weight (Some b) = weight (blocks_of b) + 1

-- what gets smaller with each script that ends and each turn
abbrev pub weight_left : Parts → Remaining → ℕ
weight_left s r = begun_weight r.begun + 2 * lines_cost r.processor s.scripts r.lines.now

-- ---- turns

-- What was run from one time to another: whatever the processor still runs then, with that it runs what it had to run before. It can
-- take its turn. The objects that aren't its names' are as they were, and no more was asked for than what remains has become less.
pub record Advanced (s : Parts) (w : Option (List ℕ)) (before : Processor LivingState)
    (r : Remaining) (now : Processor LivingState) (r' : Remaining) : Type 0 where
  pub grew :
      (final : Option Log) → GrewBy (StillRuns s w now r') (lists_of now) (log_of now) final
      → GrewBy (StillRuns s w before r) (lists_of before) (log_of before) final
  pub ordinary : Ordinary knows_living before now
  pub can : CanRun s w now r'
  pub owns : (base : Lives) → Owns s base before r → Owns s base now r'
  pub used : used_in s now + cost_left s r' ≤ used_in s before + cost_left s r

-- A turn goes up to and with the next `yield`, or without one to the end of the scripts.
abbrev pub GoesTo : Turned → (log log' : Option Log) → Type 0
GoesTo turned.Yielded log log' = YieldsLast 0 log log'
GoesTo turned.Ended log log' = Unyielding 0 log log'

-- .. and where it ends with the scripts nothing remains
abbrev pub NothingLeft : Turned → Remaining → Type 0
NothingLeft turned.Yielded r = Unit {0}
NothingLeft turned.Ended r = (r.begun ≡ None) × (lines_left r ≡ [])
