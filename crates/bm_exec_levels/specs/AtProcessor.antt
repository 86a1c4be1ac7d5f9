-- Where the code of a processor is, and what handlers leave as it was. (This project's own.)
use Rattle.std.specs.Prelude.{◌≡◌, ◌≤◌, ◌<◌, ◌+◌, ◌*◌, ◌%◌, ◌^◌, ◌∷◌, ◌++◌, [], ℕ, List, Option, Some, IfSome, length, reverse, slice_get}
use Rattle.std.specs.Option.{option_map}
use Rattle.bm_journal.specs.declared.ids.Domain.{Domain}
use Rattle.bm_journal.specs.declared.ids.Domain.TheVariants.{Plain, Tracing}
use Rattle.bm_journal.specs.declared.entry.Entry.TheVariants as entry
use Rattle.bm_journal.specs.Recording.{Kept as Recorded}
use Rattle.bm_lang.specs.declared.scenario.MapId.{MapId}
use Rattle.bm_lang.specs.declared.scenario.Script.{Script}
use Rattle.bm_lang.specs.declared.scenario.ScriptKind.TheVariants as kind
use Rattle.bm_lang.specs.Limits.{script_cost}
use Rattle.bm_law.specs.Lists.{Log}
use Rattle.bm_law.specs.Spans.{own_entries}
use Rattle.bm_law.specs.State.{State, seen}
use Rattle.bm_law_order.specs.Graphs.{NamedGraph}
use Rattle.bm_cache.specs.Shown.{shown}
use Rattle.bm_cache.specs.Tokens.{number_of}
use Rattle.bm_law_scenario.specs.Handlers.{HandlerPhrase, RunsThere}
use Rattle.bm_law_lives.specs.SectionWords.{word_after}
use Rattle.bm_lang.specs.declared.scenario.Parts.{Parts}
use Rattle.bm_cache.specs.Span.{Came, Fine}
use Rattle.bm_cache.specs.Tests.{Tests}
use Rattle.bm_due.specs.declared.planned.Due.{Due}
use Rattle.bm_work.specs.DeskTests.{tests_by}
use Rattle.bm_work.specs.Goes.{GoesOn}
use Rattle.bm_plan.specs.Position.{Position, StandsAt, level_in, names_in}
use Rattle.bm_exec_levels.specs.Calling.{Reckons, lock_name}
use Rattle.bm_exec_levels.specs.Here.{Running, position_of}
use Rattle.bm_exec_levels.specs.Logged.{Tells}
use Rattle.bm_grace.specs.Known.{Lives}
use Rattle.bm_exec.specs.Guarded.{Guarded, Shelved}
use Rattle.bm_exec_levels.specs.Slotted.{in_hands, items_in}
use Rattle.bm_exec_levels.specs.Ready.{IsReady, asked_of, known_of, left_of, word_of}
use Rattle.bm_exec_levels.specs.declared.processor.Processor.{Processor}
use Rattle.bm_exec_levels.specs.declared.program.Program.{Program}
use Rattle.bm_grace.specs.declared.grace.Knows.{Ghosts as Knows}

-- its log, where it is told
abbrev pub log_of : {W : Type 0} → Processor W → Option Log
log_of m = m.caches.recorder.told

-- what stands in its lists and hands
abbrev pub lists_of : {W : Type 0} → Processor W → State ℕ
lists_of m = seen number_of (shown m.caches)

-- the name of the list or tree whose lock it holds, if any
abbrev pub lock_of : {W : Type 0} → Program → Processor W → Option (List ℕ)
lock_of p m = lock_name p.scenario.now.maps m.locked

-- what the script of a handler may ask for: three objects, calls and works for each statement that it runs at most
abbrev pub due_cost : Program → Due → ℕ
due_cost p due = 3 * script_cost (slice_get p.scenario.now.scripts due.script.0)

-- After the begin of the innermost handler, which is of level l, the log of processor p has its phrase, which ran there.
pub record HasPhrase (p l : ℕ) (s : Parts) (name : List ℕ) (log : Log) : Type 0 where
  pub front : Log
  pub part : Log
  pub log_is : log ≡ front ++ (l, entry.Handler name) ∷ part
  pub phrase : HandlerPhrase s name (word_after Plain front) (own_entries l part)
  pub runs : RunsThere s p l name front part

module _ {W : Type 0} (knows : Knows W) where
  -- what its side tells of units
  abbrev pub tests_of : Processor W → Tests
  tests_of m = tests_by (knows.rights m.side)

  -- Code of level l runs on it, and is there in its log, whose calls are counted and whose lock is known; and planned handlers can run.
  pub record IsAt (P : Position → Log → Type 0) (l : ℕ) (p : Program) (m : Processor W) :
      Type 0 where
    pub at :
        Running P l (known_of knows m).grace.processor p.scenario.now m.handlers.planned
        m.running.items (log_of m)
    pub tells : IfSome (log_of m) (Tells p.scenario.now (known_of knows m))
    pub counts : IfSome (log_of m) (Reckons m.calls (lock_of p m))
    pub ready : IsReady knows p m

  -- A handler is due before a step of code of level l, and begins with the entry that stands next.
  pub record IsDue (l : ℕ) (p : Program) (due : Due) (m : Processor W) : Type 0 where
    pub begins :
        IfSome (log_of m)
        (λ es. (name : List ℕ)
        → slice_get (names_in p.scenario.now.scripts) due.script.0 ≡ Some name
        → StandsAt
        (position_of (known_of knows m).grace.processor p.scenario.now
        m.handlers.planned (m.running.items ++ due ∷ []))
        (es ++ (due.level, entry.Handler name) ∷ []))
    pub tells : IfSome (log_of m) (Tells p.scenario.now (known_of knows m))
    pub counts : IfSome (log_of m) (Reckons m.calls (lock_of p m))
    pub level : level_in (reverse m.running.items) ≡ l
    pub deep : length m.running.items ≤ l
    pub above : l + 1 ≤ due.level
    pub highest : due.level ≤ 3
    pub script : Script
    pub found : slice_get p.scenario.now.scripts due.script.0 ≡ Some script
    pub handles : script.kind ≡ kind.Handler
    pub ready : IsReady knows p m
    pub asks : asked_of knows p.scenario.now m + due_cost p due < 2 ^ 22
    pub words : word_of knows Plain m + 2 * length (left_of m) + 2 < 2 ^ 28

  -- It was taken off those that hadn't run: what was reckoned for it is its own.
  pub record IsBegun (l : ℕ) (p : Program) (due : Due) (a b : Processor W) : Type 0 where
    pub begins : IsDue l p due b
    pub fewer : length (left_of b) + 1 ≡ length (left_of a)
    pub asks : asked_of knows p.scenario.now b + due_cost p due ≤ asked_of knows p.scenario.now a
    pub words :
        word_of knows Plain b + 2 * length (left_of b) + 2
        ≤ word_of knows Plain a + 2 * length (left_of a)

  -- What code and its handlers leave as it was: the lock that is held, the handlers that run, and that a section is open or none. With those that
  -- haven't run they ask for at most so many more objects and works, and name at most so many more words. Inside a section no
  -- other one begins.
  pub record Stays (asks words : ℕ) (p : Program) (a b : Processor W) : Type 0 where
    pub settled : b.settled ≡ a.settled
    pub locked : b.locked ≡ a.locked
    pub running : b.running.items ≡ a.running.items
    pub tables : length b.tables.items ≡ length a.tables.items
    pub inside : b.inside ≡ a.inside
    pub asks_most : asked_of knows p.scenario.now b ≤ asked_of knows p.scenario.now a + asks
    pub words_most :
        word_of knows Plain b + 2 * length (left_of b)
        ≤ word_of knows Plain a + 2 * length (left_of a) + words
    pub parity : (d : Domain) → word_of knows d b % 2 ≡ word_of knows d a % 2
    pub inner : word_of knows Plain a % 2 ≡ 1 → word_of knows Plain b ≡ word_of knows Plain a
    pub tracing : word_of knows Tracing b ≡ word_of knows Tracing a
    pub processors : (known_of knows b).grace.processors ≡ (known_of knows a).grace.processors
    pub processor : (known_of knows b).grace.processor ≡ (known_of knows a).grace.processor

  -- the objects to which names hold references; and those that are in lists and trees, by unit
  abbrev pub lives_of : Processor W → Lives
  lives_of m = in_hands (known_of knows m).objects

  abbrev pub items_of : Processor W → ℕ → Option Shelved
  items_of m = items_in (known_of knows m).objects

  -- its lists and trees
  abbrev pub graphs_of : Processor W → List NamedGraph
  graphs_of m = (known_of knows m).objects.graphs

  -- lists and trees are as they were, and so is what is in them
  pub record SameItems (a b : Processor W) : Type 0 where
    pub graphs : (known_of knows b).objects.graphs ≡ (known_of knows a).objects.graphs
    pub items : items_of b ≡ items_of a

  -- names hold the same references to the same objects, and lists and trees are as they were; what slots hold may be another
  abbrev pub SameLives : Processor W → Processor W → Type 0
  SameLives a b = (lives_of b ≡ lives_of a) × SameItems a b

  -- the lock that it holds, and what is in lists and trees
  abbrev pub guarded_of : Processor W → Guarded
  guarded_of m = record { lock = option_map (λ (g : MapId). g.0) m.locked; within = items_of m }

  -- its caches are as calls of level l need them
  abbrev pub FineAt : ℕ → Processor W → Type 0
  FineAt l m =
      Fine (λ (r : Recorded). r.told) (λ r. r.counted) (tests_of m)
      (known_of knows m).grace.processors l m.caches

  -- calls of level l and above came between, on its caches
  abbrev pub CameAt : ℕ → Processor W → Processor W → Type 0
  CameAt l a b = Came (λ (r : Recorded). r.told) l (tests_of a) (tests_of b) a.caches b.caches

  -- Code of level k and above ran, or none: what it did to the caches, and what it left as it was.
  pub record Between (asks words k : ℕ) (p : Program) (a b : Processor W) : Type 0 where
    pub fine : FineAt k b
    pub came : CameAt k a b
    pub stays : Stays asks words p a b
    pub goes : GoesOn (known_of knows a) (known_of knows b)
    pub fewer : length (left_of b) ≤ length (left_of a)
