-- A worked sleepable script with its journal, the same script as a plain one, and journals that are each one step away.
use Rattle.std.specs.Prelude.{IsTrue, List, [], ◌∷◌, ◌++◌, codes}
use Rattle.std.proofs.Common.{lit≤}
use Rattle.bm_journal.specs.declared.ids.Domain.TheVariants.{Plain, Tracing}
use Rattle.bm_journal.specs.declared.entry.Entry.{Entry}
use Rattle.bm_journal.specs.declared.entry.Entry.TheVariants as entry
use Rattle.bm_journal.specs.declared.journal.Journal.{Journal}
use Rattle.bm_journal.specs.WellFormed.{are_whole}
use Rattle.bm_lang.specs.declared.scenario.Action.{Section, Yield}
use Rattle.bm_lang.specs.declared.scenario.Block.{Block}
use Rattle.bm_lang.specs.declared.scenario.Parts.{Parts}
use Rattle.bm_lang.specs.declared.scenario.ScriptKind.TheVariants as kind
use Rattle.bm_lang.specs.declared.scenario.Statement.{Statement}
use Rattle.bm_law.specs.Lists.{Log}
use Rattle.bm_law.specs.Ordinary.{ordinary}
use Rattle.bm_law_scenario.specs.WorkedJournal.{block_of, journal_of, scenario_of, script_of}

-- ---- the scripts

abbrev pub yields : Statement
yields = record { line = 7; action = Yield }

-- `section { .. }`, with one statement in it
abbrev pub section_with : Statement → Statement
section_with inner = record { line = 7; action = Section (block_of (inner ∷ []) (lit≤ tt) 7) }

-- `section { section { yield } } yield`
abbrev pub naps : Block
naps = block_of (section_with (section_with yields) ∷ yields ∷ []) (lit≤ tt) 8

-- one processor, no type and no page: a plain script with this body, and a sleepable one
abbrev pub awake : Parts
awake = record (scenario_of 0 naps) { types = [] }

abbrev pub asleep : Parts
asleep =
    record awake
    { scripts = record (script_of 6 (codes "main") naps) { kind = kind.Sleepable } ∷ [] }

-- ---- their journals

-- the script leaves these entries, and the processor ends
abbrev pub ran : List Entry → Log
ran own =
    ordinary
    (entry.Script (codes "main") ∷ own ++ entry.Done (codes "main") ∷ entry.Ended ∷ entry.Close
    ∷ [])

-- a journal of this log, in which no step stands
abbrev pub stepless : (log : Log) → IsTrue (are_whole (log ∷ [])) → Journal
stepless log whole =
    record
    (journal_of 0 (log ∷ []) whole
    (0 ∷ 0 ∷ 0 ∷ 0 ∷ 0 ∷ 0 ∷ 0 ∷ 0 ∷ 0 ∷ 0 ∷ 0 ∷ 0 ∷ 0 ∷ 0 ∷ 0 ∷ 0 ∷ 0 ∷ 0 ∷ 0 ∷ []))
    { types = []; classes = [] }

-- in a tracing section the outer `section` begins a plain one, and the inner one nothing
abbrev pub asleep_log : Log
asleep_log =
    ran
    (entry.In Tracing 1 ∷ entry.In Plain 1 ∷ entry.Yield ∷ entry.Out Plain 2 ∷ entry.Yield
    ∷ entry.Out Tracing 2 ∷ [])

-- in a plain section neither begins one
abbrev pub awake_log : Log
awake_log = ran (entry.In Plain 1 ∷ entry.Yield ∷ entry.Yield ∷ entry.Out Plain 2 ∷ [])

-- ---- wrong ones, all with the words that sections count

-- the sleepable script opens no plain section; two of them; one that goes on over the last `yield`; one that doesn't end; a
-- `yield` isn't there
abbrev pub no_section : Log
no_section = ran (entry.In Tracing 1 ∷ entry.Yield ∷ entry.Yield ∷ entry.Out Tracing 2 ∷ [])

abbrev pub two_sections : Log
two_sections =
    ran
    (entry.In Tracing 1 ∷ entry.In Plain 1 ∷ entry.Out Plain 2 ∷ entry.In Plain 3 ∷ entry.Yield
    ∷ entry.Out Plain 4 ∷ entry.Yield ∷ entry.Out Tracing 2 ∷ [])

abbrev pub wide_section : Log
wide_section =
    ran
    (entry.In Tracing 1 ∷ entry.In Plain 1 ∷ entry.Yield ∷ entry.Yield ∷ entry.Out Plain 2
    ∷ entry.Out Tracing 2 ∷ [])

abbrev pub open_section : Log
open_section =
    ran
    (entry.In Tracing 1 ∷ entry.In Plain 1 ∷ entry.Yield ∷ entry.Yield ∷ entry.Out Tracing 2
    ∷ [])

abbrev pub one_yield : Log
one_yield =
    ran
    (entry.In Tracing 1 ∷ entry.In Plain 1 ∷ entry.Yield ∷ entry.Out Plain 2
    ∷ entry.Out Tracing 2 ∷ [])
