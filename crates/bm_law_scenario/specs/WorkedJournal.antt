-- Worked scenarios, each with its journal: a script makes an object and drops it, where there is a page and where there
-- is none; and two scripts ask for objects, one of them in a `repeat`.
use Rattle.std.specs.Prelude.{ℕ, ◌≤◌, IsTrue, false, refl, None, List, [], ◌∷◌, ◌++◌, length, codes}
use Rattle.std.specs.Global.{Vec}
use Rattle.std.specs.Ptr.{null_ptr}
use Rattle.std.proofs.Common.{lit<, lit≤}
use Rattle.bm_journal.specs.declared.ids.Domain.TheVariants.{Plain, Tracing}
use Rattle.bm_journal.specs.declared.units.Units.TheVariants.{Whole}
use Rattle.bm_journal.specs.declared.entry.Entry.{Entry}
use Rattle.bm_journal.specs.declared.entry.Entry.TheVariants as entry
use Rattle.bm_journal.specs.declared.journal.Journal.{Journal}
use Rattle.bm_journal.specs.WellFormed.{are_whole}
use Rattle.bm_lang.specs.declared.scenario.Action.{New, Drop, If', None', Repeat}
use Rattle.bm_lang.specs.declared.scenario.Block.{Block, roll-Block}
use Rattle.bm_lang.specs.declared.scenario.Parts.{Parts}
use Rattle.bm_lang.specs.declared.scenario.Script.{Script}
use Rattle.bm_lang.specs.declared.scenario.ScriptKind.TheVariants as kind
use Rattle.bm_lang.specs.declared.scenario.Statement.{Statement}
use Rattle.bm_lang.specs.declared.scenario.TypeDeclaration.{TypeDeclaration}
use Rattle.bm_lang.specs.declared.scenario.TypeId.{TypeId}
use Rattle.bm_law.specs.Lists.{Log}
use Rattle.bm_law.specs.Ordinary.{ordinary}
pub use Rattle.bm_law_lives.specs.WorkedBlock.{sweep_period}
use Rattle.bm_law_scenario.specs.Worked.{item}

-- ---- the scripts

-- a vector of these elements, of which there are at most four, with room for four
abbrev pub vector_of : {A : Type 0} (items : List A) → length items ≤ 4 → Vec A
vector_of items few =
    record {
      ptr = null_ptr;
      len = length items;
      cap = 4;
      alloc = record { memory = record { seal = tt } };
      items = items;
      ok = (refl, few);
      small = lit< tt;
    }

-- a block of these statements, with the line of its end
abbrev pub block_of : (statements : List Statement) → length statements ≤ 4 → ℕ → Block
block_of statements few end_line =
    roll-Block (record { statements = vector_of statements few; end_line = end_line })

-- `type item { a }`, the only type
abbrev pub item_id : TypeId
item_id = record { 0 = 0 }

abbrev pub types : List TypeDeclaration
types = record item { line = 5 } ∷ []

-- the name x
abbrev pub x_name : List ℕ
x_name = codes "x"

-- `new x item 7`, in this line
abbrev pub makes_x : ℕ → Statement
makes_x line = record { line = line; action = New x_name item_id (7 ∷ []) }

-- `drop x`, and `if x { drop x }`
abbrev pub drops_x : ℕ → Statement
drops_x line = record { line = line; action = Drop x_name }

abbrev pub drops_x_unless_null : ℕ → Statement
drops_x_unless_null line =
    record { line = line; action = If' x_name (block_of (drops_x line ∷ []) (lit≤ tt) line) None' }

-- An object is made and dropped: `new x item 7`, `if x { drop x }`. The numbers are those of the two lines and of the end.
abbrev pub makes_and_drops : ℕ → ℕ → ℕ → Block
makes_and_drops first second end =
    block_of (makes_x first ∷ drops_x_unless_null second ∷ []) (lit≤ tt) end

-- the same twice, in this line: `repeat 2 { new x item 7 if x { drop x } }`
abbrev pub makes_and_drops_twice : ℕ → ℕ → Block
makes_and_drops_twice line end =
    block_of (record { line = line; action = Repeat 2 (makes_and_drops line line line) } ∷ [])
    (lit≤ tt) end

-- a plain script
abbrev pub script_of : ℕ → List ℕ → Block → Script
script_of line name body = record { line = line; name = name; kind = kind.Plain; body = body }

-- ---- the scenarios

-- one processor with so many pages, which runs one plain script with this body
abbrev pub scenario_of : ℕ → Block → Parts
scenario_of pages body = record {
  processors = 1;
  pages = pages;
  deferred = false;
  types = types;
  maps = [];
  scripts = script_of 6 (codes "main") body ∷ [];
  runs = record { line = 10; processor = 0; script = record { 0 = 0 } } ∷ [];
  ats = [];
  turns = None;
}

-- an object is made and dropped: with one page, and with none
abbrev pub one_object : Parts
one_object = scenario_of 1 (makes_and_drops 7 8 9)

abbrev pub no_object : Parts
no_object = scenario_of 0 (makes_and_drops 7 8 9)

-- Two scripts, of which the second one runs first. There is no page.
abbrev pub three_calls : Parts
three_calls = record no_object {
  scripts =
      script_of 6 (codes "main") (makes_and_drops 7 8 9)
      ∷ script_of 10 (codes "twice") (makes_and_drops_twice 11 12) ∷ [];
  runs =
      record { line = 13; processor = 0; script = record { 0 = 1 } }
      ∷ record { line = 14; processor = 0; script = record { 0 = 0 } } ∷ [];
}

-- ---- the parts of their logs

-- the units of a page
abbrev pub one_page : List ℕ
one_page = 0 ∷ 1 ∷ 2 ∷ 3 ∷ []

-- the call for an object
abbrev pub asks : Entry
asks = entry.New (codes "item") (7 ∷ [])

-- the opening with these units, up to the call
abbrev pub asked : List ℕ → List Entry
asked units =
    entry.Fill 0 (Whole units) ∷ entry.Script (codes "main") ∷ entry.In Plain 1 ∷ asks ∷ []

-- unit u is given
abbrev pub took : ℕ → List Entry
took u =
    entry.Enter 0 1 ∷ entry.Pop 0 u ∷ entry.Count 0 3 ∷ entry.Leave 0 0 ∷ entry.Raise 0
    ∷ entry.Given u 1 ∷ []

-- none is given
abbrev pub took_none : List Entry
took_none = entry.Enter 0 1 ∷ entry.PopNone 0 ∷ entry.Leave 0 0 ∷ entry.Raise 0 ∷ entry.Empty ∷ []

-- unit u is given up, and Free has k units then
abbrev pub gave : ℕ → ℕ → List Entry
gave u k =
    entry.Drop u 1 ∷ entry.Last ∷ entry.Free u 0 ∷ entry.Enter 0 1 ∷ entry.Push 0 u
    ∷ entry.Count 0 k ∷ entry.Leave 0 0 ∷ []

-- the script ends, and the closing begins
abbrev pub ended : List Entry
ended = entry.Out Plain 2 ∷ entry.Done (codes "main") ∷ entry.Ended ∷ entry.Close ∷ []

-- these units are swept, and go back to the stock after this grace period
abbrev pub swept : List ℕ → List Entry
swept units =
    entry.Sweep 0 (Whole units) ∷
    entry.Stamp 0 Tracing 2 ∷
    entry.Begin Tracing 1 ∷
    entry.Finish sweep_period ∷
    entry.Pass 0 Tracing 2 ∷
    entry.Return 0 (Whole units) ∷ []

-- ---- the journals

-- a journal with the heading of one_object, but for the pages
abbrev pub journal_of : ℕ → (logs : List Log) → IsTrue (are_whole logs) → List ℕ → Journal
journal_of pages logs whole totals = record {
  processors = 1;
  pages = pages;
  types = codes "item" ∷ [];
  maps = [];
  scripts = codes "main" ∷ [];
  classes = (0, record { low = 32; high = 96; batch = 48 }) ∷ [];
  logs = logs;
  graphs = [];
  totals = totals;
  maps_differ = refl;
  owners_named = refl;
  units_whole = whole;
}

-- one object: of four units of 16 bytes the last one is given, and comes back on top
abbrev pub one_object_log : Log
one_object_log =
    ordinary (asked one_page ++ took 3 ++ gave 3 4 ++ ended ++ swept (3 ∷ 2 ∷ 1 ∷ 0 ∷ []))

abbrev pub one_object_journal : Journal
one_object_journal =
    journal_of 1 (one_object_log ∷ []) refl
    (13 ∷ 1 ∷ 0 ∷ 0 ∷ 1 ∷ 0 ∷ 0 ∷ 0 ∷ 0 ∷ 0 ∷ 0 ∷ 0 ∷ 1 ∷ 0 ∷ 4 ∷ 4 ∷ 0 ∷ 1 ∷ 0 ∷ [])

-- no page: nothing is given, and nothing is swept
abbrev pub no_object_log : Log
no_object_log = ordinary (asked [] ++ took_none ++ ended)

abbrev pub no_object_journal : Journal
no_object_journal =
    journal_of 0 (no_object_log ∷ []) refl
    (4 ∷ 0 ∷ 1 ∷ 0 ∷ 0 ∷ 0 ∷ 0 ∷ 0 ∷ 0 ∷ 0 ∷ 0 ∷ 0 ∷ 1 ∷ 0 ∷ 0 ∷ 0 ∷ 0 ∷ 0 ∷ 0 ∷ [])

-- the two scripts' parts of a log
abbrev pub twice_part : List Entry
twice_part =
    entry.Script (codes "twice") ∷ entry.In Plain 1 ∷ asks ∷ took_none ++ asks ∷ took_none
    ++ entry.Out Plain 2 ∷ entry.Done (codes "twice") ∷ []

abbrev pub main_part : List Entry
main_part =
    entry.Script (codes "main") ∷ entry.In Plain 3 ∷ asks ∷ took_none ++ entry.Out Plain 4
    ∷ entry.Done (codes "main") ∷ []

-- two scripts: two calls, and one
abbrev pub three_calls_log : Log
three_calls_log =
    ordinary (entry.Fill 0 (Whole []) ∷ twice_part ++ main_part ++ entry.Ended ∷ entry.Close ∷ [])

abbrev pub three_calls_journal : Journal
three_calls_journal =
    record
    (journal_of 0 (three_calls_log ∷ []) refl
    (12 ∷ 0 ∷ 3 ∷ 0 ∷ 0 ∷ 0 ∷ 0 ∷ 0 ∷ 0 ∷ 0 ∷ 0 ∷ 0 ∷ 3 ∷ 0 ∷ 0 ∷ 0 ∷ 0 ∷ 0 ∷ 0 ∷ []))
    { scripts = codes "main" ∷ codes "twice" ∷ [] }
