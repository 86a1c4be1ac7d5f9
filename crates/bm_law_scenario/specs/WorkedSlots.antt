-- A worked journal of two processors, one of which hands an object to the other through a slot. The first runs `new x item 7` and `if x { xchg o
-- desk x if o { drop o } }`, the other one `xchg x desk null` and `if x { drop x }`. There is one page, and no deferred work runs.
use Rattle.std.specs.Prelude.{ℕ, refl, Option, Some, None, List, [], ◌∷◌, ◌++◌, codes}
use Rattle.std.proofs.Common.{lit≤}
use Rattle.bm_journal.specs.declared.ids.Domain.TheVariants.{Plain, Tracing}
use Rattle.bm_journal.specs.declared.ids.ObjId.{ObjId}
use Rattle.bm_journal.specs.declared.ids.Tag.{Tag}
use Rattle.bm_journal.specs.declared.units.Units.TheVariants.{Whole}
use Rattle.bm_journal.specs.declared.period.Period.{Period}
use Rattle.bm_journal.specs.declared.entry.Entry.{Entry}
use Rattle.bm_journal.specs.declared.entry.Entry.TheVariants as entry
use Rattle.bm_journal.specs.declared.journal.Journal.{Journal}
use Rattle.bm_lang.specs.declared.scenario.Action.{Drop, Exchange, If', None'}
use Rattle.bm_lang.specs.declared.scenario.Block.{Block}
use Rattle.bm_lang.specs.declared.scenario.MapDeclaration.{MapDeclaration}
use Rattle.bm_lang.specs.declared.scenario.MapId.{MapId}
use Rattle.bm_lang.specs.declared.scenario.MapKind.TheVariants.{Slot}
use Rattle.bm_lang.specs.declared.scenario.Parts.{Parts}
use Rattle.bm_lang.specs.declared.scenario.Statement.{Statement}
use Rattle.bm_law.specs.Lists.{Log}
use Rattle.bm_law.specs.Ordinary.{ordinary}
use Rattle.bm_law_scenario.specs.Held.{Names, Nothing, Null, Object, no_names, with_name}
use Rattle.bm_law_scenario.specs.WorkedJournal.{asks, block_of, drops_x_unless_null, item_id, journal_of, makes_x, one_page, scenario_of, script_of, took, x_name}

-- ---- the scenario

-- `slot desk item`
abbrev pub desk : List ℕ
desk = codes "desk"

abbrev pub desk_id : MapId
desk_id = record { 0 = 0 }

abbrev pub slots : List MapDeclaration
slots = record { line = 6; kind = Slot; name = desk; type_id = item_id } ∷ []

abbrev pub o_name : List ℕ
o_name = codes "o"

-- `if o { drop o }`, and `if x { xchg o desk x if o { drop o } }`, in this line
abbrev pub drops_o_unless_null : ℕ → Statement
drops_o_unless_null line =
    record {
      line = line;
      action =
          If' o_name
          (block_of (record { line = line; action = Drop o_name } ∷ []) (lit≤ tt) line)
          None';
    }

abbrev pub puts_x : ℕ → List Statement
puts_x line =
    record { line = line; action = Exchange o_name desk_id (Some x_name) }
    ∷ drops_o_unless_null line ∷ []

abbrev pub puts_x_unless_null : ℕ → Statement
puts_x_unless_null line =
    record { line = line; action = If' x_name (block_of (puts_x line) (lit≤ tt) line) None' }

abbrev pub gives : Block
gives = block_of (makes_x 8 ∷ puts_x_unless_null 9 ∷ []) (lit≤ tt) 10

-- `xchg x desk null`
abbrev pub takes_x : ℕ → Statement
takes_x line = record { line = line; action = Exchange x_name desk_id None }

abbrev pub takes : Block
takes = block_of (takes_x 12 ∷ drops_x_unless_null 13 ∷ []) (lit≤ tt) 14

abbrev pub handed_over : Parts
handed_over = record (scenario_of 1 gives) {
  processors = 2;
  maps = slots;
  scripts = script_of 7 (codes "gives") gives ∷ script_of 11 (codes "takes") takes ∷ [];
  runs =
      record { line = 15; processor = 0; script = record { 0 = 0 } }
      ∷ record { line = 16; processor = 1; script = record { 0 = 1 } } ∷ [];
}

-- ---- the names

abbrev pub holding : Names
holding = with_name x_name (Object item_id 3 1) no_names

-- x has given its reference, and o holds what was found
abbrev pub given_away : Names
given_away = with_name o_name Null (with_name x_name Nothing holding)

-- x gave up what it took
abbrev pub dropped : Names
dropped = with_name x_name Nothing holding

-- ---- the logs

-- an exchange, by what is put there, what is found, and who put that
abbrev pub exchanges : Option ObjId → Option ObjId → Option Tag → List Entry
exchanges put was by = entry.Xchg desk put was by ∷ []

abbrev pub the_object : Option ObjId
the_object = Some (record { unit = 3; life = 1 })

-- the call of this number of a processor
abbrev pub call_of : (processor serial : ℕ) → Option Tag
call_of p n = Some (record { processor = p; serial = n })

-- these units are swept, and go back to the stock after a tracing period, which begins with this number
abbrev pub sweep_period_of : ℕ → Period
sweep_period_of n =
    record { domain = Tracing; number = n; first = 2 ∷ 0 ∷ 2 ∷ 0 ∷ []; later = 2 ∷ 0 ∷ 2 ∷ 0 ∷ [] }

abbrev pub sweeps_by : (begin stamp : ℕ) → List ℕ → List Entry
sweeps_by begin stamp units =
    entry.Sweep 0 (Whole units) ∷
    entry.Stamp 0 Tracing stamp ∷
    entry.Begin Tracing begin ∷
    entry.Finish (sweep_period_of stamp) ∷
    entry.Pass 0 Tracing stamp ∷
    entry.Return 0 (Whole units) ∷ []

abbrev pub second_page : List ℕ
second_page = 4 ∷ 5 ∷ 6 ∷ 7 ∷ []

abbrev pub begins : List ℕ → List Entry
begins name = entry.Script name ∷ entry.In Plain 1 ∷ []

abbrev pub stops : List ℕ → List Entry
stops name = entry.Out Plain 2 ∷ entry.Done name ∷ []

-- processor 0 makes the object and puts it into the slot; in the closing it finds the slot empty, as this call left it
abbrev pub makes_and_puts : List Entry
makes_and_puts = asks ∷ took 3 ++ exchanges the_object None None

abbrev pub giver_with : Option Tag → List Entry
giver_with by =
    entry.Fill 0 (Whole one_page) ∷ begins (codes "gives") ++ makes_and_puts
    ++ stops (codes "gives") ++ entry.Ended ∷ entry.Close ∷ exchanges None None by
    ++ sweeps_by 1 2 (2 ∷ 1 ∷ 0 ∷ [])

abbrev pub empties : List Entry
empties = exchanges None None (call_of 1 1)

abbrev pub giver_entries : List Entry
giver_entries = giver_with (call_of 1 1)

-- processor 1 takes what this call put there, and drops it with this home; the unit stands on its own free list then
abbrev pub gives_up_to : (home : ℕ) → List Entry
gives_up_to home =
    entry.Drop 3 1 ∷ entry.Last ∷ entry.Free 3 home ∷ entry.Enter 0 1 ∷ entry.Push 0 3
    ∷ entry.Count 0 5 ∷ entry.Leave 0 0 ∷ []

abbrev pub taker_with : Option Tag → (home : ℕ) → List Entry
taker_with by home =
    entry.Fill 0 (Whole second_page) ∷ begins (codes "takes")
    ++ (exchanges None the_object by ++ gives_up_to home) ++ stops (codes "takes")
    ++ entry.Ended ∷ sweeps_by 3 4 (3 ∷ 7 ∷ 6 ∷ 5 ∷ 4 ∷ [])

-- processor 0 has put it, and has given the unit
abbrev pub gives_up : List Entry
gives_up = gives_up_to 0

abbrev pub taker_entries : List Entry
taker_entries = taker_with (call_of 0 2) 0

abbrev pub giver : Log
giver = ordinary giver_entries

abbrev pub taker : Log
taker = ordinary taker_entries

abbrev pub handed_over_journal : Journal
handed_over_journal =
    record
    (journal_of 1 (giver ∷ taker ∷ []) refl
    (17 ∷ 1 ∷ 0 ∷ 0 ∷ 1 ∷ 0 ∷ 0 ∷ 3 ∷ 0 ∷ 0 ∷ 0 ∷ 0 ∷ 1 ∷ 0 ∷ 8 ∷ 8 ∷ 0 ∷ 2 ∷ 0 ∷ [])) {
      processors = 2;
      maps = desk ∷ [];
      scripts = codes "gives" ∷ codes "takes" ∷ [];
    }

-- ---- wrong ones

-- x keeps what it gave
abbrev pub kept : Names
kept = with_name o_name Null holding

-- The object is taken as what no call had put; as what its maker's first call had put; or dropped as the unit of processor 1. In the closing the
-- slot is found as the wrong call left it.
abbrev pub taken_at_start : List Log
taken_at_start = giver ∷ ordinary (taker_with None 0) ∷ []

abbrev pub taken_of_other : List Log
taken_of_other = giver ∷ ordinary (taker_with (call_of 0 1) 0) ∷ []

abbrev pub dropped_as_own : List Log
dropped_as_own = giver ∷ ordinary (taker_with (call_of 0 2) 1) ∷ []

abbrev pub emptied_of_other : List Log
emptied_of_other = ordinary (giver_with (call_of 0 2)) ∷ taker ∷ []
