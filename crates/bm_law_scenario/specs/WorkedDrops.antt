-- Worked drops of objects with a count and without one, references that are acquired, and a whole journal with a counted object: `type
-- item counted { }`, and a plain script `new x item` with `if x { acquire y x drop x drop y }`, on one processor with one page.
use Rattle.std.specs.Prelude.{ℕ, true, refl, Some, List, [], ◌∷◌, ◌++◌, codes}
use Rattle.std.proofs.Common.{lit≤}
use Rattle.bm_journal.specs.declared.ids.Domain.TheVariants.{Plain}
use Rattle.bm_journal.specs.declared.units.Units.TheVariants.{Whole}
use Rattle.bm_journal.specs.declared.entry.Entry.{Entry}
use Rattle.bm_journal.specs.declared.entry.Entry.TheVariants as entry
use Rattle.bm_journal.specs.declared.journal.Journal.{Journal}
use Rattle.bm_lang.specs.declared.scenario.Action.{Acquire, New, If', None'}
use Rattle.bm_lang.specs.declared.scenario.Block.{Block}
use Rattle.bm_lang.specs.declared.scenario.Parts.{Parts}
use Rattle.bm_lang.specs.declared.scenario.Statement.{Statement}
use Rattle.bm_lang.specs.declared.scenario.TypeDeclaration.{TypeDeclaration}
use Rattle.bm_law.specs.Lists.{Log}
use Rattle.bm_law.specs.Ordinary.{ordinary}
use Rattle.bm_law.specs.State.{State, on_row, opening}
use Rattle.bm_lang.specs.declared.scenario.Action.{Drop}
use Rattle.bm_law.specs.Alone.{at_level}
use Rattle.bm_law_work.specs.Parts as part
use Rattle.bm_law_scenario.specs.Declared.{unmapped}
use Rattle.bm_law_scenario.specs.Runs.{RunsAction}
use Rattle.bm_law_scenario.specs.Held.{Names, Object, no_names, with_name}
use Rattle.bm_law_scenario.specs.Held as held
use Rattle.bm_law_scenario.specs.Worked.{item}
use Rattle.bm_law_scenario.specs.WorkedJournal.{block_of, drops_x, ended, item_id, journal_of, one_page, scenario_of, swept, took, x_name}

-- ---- single drops

abbrev pub counted_types : List TypeDeclaration
counted_types = record item { line = 5; counted = true; fields = [] } ∷ []

-- x holds the first life of unit 3, and nothing
abbrev pub holding_three : Names
holding_three = with_name x_name (Object item_id 3 1) no_names

abbrev pub none_held : Names
none_held = with_name x_name held.Nothing holding_three

-- the lists where no plain batch is in progress, and where one waits for stamp 2
abbrev pub no_batch : State ℕ
no_batch = opening 0

abbrev pub in_batch : State ℕ
in_batch = on_row 0 (λ r. record r { deferred = record r.deferred { plain = Some 2 } }) (opening 0)

-- unit 3 is given up, by a delayed free that raises the flag, by one that doesn't, and by a plain free
abbrev pub delays : List Entry
delays =
    entry.Drop 3 1 ∷ entry.Last ∷ entry.Delay 3 0 ∷ entry.Enter 0 1 ∷ entry.Delayed 0 3
    ∷ entry.Leave 0 0 ∷ []

abbrev pub delays_and_raises : List Entry
delays_and_raises =
    entry.Drop 3 1 ∷ entry.Last ∷ entry.Delay 3 0 ∷ entry.Enter 0 1 ∷ entry.Delayed 0 3
    ∷ entry.Leave 0 0 ∷ entry.Raise 0 ∷ []

abbrev pub frees_plainly : List Entry
frees_plainly =
    entry.Drop 3 1 ∷ entry.Last ∷ entry.Free 3 0 ∷ entry.Enter 0 1 ∷ entry.Push 0 3
    ∷ entry.Count 0 4 ∷ entry.Leave 0 0 ∷ []

-- ---- references

abbrev pub y_name : List ℕ
y_name = codes "y"

-- y holds the object too; then x gives its reference up, and then y
abbrev pub both_hold : Names
both_hold = with_name y_name (Object item_id 3 1) holding_three

abbrev pub y_holds : Names
y_holds = with_name x_name held.Nothing both_hold

abbrev pub neither_holds : Names
neither_holds = with_name y_name held.Nothing y_holds

-- one reference more is acquired where one is there, and where two are
abbrev pub acquires : ℕ → List Entry
acquires seen = entry.Acquire 3 1 seen ∷ []

-- the field of the object's type, and a field that it hasn't
abbrev pub a_field : List ℕ
a_field = codes "a"

abbrev pub other_field : List ℕ
other_field = codes "b"

-- a value is found at this place
abbrev pub reads : ℕ → List Entry
reads place = entry.Get 3 1 place 7 ∷ []

-- one is given up of so many
abbrev pub gives_one_up : ℕ → List Entry
gives_one_up seen = entry.Drop 3 1 ∷ entry.Still seen ∷ []

-- ---- a whole journal

abbrev pub makes_counted : Statement
makes_counted = record { line = 7; action = New x_name item_id [] }

-- `if x { acquire y x drop x drop y }`, in this line
abbrev pub acquires_and_drops : ℕ → List Statement
acquires_and_drops line =
    record { line = line; action = Acquire y_name x_name } ∷ drops_x line
    ∷ record { line = line; action = Drop y_name } ∷ []

abbrev pub shares_unless_null : ℕ → Statement
shares_unless_null line =
    record {
      line = line;
      action = If' x_name (block_of (acquires_and_drops line) (lit≤ tt) line) None';
    }

abbrev pub makes_and_shares : Block
makes_and_shares = block_of (makes_counted ∷ shares_unless_null 8 ∷ []) (lit≤ tt) 9

abbrev pub counted_object : Parts
counted_object = record (scenario_of 1 makes_and_shares) { types = counted_types }

abbrev pub counted_call : List Entry
counted_call = entry.New (codes "item") [] ∷ took 3

-- a second reference is acquired, and both are given up
abbrev pub shared : List Entry
shared = acquires 1 ++ gives_one_up 2 ++ delays_and_raises

abbrev pub counted_entries : List Entry
counted_entries =
    entry.Fill 0 (Whole one_page) ∷ entry.Script (codes "main") ∷ entry.In Plain 1 ∷ counted_call
    ++ shared ++ ended ++ swept (2 ∷ 1 ∷ 0 ∷ 3 ∷ [])

abbrev pub counted_log : Log
counted_log = ordinary counted_entries

-- two flags are raised, by the allocation and by the free; one drop is answered that a reference is left
abbrev pub counted_journal : Journal
counted_journal =
    journal_of 1 (counted_log ∷ []) refl
    (13 ∷ 1 ∷ 0 ∷ 0 ∷ 1 ∷ 1 ∷ 1 ∷ 0 ∷ 0 ∷ 0 ∷ 0 ∷ 0 ∷ 2 ∷ 0 ∷ 4 ∷ 4 ∷ 0 ∷ 1 ∷ 0 ∷ [])

-- the drop at level 2, as a handler has it: these entries alone, from these lists
abbrev pub DropsAbove : State ℕ → List Entry → Type 0
DropsAbove s own =
    RunsAction (unmapped counted_types) 2 true part.Nothing (Drop x_name) holding_three none_held s
    (at_level 2 own)
