-- Journals that are each one step away from a worked one, which is that of one object made and dropped unless something
-- else is said. Where the step is in the log, the totals are those of the log, and the closing sweeps what stands in the
-- lists then.
use Rattle.std.specs.Prelude.{IsTrue, refl, List, [], ◌∷◌, ◌++◌, codes}
use Rattle.std.proofs.Common.{lit≤}
use Rattle.bm_journal.specs.declared.ids.Domain.TheVariants.{Plain}
use Rattle.bm_journal.specs.declared.units.Units.TheVariants.{Whole}
use Rattle.bm_journal.specs.declared.entry.Entry.{Entry}
use Rattle.bm_journal.specs.declared.entry.Entry.TheVariants as entry
use Rattle.bm_journal.specs.declared.journal.Journal.{Journal}
use Rattle.bm_journal.specs.Totals.{totals_of}
use Rattle.bm_journal.specs.WellFormed.{are_whole}
use Rattle.bm_lang.specs.declared.scenario.Block.{Block}
use Rattle.bm_lang.specs.declared.scenario.Parts.{Parts}
use Rattle.bm_law.specs.Lists.{Log}
use Rattle.bm_law.specs.Ordinary.{ordinary}
use Rattle.bm_law_scenario.specs.WorkedJournal.{makes_x, block_of, scenario_of, one_page, asks, asked, took, took_none, gave, ended, swept, journal_of, one_object_log, one_object_journal, main_part, three_calls_journal}

-- ---- the heading, the histories and the totals

-- two processors and two pages, where there is one
abbrev pub two_processors : Journal
two_processors = record one_object_journal { processors = 2 }

abbrev pub two_pages : Journal
two_pages = record one_object_journal { pages = 2 }

-- the type has another name, there is a map, and the script has another name
abbrev pub other_type : Journal
other_type = record one_object_journal { types = codes "thing" ∷ [] }

abbrev pub one_map : Journal
one_map =
    record one_object_journal { maps = codes "slot" ∷ []; maps_differ = refl; owners_named = refl }

abbrev pub other_script : Journal
other_script = record one_object_journal { scripts = codes "other" ∷ [] }

-- another batch of the class
abbrev pub other_marks : Journal
other_marks =
    record one_object_journal { classes = (0, record { low = 32; high = 96; batch = 47 }) ∷ [] }

-- the history of a list that isn't there
abbrev pub one_history : Journal
one_history = record one_object_journal { graphs = (codes "list", []) ∷ []; owners_named = refl }

-- one step more than there are
abbrev pub one_step_more : Journal
one_step_more =
    record one_object_journal
    { totals = 14 ∷ 1 ∷ 0 ∷ 0 ∷ 1 ∷ 0 ∷ 0 ∷ 0 ∷ 0 ∷ 0 ∷ 0 ∷ 0 ∷ 1 ∷ 0 ∷ 4 ∷ 4 ∷ 0 ∷ 1 ∷ 0 ∷ [] }

-- ---- the number of logs

-- one log too many, and none
abbrev pub two_logs : Journal
two_logs =
    journal_of 1 (one_object_log ∷ one_object_log ∷ []) refl
    (totals_of (one_object_log ∷ one_object_log ∷ []))

abbrev pub no_log : Journal
no_log = journal_of 1 [] refl (totals_of [])

-- ---- the log

-- a journal of this log alone
abbrev pub telling : (log : Log) → IsTrue (are_whole (log ∷ [])) → Journal
telling log whole = journal_of 1 (log ∷ []) whole (totals_of (log ∷ []))

-- The object is never dropped.
abbrev pub never_dropped_log : Log
never_dropped_log = ordinary (asked one_page ++ took 3 ++ ended ++ swept (2 ∷ 1 ∷ 0 ∷ []))

abbrev pub never_dropped : Journal
never_dropped = telling never_dropped_log refl

-- The script itself drops nothing: at its end a name still owns the object. The checker refuses such a script.
abbrev pub makes_alone : Block
makes_alone = block_of (makes_x 7 ∷ []) (lit≤ tt) 9

abbrev pub object_left : Parts
object_left = scenario_of 1 makes_alone

-- The object is dropped twice.
abbrev pub dropped_twice_log : Log
dropped_twice_log =
    ordinary
    (asked one_page ++ took 3 ++ gave 3 4 ++ gave 3 5 ++ ended
    ++ swept (3 ∷ 3 ∷ 2 ∷ 1 ∷ 0 ∷ []))

abbrev pub dropped_twice : Journal
dropped_twice = telling dropped_twice_log refl

-- Another object is dropped than the one that was given.
abbrev pub other_dropped_log : Log
other_dropped_log =
    ordinary (asked one_page ++ took 3 ++ gave 2 4 ++ ended ++ swept (2 ∷ 2 ∷ 1 ∷ 0 ∷ []))

abbrev pub other_dropped : Journal
other_dropped = telling other_dropped_log refl

-- The call has another value than the statement.
abbrev pub other_value_log : Log
other_value_log =
    ordinary
    (entry.Fill 0 (Whole one_page) ∷ entry.Script (codes "main") ∷ entry.In Plain 1
    ∷ entry.New (codes "item") (8 ∷ []) ∷ took 3 ++ gave 3 4 ++ ended
    ++ swept (3 ∷ 2 ∷ 1 ∷ 0 ∷ []))

abbrev pub other_value : Journal
other_value = telling other_value_log refl

-- The call is served from class 1, where there is no unit.
abbrev pub other_class_log : Log
other_class_log =
    ordinary
    (asked one_page ++ entry.Enter 1 1 ∷ entry.PopNone 1 ∷ entry.Leave 1 0 ∷ entry.Raise 1
    ∷ entry.Empty ∷ ended ++ swept (3 ∷ 2 ∷ 1 ∷ 0 ∷ []))

abbrev pub other_class : Journal
other_class = telling other_class_log refl

-- The allocation answers null, and the pop `none`, where Free has four units.
abbrev pub null_with_units_log : Log
null_with_units_log = ordinary (asked one_page ++ took_none ++ ended ++ swept (3 ∷ 2 ∷ 1 ∷ 0 ∷ []))

abbrev pub null_with_units : Journal
null_with_units = telling null_with_units_log refl

-- Nothing is brought at the opening, though there is a page, and the call answers null.
abbrev pub not_opened_log : Log
not_opened_log = ordinary (asked [] ++ took_none ++ ended)

abbrev pub not_opened : Journal
not_opened = telling not_opened_log refl

-- The unit below the top is given.
abbrev pub below_the_top_log : Log
below_the_top_log =
    ordinary (asked one_page ++ took 2 ++ gave 2 4 ++ ended ++ swept (2 ∷ 3 ∷ 1 ∷ 0 ∷ []))

abbrev pub below_the_top : Journal
below_the_top = telling below_the_top_log refl

-- The drop doesn't count the free units.
abbrev pub uncounted_drop : List Entry
uncounted_drop =
    entry.Drop 3 1 ∷ entry.Last ∷ entry.Free 3 0 ∷ entry.Enter 0 1 ∷ entry.Push 0 3
    ∷ entry.Leave 0 0 ∷ []

abbrev pub not_counted_log : Log
not_counted_log =
    ordinary (asked one_page ++ took 3 ++ uncounted_drop ++ ended ++ swept (3 ∷ 2 ∷ 1 ∷ 0 ∷ []))

abbrev pub not_counted : Journal
not_counted = telling not_counted_log refl

-- The sweep names the units in another order; it leaves one out; there is none.
abbrev pub up_to_the_sweep : List Entry
up_to_the_sweep = asked one_page ++ took 3 ++ gave 3 4 ++ ended

abbrev pub other_order_log : Log
other_order_log = ordinary (up_to_the_sweep ++ swept (0 ∷ 1 ∷ 2 ∷ 3 ∷ []))

abbrev pub other_order : Journal
other_order = telling other_order_log refl

abbrev pub one_left_out_log : Log
one_left_out_log = ordinary (up_to_the_sweep ++ swept (3 ∷ 2 ∷ 1 ∷ []))

abbrev pub one_left_out : Journal
one_left_out = telling one_left_out_log refl

abbrev pub not_swept_log : Log
not_swept_log = ordinary up_to_the_sweep

abbrev pub not_swept : Journal
not_swept = telling not_swept_log refl

-- The closing doesn't begin.
abbrev pub not_closed_log : Log
not_closed_log =
    ordinary
    (asked one_page ++ took 3 ++ gave 3 4 ++ entry.Out Plain 2 ∷ entry.Done (codes "main")
    ∷ entry.Ended ∷ swept (3 ∷ 2 ∷ 1 ∷ 0 ∷ []))

abbrev pub not_closed : Journal
not_closed = telling not_closed_log refl

-- ---- no page

-- The class is swept, though it is empty.
abbrev pub empty_swept_log : Log
empty_swept_log = ordinary (asked [] ++ took_none ++ ended ++ swept [])

abbrev pub empty_swept : Journal
empty_swept = journal_of 0 (empty_swept_log ∷ []) refl (totals_of (empty_swept_log ∷ []))

-- ---- two scripts

-- a journal of this log alone, with the heading of the two scripts
abbrev pub telling_three_calls : (log : Log) → IsTrue (are_whole (log ∷ [])) → Journal
telling_three_calls log whole =
    record three_calls_journal
    { logs = log ∷ []; totals = totals_of (log ∷ []); units_whole = whole }

-- The script that is declared first runs first.
abbrev pub main_first_log : Log
main_first_log = ordinary (asked [] ++ took_none ++ entry.Out Plain 2 ∷ entry.Done (codes "main") ∷
    entry.Script (codes "twice") ∷ entry.In Plain 3 ∷ asks ∷ took_none ++ asks ∷ took_none
    ++ entry.Out Plain 4 ∷ entry.Done (codes "twice") ∷
    entry.Ended ∷ entry.Close ∷ [])

abbrev pub main_first : Journal
main_first = telling_three_calls main_first_log refl

-- The block that is repeated twice runs once.
abbrev pub repeated_once_log : Log
repeated_once_log = ordinary (entry.Fill 0 (Whole []) ∷
    entry.Script (codes "twice") ∷ entry.In Plain 1 ∷ asks ∷ took_none ++ entry.Out Plain 2
    ∷ entry.Done (codes "twice") ∷
    main_part ++ entry.Ended ∷ entry.Close ∷ [])

abbrev pub repeated_once : Journal
repeated_once = telling_three_calls repeated_once_log refl
