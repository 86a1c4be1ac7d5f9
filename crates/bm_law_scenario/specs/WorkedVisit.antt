-- A worked journal with lists and trees: `new x job 7` and `if x { lock q push_back q x get x a unlock }`, on one processor with one page. The object
-- stays in the list, and the closing takes it from there; the other list, the tree and the slot are empty. No deferred work runs.
use Rattle.std.specs.Prelude.{ℕ, refl, Some, None, List, [], ◌∷◌, ◌++◌, codes}
use Rattle.std.proofs.Common.{lit≤}
use Rattle.bm_journal.specs.declared.ids.Domain.TheVariants.{Plain, Tracing}
use Rattle.bm_journal.specs.declared.units.Units.TheVariants.{Whole}
use Rattle.bm_journal.specs.declared.entry.Entry.{Entry}
use Rattle.bm_journal.specs.declared.entry.Entry.TheVariants as entry
use Rattle.bm_journal.specs.declared.journal.Journal.{Journal}
use Rattle.bm_journal.specs.declared.past.Past.{Past}
use Rattle.bm_journal.specs.declared.past.PastCall.{PastCall}
use Rattle.bm_journal.specs.declared.past.PastCall.TheVariants as past
use Rattle.bm_lang.specs.declared.scenario.Action.{Get, If', Lock, None', PushBack, Unlock}
use Rattle.bm_lang.specs.declared.scenario.Block.{Block}
use Rattle.bm_lang.specs.declared.scenario.Parts.{Parts}
use Rattle.bm_lang.specs.declared.scenario.Statement.{Statement}
use Rattle.bm_law.specs.Lists.{Log}
use Rattle.bm_law.specs.Ordinary.{ordinary}
use Rattle.bm_law_scenario.specs.Held.{Names, soft_ended}
use Rattle.bm_law_scenario.specs.WorkedDrops.{a_field}
use Rattle.bm_law_scenario.specs.WorkedJournal.{journal_of, one_page, scenario_of, sweep_period, x_name}
use Rattle.bm_law_scenario.specs.WorkedLists.{asks_job, gives_up, graphs, lock_of, long_block, makes, pushed, pushes, q_id, reads_a, the_job, unlock_of}

-- ---- the scenario

abbrev pub visits : List Statement
visits =
    record { line = 11; action = Lock q_id } ∷
    record { line = 12; action = PushBack q_id x_name } ∷
    record { line = 13; action = Get x_name a_field } ∷
    record { line = 14; action = Unlock } ∷ []

abbrev pub puts_away : List Statement
puts_away =
    makes ∷ record { line = 15; action = If' x_name (long_block visits (lit≤ tt)) None' } ∷ []

abbrev pub keeper : Block
keeper = long_block puts_away (lit≤ tt)

abbrev pub visited : Parts
visited = record (scenario_of 1 keeper) { types = graphs.types; maps = graphs.maps }

-- behind `unlock` no name reaches the object
abbrev pub away : Names
away = soft_ended pushed

-- ---- the log

abbrev pub visit_entries : List Entry
visit_entries = lock_of (codes "q") ++ pushes ++ reads_a ++ unlock_of (codes "q")

abbrev pub put_away : List Entry
put_away = asks_job ++ visit_entries

abbrev pub begins : List Entry
begins = entry.Script (codes "main") ∷ entry.In Plain 1 ∷ []

abbrev pub stops : List Entry
stops = entry.Out Plain 2 ∷ entry.Done (codes "main") ∷ []

-- the list is emptied, from this position on, and then the other maps
abbrev pub empties_q : ℕ → List Entry
empties_q n =
    entry.PopFront (codes "q") (Some the_job) n ∷ gives_up 3 ++ entry.PopFront (codes "q") None 2
    ∷ []

abbrev pub empties_others : List Entry
empties_others =
    entry.PopFront (codes "r") None 0 ∷ entry.First (codes "t") None 0
    ∷ entry.Xchg (codes "s") None None None ∷ []

abbrev pub sweeps : List Entry
sweeps =
    entry.Sweep 2 (Whole (3 ∷ 2 ∷ 1 ∷ 0 ∷ [])) ∷
    entry.Stamp 2 Tracing 2 ∷
    entry.Begin Tracing 1 ∷
    entry.Finish sweep_period ∷
    entry.Pass 2 Tracing 2 ∷
    entry.Return 2 (Whole (3 ∷ 2 ∷ 1 ∷ 0 ∷ [])) ∷ []

-- with this visit, and this emptying of the list
abbrev pub log_with : (visit emptying : List Entry) → Log
log_with visit emptying =
    ordinary
    (entry.Fill 2 (Whole one_page) ∷ begins ++ (asks_job ++ visit) ++ stops ++ entry.Ended
    ∷ entry.Close ∷ (emptying ++ empties_others) ++ sweeps)

abbrev pub visited_log : Log
visited_log = log_with visit_entries (empties_q 1)

-- ---- the histories

-- the call of this number
abbrev pub past_of : ℕ → PastCall → Past
past_of serial call = record { tag = record { processor = 0; serial = serial }; call = call }

abbrev pub history_q : List Past
history_q =
    past_of 2 (past.PushBack the_job) ∷ past_of 4 (past.PopFront the_job)
    ∷ past_of 6 past.PopFrontNone ∷ []

abbrev pub history_r : List Past
history_r = past_of 7 past.PopFrontNone ∷ []

abbrev pub history_t : List Past
history_t = past_of 8 past.FirstNone ∷ []

abbrev pub visited_journal : Journal
visited_journal =
    record
    (journal_of 1 (visited_log ∷ []) refl
    (13 ∷ 1 ∷ 0 ∷ 0 ∷ 1 ∷ 0 ∷ 0 ∷ 1 ∷ 1 ∷ 0 ∷ 1 ∷ 3 ∷ 1 ∷ 0 ∷ 4 ∷ 4 ∷ 0 ∷ 1 ∷ 0 ∷ [])) {
      types = codes "job" ∷ codes "shared" ∷ codes "leaf" ∷ [];
      maps = codes "q" ∷ codes "r" ∷ codes "t" ∷ codes "s" ∷ [];
      classes = (2, record { low = 32; high = 96; batch = 48 }) ∷ [];
      graphs = (codes "q", history_q) ∷ (codes "r", history_r) ∷ (codes "t", history_t) ∷ [];
    }
