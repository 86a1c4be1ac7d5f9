-- The journal in which an object is put into a list, and the closing takes it from there, is lawful.
use Rattle.std.proofs.Common.{Bool, ℕ, inl, inr, cond, true, false, List, [], ◌∷◌, ◌++◌, refl, sym, ap, subst, bytes_eq, codes, lit≤, Some, None}
use Rattle.std.proofs.lemmas.Bool.Decides.{eqb_tells}
use Rattle.bm_class.specs.Sizes.{class_of_size, size_of_class}
use Rattle.bm_class.specs.Watermarks.{low_of_size, high_of_size, batch_of_size}
use Rattle.bm_journal.specs.declared.ids.Domain.TheVariants.{Plain, Tracing}
use Rattle.bm_journal.specs.declared.units.Units.TheVariants.{Whole}
use Rattle.bm_journal.specs.declared.entry.Entry.{Entry}
use Rattle.bm_journal.specs.declared.entry.Entry.TheVariants as entry
use Rattle.bm_law.specs.State.{State, opening}
use Rattle.bm_law.specs.Lists.{Leaves, Log, after}
use Rattle.bm_law.specs.Null.{Nothing, NullLaw, RepliesFit}
use Rattle.bm_law.specs.Ordinary.{ordinary}
use Rattle.bm_law.specs.Spans.{own_entries}
use Rattle.bm_law.specs.SweepPhrases.{SweepPhrase}
use Rattle.bm_law.specs.Worked.{Emptied}
use Rattle.bm_law.proofs.Agree.{leaves-lists}
use Rattle.bm_law.proofs.Null.{pops-fit}
use Rattle.bm_law_work.specs.Parts as part
use Rattle.bm_law_work.proofs.Pages.{short-named}
use Rattle.bm_law_scenario.specs.Calls.{RunsUnlock}
use Rattle.bm_law_scenario.specs.Closing.{Empties}
use Rattle.bm_law_scenario.specs.Declared.{Declared, declared_in}
use Rattle.bm_law_scenario.specs.Grammar.{IsLog}
use Rattle.bm_law_scenario.specs.Held.{OwnsNothing, no_names, soft_spent, with_name}
use Rattle.bm_law_scenario.specs.Held as held
use Rattle.bm_law_scenario.specs.Lawful.{HeadingOf, LawfulLog, LawfulLogs}
use Rattle.bm_law_scenario.specs.Parcels.{ParcelLaw}
use Rattle.bm_law_scenario.specs.Runs.{Run, RunsBlock}
use Rattle.bm_law_lives.specs.SectionWords.{SectionWords}
use Rattle.bm_law_lives.specs.Short.{all_entries}
use Rattle.bm_law_scenario.specs.WorkedJournal.{one_page, sweep_period, x_name}
use Rattle.bm_law_scenario.specs.WorkedLists.{asks_job, gives_up, holding_job, job_id, lock_of, long_block, pushed, pushes, q_id, reads_a, row_of, the_job, unlock_of, within}
use Rattle.bm_law_scenario.specs.WorkedVisit.{away, begins, empties_others, empties_q, keeper, put_away, puts_away, stops, sweeps, visit_entries, visited, visited_journal, visited_log, visits}
use Rattle.bm_law_scenario.proofs.BlockParts.{RunsList, block-parts}
use Rattle.bm_law_scenario.proofs.ListRuns.{drop-job, get-runs, locks-q, new-runs, push-runs}
use Rattle.bm_law_scenario.proofs.Opening.{first-jobs}
use Rattle.bm_law_scenario.proofs.Ordinary.{all-ordinary, says, stands, then-of}
use Rattle.bm_law_scenario.proofs.Told.{one-log}
use Rattle.bm_law_scenario.proofs.Unplanned.{done-ordinary}

abbrev d : Declared
d = declared_in visited

-- ---- what the log says of itself

abbrev last : State ℕ
last = after (opening 0) visited_log

leaves : Leaves 0 visited_log last
leaves = leaves-lists 0 visited_log last refl

emptied : Emptied last
emptied = record {
  lists = λ c. elim (eqb_tells c 2) [ inl y ↦ rw y.1 refl | inr y ↦ rw y.0 refl ];
  hands = λ l. elim (eqb_tells l 0) [ inl y ↦ rw y.1 refl | inr y ↦ rw y.0 refl ];
  active = λ c. elim (eqb_tells c 2) [ inl y ↦ rw y.1 refl | inr y ↦ rw y.0 refl ];
}

replies : RepliesFit Nothing (own_entries 0 visited_log)
replies = (tt, (tt, (tt, (refl, (tt, (tt, (tt, (tt, (tt, (refl, (tt, (tt, (tt, (tt, (tt, (tt, (tt, (tt, (tt, (tt, (tt, (tt, (tt, (tt, (tt, (tt, (tt, (tt, (tt, (tt, (tt, (tt, (tt, (tt, (tt, (tt, tt))))))))))))))))))))))))))))))))))))

null : NullLaw 0 visited_log
null = record {
  pops = pops-fit (opening 0) visited_log leaves.named;
  replies = λ l. elim (eqb_tells 0 l) [ inl y ↦ rw (← y.1) replies | inr y ↦ rw y.0 tt ];
}

parcels : ParcelLaw 0 visited_log
parcels = (tt, (tt, (tt, (tt, (tt, (tt, (tt, (tt, (tt, (tt, (tt, (tt, (tt, (tt, (tt, (tt, (tt, (tt, (tt, (tt, (tt, (tt, (tt, (tt, (tt, (tt, (tt, (tt, (tt, (tt, (refl, (tt, (tt, (tt, (tt, (tt, λ c. elim (eqb_tells c 2) [ inl y ↦ rw y.1 refl | inr y ↦ rw y.0 refl ]))))))))))))))))))))))))))))))))))))

words : SectionWords visited_log
words Plain = refl
words Tracing = refl

heading : HeadingOf visited visited_journal
unfolding class_of_size size_of_class low_of_size high_of_size batch_of_size
heading = record { processors = refl; pages = refl; types = refl; maps = refl; scripts = refl; classes = refl }

unfoldable sweep : SweepPhrase 2 sweeps
sweep = record {
  swept = 3 ∷ 2 ∷ 1 ∷ 0 ∷ [];
  returned = 3 ∷ 2 ∷ 1 ∷ 0 ∷ [];
  stamp = 2;
  poll = entry.Begin Tracing 1 ∷ entry.Finish sweep_period ∷ entry.Pass 2 Tracing 2 ∷ [];
  own_is = refl;
  polls = record {
    ended = [];
    begun = entry.Begin Tracing 1 ∷ entry.Finish sweep_period ∷ [];
    seen = 2;
    own_is = refl;
    may_finish = inl refl;
    may_begin = inr (1, entry.Finish sweep_period ∷ [], refl, inr (entry.Finish sweep_period, refl, (sweep_period, refl, refl)));
  };
}

-- ---- the script

unlock-runs : RunsUnlock (within q_id) pushed (unlock_of (codes "q")) away
unlock-runs = record { graph = q_id; locked = refl; is_tree = false; declared = _; is_graph = record { found = refl; kind = refl }; part_is = refl; after_is = refl }

abbrev at_call : State ℕ
at_call = after (opening 0) (ordinary (entry.Fill 2 (Whole one_page) ∷ begins))

abbrev at_visit : State ℕ
at_visit = after at_call (ordinary asks_job)

visits-run : RunsBlock d 0 true part.Nothing (long_block visits (lit≤ tt)) holding_job away at_visit (ordinary visit_entries)
visits-run =
    let list : RunsList d 0 part.Nothing visits holding_job away at_visit (ordinary visit_entries) = (
      holding_job,
      then-of _ _ at_visit (lock_of (codes "q")) (pushes ++ reads_a ++ unlock_of (codes "q"))
          (holding_job, then-of _ _ _ (lock_of (codes "q")) [] (says _ _ _ locks-q) (refl, refl)) (
            pushed,
            then-of _ _ _ pushes (reads_a ++ unlock_of (codes "q"))
                (pushed, then-of _ _ _ pushes [] (says _ _ _ (inl push-runs)) (refl, refl)) (
                  pushed,
                  then-of _ _ _ reads_a (unlock_of (codes "q"))
                      (pushed, then-of _ _ _ reads_a [] (says _ _ _ get-runs) (refl, refl))
                      (away, then-of _ _ _ (unlock_of (codes "q")) [] (away, then-of _ _ _ (unlock_of (codes "q")) [] (says _ _ _ unlock-runs) (refl, refl)) (refl, refl)),
                ),
          ),
    ) in
    subst (λ (run : Run). run holding_job away at_visit (ordinary visit_entries)) (sym (block-parts d 0 part.Nothing (row_of visits (lit≤ tt)) 20)) list

body-runs : RunsBlock d 0 true part.Nothing keeper no_names away at_call (ordinary put_away)
body-runs =
    let list : RunsList d 0 part.Nothing puts_away no_names away at_call (ordinary put_away) = (
      holding_job,
      then-of _ _ at_call asks_job visit_entries
          (holding_job, then-of _ _ _ asks_job [] (says _ _ _ new-runs) (refl, refl))
          (away, then-of _ _ _ visit_entries [] (away, then-of _ _ _ visit_entries [] visits-run (refl, refl)) (refl, refl)),
    ) in
    subst (λ (run : Run). run no_names away at_call (ordinary put_away)) (sym (block-parts d 0 part.Nothing (row_of puts_away (lit≤ tt)) 20)) list

owns-nothing : (y : List ℕ) → OwnsNothing (away y)
owns-nothing y = one (bytes_eq x_name y)
  where
    one : (b : Bool) → OwnsNothing (soft_spent (cond b (held.Soft job_id q_id 3 1) (cond b (held.Object job_id 3 1) held.Nothing)))
    one true = tt
    one false = tt

-- ---- the closing

abbrev script : List Entry
script = begins ++ (put_away ++ stops)

abbrev front : Log
front = ordinary (entry.Fill 2 (Whole one_page) ∷ script)

-- the lists where the closing has taken the object
abbrev at_taken : State ℕ
at_taken = after (after (opening 0) front) (ordinary (entry.Ended ∷ entry.Close ∷ entry.PopFront (codes "q") (Some the_job) 1 ∷ []))

abbrev at_close : State ℕ
at_close = after (after (opening 0) front) (ordinary (entry.Ended ∷ entry.Close ∷ []))

abbrev takes : List Entry
takes = entry.PopFront (codes "q") (Some the_job) 1 ∷ []

abbrev finds_none : List Entry
finds_none = entry.PopFront (codes "q") None 2 ∷ []

empties : Empties 0 d at_close (ordinary (empties_q 1 ++ empties_others))
empties =
    then-of _ _ at_close (empties_q 1) empties_others
    (1, (the_job, 1, then-of _ _ _ takes (gives_up 3 ++ finds_none) (stands _ _) (then-of _ _ _ (gives_up 3) finds_none (x_name, _, says _ _ _ (inr (drop-job x_name (with_name x_name (held.Object job_id 3 1) no_names) at_taken refl refl))) (2, stands _ _))))
    (then-of _ _ _ (entry.PopFront (codes "r") None 0 ∷ []) (entry.First (codes "t") None 0 ∷ entry.Xchg (codes "s") None None None ∷ []) (0, (0, stands _ _))
    (then-of _ _ _ (entry.First (codes "t") None 0 ∷ []) (entry.Xchg (codes "s") None None None ∷ []) (0, (0, stands _ _))
    (then-of _ _ _ (entry.Xchg (codes "s") None None None ∷ []) [] (None, None, then-of _ _ _ (entry.Xchg (codes "s") None None None ∷ []) [] (stands _ _) refl) refl)))

-- ---- the log

is-log : IsLog visited 0 visited_log
unfolding class_of_size sweep
is-log = record {
  front = front;
  closing = ordinary (entry.Ended ∷ entry.Close ∷ (empties_q 1 ++ empties_others) ++ sweeps);
  log_is = refl;
  is_front = then-of _ _ (opening 0) (entry.Fill 2 (Whole one_page) ∷ []) script (says _ _ _ ([], ap (λ units. entry.Fill 2 (Whole units) ∷ []) (sym first-jobs), refl)) (
    _,
    refl,
    1,
    then-of _ _ _ script [] (then-of _ _ _ begins (put_away ++ stops) (stands _ _)
        (then-of _ _ _ put_away stops (away, body-runs, owns-nothing) (then-of _ _ _ stops [] (stands _ _) refl)))
        refl,
  );
  is_closing = then-of _ _ _ (entry.Ended ∷ entry.Close ∷ []) ((empties_q 1 ++ empties_others) ++ sweeps) (stands _ _)
      (then-of _ _ _ (empties_q 1 ++ empties_others) sweeps empties
      (then-of _ _ _ [] sweeps (then-of _ _ _ [] [] refl refl) ([], then-of _ _ _ sweeps [] (says _ _ _ (record { phrase = sweep; taken = refl; waited = lit≤ tt; given = refl })) refl)));
}

log-lawful : LawfulLog visited 0 visited_log
log-lawful = record {
  handlers = refl;
  phrases = done-ordinary _ 0 _ (all-ordinary (own_entries 0 visited_log)) refl;
  is_log = is-log;
  words = words;
  last = last;
  lists = leaves;
  emptied = emptied;
  null = null;
  parcels = λ q. parcels;
}

pub visited-lawful : LawfulLogs visited visited_journal
visited-lawful = record {
  heading = heading;
  count = refl;
  logs = one-log visited visited_log log-lawful;
  short = short-named 1 (all_entries visited_journal.logs) refl;
  graphs = refl;
  totals = refl;
}
