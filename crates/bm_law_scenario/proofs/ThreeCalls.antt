-- The journal of two scripts, of which one asks twice, is lawful.
use Rattle.std.proofs.Common.{ℕ, inl, inr, List, [], ◌∷◌, ◌++◌, refl, sym, ap}
use Rattle.std.proofs.lemmas.Bool.Decides.{eqb_tells}
use Rattle.bm_class.specs.Sizes.{class_of_size, size_of_class}
use Rattle.bm_class.specs.Watermarks.{low_of_size, high_of_size, batch_of_size}
use Rattle.bm_journal.specs.declared.ids.Domain.TheVariants.{Plain, Tracing}
use Rattle.bm_journal.specs.declared.units.Units.TheVariants.{Whole}
use Rattle.bm_journal.specs.declared.entry.Entry.{Entry}
use Rattle.bm_journal.specs.declared.entry.Entry.TheVariants as entry
use Rattle.bm_law.specs.State.{State, opening}
use Rattle.bm_law.specs.Lists.{AllName, Leaves, after}
use Rattle.bm_law.specs.Null.{Nothing, NullLaw, RepliesFit}
use Rattle.bm_law.specs.Spans.{own_entries}
use Rattle.bm_law.specs.Worked.{Emptied}
use Rattle.bm_law.proofs.Null.{pops-fit}
use Rattle.bm_law_scenario.specs.Opened.{opened_classes}
use Rattle.bm_law_scenario.specs.Declared.{declared_in}
use Rattle.bm_law_scenario.proofs.Opening.{no-page}
use Rattle.bm_law_scenario.specs.Held.{no_names}
use Rattle.bm_law.specs.Ordinary.{ordinary}
use Rattle.bm_law_scenario.specs.Grammar.{IsLog, lines_of}
use Rattle.bm_law_scenario.specs.Parcels.{ParcelLaw}
use Rattle.bm_law_lives.specs.SectionWords.{SectionWords}
use Rattle.bm_law_scenario.specs.Lawful.{HeadingOf, LawfulLog, LawfulLogs}
use Rattle.bm_law_lives.specs.Short.{all_entries}
use Rattle.bm_law_work.proofs.Pages.{short-named}
use Rattle.bm_law_scenario.specs.WorkedJournal.{asks, took_none, twice_part, main_part, three_calls, three_calls_log, three_calls_journal}
use Rattle.bm_law_scenario.proofs.Ran.{with_null, two_nulls, null-runs, twice-runs, null-owns_nothing, nulls-own_nothing}
use Rattle.bm_law_scenario.proofs.Ordinary.{all-ordinary, says, stands, then-of}
use Rattle.bm_law_scenario.proofs.SameLogs.{scripts-told}
use Rattle.bm_law_scenario.proofs.Unplanned.{done-ordinary}
use Rattle.bm_law_scenario.proofs.Told.{one-log}
use Rattle.bm_law_scenario.proofs.Unslotted.{bare-closing}

-- the lists that the log leaves
abbrev last : State ℕ
last = after (opening 0) three_calls_log

named : AllName (opening 0) three_calls_log
named = (tt, (tt, (tt, (tt, (refl, (refl, (refl, (tt, (tt, (tt, (refl, (refl, (refl, (tt, (tt, (tt, (tt, (tt, (tt, (tt, (refl, (refl, (refl, (tt, (tt, (tt, (tt, (tt, (tt, tt)))))))))))))))))))))))))))))

leaves : Leaves 0 three_calls_log last
leaves = record { named = named; lists = refl }

emptied : Emptied last
emptied = record {
  lists = λ c. elim (eqb_tells c 0) [ inl y ↦ rw y.1 refl | inr y ↦ rw y.0 refl ];
  hands = λ l. elim (eqb_tells l 0) [ inl y ↦ rw y.1 refl | inr y ↦ rw y.0 refl ];
  active = λ c. elim (eqb_tells c 0) [ inl y ↦ rw y.1 refl | inr y ↦ rw y.0 refl ];
}

replies : RepliesFit Nothing (own_entries 0 three_calls_log)
replies = (tt, (tt, (tt, (refl, (tt, (tt, (tt, (tt, (refl, (refl, (tt, (tt, (tt, (tt, (refl, (tt, (tt, (tt, (tt, (refl, (tt, (tt, (tt, (tt, (refl, (tt, (tt, (tt, (tt, tt)))))))))))))))))))))))))))))

null : NullLaw 0 three_calls_log
null = record {
  pops = pops-fit (opening 0) three_calls_log named;
  replies = λ l. elim (eqb_tells 0 l) [ inl y ↦ rw (← y.1) replies | inr y ↦ rw y.0 tt ];
}

parcels : ParcelLaw 0 three_calls_log
parcels = (tt, (tt, (tt, (tt, (tt, (tt, (tt, (tt, (tt, (tt, (tt, (tt, (tt, (tt, (tt, (tt, (tt, (tt, (tt, (tt, (tt, (tt, (tt, (tt, (tt, (tt, (tt, (tt, (tt, λ c. refl)))))))))))))))))))))))))))))

heading : HeadingOf three_calls three_calls_journal
unfolding class_of_size size_of_class low_of_size high_of_size batch_of_size
heading = record { processors = refl; pages = refl; types = refl; maps = refl; scripts = refl; classes = refl }

abbrev scripts : List Entry
scripts = twice_part ++ main_part

is-log : IsLog three_calls 0 three_calls_log
unfolding class_of_size
is-log = record {
  front = ordinary (entry.Fill 0 (Whole []) ∷ scripts);
  closing = ordinary (entry.Ended ∷ entry.Close ∷ []);
  log_is = refl;
  is_front = then-of _ _ (opening 0) (entry.Fill 0 (Whole []) ∷ []) scripts (says _ _ _ ([], ap (λ units. entry.Fill 0 (Whole units) ∷ []) (sym no-page), refl)) (scripts-told three_calls (refl, tt) refl (lines_of 0 three_calls.runs) _ scripts (
    _,
    refl,
    (
      1,
      twice_part,
      main_part,
      refl,
      record { part = two_nulls; after = with_null (with_null no_names); own_is = refl; runs = twice-runs 11 12; owns_nothing = nulls-own_nothing },
      (_, refl, (3, main_part, [], refl, record { part = asks ∷ took_none; after = with_null no_names; own_is = refl; runs = null-runs 7 8 9 no_names; owns_nothing = null-owns_nothing }, refl)),
    ),
  ));
  is_closing = bare-closing (declared_in three_calls) 0 (opened_classes three_calls.types) (ordinary (entry.Fill 0 (Whole []) ∷ scripts)) _ _ refl (then-of _ _ _ (entry.Ended ∷ entry.Close ∷ []) [] (stands _ _) (then-of _ _ _ [] [] (then-of _ _ _ [] [] refl refl) ([], then-of _ _ _ [] [] refl refl)));
}

words : SectionWords three_calls_log
words Plain = refl
words Tracing = refl

log-lawful : LawfulLog three_calls 0 three_calls_log
log-lawful = record {
  handlers = refl;
  phrases = done-ordinary _ 0 _ (all-ordinary (entry.Fill 0 (Whole []) ∷ twice_part ++ main_part ++ entry.Ended ∷ entry.Close ∷ [])) refl;
  is_log = is-log;
  words = words;
  last = last;
  lists = leaves;
  emptied = emptied;
  null = null;
  parcels = λ q. parcels;
}

pub three_calls-lawful : LawfulLogs three_calls three_calls_journal
three_calls-lawful = record {
  heading = heading;
  count = refl;
  logs = one-log three_calls three_calls_log log-lawful;
  short = short-named 0 (all_entries three_calls_journal.logs) refl;
  graphs = refl;
  totals = refl;
}
