-- The journal of no object made, where there is no page, is lawful.
use Rattle.std.proofs.Common.{ℕ, inl, inr, List, [], ◌∷◌, ◌++◌, refl, sym, ap, codes}
use Rattle.std.proofs.lemmas.Bool.Decides.{eqb_tells}
use Rattle.bm_class.specs.Sizes.{class_of_size, size_of_class}
use Rattle.bm_class.specs.Watermarks.{low_of_size, high_of_size, batch_of_size}
use Rattle.bm_journal.specs.declared.ids.Domain.TheVariants.{Plain, Tracing}
use Rattle.bm_journal.specs.declared.units.Units.TheVariants.{Whole}
use Rattle.bm_journal.specs.declared.entry.Entry.{Entry}
use Rattle.bm_journal.specs.declared.entry.Entry.TheVariants as entry
use Rattle.bm_law.specs.State.{State, opening}
use Rattle.bm_law.specs.Lists.{AllName, Leaves, after}
use Rattle.bm_law.specs.Null.{Nothing, NullLaw, RepliesFit}
use Rattle.bm_law.specs.Spans.{own_entries}
use Rattle.bm_law.specs.Worked.{Emptied}
use Rattle.bm_law.proofs.Null.{pops-fit}
use Rattle.bm_law_scenario.specs.Opened.{opened_classes}
use Rattle.bm_law_scenario.specs.Declared.{declared_in}
use Rattle.bm_law_scenario.proofs.Opening.{no-page}
use Rattle.bm_law_scenario.specs.Held.{no_names}
use Rattle.bm_law.specs.Ordinary.{ordinary}
use Rattle.bm_law_scenario.specs.Grammar.{IsLog, lines_of}
use Rattle.bm_law_scenario.specs.Parcels.{ParcelLaw}
use Rattle.bm_law_lives.specs.SectionWords.{SectionWords}
use Rattle.bm_law_scenario.specs.Lawful.{HeadingOf, LawfulLog, LawfulLogs}
use Rattle.bm_law_lives.specs.Short.{all_entries}
use Rattle.bm_law_work.proofs.Pages.{short-named}
use Rattle.bm_law_scenario.specs.WorkedJournal.{asks, asked, took_none, ended, no_object, no_object_log, no_object_journal}
use Rattle.bm_law_scenario.proofs.Ran.{with_null, null-runs, null-owns_nothing}
use Rattle.bm_law_scenario.proofs.Ordinary.{all-ordinary, says, stands, then-of}
use Rattle.bm_law_scenario.proofs.SameLogs.{scripts-told}
use Rattle.bm_law_scenario.proofs.Unplanned.{done-ordinary}
use Rattle.bm_law_scenario.proofs.Told.{one-log}
use Rattle.bm_law_scenario.proofs.Unslotted.{bare-closing}

-- the lists that the log leaves
abbrev last : State ℕ
last = after (opening 0) no_object_log

named : AllName (opening 0) no_object_log
named = (tt, (tt, (tt, (tt, (refl, (refl, (refl, (tt, (tt, (tt, (tt, (tt, (tt, tt)))))))))))))

leaves : Leaves 0 no_object_log last
leaves = record { named = named; lists = refl }

emptied : Emptied last
emptied = record {
  lists = λ c. elim (eqb_tells c 0) [ inl y ↦ rw y.1 refl | inr y ↦ rw y.0 refl ];
  hands = λ l. elim (eqb_tells l 0) [ inl y ↦ rw y.1 refl | inr y ↦ rw y.0 refl ];
  active = λ c. elim (eqb_tells c 0) [ inl y ↦ rw y.1 refl | inr y ↦ rw y.0 refl ];
}

replies : RepliesFit Nothing (own_entries 0 no_object_log)
replies = (tt, (tt, (tt, (refl, (tt, (tt, (tt, (tt, (refl, (tt, (tt, (tt, (tt, tt)))))))))))))

null : NullLaw 0 no_object_log
null = record {
  pops = pops-fit (opening 0) no_object_log named;
  replies = λ l. elim (eqb_tells 0 l) [ inl y ↦ rw (← y.1) replies | inr y ↦ rw y.0 tt ];
}

parcels : ParcelLaw 0 no_object_log
parcels = (tt, (tt, (tt, (tt, (tt, (tt, (tt, (tt, (tt, (tt, (tt, (tt, (tt, λ c. refl)))))))))))))

heading : HeadingOf no_object no_object_journal
unfolding class_of_size size_of_class low_of_size high_of_size batch_of_size
heading = record { processors = refl; pages = refl; types = refl; maps = refl; scripts = refl; classes = refl }

-- the script's part of the log
abbrev part : List Entry
part = entry.Script (codes "main") ∷ entry.In Plain 1 ∷ asks ∷ took_none ++ entry.Out Plain 2 ∷ entry.Done (codes "main") ∷ []

is-log : IsLog no_object 0 no_object_log
unfolding class_of_size
is-log = record {
  front = ordinary (entry.Fill 0 (Whole []) ∷ part);
  closing = ordinary (entry.Ended ∷ entry.Close ∷ []);
  log_is = refl;
  is_front = then-of _ _ (opening 0) (entry.Fill 0 (Whole []) ∷ []) part (says _ _ _ ([], ap (λ units. entry.Fill 0 (Whole units) ∷ []) (sym no-page), refl)) (scripts-told no_object (refl, tt) refl (lines_of 0 no_object.runs) _ part (_, refl, (1, part, [], refl, record { part = asks ∷ took_none; after = with_null no_names; own_is = refl; runs = null-runs 7 8 9 no_names; owns_nothing = null-owns_nothing }, refl)));
  is_closing = bare-closing (declared_in no_object) 0 (opened_classes no_object.types) (ordinary (entry.Fill 0 (Whole []) ∷ part)) _ _ refl (then-of _ _ _ (entry.Ended ∷ entry.Close ∷ []) [] (stands _ _) (then-of _ _ _ [] [] (then-of _ _ _ [] [] refl refl) ([], then-of _ _ _ [] [] refl refl)));
}

words : SectionWords no_object_log
words Plain = refl
words Tracing = refl

log-lawful : LawfulLog no_object 0 no_object_log
log-lawful = record {
  handlers = refl;
  phrases = done-ordinary _ 0 _ (all-ordinary (asked [] ++ took_none ++ ended)) refl;
  is_log = is-log;
  words = words;
  last = last;
  lists = leaves;
  emptied = emptied;
  null = null;
  parcels = λ q. parcels;
}

pub no_object-lawful : LawfulLogs no_object no_object_journal
no_object-lawful = record {
  heading = heading;
  count = refl;
  logs = one-log no_object no_object_log log-lawful;
  short = short-named 0 (all_entries no_object_journal.logs) refl;
  graphs = refl;
  totals = refl;
}
