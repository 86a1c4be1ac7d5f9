-- The worked journals with sections are lawful.
use Rattle.std.proofs.Common.{inl, inr, List, [], ◌∷◌, ◌++◌, codes, refl}
use Rattle.std.proofs.lemmas.Bool.Decides.{eqb_tells}
use Rattle.bm_journal.specs.declared.ids.Domain.TheVariants.{Plain, Tracing}
use Rattle.bm_journal.specs.declared.entry.Entry.{Entry}
use Rattle.bm_journal.specs.declared.entry.Entry.TheVariants as entry
use Rattle.bm_law.specs.State.{opening}
use Rattle.bm_law.specs.Lists.{after}
use Rattle.bm_law.specs.Null.{Nothing, RepliesFit}
use Rattle.bm_law.specs.Spans.{own_entries}
use Rattle.bm_law.specs.Ordinary.{ordinary}
use Rattle.bm_law.proofs.Null.{pops-fit}
use Rattle.bm_law_work.proofs.Pages.{short-named}
use Rattle.bm_law_scenario.specs.Opened.{opened_classes}
use Rattle.bm_law_scenario.specs.Declared.{declared_in}
use Rattle.bm_law_scenario.specs.Held.{no_names}
use Rattle.bm_law_scenario.specs.Grammar.{IsLog, lines_of}
use Rattle.bm_law_scenario.specs.Lawful.{HeadingOf, LawfulLog, LawfulLogs}
use Rattle.bm_law_lives.specs.SectionWords.{SectionWords}
use Rattle.bm_law_lives.specs.Short.{all_entries}
use Rattle.bm_law_scenario.specs.WorkedSections.{asleep, asleep_log, awake, awake_log, stepless}
use Rattle.bm_law_scenario.proofs.Ordinary.{all-ordinary, says, stands, then-of}
use Rattle.bm_law_scenario.proofs.SameLogs.{scripts-told}
use Rattle.bm_law_scenario.proofs.Slept.{asleep-told, awake-told, slept}
use Rattle.bm_law_scenario.proofs.Told.{one-log}
use Rattle.bm_law_scenario.proofs.Unplanned.{done-ordinary}
use Rattle.bm_law_scenario.proofs.Unslotted.{bare-closing}

-- ---- the sleepable one

abbrev asleep_script : List Entry
asleep_script = entry.Script (codes "main") ∷ entry.In Tracing 1 ∷ slept 1 ++ entry.Out Tracing 2 ∷ entry.Done (codes "main") ∷ []

asleep-is : IsLog asleep 0 asleep_log
asleep-is = record {
  front = ordinary asleep_script;
  closing = ordinary (entry.Ended ∷ entry.Close ∷ []);
  log_is = refl;
  is_front = then-of _ _ (opening 0) [] asleep_script (says _ _ _ refl) (scripts-told asleep tt refl (lines_of 0 asleep.runs) _ asleep_script (_, refl, (1, asleep_script, [], refl, record { part = slept 1; after = no_names; own_is = refl; runs = asleep-told 1 no_names; owns_nothing = λ x. tt }, refl)));
  is_closing = bare-closing (declared_in asleep) 0 (opened_classes asleep.types) (ordinary asleep_script) _ _ refl (then-of _ _ _ (entry.Ended ∷ entry.Close ∷ []) [] (stands _ _) (then-of _ _ _ [] [] (then-of _ _ _ [] [] refl refl) refl));
}

asleep-words : SectionWords asleep_log
asleep-words Plain = refl
asleep-words Tracing = refl

asleep-replies : RepliesFit Nothing (own_entries 0 asleep_log)
asleep-replies = (tt, (tt, (tt, (tt, (tt, (tt, (tt, (tt, (tt, (tt, tt))))))))))

asleep-log : LawfulLog asleep 0 asleep_log
asleep-log = record {
  handlers = refl;
  phrases = done-ordinary _ 0 _ (all-ordinary (asleep_script ++ entry.Ended ∷ entry.Close ∷ [])) refl;
  is_log = asleep-is;
  words = asleep-words;
  last = after (opening 0) asleep_log;
  lists = record { named = (tt, (tt, (tt, (tt, (tt, (tt, (tt, (tt, (tt, (tt, tt)))))))))); lists = refl };
  emptied = record { lists = λ c. refl; hands = λ l. refl; active = λ c. refl };
  null = record { pops = pops-fit (opening 0) asleep_log (tt, (tt, (tt, (tt, (tt, (tt, (tt, (tt, (tt, (tt, tt)))))))))); replies = λ l. elim (eqb_tells 0 l) [ inl y ↦ rw (← y.1) asleep-replies | inr y ↦ rw y.0 tt ] };
  parcels = λ q. (tt, (tt, (tt, (tt, (tt, (tt, (tt, (tt, (tt, (tt, λ c. refl))))))))));
}

asleep-heading : HeadingOf asleep (stepless asleep_log refl)
asleep-heading = record { processors = refl; pages = refl; types = refl; maps = refl; scripts = refl; classes = refl }

pub asleep-lawful : LawfulLogs asleep (stepless asleep_log refl)
asleep-lawful = record {
  heading = asleep-heading;
  count = refl;
  logs = one-log asleep asleep_log asleep-log;
  short = short-named 0 (all_entries (stepless asleep_log refl).logs) refl;
  graphs = refl;
  totals = refl;
}

-- ---- the plain one

abbrev awake_script : List Entry
awake_script = entry.Script (codes "main") ∷ entry.In Plain 1 ∷ entry.Yield ∷ entry.Yield ∷ entry.Out Plain 2 ∷ entry.Done (codes "main") ∷ []

awake-is : IsLog awake 0 awake_log
awake-is = record {
  front = ordinary awake_script;
  closing = ordinary (entry.Ended ∷ entry.Close ∷ []);
  log_is = refl;
  is_front = then-of _ _ (opening 0) [] awake_script (says _ _ _ refl) (scripts-told awake tt refl (lines_of 0 awake.runs) _ awake_script (_, refl, (1, awake_script, [], refl, record { part = entry.Yield ∷ entry.Yield ∷ []; after = no_names; own_is = refl; runs = awake-told no_names; owns_nothing = λ x. tt }, refl)));
  is_closing = bare-closing (declared_in awake) 0 (opened_classes awake.types) (ordinary awake_script) _ _ refl (then-of _ _ _ (entry.Ended ∷ entry.Close ∷ []) [] (stands _ _) (then-of _ _ _ [] [] (then-of _ _ _ [] [] refl refl) refl));
}

awake-words : SectionWords awake_log
awake-words Plain = refl
awake-words Tracing = refl

awake-replies : RepliesFit Nothing (own_entries 0 awake_log)
awake-replies = (tt, (tt, (tt, (tt, (tt, (tt, (tt, (tt, tt))))))))

awake-log : LawfulLog awake 0 awake_log
awake-log = record {
  handlers = refl;
  phrases = done-ordinary _ 0 _ (all-ordinary (awake_script ++ entry.Ended ∷ entry.Close ∷ [])) refl;
  is_log = awake-is;
  words = awake-words;
  last = after (opening 0) awake_log;
  lists = record { named = (tt, (tt, (tt, (tt, (tt, (tt, (tt, (tt, tt)))))))); lists = refl };
  emptied = record { lists = λ c. refl; hands = λ l. refl; active = λ c. refl };
  null = record { pops = pops-fit (opening 0) awake_log (tt, (tt, (tt, (tt, (tt, (tt, (tt, (tt, tt)))))))); replies = λ l. elim (eqb_tells 0 l) [ inl y ↦ rw (← y.1) awake-replies | inr y ↦ rw y.0 tt ] };
  parcels = λ q. (tt, (tt, (tt, (tt, (tt, (tt, (tt, (tt, λ c. refl))))))));
}

awake-heading : HeadingOf awake (stepless awake_log refl)
awake-heading = record { processors = refl; pages = refl; types = refl; maps = refl; scripts = refl; classes = refl }

pub awake-lawful : LawfulLogs awake (stepless awake_log refl)
awake-lawful = record {
  heading = awake-heading;
  count = refl;
  logs = one-log awake awake_log awake-log;
  short = short-named 0 (all_entries (stepless awake_log refl).logs) refl;
  graphs = refl;
  totals = refl;
}
