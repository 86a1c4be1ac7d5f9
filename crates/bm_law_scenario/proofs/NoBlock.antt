-- The journal of a script that makes nothing, with deferred work behind it, is lawful.
use Rattle.std.proofs.Common.{true, ℕ, inl, inr, List, [], ◌∷◌, ◌++◌, refl, sym, ap, subst, arith, codes, lit≤}
use Rattle.std.proofs.lemmas.Bool.Decides.{eqb_tells}
use Rattle.bm_class.specs.Sizes.{class_of_size, size_of_class}
use Rattle.bm_class.specs.Watermarks.{low_of_size, high_of_size, batch_of_size}
use Rattle.bm_journal.specs.declared.ids.Domain.TheVariants.{Plain, Tracing}
use Rattle.bm_journal.specs.declared.units.Units.TheVariants.{Whole}
use Rattle.bm_journal.specs.declared.entry.Entry.{Entry}
use Rattle.bm_journal.specs.declared.entry.Entry.TheVariants as entry
use Rattle.bm_law.specs.State.{State, opening}
use Rattle.bm_law.specs.Lists.{Leaves, after}
use Rattle.bm_law.specs.Null.{Nothing, NullLaw, RepliesFit}
use Rattle.bm_law.specs.Phrases.{added}
use Rattle.bm_law.specs.Spans.{own_entries}
use Rattle.bm_law.specs.SweepPhrases.{SweepPhrase}
use Rattle.bm_law.specs.Worked.{Emptied}
use Rattle.bm_law.proofs.Agree.{leaves-lists}
use Rattle.bm_law.proofs.Null.{pops-fit}
use Rattle.bm_law_work.specs.Parts.{Part}
use Rattle.bm_law_work.specs.WorkPhrases.{Work}
use Rattle.bm_law_scenario.specs.Opened.{opened_classes}
use Rattle.bm_law_scenario.specs.Declared.{declared_in, unmapped}
use Rattle.bm_law_scenario.specs.Held.{no_names}
use Rattle.bm_law_scenario.specs.Works.{UntilDown}
use Rattle.bm_law_scenario.specs.Runs.{Run, RunsBlock}
use Rattle.bm_law_scenario.specs.Parcels.{ParcelLaw}
use Rattle.bm_law_scenario.specs.Grammar.{IsLog}
use Rattle.bm_law.specs.Ordinary.{ordinary}
use Rattle.bm_law_scenario.proofs.Unplanned.{done-ordinary}
use Rattle.bm_law_lives.specs.SectionWords.{SectionWords}
use Rattle.bm_law_scenario.specs.Lawful.{HeadingOf, LawfulLogs, LawfulLog}
use Rattle.bm_law_lives.specs.Short.{all_entries}
use Rattle.bm_law_work.proofs.Pages.{short-named}
use Rattle.bm_law_scenario.specs.WorkedJournal.{vector_of, block_of, sweep_period}
use Rattle.bm_law_scenario.specs.WorkedDeferred.{block, makes_never, no_block, begins, work_reads, refills, work_ends, stops, closes, no_block_log, no_block_journal}
use Rattle.bm_law_scenario.proofs.Ordinary.{all-ordinary, stands, says, then-of}
use Rattle.bm_law_scenario.proofs.BlockParts.{RunsList, block-parts}
use Rattle.bm_law_scenario.proofs.OpeningBlock.{first-block}
use Rattle.bm_law_scenario.proofs.Told.{one-log}
use Rattle.bm_law_scenario.proofs.Unslotted.{bare-closing}

-- ---- the lists and the other laws

abbrev last : State ℕ
last = after (opening 0) no_block_log

leaves : Leaves 0 no_block_log last
leaves = leaves-lists 0 no_block_log last refl

emptied : Emptied last
emptied = record {
  lists = λ c. elim (eqb_tells c 10) [ inl y ↦ rw y.1 refl | inr y ↦ rw y.0 refl ];
  hands = λ l. elim (eqb_tells l 0) [ inl y ↦ rw y.1 refl | inr y ↦ rw y.0 refl ];
  active = λ c. elim (eqb_tells c 10) [ inl y ↦ rw y.1 refl | inr y ↦ rw y.0 refl ];
}

replies : RepliesFit Nothing (own_entries 0 no_block_log)
replies = (tt, (tt, (tt, (tt, (tt, (tt, (tt, (tt, (tt, (tt, (tt, (tt, (tt, (tt, (tt, (tt, (tt, (tt, (tt, (tt, (tt, (tt, (tt, (tt, tt))))))))))))))))))))))))

null : NullLaw 0 no_block_log
null = record {
  pops = pops-fit (opening 0) no_block_log leaves.named;
  replies = λ l. elim (eqb_tells 0 l) [ inl y ↦ rw (← y.1) replies | inr y ↦ rw y.0 tt ];
}

parcels : ParcelLaw 0 no_block_log
parcels = (tt, (tt, (tt, (tt, (tt, (tt, (refl, (tt, (tt, (tt, (tt, (tt, (tt, (tt, (tt, (tt, (tt, (tt, (refl, (tt, (tt, (tt, (tt, (tt, λ c. elim (eqb_tells c 10) [ inl y ↦ rw y.1 refl | inr y ↦ rw y.0 refl ]))))))))))))))))))))))))

heading : HeadingOf no_block no_block_journal
unfolding class_of_size size_of_class low_of_size high_of_size batch_of_size
heading = record { processors = refl; pages = refl; types = refl; maps = refl; scripts = refl; classes = refl }

sweep : SweepPhrase 10 (entry.Sweep 10 (Whole (256 ∷ 0 ∷ [])) ∷ entry.Stamp 10 Tracing 2 ∷ entry.Begin Tracing 1 ∷ entry.Finish sweep_period ∷ entry.Pass 10 Tracing 2 ∷ entry.Return 10 (Whole (256 ∷ 0 ∷ [])) ∷ [])
sweep = record {
  swept = 256 ∷ 0 ∷ [];
  returned = 256 ∷ 0 ∷ [];
  stamp = 2;
  poll = entry.Begin Tracing 1 ∷ entry.Finish sweep_period ∷ entry.Pass 10 Tracing 2 ∷ [];
  own_is = refl;
  polls = record {
    ended = [];
    begun = entry.Begin Tracing 1 ∷ entry.Finish sweep_period ∷ [];
    seen = 2;
    own_is = refl;
    may_finish = inl refl;
    may_begin = inr (1, entry.Finish sweep_period ∷ [], refl, inr (entry.Finish sweep_period, refl, (sweep_period, refl, refl)));
  };
}

abbrev swept : List Entry
swept = entry.Sweep 10 (Whole (256 ∷ 0 ∷ [])) ∷ entry.Stamp 10 Tracing 2 ∷ entry.Begin Tracing 1 ∷ entry.Finish sweep_period ∷ entry.Pass 10 Tracing 2 ∷ entry.Return 10 (Whole (256 ∷ 0 ∷ [])) ∷ []

-- ---- the work behind the script

abbrev s1 : State ℕ
s1 = after (opening 0) (ordinary (begins ++ stops))

abbrev work1 : List Entry
work1 = work_reads 1 ++ refills 2 ++ work_ends

is-work1 : Work 0 10 s1 (ordinary (work_reads 1 ++ refills 2 ++ work_ends))
unfolding size_of_class low_of_size high_of_size batch_of_size
is-work1 =
    then-of _ _ s1 (entry.Work 10 ∷ []) (entry.Receive 10 (Whole []) ∷ entry.Read 10 1 ∷ refills 2 ++ work_ends) (says _ _ _ refl)
    (then-of _ _ _ (entry.Receive 10 (Whole []) ∷ []) (entry.Read 10 1 ∷ refills 2 ++ work_ends) ([], then-of _ _ _ (entry.Receive 10 (Whole []) ∷ []) [] (says _ _ _ refl) refl)
    (then-of _ _ _ (entry.Read 10 1 ∷ refills 2) work_ends (1, then-of _ _ _ (entry.Read 10 1 ∷ []) (refills 2) (says _ _ _ refl) (256 ∷ [], omega arith, then-of _ _ _ (entry.Fetch 10 3 (Whole (256 ∷ [])) ∷ []) (added 10 256 2 0) (says _ _ _ refl) (then-of _ _ _ (added 10 256 2 0) [] (says _ _ _ (2, 0, refl)) refl)))
    (then-of _ _ _ work_ends [] (then-of _ _ _ [] work_ends refl (then-of _ _ _ (entry.Enter 10 1 ∷ entry.TakeDelayed 10 (Whole []) ∷ []) (entry.Leave 10 0 ∷ []) (says _ _ _ ([], refl)) (then-of _ _ _ [] (entry.Leave 10 0 ∷ []) refl (then-of _ _ _ (entry.Leave 10 0 ∷ []) [] (says _ _ _ (0, refl)) refl)))) (then-of _ _ _ [] [] refl refl))))

-- ---- the script's statement

abbrev until : Part
until = UntilDown (10 ∷ [])

abbrev s0 : State ℕ
s0 = after (opening 0) (ordinary begins)

body-runs : RunsBlock (unmapped (block ∷ [])) 0 true until (block_of (makes_never ∷ []) (lit≤ tt) 9) no_names no_names s0 []
body-runs =
    let list : RunsList (unmapped (block ∷ [])) 0 until (makes_never ∷ []) no_names no_names s0 [] =
    (no_names, then-of _ _ s0 [] [] (no_names, then-of _ _ s0 [] [] (refl, refl) (refl, (0, (refl, refl)))) (refl, refl)) in
    subst (λ (run : Run). run no_names no_names s0 []) (sym (block-parts (unmapped (block ∷ [])) 0 until (vector_of (makes_never ∷ []) (lit≤ tt)) 9)) list

-- ---- the log

abbrev script : List Entry
script = entry.Script (codes "main") ∷ entry.In Plain 1 ∷ stops ++ work1

is-log : IsLog no_block 0 no_block_log
unfolding class_of_size sweep
is-log = record {
  front = ordinary (entry.Fill 10 (Whole (0 ∷ [])) ∷ script);
  closing = ordinary (closes (256 ∷ 0 ∷ []));
  log_is = refl;
  is_front = then-of _ _ (opening 0) (entry.Fill 10 (Whole (0 ∷ [])) ∷ []) script (says _ _ _ ([], ap (λ units. entry.Fill 10 (Whole units) ∷ []) (sym first-block), refl)) (
    _,
    refl,
    1,
    then-of _ _ _ script [] (then-of _ _ _ (entry.Script (codes "main") ∷ entry.In Plain 1 ∷ []) (stops ++ work1) (stands _ _)
        (then-of _ _ _ [] (stops ++ work1) (no_names, body-runs, λ y. tt) (then-of _ _ _ stops work1 (stands _ _) (then-of _ _ _ work1 [] (then-of _ _ _ work1 [] is-work1 refl) (0, (refl, refl))))))
        refl,
  );
  is_closing = bare-closing (declared_in no_block) 0 (opened_classes no_block.types) (ordinary (entry.Fill 10 (Whole (0 ∷ [])) ∷ script)) _ _ refl (then-of _ _ _ (entry.Ended ∷ entry.Close ∷ []) swept (stands _ _) (then-of _ _ _ [] swept (then-of _ _ _ [] [] refl refl) ([], then-of _ _ _ swept [] (says _ _ _ (record { phrase = sweep; taken = refl; waited = lit≤ tt; given = refl })) refl)));
}

words : SectionWords no_block_log
words Plain = refl
words Tracing = refl

log-lawful : LawfulLog no_block 0 no_block_log
log-lawful = record {
  handlers = refl;
  phrases = done-ordinary _ 0 _ (all-ordinary (entry.Fill 10 (Whole (0 ∷ [])) ∷ script ++ closes (256 ∷ 0 ∷ []))) refl;
  words = words;
  is_log = is-log;
  last = last;
  lists = leaves;
  emptied = emptied;
  null = null;
  parcels = λ q. parcels;
}

pub no_block-lawful : LawfulLogs no_block no_block_journal
no_block-lawful = record {
  heading = heading;
  count = refl;
  logs = one-log no_block no_block_log log-lawful;
  short = short-named 2 (all_entries no_block_journal.logs) refl;
  graphs = refl;
  totals = refl;
}
