-- The journal of one object made and dropped, with deferred work, is lawful.
use Rattle.std.proofs.Common.{ℕ, inl, inr, true, false, cond, List, [], ◌∷◌, ◌++◌, Some, None, refl, sym, ap, subst, arith, codes, lit≤, bytes_eq}
use Rattle.std.proofs.lemmas.Bool.Decides.{eqb_tells}
use Rattle.bm_class.specs.Sizes.{class_of_size, size_of_class}
use Rattle.bm_class.specs.Watermarks.{low_of_size, high_of_size, batch_of_size}
use Rattle.bm_journal.specs.declared.ids.Domain.TheVariants.{Plain, Tracing}
use Rattle.bm_journal.specs.declared.units.Units.TheVariants.{Whole}
use Rattle.bm_journal.specs.declared.entry.Entry.{Entry}
use Rattle.bm_journal.specs.declared.entry.Entry.TheVariants as entry
use Rattle.bm_law.specs.State.{State, opening}
use Rattle.bm_law.specs.Lists.{Leaves, after}
use Rattle.bm_law.specs.Null.{Nothing, NullLaw, RepliesFit}
use Rattle.bm_law.specs.Phrases.{FreePhrase, added}
use Rattle.bm_law.specs.Spans.{own_entries}
use Rattle.bm_law.specs.SweepPhrases.{SweepPhrase}
use Rattle.bm_law.specs.Worked.{Emptied}
use Rattle.bm_law.proofs.Agree.{leaves-lists}
use Rattle.bm_law.proofs.Null.{pops-fit}
use Rattle.bm_law_work.specs.Parts.{Part}
use Rattle.bm_law_work.specs.WorkPhrases.{Work}
use Rattle.bm_law_scenario.specs.Declared.{declared_in, unmapped}
use Rattle.bm_law_scenario.specs.Held.{Names, no_names, OwnsNothing, with_name}
use Rattle.bm_law_scenario.specs.Held as held
use Rattle.bm_law_scenario.specs.Opened.{OfClass, opened_classes}
use Rattle.bm_law_scenario.specs.Calls.{Allocates, RunsNew, RunsDrop, batch_in}
use Rattle.bm_law_scenario.specs.Works.{UntilDown}
use Rattle.bm_law_scenario.specs.Runs.{Run, RunsBlock}
use Rattle.bm_law_scenario.specs.Parcels.{ParcelLaw}
use Rattle.bm_law_scenario.specs.Grammar.{IsLog}
use Rattle.bm_law.specs.Ordinary.{ordinary}
use Rattle.bm_law_scenario.proofs.Unplanned.{done-ordinary}
use Rattle.bm_law_lives.specs.SectionWords.{SectionWords}
use Rattle.bm_law_scenario.specs.Lawful.{HeadingOf, LawfulLogs, LawfulLog}
use Rattle.bm_law_lives.specs.Short.{all_entries}
use Rattle.bm_law_work.proofs.Pages.{short-named}
use Rattle.bm_law_scenario.specs.WorkedJournal.{vector_of, block_of, x_name, item_id, drops_x, drops_x_unless_null, sweep_period}
use Rattle.bm_law_scenario.specs.WorkedDeferred.{block, makes_block, makes_and_drops_block, one_block, begins, takes, drops, work_reads, refills, work_ends, stops, closes, one_block_log, one_block_journal}
use Rattle.bm_law_scenario.proofs.Ordinary.{all-ordinary, stands, says, then-of}
use Rattle.bm_law_scenario.proofs.BlockParts.{RunsList, block-parts}
use Rattle.bm_law_scenario.proofs.OpeningBlock.{first-block}
use Rattle.bm_law_scenario.proofs.Told.{one-log}
use Rattle.bm_law_scenario.proofs.Unslotted.{bare-closing}

-- ---- the lists and the other laws

abbrev last : State ℕ
last = after (opening 0) one_block_log

leaves : Leaves 0 one_block_log last
leaves = leaves-lists 0 one_block_log last refl

emptied : Emptied last
emptied = record {
  lists = λ c. elim (eqb_tells c 10) [ inl y ↦ rw y.1 refl | inr y ↦ rw y.0 refl ];
  hands = λ l. elim (eqb_tells l 0) [ inl y ↦ rw y.1 refl | inr y ↦ rw y.0 refl ];
  active = λ c. elim (eqb_tells c 10) [ inl y ↦ rw y.1 refl | inr y ↦ rw y.0 refl ];
}

replies : RepliesFit Nothing (own_entries 0 one_block_log)
replies = (tt, (tt, (tt, (refl, (tt, (tt, (tt, (tt, (tt, (refl, (tt, (tt, (tt, (tt, (tt, (tt, (tt, (tt, (tt, (tt, (tt, (tt, (tt, (tt, (tt, (tt, (tt, (tt, (tt, (tt, (tt, (tt, (tt, (tt, (tt, (tt, (tt, (tt, (tt, (tt, (tt, (tt, (tt, (tt, tt))))))))))))))))))))))))))))))))))))))))))))

null : NullLaw 0 one_block_log
null = record {
  pops = pops-fit (opening 0) one_block_log leaves.named;
  replies = λ l. elim (eqb_tells 0 l) [ inl y ↦ rw (← y.1) replies | inr y ↦ rw y.0 tt ];
}

parcels : ParcelLaw 0 one_block_log
parcels = (tt, (tt, (tt, (tt, (tt, (tt, (tt, (tt, (tt, (tt, (tt, (refl, (tt, (tt, (tt, (tt, (tt, (tt, (tt, (tt, (tt, (tt, (tt, (tt, (tt, (tt, (tt, (tt, (tt, (tt, (tt, (refl, (tt, (tt, (tt, (tt, (tt, (tt, (refl, (tt, (tt, (tt, (tt, (tt, λ c. elim (eqb_tells c 10) [ inl y ↦ rw y.1 refl | inr y ↦ rw y.0 refl ]))))))))))))))))))))))))))))))))))))))))))))

heading : HeadingOf one_block one_block_journal
unfolding class_of_size size_of_class low_of_size high_of_size batch_of_size
heading = record { processors = refl; pages = refl; types = refl; maps = refl; scripts = refl; classes = refl }

sweep : SweepPhrase 10 (entry.Sweep 10 (Whole (0 ∷ 256 ∷ [])) ∷ entry.Stamp 10 Tracing 2 ∷ entry.Begin Tracing 1 ∷ entry.Finish sweep_period ∷ entry.Pass 10 Tracing 2 ∷ entry.Return 10 (Whole (0 ∷ 256 ∷ [])) ∷ [])
sweep = record {
  swept = 0 ∷ 256 ∷ [];
  returned = 0 ∷ 256 ∷ [];
  stamp = 2;
  poll = entry.Begin Tracing 1 ∷ entry.Finish sweep_period ∷ entry.Pass 10 Tracing 2 ∷ [];
  own_is = refl;
  polls = record {
    ended = [];
    begun = entry.Begin Tracing 1 ∷ entry.Finish sweep_period ∷ [];
    seen = 2;
    own_is = refl;
    may_finish = inl refl;
    may_begin = inr (1, entry.Finish sweep_period ∷ [], refl, inr (entry.Finish sweep_period, refl, (sweep_period, refl, refl)));
  };
}

abbrev swept : List Entry
swept = entry.Sweep 10 (Whole (0 ∷ 256 ∷ [])) ∷ entry.Stamp 10 Tracing 2 ∷ entry.Begin Tracing 1 ∷ entry.Finish sweep_period ∷ entry.Pass 10 Tracing 2 ∷ entry.Return 10 (Whole (0 ∷ 256 ∷ [])) ∷ []

-- ---- the works

abbrev s1 : State ℕ
s1 = after (opening 0) (ordinary (begins ++ takes))

abbrev work1 : List Entry
work1 = work_reads 0 ++ refills 1 ++ work_ends

abbrev s2 : State ℕ
s2 = after (opening 0) (ordinary (begins ++ takes ++ work1 ++ drops 2 ++ stops))

abbrev work2 : List Entry
work2 = work_reads 2 ++ work_ends

is-work1 : Work 0 10 s1 (ordinary (work_reads 0 ++ refills 1 ++ work_ends))
unfolding size_of_class low_of_size high_of_size batch_of_size
is-work1 =
    then-of _ _ s1 (entry.Work 10 ∷ []) (entry.Receive 10 (Whole []) ∷ entry.Read 10 0 ∷ refills 1 ++ work_ends) (says _ _ _ refl)
    (then-of _ _ _ (entry.Receive 10 (Whole []) ∷ []) (entry.Read 10 0 ∷ refills 1 ++ work_ends) ([], then-of _ _ _ (entry.Receive 10 (Whole []) ∷ []) [] (says _ _ _ refl) refl)
    (then-of _ _ _ (entry.Read 10 0 ∷ refills 1) work_ends (0, then-of _ _ _ (entry.Read 10 0 ∷ []) (refills 1) (says _ _ _ refl) (256 ∷ [], omega arith, then-of _ _ _ (entry.Fetch 10 3 (Whole (256 ∷ [])) ∷ []) (added 10 256 1 0) (says _ _ _ refl) (then-of _ _ _ (added 10 256 1 0) [] (says _ _ _ (1, 0, refl)) refl)))
    (then-of _ _ _ work_ends [] (then-of _ _ _ [] work_ends refl (then-of _ _ _ (entry.Enter 10 1 ∷ entry.TakeDelayed 10 (Whole []) ∷ []) (entry.Leave 10 0 ∷ []) (says _ _ _ ([], refl)) (then-of _ _ _ [] (entry.Leave 10 0 ∷ []) refl (then-of _ _ _ (entry.Leave 10 0 ∷ []) [] (says _ _ _ (0, refl)) refl)))) (then-of _ _ _ [] [] refl refl))))

is-work2 : Work 0 10 s2 (ordinary (work_reads 2 ++ work_ends))
unfolding size_of_class low_of_size high_of_size batch_of_size
is-work2 =
    then-of _ _ s2 (entry.Work 10 ∷ []) (entry.Receive 10 (Whole []) ∷ entry.Read 10 2 ∷ [] ++ work_ends) (says _ _ _ refl)
    (then-of _ _ _ (entry.Receive 10 (Whole []) ∷ []) (entry.Read 10 2 ∷ [] ++ work_ends) ([], then-of _ _ _ (entry.Receive 10 (Whole []) ∷ []) [] (says _ _ _ refl) refl)
    (then-of _ _ _ (entry.Read 10 2 ∷ []) work_ends (2, then-of _ _ _ (entry.Read 10 2 ∷ []) ([]) (says _ _ _ refl) refl)
    (then-of _ _ _ work_ends [] (then-of _ _ _ [] work_ends refl (then-of _ _ _ (entry.Enter 10 1 ∷ entry.TakeDelayed 10 (Whole []) ∷ []) (entry.Leave 10 0 ∷ []) (says _ _ _ ([], refl)) (then-of _ _ _ [] (entry.Leave 10 0 ∷ []) refl (then-of _ _ _ (entry.Leave 10 0 ∷ []) [] (says _ _ _ (0, refl)) refl)))) (then-of _ _ _ [] [] refl refl))))

-- ---- the script's statements

-- the names behind the call, and behind the drop
abbrev holding : Names
holding = with_name x_name (held.Object item_id 0 1) no_names

abbrev dropped : Names
dropped = with_name x_name held.Nothing holding

of-block : OfClass (block ∷ []) 0 10 block
unfolding class_of_size
of-block = record { found = refl; class = refl }

given : Allocates 10 (entry.Enter 10 1 ∷ entry.Pop 10 0 ∷ entry.Count 10 0 ∷ entry.Leave 10 0 ∷ entry.Raise 10 ∷ entry.Given 0 1 ∷ []) (Some (0, 1))
unfolding size_of_class low_of_size
given = (None, 0, 0, refl)

new-runs : RunsNew (block ∷ []) x_name item_id [] no_names takes holding
new-runs = record {
  class = 10;
  declared = block;
  of_class = of-block;
  own = entry.Enter 10 1 ∷ entry.Pop 10 0 ∷ entry.Count 10 0 ∷ entry.Leave 10 0 ∷ entry.Raise 10 ∷ entry.Given 0 1 ∷ [];
  reply = Some (0, 1);
  part_is = refl;
  allocates = given;
  after_is = refl;
}

frees : FreePhrase 10 0 0 (entry.Free 0 0 ∷ entry.Enter 10 1 ∷ entry.Push 10 0 ∷ entry.Count 10 2 ∷ entry.Leave 10 0 ∷ [])
unfolding size_of_class high_of_size
frees = inl (2, 0, refl)

abbrev s0 : State ℕ
s0 = after (opening 0) (ordinary begins)

abbrev s3 : State ℕ
s3 = after (opening 0) (ordinary (begins ++ takes ++ work1))

drop-runs : RunsDrop (block ∷ []) x_name (batch_in s3) holding (drops 2) dropped
drop-runs = record {
  type = item_id;
  unit = 0;
  life = 1;
  held = refl;
  class = 10;
  declared = block;
  of_class = of-block;
  home = 0;
  batch = false;
  batch_is = refl;
  own = entry.Free 0 0 ∷ entry.Enter 10 1 ∷ entry.Push 10 0 ∷ entry.Count 10 2 ∷ entry.Leave 10 0 ∷ [];
  part_is = refl;
  frees = frees;
  after_is = refl;
}

abbrev until : Part
until = UntilDown (10 ∷ [])

inner-runs : RunsBlock (unmapped (block ∷ [])) 0 true until (block_of (drops_x 8 ∷ []) (lit≤ tt) 8) holding dropped s3 (ordinary (drops 2))
inner-runs =
    let list : RunsList (unmapped (block ∷ [])) 0 until (drops_x 8 ∷ []) holding dropped s3 (ordinary (drops 2)) =
    (dropped, then-of _ _ _ (drops 2) [] (dropped, then-of _ _ _ (drops 2) [] (says _ _ _ (inr drop-runs)) (refl, (0, (refl, refl)))) (refl, refl)) in
    subst (λ (run : Run). run holding dropped s3 (ordinary (drops 2))) (sym (block-parts (unmapped (block ∷ [])) 0 until (vector_of (drops_x 8 ∷ []) (lit≤ tt)) 8)) list

body-runs : RunsBlock (unmapped (block ∷ [])) 0 true until makes_and_drops_block no_names dropped s0 (ordinary (takes ++ work1 ++ drops 2))
body-runs =
    let list : RunsList (unmapped (block ∷ [])) 0 until (makes_block ∷ drops_x_unless_null 8 ∷ []) no_names dropped s0 (ordinary (takes ++ work1 ++ drops 2)) = (
      holding,
      then-of _ _ s0 (takes ++ work1) (drops 2)
          (holding, then-of _ _ _ takes work1 (says _ _ _ new-runs) (refl, (1, then-of _ _ _ work1 [] is-work1 (refl, refl))))
          (dropped, then-of _ _ _ (drops 2) [] (dropped, then-of _ _ _ (drops 2) [] inner-runs (refl, (0, (refl, refl)))) (refl, refl)),
    ) in
    subst (λ (run : Run). run no_names dropped s0 (ordinary (takes ++ work1 ++ drops 2))) (sym (block-parts (unmapped (block ∷ [])) 0 until (vector_of (makes_block ∷ drops_x_unless_null 8 ∷ []) (lit≤ tt)) 9)) list

owns-nothing : (y : List ℕ) → OwnsNothing (dropped y)
owns-nothing y = elim (bytes_eq x_name y) as (λ b. OwnsNothing (cond b held.Nothing (cond b (held.Object item_id 0 1) held.Nothing))) [ true ↦ tt | false ↦ tt ]

-- ---- the log

abbrev script : List Entry
script = entry.Script (codes "main") ∷ entry.In Plain 1 ∷ takes ++ work1 ++ drops 2 ++ stops ++ work2

is-log : IsLog one_block 0 one_block_log
unfolding class_of_size sweep
is-log = record {
  front = ordinary (entry.Fill 10 (Whole (0 ∷ [])) ∷ script);
  closing = ordinary (closes (0 ∷ 256 ∷ []));
  log_is = refl;
  is_front = then-of _ _ (opening 0) (entry.Fill 10 (Whole (0 ∷ [])) ∷ []) script (says _ _ _ ([], ap (λ units. entry.Fill 10 (Whole units) ∷ []) (sym first-block), refl)) (
    _,
    refl,
    1,
    then-of _ _ _ script [] (then-of _ _ _ (entry.Script (codes "main") ∷ entry.In Plain 1 ∷ []) (takes ++ work1 ++ drops 2 ++ stops ++ work2) (stands _ _)
        (then-of _ _ _ (takes ++ work1 ++ drops 2) (stops ++ work2) (dropped, body-runs, owns-nothing) (then-of _ _ _ stops work2 (stands _ _) (then-of _ _ _ work2 [] (then-of _ _ _ work2 [] is-work2 refl) (0, (refl, refl))))))
        refl,
  );
  is_closing = bare-closing (declared_in one_block) 0 (opened_classes one_block.types) (ordinary (entry.Fill 10 (Whole (0 ∷ [])) ∷ script)) _ _ refl (then-of _ _ _ (entry.Ended ∷ entry.Close ∷ []) swept (stands _ _) (then-of _ _ _ [] swept (then-of _ _ _ [] [] refl refl) ([], then-of _ _ _ swept [] (says _ _ _ (record { phrase = sweep; taken = refl; waited = lit≤ tt; given = refl })) refl)));
}

words : SectionWords one_block_log
words Plain = refl
words Tracing = refl

log-lawful : LawfulLog one_block 0 one_block_log
log-lawful = record {
  handlers = refl;
  phrases = done-ordinary _ 0 _ (all-ordinary (entry.Fill 10 (Whole (0 ∷ [])) ∷ script ++ closes (0 ∷ 256 ∷ []))) refl;
  words = words;
  is_log = is-log;
  last = last;
  lists = leaves;
  emptied = emptied;
  null = null;
  parcels = λ q. parcels;
}

pub one_block-lawful : LawfulLogs one_block one_block_journal
one_block-lawful = record {
  heading = heading;
  count = refl;
  logs = one-log one_block one_block_log log-lawful;
  short = short-named 2 (all_entries one_block_journal.logs) refl;
  graphs = refl;
  totals = refl;
}
