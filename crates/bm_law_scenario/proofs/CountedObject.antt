-- The journal of a counted object that is made, referred to twice and dropped twice is lawful.
use Rattle.std.proofs.Common.{◌≡◌, Bool, is_some, lit<, ℕ, inl, inr, cond, true, false, List, [], ◌∷◌, ◌++◌, refl, sym, ap, subst, bytes_eq, codes, lit≤, Some, None}
use Rattle.std.proofs.lemmas.Bool.Decides.{eqb_tells}
use Rattle.bm_class.specs.Sizes.{class_of_size, size_of_class}
use Rattle.bm_class.specs.Watermarks.{low_of_size, high_of_size, batch_of_size}
use Rattle.bm_journal.specs.declared.ids.Domain.TheVariants.{Plain, Tracing}
use Rattle.bm_journal.specs.declared.units.Units.TheVariants.{Whole}
use Rattle.bm_journal.specs.declared.entry.Entry.{Entry}
use Rattle.bm_journal.specs.declared.entry.Entry.TheVariants as entry
use Rattle.bm_law.specs.State.{State, opening}
use Rattle.bm_law.specs.Lists.{Leaves, after}
use Rattle.bm_law.specs.Null.{Nothing, NullLaw, RepliesFit}
use Rattle.bm_law.specs.Ordinary.{ordinary}
use Rattle.bm_law.specs.Spans.{own_entries}
use Rattle.bm_law.specs.SweepPhrases.{SweepPhrase}
use Rattle.bm_law.specs.Worked.{Emptied}
use Rattle.bm_law.proofs.Agree.{leaves-lists}
use Rattle.bm_law.proofs.Null.{pops-fit}
use Rattle.bm_law_work.specs.Parts as part
use Rattle.bm_law_work.proofs.Pages.{short-named}
use Rattle.bm_law_scenario.specs.Opened.{opened_classes}
use Rattle.bm_law_scenario.specs.Declared.{declared_in, unmapped}
use Rattle.bm_law_scenario.specs.Calls.{Allocates, RunsAcquire, RunsDrop, RunsNew, batch_in}
use Rattle.bm_law_scenario.specs.Grammar.{IsLog}
use Rattle.bm_law_scenario.specs.Held.{Null, Object, OwnsNothing, no_names}
use Rattle.bm_law_scenario.specs.Held as held
use Rattle.bm_law_scenario.specs.Lawful.{HeadingOf, LawfulLog, LawfulLogs}
use Rattle.bm_law_scenario.specs.Parcels.{ParcelLaw}
use Rattle.bm_law_scenario.specs.Runs.{Run, RunsBlock}
use Rattle.bm_law_lives.specs.SectionWords.{SectionWords}
use Rattle.bm_law_lives.specs.Short.{all_entries}
use Rattle.bm_law_scenario.specs.Worked.{item}
use Rattle.bm_law_scenario.specs.WorkedDrops.{acquires, acquires_and_drops, both_hold, counted_call, counted_entries, counted_journal, counted_log, counted_object, counted_types, delays_and_raises, gives_one_up, holding_three, makes_and_shares, makes_counted, neither_holds, shared, shares_unless_null, y_holds, y_name}
use Rattle.bm_law_scenario.specs.WorkedJournal.{block_of, item_id, one_page, swept, sweep_period, took, vector_of, x_name}
use Rattle.bm_law_scenario.proofs.BlockParts.{RunsList, block-parts}
use Rattle.bm_law_scenario.proofs.Opening.{first-four}
use Rattle.bm_law_scenario.proofs.Ordinary.{all-ordinary, says, stands, then-of}
use Rattle.bm_law_scenario.proofs.Told.{one-log}
use Rattle.bm_law_scenario.proofs.Unplanned.{done-ordinary}
use Rattle.bm_law_scenario.proofs.WorkedDropped.{of-counted}
use Rattle.bm_law_scenario.proofs.WorkedShared.{acquires-seen, left-seen}
use Rattle.bm_law_scenario.proofs.Unslotted.{bare-closing}

abbrev last : State ℕ
last = after (opening 0) counted_log

leaves : Leaves 0 counted_log last
leaves = leaves-lists 0 counted_log last refl

emptied : Emptied last
emptied = record {
  lists = λ c. elim (eqb_tells c 0) [ inl y ↦ rw y.1 refl | inr y ↦ rw y.0 refl ];
  hands = λ l. elim (eqb_tells l 0) [ inl y ↦ rw y.1 refl | inr y ↦ rw y.0 refl ];
  active = λ c. elim (eqb_tells c 0) [ inl y ↦ rw y.1 refl | inr y ↦ rw y.0 refl ];
}

replies : RepliesFit Nothing (own_entries 0 counted_log)
replies = (tt, (tt, (tt, (refl, (tt, (tt, (tt, (tt, (tt, (refl, (tt, (tt, (tt, (tt, (tt, (tt, (tt, (tt, (tt, (tt, (tt, (tt, (tt, (tt, (tt, (tt, (tt, (tt, (tt, (tt, tt))))))))))))))))))))))))))))))

null : NullLaw 0 counted_log
null = record {
  pops = pops-fit (opening 0) counted_log leaves.named;
  replies = λ l. elim (eqb_tells 0 l) [ inl y ↦ rw (← y.1) replies | inr y ↦ rw y.0 tt ];
}

parcels : ParcelLaw 0 counted_log
parcels = (tt, (tt, (tt, (tt, (tt, (tt, (tt, (tt, (tt, (tt, (tt, (tt, (tt, (tt, (tt, (tt, (tt, (tt, (tt, (tt, (tt, (tt, (tt, (tt, (refl, (tt, (tt, (tt, (tt, (tt, λ c. elim (eqb_tells c 0) [ inl y ↦ rw y.1 refl | inr y ↦ rw y.0 refl ]))))))))))))))))))))))))))))))

heading : HeadingOf counted_object counted_journal
unfolding class_of_size size_of_class low_of_size high_of_size batch_of_size
heading = record { processors = refl; pages = refl; types = refl; maps = refl; scripts = refl; classes = refl }

unfoldable sweep : SweepPhrase 0 (swept (2 ∷ 1 ∷ 0 ∷ 3 ∷ []))
sweep = record {
  swept = 2 ∷ 1 ∷ 0 ∷ 3 ∷ [];
  returned = 2 ∷ 1 ∷ 0 ∷ 3 ∷ [];
  stamp = 2;
  poll = entry.Begin Tracing 1 ∷ entry.Finish sweep_period ∷ entry.Pass 0 Tracing 2 ∷ [];
  own_is = refl;
  polls = record {
    ended = [];
    begun = entry.Begin Tracing 1 ∷ entry.Finish sweep_period ∷ [];
    seen = 2;
    own_is = refl;
    may_finish = inl refl;
    may_begin = inr (1, entry.Finish sweep_period ∷ [], refl, inr (entry.Finish sweep_period, refl, (sweep_period, refl, refl)));
  };
}

-- ---- the script

gives : Allocates 0 (took 3) (Some (3, 1))
unfolding size_of_class low_of_size
gives = (None, 3, 0, refl)

new-runs : RunsNew counted_types x_name item_id [] no_names counted_call holding_three
new-runs = record {
  class = 0;
  declared = record item { line = 5; counted = true; fields = [] };
  of_class = of-counted;
  own = took 3;
  reply = Some (3, 1);
  part_is = refl;
  allocates = gives;
  after_is = refl;
}

-- the lists at the statements
abbrev at_call : State ℕ
at_call = after (opening 0) (ordinary (entry.Fill 0 (Whole one_page) ∷ entry.Script (codes "main") ∷ entry.In Plain 1 ∷ []))

abbrev at_drops : State ℕ
at_drops = after at_call (ordinary counted_call)

abbrev at_last : State ℕ
at_last = after (after at_drops (ordinary (acquires 1))) (ordinary (gives_one_up 2))

acquire-runs : RunsAcquire counted_types y_name x_name holding_three (acquires 1) both_hold
acquire-runs = acquires-seen 1 (lit< tt)

-- the drop of y, which holds the last reference
last-runs : (s : State ℕ) → is_some (s.rows 0).deferred.plain ≡ false → RunsDrop counted_types y_name (batch_in s) y_holds delays_and_raises neither_holds
last-runs s none = record {
  type = item_id;
  unit = 3;
  life = 1;
  held = refl;
  class = 0;
  declared = record item { line = 5; counted = true; fields = [] };
  of_class = of-counted;
  home = 0;
  batch = false;
  batch_is = sym none;
  own = entry.Delay 3 0 ∷ entry.Enter 0 1 ∷ entry.Delayed 0 3 ∷ entry.Leave 0 0 ∷ entry.Raise 0 ∷ [];
  part_is = refl;
  frees = inl (0, refl);
  after_is = refl;
}

inner-runs : RunsBlock (unmapped counted_types) 0 true part.Nothing (block_of (acquires_and_drops 8) (lit≤ tt) 8) holding_three neither_holds at_drops (ordinary shared)
inner-runs =
    let list : RunsList (unmapped counted_types) 0 part.Nothing (acquires_and_drops 8) holding_three neither_holds at_drops (ordinary shared) = (
      both_hold,
      then-of _ _ at_drops (acquires 1) (gives_one_up 2 ++ delays_and_raises)
          (both_hold, then-of _ _ _ (acquires 1) [] (says _ _ _ acquire-runs) (refl, refl)) (
            y_holds,
            then-of _ _ _ (gives_one_up 2) delays_and_raises
                (y_holds, then-of _ _ _ (gives_one_up 2) [] (says _ _ _ (inl (left-seen 2 (lit< tt)))) (refl, refl))
                (neither_holds, then-of _ _ _ delays_and_raises [] (neither_holds, then-of _ _ _ delays_and_raises [] (says _ _ _ (inr (last-runs at_last refl))) (refl, refl)) (refl, refl)),
          ),
    ) in
    subst (λ (run : Run). run holding_three neither_holds at_drops (ordinary shared)) (sym (block-parts (unmapped counted_types) 0 part.Nothing (vector_of (acquires_and_drops 8) (lit≤ tt)) 8)) list

body-runs : RunsBlock (unmapped counted_types) 0 true part.Nothing makes_and_shares no_names neither_holds at_call (ordinary (counted_call ++ shared))
body-runs =
    let list : RunsList (unmapped counted_types) 0 part.Nothing (makes_counted ∷ shares_unless_null 8 ∷ []) no_names neither_holds at_call (ordinary (counted_call ++ shared)) = (
      holding_three,
      then-of _ _ at_call counted_call shared
          (holding_three, then-of _ _ _ counted_call [] (says _ _ _ new-runs) (refl, refl))
          (neither_holds, then-of _ _ _ shared [] (neither_holds, then-of _ _ _ shared [] inner-runs (refl, refl)) (refl, refl)),
    ) in
    subst (λ (run : Run). run no_names neither_holds at_call (ordinary (counted_call ++ shared))) (sym (block-parts (unmapped counted_types) 0 part.Nothing (vector_of (makes_counted ∷ shares_unless_null 8 ∷ []) (lit≤ tt)) 9)) list

owns-nothing : (y : List ℕ) → OwnsNothing (neither_holds y)
owns-nothing y = both (bytes_eq y_name y) (bytes_eq x_name y)
  where
    both : (a b : Bool) → OwnsNothing (cond a held.Nothing (cond b held.Nothing (cond a (held.Object item_id 3 1) (cond b (held.Object item_id 3 1) held.Nothing))))
    both true b = tt
    both false true = tt
    both false false = tt

-- ---- the log

abbrev begins : List Entry
begins = entry.Script (codes "main") ∷ entry.In Plain 1 ∷ []

abbrev stops : List Entry
stops = entry.Out Plain 2 ∷ entry.Done (codes "main") ∷ []

abbrev script : List Entry
script = begins ++ ((counted_call ++ shared) ++ stops)

abbrev sweeps : List Entry
sweeps = swept (2 ∷ 1 ∷ 0 ∷ 3 ∷ [])

is-log : IsLog counted_object 0 counted_log
unfolding class_of_size sweep
is-log = record {
  front = ordinary (entry.Fill 0 (Whole one_page) ∷ script);
  closing = ordinary (entry.Ended ∷ entry.Close ∷ sweeps);
  log_is = refl;
  is_front = then-of _ _ (opening 0) (entry.Fill 0 (Whole one_page) ∷ []) script (says _ _ _ ([], ap (λ units. entry.Fill 0 (Whole units) ∷ []) (sym first-four), refl)) (
    _,
    refl,
    1,
    then-of _ _ _ script [] (then-of _ _ _ begins ((counted_call ++ shared) ++ stops) (stands _ _)
        (then-of _ _ _ (counted_call ++ shared) stops (neither_holds, body-runs, owns-nothing) (then-of _ _ _ stops [] (stands _ _) refl)))
        refl,
  );
  is_closing = bare-closing (declared_in counted_object) 0 (opened_classes counted_object.types) (ordinary (entry.Fill 0 (Whole one_page) ∷ script)) _ _ refl (then-of _ _ _ (entry.Ended ∷ entry.Close ∷ []) sweeps (stands _ _)
      (then-of _ _ _ [] sweeps (then-of _ _ _ [] [] refl refl) ([], then-of _ _ _ sweeps [] (says _ _ _ (record { phrase = sweep; taken = refl; waited = lit≤ tt; given = refl })) refl)));
}

words : SectionWords counted_log
words Plain = refl
words Tracing = refl

log-lawful : LawfulLog counted_object 0 counted_log
log-lawful = record {
  handlers = refl;
  phrases = done-ordinary _ 0 _ (all-ordinary counted_entries) refl;
  is_log = is-log;
  words = words;
  last = last;
  lists = leaves;
  emptied = emptied;
  null = null;
  parcels = λ q. parcels;
}

pub counted-lawful : LawfulLogs counted_object counted_journal
counted-lawful = record {
  heading = heading;
  count = refl;
  logs = one-log counted_object counted_log log-lawful;
  short = short-named 1 (all_entries counted_journal.logs) refl;
  graphs = refl;
  totals = refl;
}
