-- The journal of one object made and dropped, with a handler between two steps of its allocation, is lawful.
use Rattle.std.proofs.Common.{◌≡◌, ◌∙◌, ℕ, inl, inr, eqb, true, false, List, [], ◌∷◌, ◌++◌, refl, sym, ap, subst, arith, codes, lit≤}
use Rattle.std.proofs.lemmas.Bool.Decides.{eqb_tells}
use Rattle.bm_class.specs.Sizes.{class_of_size, size_of_class}
use Rattle.bm_class.specs.Watermarks.{low_of_size, high_of_size, batch_of_size}
use Rattle.bm_journal.specs.declared.ids.Domain.TheVariants.{Plain, Tracing}
use Rattle.bm_journal.specs.declared.units.Units.TheVariants.{Whole}
use Rattle.bm_journal.specs.declared.entry.Entry.{Entry}
use Rattle.bm_journal.specs.declared.entry.Entry.TheVariants as entry
use Rattle.bm_law.specs.Alone.{at_level}
use Rattle.bm_law.specs.State.{State, opening}
use Rattle.bm_law.specs.Lists.{Leaves, Log, after}
use Rattle.bm_law.specs.Null.{Nothing, NullLaw, RepliesFit}
use Rattle.bm_law.specs.Spans.{own_entries}
use Rattle.bm_law.specs.Worked.{Emptied}
use Rattle.bm_law.proofs.Agree.{leaves-lists}
use Rattle.bm_law.proofs.Null.{pops-fit}
use Rattle.bm_law.proofs.Spans.{own-append}
use Rattle.bm_law_work.specs.Parts as part
use Rattle.bm_law_work.proofs.Parts.{ordinary-say, ordinary-stand, then-of}
use Rattle.bm_law_scenario.specs.Opened.{opened_classes}
use Rattle.bm_law_scenario.specs.Declared.{declared_in, unmapped}
use Rattle.bm_law_scenario.specs.Held.{no_names}
use Rattle.bm_law_scenario.specs.Runs.{Run, RunsBlock}
use Rattle.bm_law_scenario.specs.Parcels.{ParcelLaw}
use Rattle.bm_law_scenario.specs.Grammar.{IsLog}
use Rattle.bm_law.specs.Ordinary.{ordinary}
use Rattle.bm_law_lives.specs.SectionWords.{SectionWords}
use Rattle.bm_law_scenario.specs.Handlers.{HandlersDone}
use Rattle.bm_law_scenario.specs.Lawful.{HeadingOf, LawfulLogs, LawfulLog}
use Rattle.bm_law_scenario.specs.WorkedJournal.{asks, block_of, drops_x, drops_x_unless_null, gave, makes_and_drops, makes_x, one_object_log, one_page, swept, took, types, vector_of, x_name}
use Rattle.bm_law_scenario.specs.WorkedHandlers.{counted, finds_busy, handled, handler, interrupted, interrupted_journal, interrupted_log, taken, uninterrupted_journal}
use Rattle.bm_law_scenario.proofs.BlockParts.{RunsList, block-parts}
use Rattle.bm_law_scenario.proofs.Opening.{first-four}
use Rattle.bm_law_scenario.proofs.OneObject.{sweep}
use Rattle.bm_law_lives.specs.Short.{all_entries}
use Rattle.bm_law_work.proofs.Pages.{short-named}
use Rattle.bm_law_scenario.proofs.Freed.{no-count, uncounted}
use Rattle.bm_law_scenario.proofs.Ran.{drop-runs, dropped, dropped-owns_nothing, new-runs}
use Rattle.bm_law_scenario.proofs.Taken.{holding}
use Rattle.bm_law_scenario.proofs.Told.{one-log}
use Rattle.bm_law_scenario.proofs.Unplanned.{done-stretch}
use Rattle.bm_law_scenario.proofs.WorkedHandled.{interrupted-done}
use Rattle.bm_law_scenario.proofs.Unslotted.{bare-closing}

-- ---- the lists and the other laws

abbrev last : State ℕ
last = after (opening 0) interrupted_log

leaves : Leaves 0 interrupted_log last
leaves = leaves-lists 0 interrupted_log last refl

emptied : Emptied last
emptied = record {
  lists = λ c. elim (eqb_tells c 0) [ inl y ↦ rw y.1 refl | inr y ↦ rw y.0 refl ];
  hands = λ l. elim (eqb_tells l 0) [
    | inl y ↦ rw y.1 refl
    | inr y ↦ elim (eqb_tells l 1) [ inl z ↦ rw z.1 refl | inr z ↦ rw (y.0, z.0) refl ]
  ];
  active = λ c. elim (eqb_tells c 0) [ inl y ↦ rw y.1 refl | inr y ↦ rw y.0 refl ];
}

ordinary-replies : RepliesFit Nothing (own_entries 0 interrupted_log)
ordinary-replies = (tt, (tt, (tt, (refl, (tt, (tt, (tt, (tt, (tt, (refl, (tt, (tt, (tt, (tt, (tt, (tt, (tt, (tt, (tt, (tt, (tt, (tt, (tt, (tt, (tt, (tt, (tt, tt)))))))))))))))))))))))))))

handler-replies : RepliesFit Nothing (own_entries 1 interrupted_log)
handler-replies = (tt, (refl, (tt, (tt, (tt, ((refl, omega arith), (tt, tt)))))))

-- of no other level is there an entry
other-level : (k l : ℕ) (es : List Entry) → eqb k l ≡ false → own_entries l (at_level k es) ≡ []
other-level k l [] q = refl
other-level k l (e ∷ es) q = rw q (other-level k l es q)

none-joined : (l : ℕ) (v w : Log) → own_entries l v ≡ [] → own_entries l w ≡ [] → own_entries l (v ++ w) ≡ []
none-joined l v w f g = own-append l v w ∙ ap (λ z. z ++ own_entries l w) f ∙ g

none-other : (l : ℕ) → eqb 0 l ≡ false → eqb 1 l ≡ false → own_entries l interrupted_log ≡ []
none-other l q r =
    let closes : List Entry = entry.Close ∷ swept (3 ∷ 2 ∷ 1 ∷ 0 ∷ []) in
    let one : List Entry = entry.Fill 0 (Whole one_page) ∷ entry.Script (codes "main") ∷ entry.In Plain 1 ∷ asks ∷ entry.Enter 0 1 ∷ entry.Pop 0 3 ∷ [] in
    let two : List Entry = entry.Handler (codes "h") ∷ finds_busy ++ entry.Back (codes "h") ∷ [] in
    let three : List Entry = entry.Count 0 3 ∷ entry.Leave 0 0 ∷ entry.Raise 0 ∷ entry.Given 3 1 ∷ gave 3 4 ++ entry.Out Plain 2 ∷ entry.Done (codes "main") ∷ entry.Ended ∷ [] in
    none-joined l interrupted (ordinary closes)
    (none-joined l (taken ++ handler (codes "h") finds_busy) counted (none-joined l taken (handler (codes "h") finds_busy) (other-level 0 l one q) (other-level 1 l two r)) (other-level 0 l three q)) (other-level 0 l closes q)

null : NullLaw 0 interrupted_log
null = record {
  pops = pops-fit (opening 0) interrupted_log leaves.named;
  replies = λ l. elim (eqb_tells 0 l) [
    | inl y ↦ rw (← y.1) ordinary-replies
    | inr y ↦ elim (eqb_tells 1 l) [ inl z ↦ rw (← z.1) handler-replies | inr z ↦ subst (λ (es : List Entry). RepliesFit Nothing es) (sym (none-other l y.0 z.0)) tt ]
  ];
}

-- ---- the script

-- the call for the object, with the handler between two of its steps
abbrev call : Log
call = ordinary (asks ∷ entry.Enter 0 1 ∷ entry.Pop 0 3 ∷ []) ++ handler (codes "h") finds_busy ++ ordinary (entry.Count 0 3 ∷ entry.Leave 0 0 ∷ entry.Raise 0 ∷ entry.Given 3 1 ∷ [])

abbrev begins : Log
begins = ordinary (entry.Script (codes "main") ∷ entry.In Plain 1 ∷ [])

abbrev drop : Log
drop = ordinary (gave 3 4)

abbrev stops : Log
stops = ordinary (entry.Out Plain 2 ∷ entry.Done (codes "main") ∷ [])

inner-runs : (s : State ℕ) → RunsBlock (unmapped types) 0 true part.Nothing (block_of (drops_x 8 ∷ []) (lit≤ tt) 8) holding dropped s drop
inner-runs s =
    let list : RunsList (unmapped types) 0 part.Nothing (drops_x 8 ∷ []) holding dropped s drop =
    (dropped, then-of _ _ s drop [] (dropped, then-of _ _ s drop [] (ordinary-say _ (gave 3 4) s drop (inr (uncounted types x_name s holding dropped (gave 3 4) drop-runs (no-count types drop-runs.type.0 drop-runs.declared (refl, tt) drop-runs.of_class.found))) refl) (refl, refl)) (refl, refl)) in
    subst (λ (run : Run). run holding dropped s drop) (sym (block-parts (unmapped types) 0 part.Nothing (vector_of (drops_x 8 ∷ []) (lit≤ tt)) 8)) list

body-runs : (s : State ℕ) → RunsBlock (unmapped types) 0 true part.Nothing (makes_and_drops 7 8 9) no_names dropped s (call ++ drop)
body-runs s =
    let list : RunsList (unmapped types) 0 part.Nothing (makes_x 7 ∷ drops_x_unless_null 8 ∷ []) no_names dropped s (call ++ drop) = (
      holding,
      then-of _ _ s call drop
          (holding, then-of _ _ s call [] (ordinary-say _ (asks ∷ took 3) s call new-runs refl) (refl, refl))
          (dropped, then-of _ _ _ drop [] (dropped, then-of _ _ _ drop [] (inner-runs _) (refl, refl)) (refl, refl)),
    ) in
    subst (λ (run : Run). run no_names dropped s (call ++ drop)) (sym (block-parts (unmapped types) 0 part.Nothing (vector_of (makes_x 7 ∷ drops_x_unless_null 8 ∷ []) (lit≤ tt)) 9)) list

-- ---- the log

abbrev fills : Log
fills = ordinary (entry.Fill 0 (Whole one_page) ∷ [])

abbrev script : Log
script = begins ++ ((call ++ drop) ++ stops)

abbrev closing : Log
closing = ordinary (entry.Ended ∷ entry.Close ∷ swept (3 ∷ 2 ∷ 1 ∷ 0 ∷ []))

is-log : IsLog (handled (makes_and_drops 7 8 9)) 0 interrupted_log
unfolding class_of_size sweep
is-log = record {
  front = fills ++ script;
  closing = closing;
  log_is = refl;
  is_front = then-of _ _ (opening 0) fills script (ordinary-say _ (entry.Fill 0 (Whole one_page) ∷ []) (opening 0) fills ([], ap (λ units. entry.Fill 0 (Whole units) ∷ []) (sym first-four), refl) refl) (
    _,
    refl,
    1,
    then-of _ _ _ script [] (then-of _ _ _ begins ((call ++ drop) ++ stops) (ordinary-stand _ _ _ refl)
        (then-of _ _ _ (call ++ drop) stops (dropped, body-runs _, dropped-owns_nothing) (then-of _ _ _ stops [] (ordinary-stand _ _ _ refl) refl)))
        refl,
  );
  is_closing = bare-closing (declared_in (handled (makes_and_drops 7 8 9))) 0 (opened_classes (handled (makes_and_drops 7 8 9)).types) (fills ++ script) _ _ refl (then-of _ _ _ (ordinary (entry.Ended ∷ entry.Close ∷ [])) (ordinary (swept (3 ∷ 2 ∷ 1 ∷ 0 ∷ []))) (ordinary-stand _ _ _ refl)
      (then-of _ _ _ [] (ordinary (swept (3 ∷ 2 ∷ 1 ∷ 0 ∷ []))) (then-of _ _ _ [] [] refl refl) ([], then-of _ _ _ (ordinary (swept (3 ∷ 2 ∷ 1 ∷ 0 ∷ []))) [] (ordinary-say _ (swept (3 ∷ 2 ∷ 1 ∷ 0 ∷ [])) _ _ (record { phrase = sweep; taken = refl; waited = lit≤ tt; given = refl }) refl) refl)));
}

phrases : HandlersDone (handled (makes_and_drops 7 8 9)) 0 interrupted_log
phrases = done-stretch (handled (makes_and_drops 7 8 9)) 0 (ordinary (entry.Close ∷ swept (3 ∷ 2 ∷ 1 ∷ 0 ∷ []))) interrupted refl interrupted-done

words : SectionWords interrupted_log
words Plain = refl
words Tracing = refl

parcels : ParcelLaw 0 interrupted_log
parcels = (tt, (tt, (tt, (tt, (tt, (tt, (tt, (tt, (tt, (tt, (tt, (tt, (tt, (tt, (tt, (tt, (tt, (tt, (tt, (tt, (tt, (tt, (tt, (tt, (tt, (tt, (tt, (tt, (refl, (tt, (tt, (tt, (tt, (tt, λ c. elim (eqb_tells c 0) [ inl y ↦ rw y.1 refl | inr y ↦ rw y.0 refl ]))))))))))))))))))))))))))))))))))

log-lawful : LawfulLog (handled (makes_and_drops 7 8 9)) 0 interrupted_log
log-lawful = record {
  handlers = refl;
  phrases = phrases;
  is_log = is-log;
  words = words;
  last = last;
  lists = leaves;
  emptied = emptied;
  null = null;
  parcels = λ q. parcels;
}

heading : HeadingOf (handled (makes_and_drops 7 8 9)) interrupted_journal
unfolding class_of_size size_of_class low_of_size high_of_size batch_of_size
heading = record { processors = refl; pages = refl; types = refl; maps = refl; scripts = refl; classes = refl }

pub interrupted-lawful : LawfulLogs (handled (makes_and_drops 7 8 9)) interrupted_journal
interrupted-lawful = record {
  heading = heading;
  count = refl;
  logs = one-log (handled (makes_and_drops 7 8 9)) interrupted_log log-lawful;
  short = short-named 1 (all_entries interrupted_journal.logs) refl;
  graphs = refl;
  totals = refl;
}

-- ---- where a handler stands that isn't planned, and where none stands though one is due

false-true : false ≡ true → ⊥
false-true q = cc

pub unplanned-wrong : LawfulLogs (record (handled (makes_and_drops 7 8 9)) { ats = [] }) interrupted_journal → ⊥
unplanned-wrong h = false-true (h.logs 0 interrupted_log refl).handlers

pub uninterrupted-wrong : LawfulLogs (handled (makes_and_drops 7 8 9)) uninterrupted_journal → ⊥
uninterrupted-wrong h = false-true (h.logs 0 one_object_log refl).handlers
