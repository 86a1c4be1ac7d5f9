-- The wrong journals are not lawful, each for its own reason.
use Rattle.std.proofs.Common.{◌≡◌, ℕ, List, [], ◌∷◌, ◌++◌, refl, sym, ap, subst, ◌∙◌, codes, sum_by, arith, lit≤}
use Rattle.bm_class.specs.Sizes.{class_of_size, size_of_class}
use Rattle.bm_class.specs.Watermarks.{low_of_size, high_of_size, batch_of_size}
use Rattle.bm_class.specs.declared.watermarks.Marks.{Marks}
use Rattle.bm_journal.specs.declared.ids.Domain.TheVariants.{Plain}
use Rattle.bm_journal.specs.declared.units.Units.{Units}
use Rattle.bm_journal.specs.declared.units.Units.TheVariants.{Whole}
use Rattle.bm_journal.specs.declared.entry.Entry.{Entry}
use Rattle.bm_journal.specs.declared.entry.Entry.TheVariants as entry
use Rattle.bm_law.specs.State.{State, seven_lists}
use Rattle.bm_law.specs.Lists.{Log}
use Rattle.bm_law_scenario.specs.Declared.{unmapped}
use Rattle.bm_law_scenario.specs.Held.{Names, no_names, OwnsNothing}
use Rattle.bm_law_scenario.specs.Calls.{RunsDrop, any_batch}
use Rattle.bm_law_scenario.proofs.OwnRuns.{Run, Done, Then}
use Rattle.bm_law_scenario.specs.Lawful.{LawfulLogs}
use Rattle.bm_law_scenario.proofs.OwnGrammar.{LawfulLog}
use Rattle.bm_law_scenario.specs.WorkedJournal.{vector_of, types, x_name, makes_x, drops_x_unless_null, makes_and_drops, one_object, one_page, asks, asked, took, gave, ended, swept}
use Rattle.bm_law_scenario.specs.WrongJournals.{two_processors, other_type, other_script, one_map, one_history, other_dropped_log, other_dropped, other_value_log, other_value, other_class_log, other_class, two_pages, other_marks, one_step_more, two_logs, no_log, never_dropped_log, never_dropped, makes_alone, object_left, dropped_twice_log, dropped_twice, null_with_units_log, null_with_units, below_the_top_log, below_the_top, not_counted_log, not_counted, other_order_log, other_order, one_left_out_log, one_left_out, not_swept_log, not_swept, not_closed_log, not_closed}
use Rattle.bm_law_scenario.proofs.Blocks.{RunsList, block-runs}
use Rattle.bm_law_scenario.proofs.Taken.{Stays, holding, new-taken, if-taken, drop-begins, drop-taken, drop-counts, drop-holds, new-asks, new-enters}
use Rattle.bm_law_scenario.proofs.SameLogs.{owned-log}
use Rattle.bm_law_scenario.proofs.Told.{entries_of, unlisted, log-made}

-- ---- the heading, the histories and the totals

two-one : ◌≡◌ {A = ℕ} 2 1 → ⊥
two-one e = cc

pub two_processors-wrong : LawfulLogs one_object two_processors → ⊥
two_processors-wrong h = two-one h.heading.processors

pub two_pages-wrong : LawfulLogs one_object two_pages → ⊥
two_pages-wrong h = two-one h.heading.pages

-- two names that begin with other letters
names-apart : (b c : ℕ) (v w : List ℕ) → (b ∷ v) ∷ [] ≡ (c ∷ w) ∷ [] → b ≡ c
names-apart b c v w e = cc

t-i : ◌≡◌ {A = ℕ} 116 105 → ⊥
t-i e = omega arith

pub other_type-wrong : LawfulLogs one_object other_type → ⊥
other_type-wrong h = t-i (names-apart _ _ _ _ h.heading.types)

o-m : ◌≡◌ {A = ℕ} 111 109 → ⊥
o-m e = omega arith

pub other_script-wrong : LawfulLogs one_object other_script → ⊥
other_script-wrong h = o-m (names-apart _ _ _ _ h.heading.scripts)

not-empty : {A : Type 0} {a : A} {v : List A} → a ∷ v ≡ [] → ⊥
not-empty e = cc

pub one_map-wrong : LawfulLogs one_object one_map → ⊥
one_map-wrong h = not-empty h.heading.maps

pub one_history-wrong : LawfulLogs one_object one_history → ⊥
one_history-wrong h = not-empty h.graphs

batches-apart : ◌≡◌ {A = ℕ} 47 48 → ⊥
batches-apart e = omega arith

pub other_marks-wrong : LawfulLogs one_object other_marks → ⊥
unfolding class_of_size size_of_class low_of_size high_of_size batch_of_size
other_marks-wrong h = batches-apart (ap (λ (cs : List (ℕ × Marks)). sum_by (λ (c : ℕ × Marks). c.1.batch) cs) h.heading.classes)

steps-apart : (v w : List ℕ) → 14 ∷ v ≡ 13 ∷ w → ⊥
steps-apart v w e = cc

pub one_step_more-wrong : LawfulLogs one_object one_step_more → ⊥
one_step_more-wrong h = steps-apart _ _ h.totals

-- ---- the number of logs

pub two_logs-wrong : LawfulLogs one_object two_logs → ⊥
two_logs-wrong h = two-one h.count

none-one : ◌≡◌ {A = ℕ} 0 1 → ⊥
none-one e = cc

pub no_log-wrong : LawfulLogs one_object no_log → ⊥
no_log-wrong h = none-one h.count

-- ---- entries that don't name what is there

pub null_with_units-wrong : LawfulLogs one_object null_with_units → ⊥
null_with_units-wrong h = unlisted one_object null_with_units_log refl (owned-log one_object refl refl 0 refl null_with_units_log (h.logs 0 null_with_units_log refl))

pub below_the_top-wrong : LawfulLogs one_object below_the_top → ⊥
below_the_top-wrong h = unlisted one_object below_the_top_log refl (owned-log one_object refl refl 0 refl below_the_top_log (h.logs 0 below_the_top_log refl))

pub other_order-wrong : LawfulLogs one_object other_order → ⊥
other_order-wrong h = unlisted one_object other_order_log refl (owned-log one_object refl refl 0 refl other_order_log (h.logs 0 other_order_log refl))

pub one_left_out-wrong : LawfulLogs one_object one_left_out → ⊥
one_left_out-wrong h = unlisted one_object one_left_out_log refl (owned-log one_object refl refl 0 refl one_left_out_log (h.logs 0 one_left_out_log refl))

-- ---- lists that aren't empty at the end

pub not_swept-wrong : LawfulLogs one_object not_swept → ⊥
not_swept-wrong h =
    let l = owned-log one_object refl refl 0 refl not_swept_log (h.logs 0 not_swept_log refl) in
    not-empty (subst (λ (s : State ℕ). seven_lists (s.rows 0) ≡ []) (sym l.lists.lists) (l.emptied.lists 0))

-- ---- entries that no run leaves

-- behind the opening and the script's beginning
begun : (units : List ℕ) (v w : List Entry) → entry.Fill 0 (Whole one_page) ∷ entry.Script (codes "main") ∷ entry.In Plain 1 ∷ v ≡ entry.Fill 0 (Whole units) ∷ entry.Script (codes "main") ∷ entry.In Plain 1 ∷ w → w ≡ v
begun units v w e = cc

-- the run of the script's statements, and what stands behind them
record Ran (log : Log) (more : List Entry) : Type 0 where
  part : List Entry
  after : Names
  sweeps : List Entry
  runs : RunsList (unmapped types) (makes_x 7 ∷ drops_x_unless_null 8 ∷ []) no_names part after
  more_is : part ++ (ended ++ sweeps) ≡ more

ran-of : (log : Log) (more : List Entry) → LawfulLog one_object 0 log → entries_of log ≡ entry.Fill 0 (Whole one_page) ∷ entry.Script (codes "main") ∷ entry.In Plain 1 ∷ more → Ran log more
ran-of log more h e =
    let k = log-made 1 (makes_and_drops 7 8 9) log h in
    record {
      part = k.part;
      after = k.after;
      sweeps = k.sweeps;
      runs = subst (λ (run : Run). run no_names k.part k.after) (block-runs (unmapped types) (vector_of (makes_x 7 ∷ drops_x_unless_null 8 ∷ []) (lit≤ tt)) 9) k.runs;
      more_is = begun k.units _ _ (sym e ∙ k.own_is);
    }

-- behind the allocation the drop follows, and then the end of the script
drops : (log : Log) (more : List Entry) → LawfulLog one_object 0 log → entries_of log ≡ asked one_page ++ took 3 ++ more → (after' : Names) × (sweeps : List Entry) × Stays (Then (RunsDrop types x_name any_batch) Done) holding after' (ended ++ sweeps) more
drops log more h e =
    let s = ran-of log (asks ∷ took 3 ++ more) h e in
    (s.after, s.sweeps, if-taken 8 s.after (ended ++ s.sweeps) more (new-taken (RunsList (unmapped types) (drops_x_unless_null 8 ∷ [])) s.part s.after (ended ++ s.sweeps) more s.runs s.more_is))

out-drop : (w u n : ℕ) (v v' : List Entry) → entry.Out Plain w ∷ v ≡ entry.Drop u n ∷ v' → ⊥
out-drop w u n v v' e = cc

pub never_dropped-wrong : LawfulLogs one_object never_dropped → ⊥
never_dropped-wrong h =
    let d = drops never_dropped_log (ended ++ swept (2 ∷ 1 ∷ 0 ∷ [])) (owned-log one_object refl refl 0 refl never_dropped_log (h.logs 0 never_dropped_log refl)) refl in
    let b = drop-begins Done holding d.0 (ended ++ d.1) (ended ++ swept (2 ∷ 1 ∷ 0 ∷ [])) d.2 in
    out-drop 2 b.0 b.1 _ _ b.3

pub dropped_twice-wrong : LawfulLogs one_object dropped_twice → ⊥
dropped_twice-wrong h =
    let later : List Entry = gave 3 5 ++ ended ++ swept (3 ∷ 3 ∷ 2 ∷ 1 ∷ 0 ∷ []) in
    let d = drops dropped_twice_log (gave 3 4 ++ later) (owned-log one_object refl refl 0 refl dropped_twice_log (h.logs 0 dropped_twice_log refl)) refl in
    let t = drop-taken Done holding d.0 (ended ++ d.1) later d.2 in
    out-drop 2 3 1 _ _ (ap (λ v. v ++ (ended ++ d.1)) (sym t.2.0) ∙ t.3)

pub not_counted-wrong : LawfulLogs one_object not_counted → ⊥
not_counted-wrong h =
    let later : List Entry = ended ++ swept (3 ∷ 2 ∷ 1 ∷ 0 ∷ []) in
    let d = drops not_counted_log (entry.Drop 3 1 ∷ entry.Last ∷ entry.Free 3 0 ∷ entry.Enter 0 1 ∷ entry.Push 0 3 ∷ entry.Leave 0 0 ∷ later) (owned-log one_object refl refl 0 refl not_counted_log (h.logs 0 not_counted_log refl)) refl in
    drop-counts Done holding d.0 (ended ++ d.1) later d.2

two-three : ◌≡◌ {A = ℕ} 2 3 → ⊥
two-three e = cc

pub other_dropped-wrong : LawfulLogs one_object other_dropped → ⊥
other_dropped-wrong h =
    let d = drops other_dropped_log (gave 2 4 ++ ended ++ swept (2 ∷ 2 ∷ 1 ∷ 0 ∷ [])) (owned-log one_object refl refl 0 refl other_dropped_log (h.logs 0 other_dropped_log refl)) refl in
    two-three (drop-holds Done d.0 (ended ++ d.1) _ 2 1 d.2).0

eight-seven : ◌≡◌ {A = List ℕ} (8 ∷ []) (7 ∷ []) → ⊥
eight-seven e = cc

pub other_value-wrong : LawfulLogs one_object other_value → ⊥
other_value-wrong h =
    let later : List Entry = took 3 ++ gave 3 4 ++ ended ++ swept (3 ∷ 2 ∷ 1 ∷ 0 ∷ []) in
    let s = ran-of other_value_log (entry.New (codes "item") (8 ∷ []) ∷ later) (owned-log one_object refl refl 0 refl other_value_log (h.logs 0 other_value_log refl)) refl in
    eight-seven (new-asks (RunsList (unmapped types) (drops_x_unless_null 8 ∷ [])) no_names s.after s.part (ended ++ s.sweeps) later (codes "item") (8 ∷ []) s.runs s.more_is)

one-none : ◌≡◌ {A = ℕ} 1 0 → ⊥
one-none e = cc

pub other_class-wrong : LawfulLogs one_object other_class → ⊥
other_class-wrong h =
    let later : List Entry = entry.PopNone 1 ∷ entry.Leave 1 0 ∷ entry.Raise 1 ∷ entry.Empty ∷ ended ++ swept (3 ∷ 2 ∷ 1 ∷ 0 ∷ []) in
    let s = ran-of other_class_log (asks ∷ entry.Enter 1 1 ∷ later) (owned-log one_object refl refl 0 refl other_class_log (h.logs 0 other_class_log refl)) refl in
    one-none (new-enters (RunsList (unmapped types) (drops_x_unless_null 8 ∷ [])) no_names s.after s.part (ended ++ s.sweeps) later asks 1 s.runs s.more_is)

no-close : (v w : List Entry) (us : Units) → entry.Out Plain 2 ∷ entry.Done (codes "main") ∷ entry.Ended ∷ entry.Close ∷ v ≡ entry.Out Plain 2 ∷ entry.Done (codes "main") ∷ entry.Ended ∷ entry.Sweep 0 us ∷ w → ⊥
no-close v w us e = cc

pub not_closed-wrong : LawfulLogs one_object not_closed → ⊥
not_closed-wrong h =
    let later : List Entry = entry.Out Plain 2 ∷ entry.Done (codes "main") ∷ entry.Ended ∷ swept (3 ∷ 2 ∷ 1 ∷ 0 ∷ []) in
    let d = drops not_closed_log (gave 3 4 ++ later) (owned-log one_object refl refl 0 refl not_closed_log (h.logs 0 not_closed_log refl)) refl in
    let t = drop-taken Done holding d.0 (ended ++ d.1) later d.2 in
    no-close _ _ _ (ap (λ v. v ++ (ended ++ d.1)) (sym t.2.0) ∙ t.3)

-- ---- a name that owns at the end

pub object_left-wrong : LawfulLogs object_left never_dropped → ⊥
object_left-wrong h =
    let l = owned-log object_left refl refl 0 refl never_dropped_log (h.logs 0 never_dropped_log refl) in
    let k = log-made 1 makes_alone never_dropped_log l in
    let list = subst (λ (run : Run). run no_names k.part k.after) (block-runs (unmapped types) (vector_of (makes_x 7 ∷ []) (lit≤ tt)) 9) k.runs in
    let s = new-taken Done k.part k.after (ended ++ k.sweeps) (ended ++ swept (2 ∷ 1 ∷ 0 ∷ [])) list (begun k.units _ _ k.own_is) in
    subst (λ (n : Names). OwnsNothing (n x_name)) s.runs.1 (k.owns_nothing x_name)
