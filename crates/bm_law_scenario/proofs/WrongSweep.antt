-- A journal that sweeps an empty class is not lawful.
use Rattle.std.proofs.Common.{true, ◌≡◌, ℕ, inl, inr, List, [], ◌∷◌, ◌++◌, Option, Some, None, refl, sym, ap, subst, ◌∙◌, append_assoc, append-nil, codes, lit≤}
use Rattle.bm_class.specs.Sizes.{size_of_class}
use Rattle.bm_class.specs.Watermarks.{low_of_size}
use Rattle.bm_journal.specs.declared.ids.Domain.TheVariants.{Plain}
use Rattle.bm_journal.specs.declared.units.Units.TheVariants.{Whole}
use Rattle.bm_journal.specs.declared.entry.Entry.{Entry}
use Rattle.bm_journal.specs.declared.entry.Entry.TheVariants as entry
use Rattle.bm_law.specs.State.{State, seven_lists}
use Rattle.bm_law.specs.Lists.{Leaves}
use Rattle.bm_law.specs.Phrases.{raise_below, alloc_took, alloc_empty, alloc_busy}
use Rattle.bm_law_scenario.specs.Declared.{unmapped}
use Rattle.bm_law_scenario.specs.Held.{Names, Null, no_names, with_name}
use Rattle.bm_law_scenario.specs.Calls.{Allocates, answered}
use Rattle.bm_law_scenario.proofs.OwnRuns.{Run, Done, Then, RunsAction}
use Rattle.bm_law.specs.Ordinary.{ordinary}
use Rattle.bm_law_scenario.proofs.OwnGrammar.{Swept}
use Rattle.bm_law_scenario.specs.Lawful.{LawfulLogs}
use Rattle.bm_law_scenario.specs.WorkedJournal.{vector_of, types, x_name, item_id, makes_x, drops_x_unless_null, makes_and_drops, no_object, asks, took_none, ended, swept}
use Rattle.bm_law_scenario.specs.WrongJournals.{empty_swept_log, empty_swept}
use Rattle.bm_law_scenario.proofs.Blocks.{RunsList, block-runs}
use Rattle.bm_law_scenario.proofs.SameLogs.{owned-log}
use Rattle.bm_law_scenario.proofs.Told.{log-made}

-- ---- an allocation that answers null

no-unit : (c u k a life : ℕ) (seal : Option (ℕ × ℕ)) (rest more : List Entry) → alloc_took c u life seal k a ++ rest ≡ took_none ++ more → ⊥
no-unit c u k a life seal rest more e = apart c u _ _ e
  where
    apart : (c u : ℕ) (v w : List Entry) → entry.Enter c 1 ∷ entry.Pop c u ∷ v ≡ entry.Enter 0 1 ∷ entry.PopNone 0 ∷ w → ⊥
    apart c u v w q = cc

no-busy : (c b a : ℕ) (rest more : List Entry) → alloc_busy c b a ++ rest ≡ took_none ++ more → ⊥
no-busy c b a rest more e = apart c b a _ _ e
  where
    apart : (c b a : ℕ) (v w : List Entry) → entry.Enter c b ∷ entry.Leave c a ∷ v ≡ entry.Enter 0 1 ∷ entry.PopNone 0 ∷ w → ⊥
    apart c b a v w q = cc

begins : (c a : ℕ) (v w : List Entry) → entry.Enter c 1 ∷ entry.PopNone c ∷ entry.Leave c a ∷ v ≡ entry.Enter 0 1 ∷ entry.PopNone 0 ∷ entry.Leave 0 0 ∷ w → (c ≡ 0) × (a ≡ 0) × (v ≡ w)
begins c a v w e = (cc, cc, cc)

ends : (v w : List Entry) → entry.Raise 0 ∷ entry.Empty ∷ v ≡ entry.Raise 0 ∷ entry.Empty ∷ w → v ≡ w
ends v w e = cc

empty-taken : (c a : ℕ) (rest more : List Entry) → alloc_empty c a ++ rest ≡ took_none ++ more → (alloc_empty c a ≡ took_none) × (rest ≡ more)
unfolding size_of_class low_of_size
empty-taken c a rest more e =
    let b = begins c a ((raise_below c 0 ++ entry.Empty ∷ []) ++ rest) (entry.Raise 0 ∷ entry.Empty ∷ more) e in
    let at : ℕ → Type 0 = λ d. (raise_below d 0 ++ entry.Empty ∷ []) ++ rest ≡ entry.Raise 0 ∷ entry.Empty ∷ more in
    ((λ i. alloc_empty (b.0 i) (b.1 i)), ends rest more (subst at b.0 b.2))

none-taken : (c : ℕ) (own : List Entry) (reply : Option (ℕ × ℕ)) (rest more : List Entry) → Allocates c own reply → own ++ rest ≡ took_none ++ more → (reply ≡ None) × (own ≡ took_none) × (rest ≡ more)
none-taken c own None rest more (inl y) e = let g = empty-taken c y.0 rest more (ap (λ v. v ++ rest) (sym y.1) ∙ e) in (refl, y.1 ∙ g.0, g.1)
none-taken c own None rest more (inr y) e = absurd (no-busy c y.0 y.1 rest more (ap (λ v. v ++ rest) (sym y.3) ∙ e))
none-taken c own (Some object) rest more y e = absurd (no-unit c object.0 y.1 y.2 object.1 y.0 rest more (ap (λ v. v ++ rest) (sym y.3) ∙ e))

-- ---- the whole block

first-is : {a b : Entry} {v w : List Entry} → a ∷ v ≡ b ∷ w → a ≡ b
first-is e = cc

behind : {a b : Entry} {v w : List Entry} → a ∷ v ≡ b ∷ w → v ≡ w
behind e = cc

block-taken : (part : List Entry) (after : Names) (tail more : List Entry) → RunsList (unmapped types) (makes_x 7 ∷ drops_x_unless_null 8 ∷ []) no_names part after → part ++ tail ≡ asks ∷ took_none ++ more → (part ≡ asks ∷ took_none) × (tail ≡ more)
block-taken part after tail more h e =
    let n = h.first_runs in
    let whole : entry.New n.declared.name (7 ∷ []) ∷ ((n.own ++ h.two) ++ tail) ≡ asks ∷ took_none ++ more = sym (ap (λ p. p ++ tail) (h.part_is ∙ ap (λ o. o ++ h.two) n.part_is)) ∙ e in
    let g = none-taken n.class n.own n.reply (h.two ++ tail) more n.allocates (sym (append_assoc n.own h.two tail) ∙ behind whole) in
    let held : h.middle ≡ with_name x_name Null no_names = n.after_is ∙ ap (λ r. with_name x_name (answered item_id r) no_names) g.0 in
    let chosen : Then (RunsAction (unmapped types) true (drops_x_unless_null 8).action) Done (with_name x_name Null no_names) h.two after = subst (λ m. Then (RunsAction (unmapped types) true (drops_x_unless_null 8).action) Done m h.two after) held h.second_runs in
    let none : h.two ≡ [] = chosen.part_is ∙ ap (λ v. v ++ chosen.two) chosen.first_runs.0 ∙ chosen.second_runs.0 in (
      h.part_is ∙ ap (λ v. h.one ++ v) none ∙ append-nil h.one ∙ n.part_is ∙ ap (λ o. entry.New n.declared.name (7 ∷ []) ∷ o) g.1 ∙ ap (λ c. c ∷ took_none) (first-is whole),
      ap (λ v. v ++ tail) (sym none) ∙ g.2,
    )

-- ---- the journal

begun : (units : List ℕ) (v w : List Entry) → entry.Fill 0 (Whole []) ∷ entry.Script (codes "main") ∷ entry.In Plain 1 ∷ v ≡ entry.Fill 0 (Whole units) ∷ entry.Script (codes "main") ∷ entry.In Plain 1 ∷ w → (units ≡ []) × (w ≡ v)
begun units v w e = (cc, cc)

stopped : (v w : List Entry) → ended ++ v ≡ ended ++ w → v ≡ w
stopped v w e = behind (behind (behind (behind e)))

-- where a class is empty nothing is swept
unswept : (units : List ℕ) (v : List Entry) → units ≡ [] → Swept 0 units (λ w. w ≡ []) v → v ≡ []
unswept units v e h = subst (λ us. Swept 0 us (λ w. w ≡ []) v) e h

not-empty : {v : List Entry} (e : Entry) → e ∷ v ≡ [] → ⊥
not-empty e q = cc

pub empty_swept-wrong : LawfulLogs no_object empty_swept → ⊥
empty_swept-wrong h =
    let k = log-made 0 (makes_and_drops 7 8 9) empty_swept_log (owned-log no_object refl refl 0 refl empty_swept_log (h.logs 0 empty_swept_log refl)) in
    let b = begun k.units _ _ k.own_is in
    let list = subst (λ (run : Run). run no_names k.part k.after) (block-runs (unmapped types) (vector_of (makes_x 7 ∷ drops_x_unless_null 8 ∷ []) (lit≤ tt)) 9) k.runs in
    let t = block-taken k.part k.after (ended ++ k.sweeps) (ended ++ swept []) list b.1 in
    let front : List ℕ → List Entry → List Entry = λ units part. entry.Fill 0 (Whole units) ∷ entry.Script (codes "main") ∷ entry.In Plain 1 ∷ part ++ entry.Out Plain 2 ∷ entry.Done (codes "main") ∷ [] in
    let leaves : Leaves 0 (ordinary (front [] (asks ∷ took_none))) k.before = subst (λ us. Leaves 0 (ordinary (front us (asks ∷ took_none))) k.before) b.0 (subst (λ p. Leaves 0 (ordinary (front k.units p)) k.before) t.0 k.before_is) in
    let empty : seven_lists (k.before.rows 0) ≡ [] = ap (λ (s : State ℕ). seven_lists (s.rows 0)) (sym leaves.lists) in
    not-empty _ (sym (stopped k.sweeps (swept []) t.1) ∙ unswept (seven_lists (k.before.rows 0)) k.sweeps empty k.are_sweeps)
