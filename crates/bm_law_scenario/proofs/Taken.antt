-- What is left of a log behind a part of it that a statement of the worked scripts left.
use Rattle.std.proofs.Common.{refl, Bool, true, false, ◌≡◌, ℕ, inl, inr, List, [], ◌∷◌, ◌++◌, Option, Some, None, sym, ap, subst, ◌∙◌, append_assoc, append-nil, lit≤}
use Rattle.bm_journal.specs.declared.entry.Entry.{Entry}
use Rattle.bm_journal.specs.declared.entry.Entry.TheVariants as entry
use Rattle.bm_class.specs.Sizes.{class_of_size, size_of_class}
use Rattle.bm_class.specs.Watermarks.{low_of_size, high_of_size}
use Rattle.bm_lang.specs.declared.scenario.TypeDeclaration.{TypeDeclaration}
use Rattle.bm_lang.specs.declared.scenario.TypeId.{TypeId}
use Rattle.bm_law.specs.Phrases.{raise_below, raise_above, given, overtaken, alloc_took, alloc_empty, alloc_busy, FreePhrase}
use Rattle.bm_law_scenario.specs.Declared.{unmapped}
use Rattle.bm_law_scenario.specs.Held.{Object, Names, no_names, with_name}
use Rattle.bm_law_scenario.specs.Opened.{object_size}
use Rattle.bm_law_scenario.specs.Worked.{item}
use Rattle.bm_law_scenario.specs.Calls.{Allocates, answered, Frees, RunsGivingUp, RunsNew, RunsDrop, any_batch}
use Rattle.bm_law_scenario.proofs.Freed.{only-last}
use Rattle.bm_law_scenario.proofs.OwnRuns.{Run, Done, Then}
use Rattle.bm_law_scenario.specs.WorkedJournal.{types, x_name, item_id, drops_x, drops_x_unless_null, vector_of, asks, took, gave}
use Rattle.bm_law_scenario.proofs.Blocks.{RunsList, block-runs}

-- these entries stay, which begin with those of this run
pub record Stays (run : Run) (names after : Names) (tail more : List Entry) : Type 0 where
  pub part : List Entry
  pub more_is : more ≡ part ++ tail
  pub runs : run names part after

behind : {a b : Entry} {v w : List Entry} → a ∷ v ≡ b ∷ w → v ≡ w
behind e = cc

-- ---- an allocation

given-is : (u life : ℕ) (seal : Option (ℕ × ℕ)) (rest more : List Entry) → entry.Raise 0 ∷ given u life seal ∷ rest ≡ entry.Raise 0 ∷ entry.Given 3 1 ∷ more → (u ≡ 3) × (life ≡ 1) × (rest ≡ more)
given-is u life None rest more e = (cc, cc, cc)
given-is u life (Some seal) rest more e = absurd (cc)

begins : (c u k a : ℕ) (v w : List Entry) → entry.Enter c 1 ∷ entry.Pop c u ∷ entry.Count c k ∷ entry.Leave c a ∷ v ≡ entry.Enter 0 1 ∷ entry.Pop 0 3 ∷ entry.Count 0 3 ∷ entry.Leave 0 0 ∷ w → (c ≡ 0) × (k ≡ 3) × (v ≡ w)
begins c u k a v w e = (cc, cc, cc)

given-taken : (c u life k a : ℕ) (seal : Option (ℕ × ℕ)) (rest more : List Entry) → alloc_took c u life seal k a ++ rest ≡ took 3 ++ more → (u ≡ 3) × (life ≡ 1) × (rest ≡ more)
unfolding size_of_class low_of_size
given-taken c u life k a seal rest more e =
    let b = begins c u k a ((raise_below c k ++ given u life seal ∷ []) ++ rest) (entry.Raise 0 ∷ entry.Given 3 1 ∷ more) e in
    let at : ℕ → ℕ → Type 0 = λ d n. (raise_below d n ++ given u life seal ∷ []) ++ rest ≡ entry.Raise 0 ∷ entry.Given 3 1 ∷ more in
    given-is u life seal rest more (subst (λ d. at d 3) b.0 (subst (λ n. at c n) b.1 b.2))

no-empty : (c a : ℕ) (rest more : List Entry) → alloc_empty c a ++ rest ≡ took 3 ++ more → ⊥
no-empty c a rest more e = apart c _ _ e
  where
    apart : (c : ℕ) (v w : List Entry) → entry.Enter c 1 ∷ entry.PopNone c ∷ v ≡ entry.Enter 0 1 ∷ entry.Pop 0 3 ∷ w → ⊥
    apart c v w e = cc

no-busy : (c b a : ℕ) (rest more : List Entry) → alloc_busy c b a ++ rest ≡ took 3 ++ more → ⊥
no-busy c b a rest more e = apart c b a _ _ e
  where
    apart : (c b a : ℕ) (v w : List Entry) → entry.Enter c b ∷ entry.Leave c a ∷ v ≡ entry.Enter 0 1 ∷ entry.Pop 0 3 ∷ w → ⊥
    apart c b a v w e = cc

-- an allocation that begins so gave unit 3
allocation-taken : (c : ℕ) (own : List Entry) (reply : Option (ℕ × ℕ)) (rest more : List Entry) → Allocates c own reply → own ++ rest ≡ took 3 ++ more → (reply ≡ Some (3, 1)) × (rest ≡ more)
allocation-taken c own None rest more (inl y) e = absurd (no-empty c y.0 rest more (ap (λ v. v ++ rest) (sym y.1) ∙ e))
allocation-taken c own None rest more (inr y) e = absurd (no-busy c y.0 y.1 rest more (ap (λ v. v ++ rest) (sym y.3) ∙ e))
allocation-taken c own (Some object) rest more y e =
    let g = given-taken c object.0 object.1 y.1 y.2 y.0 rest more (ap (λ v. v ++ rest) (sym y.3) ∙ e) in
    ((λ i. Some (g.0 i, g.1 i)), g.2)

-- the names behind the call for the object
abbrev pub holding : Names
holding = with_name x_name (Object item_id 3 1) no_names

pub new-taken : (rest : Run) (part : List Entry) (after : Names) (tail more : List Entry) → Then (RunsNew types x_name item_id (7 ∷ [])) rest no_names part after → part ++ tail ≡ asks ∷ took 3 ++ more → Stays rest holding after tail more
new-taken rest part after tail more h e =
    let n = h.first_runs in
    let whole : entry.New n.declared.name (7 ∷ []) ∷ ((n.own ++ h.two) ++ tail) ≡ asks ∷ took 3 ++ more = sym (ap (λ p. p ++ tail) (h.part_is ∙ ap (λ o. o ++ h.two) n.part_is)) ∙ e in
    let g = allocation-taken n.class n.own n.reply (h.two ++ tail) more n.allocates (sym (append_assoc n.own h.two tail) ∙ behind whole) in
    let held : h.middle ≡ holding = n.after_is ∙ ap (λ r. with_name x_name (answered item_id r) no_names) g.0 in
    record { part = h.two; more_is = sym g.1; runs = subst (λ m. rest m h.two after) held h.second_runs }

-- the call has the values of its statement
pub new-asks : (rest : Run) (names after : Names) (part tail more : List Entry) (name values : List ℕ) → Then (RunsNew types x_name item_id (7 ∷ [])) rest names part after → part ++ tail ≡ entry.New name values ∷ more → values ≡ 7 ∷ []
new-asks rest names after part tail more name values h e = asked-values _ _ _ _ (sym e ∙ ap (λ p. p ++ tail) (h.part_is ∙ ap (λ o. o ++ h.two) h.first_runs.part_is))
  where
    asked-values : (m : List ℕ) (us : List ℕ) (v w : List Entry) → entry.New name values ∷ v ≡ entry.New m us ∷ w → values ≡ us
    asked-values m us v w q = cc

entered : (c d b : ℕ) (v w : List Entry) → entry.Enter c b ∷ v ≡ entry.Enter d 1 ∷ w → c ≡ d
entered c d b v w e = cc

-- an allocation that begins so is of this class
enters : (c d : ℕ) (own : List Entry) (reply : Option (ℕ × ℕ)) (rest more : List Entry) → Allocates c own reply → own ++ rest ≡ entry.Enter d 1 ∷ more → c ≡ d
enters c d own None rest more (inl y) e = entered c d 1 _ _ (ap (λ v. v ++ rest) (sym y.1) ∙ e)
enters c d own None rest more (inr y) e = entered c d y.0 _ _ (ap (λ v. v ++ rest) (sym y.3) ∙ e)
enters c d own (Some object) rest more y e = entered c d 1 _ _ (ap (λ v. v ++ rest) (sym y.3) ∙ e)

-- the call for an item is served from class 0
pub new-enters : (rest : Run) (names after : Names) (part tail more : List Entry) (call : Entry) (d : ℕ) → Then (RunsNew types x_name item_id (7 ∷ [])) rest names part after → part ++ tail ≡ call ∷ entry.Enter d 1 ∷ more → d ≡ 0
unfolding class_of_size
new-enters rest names after part tail more call d h e =
    let n = h.first_runs in
    let whole : entry.New n.declared.name (7 ∷ []) ∷ ((n.own ++ h.two) ++ tail) ≡ call ∷ entry.Enter d 1 ∷ more = sym (ap (λ p. p ++ tail) (h.part_is ∙ ap (λ o. o ++ h.two) n.part_is)) ∙ e in
    let served : n.class ≡ d = enters n.class d n.own n.reply (h.two ++ tail) more n.allocates (sym (append_assoc n.own h.two tail) ∙ behind whole) in
    let declared : n.declared ≡ record item { line = 5 } = sym (same-type n.of_class.found) in
    sym served ∙ sym (same-class (ap (λ t. class_of_size (object_size t)) (sym declared) ∙ n.of_class.class))
  where
    same-type : {a b : TypeDeclaration} → Some a ≡ Some b → a ≡ b
    same-type q = cc

    same-class : {a b : ℕ} → Some a ≡ Some b → a ≡ b
    same-class q = cc

-- ---- the block of the `if`

pub if-taken : (line : ℕ) (after : Names) (tail more : List Entry) → Stays (RunsList (unmapped types) (drops_x_unless_null line ∷ [])) holding after tail more → Stays (Then (RunsDrop types x_name any_batch) Done) holding after tail more
if-taken line after tail more h =
    let r = h.runs in
    let inner : RunsList (unmapped types) (drops_x line ∷ []) holding r.one r.middle = subst (λ (run : Run). run holding r.one r.middle) (block-runs (unmapped types) (vector_of (drops_x line ∷ []) (lit≤ tt)) line) r.first_runs in
    record {
      part = r.one;
      more_is = h.more_is ∙ ap (λ p. p ++ tail) (r.part_is ∙ (ap (λ t. r.one ++ t) r.second_runs.0 ∙ append-nil r.one));
      runs = subst (λ m. Then (RunsDrop types x_name any_batch) Done holding r.one m) (sym r.second_runs.1) (lasts r.one r.middle inner);
    }
  where
    -- no type has a count, so the reference that is given up is the last one
    lasts : (part : List Entry) (last : Names) → Then (RunsGivingUp types x_name any_batch) Done holding part last → Then (RunsDrop types x_name any_batch) Done holding part last
    lasts part last t = record {
      middle = t.middle;
      one = t.one;
      two = t.two;
      part_is = t.part_is;
      first_runs = only-last types x_name any_batch holding t.middle t.one (refl, tt) t.first_runs;
      second_runs = t.second_runs;
    }

-- ---- a drop

-- a drop begins with its call and its reply
pub drop-begins : (rest : Run) (names after : Names) (tail more : List Entry) → Stays (Then (RunsDrop types x_name any_batch) rest) names after tail more → (unit life : ℕ) × (later : List Entry) × (more ≡ entry.Drop unit life ∷ entry.Last ∷ later)
drop-begins rest names after tail more h =
    let d = h.runs.first_runs in
    (d.unit, d.life, (d.own ++ h.runs.two) ++ tail, h.more_is ∙ ap (λ p. p ++ tail) (h.runs.part_is ∙ ap (λ o. o ++ h.runs.two) d.part_is))

-- the object that is dropped is the one that x holds
pub drop-holds : (rest : Run) (after : Names) (tail more : List Entry) (u n : ℕ) → Stays (Then (RunsDrop types x_name any_batch) rest) holding after tail (entry.Drop u n ∷ more) → (u ≡ 3) × (n ≡ 1)
drop-holds rest after tail more u n h =
    let d = h.runs.first_runs in
    same-object _ _ _ _ _ d.held (h.more_is ∙ ap (λ p. p ++ tail) (h.runs.part_is ∙ ap (λ o. o ++ h.runs.two) d.part_is))
  where
    same-object : (t : TypeId) (unit life : ℕ) (v w : List Entry) → Object item_id 3 1 ≡ Object t unit life → entry.Drop u n ∷ v ≡ entry.Drop unit life ∷ w → (u ≡ 3) × (n ≡ 1)
    same-object t unit life v w q e = (cc, cc)

put-later : (c u n : ℕ) (lost : List ℕ) (v rest more : List Entry) → (overtaken c lost ++ entry.Look c n ∷ v) ++ rest ≡ entry.Push 0 3 ∷ more → ⊥
put-later c u n [] v rest more e = cc
put-later c u n (k ∷ ks) v rest more e = cc

not-plain : (u home : ℕ) (v w : List Entry) → entry.Delay u home ∷ v ≡ entry.Free 3 0 ∷ w → ⊥
not-plain u home v w e = cc

-- a free that pushed its unit counts it
pub free-counts : (c u home : ℕ) (own rest more : List Entry) → FreePhrase c u home own → own ++ rest ≡ entry.Free 3 0 ∷ entry.Enter 0 1 ∷ entry.Push 0 3 ∷ more → (k a : ℕ) × (entry.Count 0 k ∷ entry.Leave 0 a ∷ raise_above 0 k ++ rest ≡ more)
free-counts c u home own rest more (inl y) e = (y.0, y.1, subst (λ d. entry.Count d y.0 ∷ entry.Leave d y.1 ∷ raise_above d y.0 ++ rest ≡ more) b.0 b.1)
  where
    first : (c u home : ℕ) (v w : List Entry) → entry.Free u home ∷ entry.Enter c 1 ∷ entry.Push c u ∷ v ≡ entry.Free 3 0 ∷ entry.Enter 0 1 ∷ entry.Push 0 3 ∷ w → (c ≡ 0) × (v ≡ w)
    first c u home v w e = (cc, cc)

    b : (c ≡ 0) × (entry.Count c y.0 ∷ entry.Leave c y.1 ∷ raise_above c y.0 ++ rest ≡ more)
    b = first c u home _ _ (ap (λ v. v ++ rest) (sym y.2) ∙ e)
free-counts c u home own rest more (inr y) e = absurd (put-later c u y.2 y.1 _ rest _ (later c u home y.0 _ _ (ap (λ v. v ++ rest) (sym y.5) ∙ e)))
  where
    later : (c u home b : ℕ) (v w : List Entry) → entry.Free u home ∷ entry.Enter c b ∷ v ≡ entry.Free 3 0 ∷ entry.Enter 0 1 ∷ w → v ≡ w
    later c u home b v w e = cc

-- so does a free whose first line says that it is a plain one
frees-count : (counted : Bool) (c u home : ℕ) (batch : Bool) (own rest more : List Entry) → Frees counted c u home batch own → own ++ rest ≡ entry.Free 3 0 ∷ entry.Enter 0 1 ∷ entry.Push 0 3 ∷ more → (k a : ℕ) × (entry.Count 0 k ∷ entry.Leave 0 a ∷ raise_above 0 k ++ rest ≡ more)
frees-count false c u home batch own rest more f e = free-counts c u home own rest more f e
frees-count true c u home batch own rest more (inl y) e = absurd (not-plain u home _ _ (ap (λ v. v ++ rest) (sym y.1) ∙ e))
frees-count true c u home batch own rest more (inr y) e = absurd (not-plain u home _ _ (ap (λ v. v ++ rest) (sym y.5) ∙ e))

-- the free in a drop
pub drop-frees : (rest : Run) (names after : Names) (tail more : List Entry) → Stays (Then (RunsDrop types x_name any_batch) rest) names after tail (entry.Drop 3 1 ∷ entry.Last ∷ entry.Free 3 0 ∷ entry.Enter 0 1 ∷ entry.Push 0 3 ∷ more) → (middle : Names) × (two : List Entry) × rest middle two after × ((k a : ℕ) × (entry.Count 0 k ∷ entry.Leave 0 a ∷ raise_above 0 k ++ (two ++ tail) ≡ more))
drop-frees rest names after tail more h =
    let r = h.runs in
    let d = r.first_runs in
    let whole : entry.Drop d.unit d.life ∷ entry.Last ∷ ((d.own ++ r.two) ++ tail) ≡ entry.Drop 3 1 ∷ entry.Last ∷ entry.Free 3 0 ∷ entry.Enter 0 1 ∷ entry.Push 0 3 ∷ more = sym (h.more_is ∙ ap (λ p. p ++ tail) (r.part_is ∙ ap (λ o. o ++ r.two) d.part_is)) in
    (r.middle, r.two, r.second_runs, frees-count d.declared.counted d.class d.unit d.home d.batch d.own (r.two ++ tail) more d.frees (sym (append_assoc d.own r.two tail) ∙ behind (behind whole)))

-- a drop that counts four units doesn't raise the flag
pub drop-taken : (rest : Run) (names after : Names) (tail more : List Entry) → Stays (Then (RunsDrop types x_name any_batch) rest) names after tail (gave 3 4 ++ more) → (middle : Names) × (two : List Entry) × rest middle two after × (two ++ tail ≡ more)
unfolding size_of_class high_of_size
drop-taken rest names after tail more h =
    let f = drop-frees rest names after tail (entry.Count 0 4 ∷ entry.Leave 0 0 ∷ more) h in
    let k = counted f.3.0 f.3.1 _ more f.3.2 in
    (f.0, f.1, f.2, subst (λ n. raise_above 0 n ++ (f.1 ++ tail) ≡ more) k.0 k.1)
  where
    counted : (k a : ℕ) (v w : List Entry) → entry.Count 0 k ∷ entry.Leave 0 a ∷ v ≡ entry.Count 0 4 ∷ entry.Leave 0 0 ∷ w → (k ≡ 4) × (v ≡ w)
    counted k a v w e = (cc, cc)

-- a drop that counts nothing
pub drop-counts : (rest : Run) (names after : Names) (tail more : List Entry) → Stays (Then (RunsDrop types x_name any_batch) rest) names after tail (entry.Drop 3 1 ∷ entry.Last ∷ entry.Free 3 0 ∷ entry.Enter 0 1 ∷ entry.Push 0 3 ∷ entry.Leave 0 0 ∷ more) → ⊥
drop-counts rest names after tail more h =
    let f = drop-frees rest names after tail (entry.Leave 0 0 ∷ more) h in
    apart f.3.0 f.3.1 _ more f.3.2
  where
    apart : (k a : ℕ) (v w : List Entry) → entry.Count 0 k ∷ entry.Leave 0 a ∷ v ≡ entry.Leave 0 0 ∷ w → ⊥
    apart k a v w e = cc
