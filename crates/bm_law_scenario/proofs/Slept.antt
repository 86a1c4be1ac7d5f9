-- What the worked script with sections leaves, as a sleepable one and as a plain one, and nothing else.
use Rattle.std.proofs.Common.{◌≡◌, ℕ, Bool, true, false, ◌+◌, List, [], ◌∷◌, ◌++◌, refl, sym, ap, subst, ◌∙◌, lit≤}
use Rattle.std.specs.Global.{Vec}
use Rattle.bm_journal.specs.declared.ids.Domain.TheVariants.{Plain}
use Rattle.bm_journal.specs.declared.entry.Entry.{Entry}
use Rattle.bm_journal.specs.declared.entry.Entry.TheVariants as entry
use Rattle.bm_lang.specs.declared.scenario.Block.{roll-Block}
use Rattle.bm_lang.specs.declared.scenario.Statement.{Statement}
use Rattle.bm_law_scenario.specs.Declared.{unmapped}
use Rattle.bm_law_scenario.specs.Held.{Names}
use Rattle.bm_law_scenario.specs.WorkedJournal.{vector_of}
use Rattle.bm_law_scenario.specs.WorkedSections.{naps, section_with, yields}
use Rattle.bm_law_scenario.proofs.OwnRuns.{Run, Done, Then, Leaving, RunsBlock}
use Rattle.bm_law_scenario.proofs.Blocks.{RunsListIn, block-runs-in}

-- a run that leaves these entries and no others, and the names as they were
pub record Is (run : Run) (own : List Entry) : Type 0 where
  pub only : (names after : Names) (part : List Entry) → run names part after → (part ≡ own) × (after ≡ names)
  pub told : (names : Names) → run names own names

is-leaving : (own : List Entry) → Is (Leaving own) own
is-leaving own = record { only = λ names after part h. h; told = λ names. (refl, refl) }

is-done : Is Done []
is-done = record { only = λ names after part h. h; told = λ names. (refl, refl) }

is-then : (first second : Run) (v w : List Entry) → Is first v → Is second w → Is (Then first second) (v ++ w)
is-then first second v w f g = record {
  only = λ names after part h.
      let a = f.only names h.middle h.one h.first_runs in
      let b = g.only h.middle after h.two h.second_runs in
      (h.part_is ∙ ap (λ z. z ++ h.two) a.0 ∙ ap (λ z. v ++ z) b.0, b.1 ∙ a.1);
  told = λ names. record { middle = names; one = v; two = w; part_is = refl; first_runs = f.told names; second_runs = g.told names };
}

is-block : (i : Bool) (v : Vec Statement) (end : ℕ) (own : List Entry) → Is (RunsListIn (unmapped []) i v.items) own → Is (RunsBlock (unmapped []) i (roll-Block (record { statements = v; end_line = end }))) own
is-block i v end own h = subst (λ (run : Run). Is run own) (sym (block-runs-in (unmapped []) i v end)) h

-- ---- the block of one `yield`, and the section of it in a plain section

yielded : Is (RunsBlock (unmapped []) true (roll-Block (record { statements = vector_of (yields ∷ []) (lit≤ tt); end_line = 7 }))) (entry.Yield ∷ [])
yielded = is-block true (vector_of (yields ∷ []) (lit≤ tt)) 7 _ (is-then _ _ _ _ (is-leaving (entry.Yield ∷ [])) is-done)

inner : Is (RunsBlock (unmapped []) true (roll-Block (record { statements = vector_of (section_with yields ∷ []) (lit≤ tt); end_line = 7 }))) (entry.Yield ∷ [])
inner = is-block true (vector_of (section_with yields ∷ []) (lit≤ tt)) 7 _ (is-then _ _ _ _ yielded is-done)

last : Is (Then (Leaving (entry.Yield ∷ [])) Done) (entry.Yield ∷ [])
last = is-then _ _ _ _ (is-leaving (entry.Yield ∷ [])) is-done

-- ---- as a plain script: two yields

pub awake-is : Is (RunsBlock (unmapped []) true naps) (entry.Yield ∷ entry.Yield ∷ [])
awake-is = is-block true (vector_of (section_with (section_with yields) ∷ yields ∷ []) (lit≤ tt)) 8 _ (is-then _ _ _ _ inner last)

pub awake-only : (names after : Names) (part : List Entry) → RunsBlock (unmapped []) true naps names part after → (part ≡ entry.Yield ∷ entry.Yield ∷ []) × (after ≡ names)
awake-only = awake-is.only

pub awake-told : (names : Names) → RunsBlock (unmapped []) true naps names (entry.Yield ∷ entry.Yield ∷ []) names
awake-told = awake-is.told

-- ---- as a sleepable one: the first of them in a plain section

-- the outer section, whose word is w
outer : (w : ℕ) → Is (Then (Leaving (entry.In Plain w ∷ [])) (Then (RunsBlock (unmapped []) true (roll-Block (record { statements = vector_of (section_with yields ∷ []) (lit≤ tt); end_line = 7 }))) (Leaving (entry.Out Plain (w + 1) ∷ [])))) (entry.In Plain w ∷ entry.Yield ∷ entry.Out Plain (w + 1) ∷ [])
outer w = is-then _ _ _ _ (is-leaving _) (is-then _ _ _ _ inner (is-leaving _))

abbrev pub slept : ℕ → List Entry
slept w = entry.In Plain w ∷ entry.Yield ∷ entry.Out Plain (w + 1) ∷ entry.Yield ∷ []

pub asleep-only : (names after : Names) (part : List Entry) → RunsBlock (unmapped []) false naps names part after → (w : ℕ) × (part ≡ slept w) × (after ≡ names)
asleep-only names after part h =
    let v : Vec Statement = vector_of (section_with (section_with yields) ∷ yields ∷ []) (lit≤ tt) in
    let r : RunsListIn (unmapped []) false v.items names part after = subst (λ (run : Run). run names part after) (block-runs-in (unmapped []) false v 8) h in
    let a = (outer r.first_runs.0).only names r.middle r.one r.first_runs.1 in
    let b = last.only r.middle after r.two r.second_runs in
    (r.first_runs.0, r.part_is ∙ ap (λ z. z ++ r.two) a.0 ∙ ap (λ z. (entry.In Plain r.first_runs.0 ∷ entry.Yield ∷ entry.Out Plain (r.first_runs.0 + 1) ∷ []) ++ z) b.0, b.1 ∙ a.1)

pub asleep-told : (w : ℕ) (names : Names) → RunsBlock (unmapped []) false naps names (slept w) names
asleep-told w names =
    let v : Vec Statement = vector_of (section_with (section_with yields) ∷ yields ∷ []) (lit≤ tt) in
    let r : RunsListIn (unmapped []) false v.items names (slept w) names = record { middle = names; one = entry.In Plain w ∷ entry.Yield ∷ entry.Out Plain (w + 1) ∷ []; two = entry.Yield ∷ []; part_is = refl; first_runs = (w, (outer w).told names); second_runs = last.told names } in
    subst (λ (run : Run). run names (slept w) names) (sym (block-runs-in (unmapped []) false v 8)) r
