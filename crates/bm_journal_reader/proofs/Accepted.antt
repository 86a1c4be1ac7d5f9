-- The lines of a journal may come one after the other.
use Rattle.std.proofs.Common.{◌≡◌, ℕ, suc, ◌+◌, true, ◌==◌, List, [], ◌∷◌, ◌++◌, Option, Some, length, refl, ap, ◌∙◌, arith, append_assoc}
use Rattle.std.proofs.lemmas.Bool.Decides.{Decides-eqb}
use Rattle.bm_class.specs.declared.watermarks.Marks.{Marks}
use Rattle.bm_journal.specs.declared.entry.Entry.{Entry}
use Rattle.bm_journal.specs.declared.past.Past.{Past}
use Rattle.bm_journal.specs.declared.total.Total.{Total}
use Rattle.bm_journal.specs.declared.total.Total.TheVariants as total
use Rattle.bm_journal.specs.declared.journal.Journal.{Journal}
use Rattle.bm_journal.specs.TotalNames.{all_totals, total_place}
use Rattle.bm_law_text.specs.declared.line.Line.{Line}
use Rattle.bm_law_text.specs.declared.line.Line.TheVariants as line_as
use Rattle.bm_law_text.specs.Parts.{after, only_if}
use Rattle.bm_law_text.specs.Lines.{class_items, entry_items, log_items, past_items, graph_items, total_items, journal_items}
use Rattle.bm_journal_reader.specs.Drafts.{Stage, Begun, Opened, Logging, Telling, Counting, next}

-- the stage behind lines that may come one after the other
abbrev pub run : Stage → List Line → Option Stage
run s [] = Some s
run s (l ∷ ls) = after (next s l) (λ t. run t ls)

eq : (n : ℕ) → (n == n) ≡ true
eq n = (Decides-eqb n n).1 refl

classes-run : (m : List (List ℕ)) (xs : List (ℕ × Marks)) (ls : List Line) → run (Opened m) (class_items xs ++ ls) ≡ run (Opened m) ls
classes-run m [] ls = refl
classes-run m (x ∷ xs) ls = classes-run m xs ls

entries-run : (m : List (List ℕ)) (n : ℕ) (xs : List (ℕ × Entry)) (ls : List Line) → run (Logging m n) (entry_items xs ++ ls) ≡ run (Logging m n) ls
entries-run m n [] ls = refl
entries-run m n (x ∷ xs) ls = entries-run m n xs ls

pasts-run : (m : List (List ℕ)) (n : ℕ) (xs : List Past) (ls : List Line) → run (Telling m n) (past_items n xs ++ ls) ≡ run (Telling m (n + length xs)) ls
pasts-run m n [] ls = let e : n ≡ n + 0 = omega arith in ap (λ k. run (Telling m k) ls) e
pasts-run m n (x ∷ xs) ls =
    let e : n + 1 + length xs ≡ n + suc (length xs) = omega arith in
    rw (eq n) (pasts-run m (n + 1) xs ls ∙ ap (λ k. run (Telling m k) ls) e)

-- a history or a total may begin
record Ready (m : List (List ℕ)) (s : Stage) : Type 0 where
  graph : (n : List ℕ) → next s (line_as.Graph n) ≡ Some (Telling m 0)
  total : (t : Total) (v : ℕ) → next s (line_as.Total t v) ≡ only_if (total_place t == 0) (Some (Counting m 1))

-- from a stage on lines lead to one where a history or a total may begin
record Leads (m : List (List ℕ)) (s : Stage) (xs : List Line) : Type 0 where
  stage : Stage
  ready : Ready m stage
  same : (ls : List Line) → run s (xs ++ ls) ≡ run stage ls

logs-run : (m : List (List ℕ)) (p : ℕ) (logs : List (List (ℕ × Entry))) (s : Stage) → Ready m s → next s (line_as.Processor p) ≡ Some (Logging m (p + 1)) → Leads m s (log_items p logs)
logs-run m p [] s ready begin = record { stage = s; ready = ready; same = λ ls. refl }
logs-run m p (log ∷ logs) s ready begin =
    let there : Ready m (Logging m (p + 1)) = record { graph = λ n. refl; total = λ t v. refl } in
    let begins : next (Logging m (p + 1)) (line_as.Processor (p + 1)) ≡ Some (Logging m (p + 1 + 1)) = rw (eq (p + 1)) refl in
    let rest = logs-run m (p + 1) logs (Logging m (p + 1)) there begins in
    record {
      stage = rest.stage;
      ready = rest.ready;
      same = λ ls. ap (λ o. after o (λ t. run t ((entry_items log ++ log_items (p + 1) logs) ++ ls))) begin
          ∙ ap (run (Logging m (p + 1))) (append_assoc (entry_items log) (log_items (p + 1) logs) ls) ∙ entries-run m (p + 1) log (log_items (p + 1) logs ++ ls) ∙ rest.same ls;
    }

graphs-run : (m : List (List ℕ)) (gs : List (List ℕ × List Past)) (s : Stage) → Ready m s → Leads m s (graph_items gs)
graphs-run m [] s ready = record { stage = s; ready = ready; same = λ ls. refl }
graphs-run m (g ∷ gs) s ready =
    let there : Ready m (Telling m (0 + length g.1)) = record { graph = λ n. refl; total = λ t v. refl } in
    let rest = graphs-run m gs (Telling m (0 + length g.1)) there in
    record {
      stage = rest.stage;
      ready = rest.ready;
      same = λ ls. ap (λ o. after o (λ t. run t ((past_items 0 g.1 ++ graph_items gs) ++ ls))) (ready.graph g.0)
          ∙ ap (run (Telling m 0)) (append_assoc (past_items 0 g.1) (graph_items gs) ls) ∙ pasts-run m 0 g.1 (graph_items gs ++ ls) ∙ rest.same ls;
    }

-- totals with these places, one after the other
abbrev Placed : ℕ → List Total → Type 0
Placed n [] = Unit {0}
Placed n (t ∷ ts) = (total_place t ≡ n) × Placed (n + 1) ts

totals-run : (m : List (List ℕ)) (n : ℕ) (ts : List Total) (vs : List ℕ) → Placed n ts → length vs ≡ length ts → run (Counting m n) (total_items ts vs) ≡ Some (Counting m (n + length ts))
totals-run m n [] vs placed long = let e : n ≡ n + 0 = omega arith in ap (λ k. Some (Counting m k)) e
totals-run m n (t ∷ ts) [] placed long = absurd (omega (arith, long))
totals-run m n (t ∷ ts) (v ∷ vs) placed long =
    let fewer : length vs ≡ length ts = omega (arith, long) in
    let e : n + 1 + length ts ≡ n + suc (length ts) = omega arith in
    rw ((Decides-eqb (total_place t) n).1 placed.0) (totals-run m (n + 1) ts vs placed.1 fewer ∙ ap (λ k. Some (Counting m k)) e)

abbrev later : List Total
later = total.Given ∷ total.Empty ∷ total.Busy ∷ total.Last ∷ total.Still ∷ total.Acquired ∷ total.Exchanged ∷ total.Pushed ∷ total.Already ∷ total.Taken ∷ total.None ∷ total.Raised ∷ total.Worked ∷ total.Fetched ∷ total.Returned ∷ total.Plain ∷ total.Tracing ∷ total.Handlers ∷ []

placed : Placed 1 later
placed = (refl, (refl, (refl, (refl, (refl, (refl, (refl, (refl, (refl, (refl, (refl, (refl, (refl, (refl, (refl, (refl, (refl, (refl, tt))))))))))))))))))

all-run : (m : List (List ℕ)) (s : Stage) (vs : List ℕ) → Ready m s → length vs ≡ 19 → run s (total_items all_totals vs) ≡ Some (Counting m 19)
all-run m s [] ready long = absurd (omega (arith, long))
all-run m s (v ∷ vs) ready long =
    let fewer : length vs ≡ 18 = omega (arith, long) in
    rw (ready.total total.Steps v) (totals-run m 1 later vs placed fewer)

pub accepted : (j : Journal) → length j.totals ≡ 19 → run Begun (journal_items j) ≡ Some (Counting j.maps 19)
accepted j nineteen =
    let m = j.maps in
    let begun : Ready m (Opened m) = record { graph = λ n. refl; total = λ t v. refl } in
    let logs = logs-run m 0 j.logs (Opened m) begun refl in
    let graphs = graphs-run m j.graphs logs.stage logs.ready in
    classes-run m j.classes (log_items 0 j.logs ++ (graph_items j.graphs ++ total_items all_totals j.totals))
    ∙ logs.same (graph_items j.graphs ++ total_items all_totals j.totals) ∙ graphs.same (total_items all_totals j.totals) ∙ all-run m graphs.stage j.totals graphs.ready nineteen
