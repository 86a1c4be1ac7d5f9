-- What a journal is made of, gathered from its lines, the last first.
use Rattle.std.proofs.Common.{◌≡◌, ℕ, ◌+◌, List, [], ◌∷◌, ◌++◌, length, refl, ◌∙◌, ap, arith, append_assoc, append-nil}
use Rattle.bm_class.specs.declared.watermarks.Marks.{Marks}
use Rattle.bm_journal.specs.declared.entry.Entry.{Entry}
use Rattle.bm_journal.specs.declared.past.Past.{Past}
use Rattle.bm_journal.specs.declared.total.Total.{Total}
use Rattle.bm_journal.specs.declared.journal.Journal.{Journal}
use Rattle.bm_journal.specs.TotalNames.{all_totals}
use Rattle.bm_law_text.specs.declared.line.Line.{Line}
use Rattle.bm_law_text.specs.declared.line.Line.TheVariants as line_as
use Rattle.bm_law_text.specs.Lines.{class_items, entry_items, log_items, past_items, graph_items, total_items, body_items}

-- the log and the history that the lines begin with belong to a processor and to a graph before them
pub record Gathered : Type 0 where
  pub classes : List (ℕ × Marks)
  pub log : List (ℕ × Entry)
  pub logs : List (List (ℕ × Entry))
  pub pasts : List Past
  pub graphs : List (List ℕ × List Past)
  pub totals : List ℕ

abbrev pub gathered : List Line → Gathered
gathered [] = record { classes = []; log = []; logs = []; pasts = []; graphs = []; totals = [] }
gathered (line_as.Class c m ∷ ls) = let g = gathered ls in record g { classes = (c, m) ∷ g.classes }
gathered (line_as.Entry l e ∷ ls) = let g = gathered ls in record g { log = (l, e) ∷ g.log }
gathered (line_as.Processor p ∷ ls) = let g = gathered ls in record g { log = []; logs = g.log ∷ g.logs }
gathered (line_as.Past p past ∷ ls) = let g = gathered ls in record g { pasts = past ∷ g.pasts }
gathered (line_as.Graph n ∷ ls) = let g = gathered ls in record g { pasts = []; graphs = (n, g.pasts) ∷ g.graphs }
gathered (line_as.Total t v ∷ ls) = let g = gathered ls in record g { totals = v ∷ g.totals }
gathered (l ∷ ls) = gathered ls

totals-in : (ts : List Total) (vs : List ℕ) → length vs ≡ length ts → gathered (total_items ts vs) ≡ record { classes = []; log = []; logs = []; pasts = []; graphs = []; totals = vs }
totals-in [] [] e = refl
totals-in [] (v ∷ vs) e = absurd (omega (arith, e))
totals-in (t ∷ ts) [] e = absurd (omega (arith, e))
totals-in (t ∷ ts) (v ∷ vs) e = let fewer : length vs ≡ length ts = omega (arith, e) in rw (totals-in ts vs fewer) refl

pasts-in : (p : ℕ) (xs : List Past) (ls : List Line) → gathered (past_items p xs ++ ls) ≡ (let g = gathered ls in record g { pasts = xs ++ g.pasts })
pasts-in p [] ls = refl
pasts-in p (x ∷ xs) ls = rw (pasts-in (p + 1) xs ls) refl

graphs-in : (gs : List (List ℕ × List Past)) (ls : List Line) → (gathered ls).pasts ≡ [] → gathered (graph_items gs ++ ls) ≡ (let g = gathered ls in record g { graphs = gs ++ g.graphs })
graphs-in [] ls none = refl
graphs-in (g ∷ gs) ls none =
    rw (append_assoc (past_items 0 g.1) (graph_items gs) ls) (rw (pasts-in 0 g.1 (graph_items gs ++ ls)) (rw (graphs-in gs ls none) (rw none (rw (append-nil g.1) refl))))

entries-in : (xs : List (ℕ × Entry)) (ls : List Line) → gathered (entry_items xs ++ ls) ≡ (let g = gathered ls in record g { log = xs ++ g.log })
entries-in [] ls = refl
entries-in (x ∷ xs) ls = rw (entries-in xs ls) refl

logs-in : (p : ℕ) (logs : List (List (ℕ × Entry))) (ls : List Line) → (gathered ls).log ≡ [] → gathered (log_items p logs ++ ls) ≡ (let g = gathered ls in record g { logs = logs ++ g.logs })
logs-in p [] ls none = refl
logs-in p (log ∷ logs) ls none =
    rw (append_assoc (entry_items log) (log_items (p + 1) logs) ls) (rw (entries-in log (log_items (p + 1) logs ++ ls)) (rw (logs-in (p + 1) logs ls none) (rw none (rw (append-nil log) refl))))

classes-in : (xs : List (ℕ × Marks)) (ls : List Line) → gathered (class_items xs ++ ls) ≡ (let g = gathered ls in record g { classes = xs ++ g.classes })
classes-in [] ls = refl
classes-in (x ∷ xs) ls = rw (classes-in xs ls) refl

-- the lines behind the heading's first four tell the rest of the journal
pub body-in : (j : Journal) → length j.totals ≡ 19 → gathered (body_items j) ≡ record { classes = j.classes; log = []; logs = j.logs; pasts = []; graphs = j.graphs; totals = j.totals }
body-in j nineteen =
    let ts = total_items all_totals j.totals in
    let e1 = totals-in all_totals j.totals nineteen in
    let none1 : (gathered ts).pasts ≡ [] = ap (λ g. g.pasts) e1 in
    let e2 = graphs-in j.graphs ts none1 in
    let gs = graph_items j.graphs ++ ts in
    let none2 : (gathered gs).log ≡ [] = ap (λ g. g.log) e2 ∙ ap (λ g. g.log) e1 in
    let e3 = logs-in 0 j.logs gs none2 in
    let ls = log_items 0 j.logs ++ gs in
    rw (classes-in j.classes ls) (rw e3 (rw e2 (rw e1 (rw (append-nil j.classes) (rw (append-nil j.logs) (rw (append-nil j.graphs) refl))))))
