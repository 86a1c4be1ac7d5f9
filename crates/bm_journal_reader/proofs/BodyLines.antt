-- One line more.
use Rattle.std.proofs.Common.{◌≡◌, ℕ, suc, ◌+◌, List, [], ◌∷◌, ◌++◌, Some, length, refl, sym, ◌∙◌, ap, arith, append_assoc, append-nil}
use Rattle.std.specs.Prelude.{slice_get}
use Rattle.bm_class.specs.declared.watermarks.Marks.{Marks}
use Rattle.bm_journal.specs.declared.entry.Entry.{Entry}
use Rattle.bm_journal.specs.declared.past.Past.{Past}
use Rattle.bm_journal.specs.declared.total.Total.{Total}
use Rattle.bm_journal.specs.declared.total.Total.TheVariants as total
use Rattle.bm_journal.specs.TotalNames.{all_totals, total_place}
use Rattle.bm_law_text.specs.declared.line.Line.{Line}
use Rattle.bm_law_text.specs.declared.line.Line.TheVariants as line_as
use Rattle.bm_law_text.specs.Lines.{class_items, entry_items, log_items, past_items, graph_items, total_items}
use Rattle.bm_journal_reader.specs.Drafts.{parts_lines}

class-push : (xs : List (ℕ × Marks)) (x : ℕ × Marks) → class_items (xs ++ x ∷ []) ≡ class_items xs ++ line_as.Class x.0 x.1 ∷ []
class-push [] x = refl
class-push (y ∷ xs) x = ap (λ ls. line_as.Class y.0 y.1 ∷ ls) (class-push xs x)

entry-push : (xs : List (ℕ × Entry)) (x : ℕ × Entry) → entry_items (xs ++ x ∷ []) ≡ entry_items xs ++ line_as.Entry x.0 x.1 ∷ []
entry-push [] x = refl
entry-push (y ∷ xs) x = ap (λ ls. line_as.Entry y.0 y.1 ∷ ls) (entry-push xs x)

past-push : (p : ℕ) (xs : List Past) (x : Past) → past_items p (xs ++ x ∷ []) ≡ past_items p xs ++ line_as.Past (p + length xs) x ∷ []
past-push p [] x = ap (λ n. line_as.Past n x ∷ []) (let e : p ≡ p + 0 = omega arith in e)
past-push p (y ∷ xs) x =
    let e : p + 1 + length xs ≡ p + suc (length xs) = omega arith in
    ap (λ ls. line_as.Past p y ∷ ls) (past-push (p + 1) xs x ∙ ap (λ n. past_items (p + 1) xs ++ line_as.Past n x ∷ []) e)

log-push : (p : ℕ) (ls : List (List (ℕ × Entry))) (log : List (ℕ × Entry)) → log_items p (ls ++ log ∷ []) ≡ log_items p ls ++ (line_as.Processor (p + length ls) ∷ entry_items log)
log-push p [] log =
    let e : p ≡ p + 0 = omega arith in
    ap (λ es. line_as.Processor p ∷ es) (append-nil (entry_items log)) ∙ ap (λ n. line_as.Processor n ∷ entry_items log) e
log-push p (l ∷ ls) log =
    let e : p + 1 + length ls ≡ p + suc (length ls) = omega arith in
    ap (λ es. line_as.Processor p ∷ (entry_items l ++ es)) (log-push (p + 1) ls log ∙ ap (λ n. log_items (p + 1) ls ++ (line_as.Processor n ∷ entry_items log)) e)
    ∙ ap (λ es. line_as.Processor p ∷ es) (sym (append_assoc (entry_items l) (log_items (p + 1) ls) (line_as.Processor (p + suc (length ls)) ∷ entry_items log)))

graph-push : (gs : List (List ℕ × List Past)) (g : List ℕ × List Past) → graph_items (gs ++ g ∷ []) ≡ graph_items gs ++ (line_as.Graph g.0 ∷ past_items 0 g.1)
graph-push [] g = ap (λ ls. line_as.Graph g.0 ∷ ls) (append-nil (past_items 0 g.1))
graph-push (h ∷ gs) g =
    ap (λ ls. line_as.Graph h.0 ∷ (past_items 0 h.1 ++ ls)) (graph-push gs g)
    ∙ ap (λ ls. line_as.Graph h.0 ∷ ls) (sym (append_assoc (past_items 0 h.1) (graph_items gs) (line_as.Graph g.0 ∷ past_items 0 g.1)))

total-push : (ts : List Total) (vs : List ℕ) (t : Total) (v : ℕ) → slice_get ts (length vs) ≡ Some t → total_items ts (vs ++ v ∷ []) ≡ total_items ts vs ++ line_as.Total t v ∷ []
total-push [] vs t v at = cc
total-push (u ∷ ts) [] t v at = let e : u ≡ t = cc in ap (λ u. line_as.Total u v ∷ total_items ts []) e ∙ ap (λ ls. line_as.Total t v ∷ ls) (none ts)
  where
    none : (ts : List Total) → total_items ts [] ≡ []
    none [] = refl
    none (t ∷ ts) = refl
total-push (u ∷ ts) (w ∷ vs) t v at = ap (λ ls. line_as.Total u w ∷ ls) (total-push ts vs t v at)

placed : (t : Total) → slice_get all_totals (total_place t) ≡ Some t
placed total.Steps = refl
placed total.Given = refl
placed total.Empty = refl
placed total.Busy = refl
placed total.Last = refl
placed total.Still = refl
placed total.Acquired = refl
placed total.Exchanged = refl
placed total.Pushed = refl
placed total.Already = refl
placed total.Taken = refl
placed total.None = refl
placed total.Raised = refl
placed total.Worked = refl
placed total.Fetched = refl
placed total.Returned = refl
placed total.Plain = refl
placed total.Tracing = refl
placed total.Handlers = refl

-- ---- what is read so far, with one line more

pub push-class : (cs : List (ℕ × Marks)) (x : ℕ × Marks) → parts_lines (cs ++ x ∷ []) [] [] [] ≡ parts_lines cs [] [] [] ++ line_as.Class x.0 x.1 ∷ []
push-class cs x = append-nil (class_items (cs ++ x ∷ [])) ∙ class-push cs x ∙ ap (λ ls. ls ++ line_as.Class x.0 x.1 ∷ []) (sym (append-nil (class_items cs)))

two-nil : (a b : List Line) → a ++ (b ++ []) ≡ a ++ b
two-nil a b = ap (λ ls. a ++ ls) (append-nil b)

pub push-log : (cs : List (ℕ × Marks)) (ls : List (List (ℕ × Entry))) → parts_lines cs (ls ++ [] ∷ []) [] [] ≡ parts_lines cs ls [] [] ++ line_as.Processor (length ls) ∷ []
push-log cs ls =
    let e : 0 + length ls ≡ length ls = omega arith in
    two-nil (class_items cs) (log_items 0 (ls ++ [] ∷ [])) ∙ ap (λ xs. class_items cs ++ xs) (log-push 0 ls [] ∙ ap (λ n. log_items 0 ls ++ line_as.Processor n ∷ []) e)
    ∙ sym (append_assoc (class_items cs) (log_items 0 ls) (line_as.Processor (length ls) ∷ [])) ∙ ap (λ xs. xs ++ line_as.Processor (length ls) ∷ []) (sym (two-nil (class_items cs) (log_items 0 ls)))

pub push-entry : (cs : List (ℕ × Marks)) (ls : List (List (ℕ × Entry))) (log : List (ℕ × Entry)) (x : ℕ × Entry) → parts_lines cs (ls ++ (log ++ x ∷ []) ∷ []) [] [] ≡ parts_lines cs (ls ++ log ∷ []) [] [] ++ line_as.Entry x.0 x.1 ∷ []
push-entry cs ls log x =
    let p = line_as.Processor (0 + length ls) in
    let e : log_items 0 (ls ++ (log ++ x ∷ []) ∷ []) ≡ log_items 0 (ls ++ log ∷ []) ++ line_as.Entry x.0 x.1 ∷ [] =
    log-push 0 ls (log ++ x ∷ []) ∙ ap (λ es. log_items 0 ls ++ (p ∷ es)) (entry-push log x) ∙ sym (append_assoc (log_items 0 ls) (p ∷ entry_items log) (line_as.Entry x.0 x.1 ∷ []))
    ∙ ap (λ es. es ++ line_as.Entry x.0 x.1 ∷ []) (sym (log-push 0 ls log)) in
    two-nil (class_items cs) (log_items 0 (ls ++ (log ++ x ∷ []) ∷ [])) ∙ ap (λ xs. class_items cs ++ xs) e
    ∙ sym (append_assoc (class_items cs) (log_items 0 (ls ++ log ∷ [])) (line_as.Entry x.0 x.1 ∷ [])) ∙ ap (λ xs. xs ++ line_as.Entry x.0 x.1 ∷ []) (sym (two-nil (class_items cs) (log_items 0 (ls ++ log ∷ []))))

three : (a b c : List Line) (x : Line) → a ++ (b ++ ((c ++ x ∷ []) ++ [])) ≡ (a ++ (b ++ (c ++ []))) ++ x ∷ []
three a b c x = rw (append-nil (c ++ x ∷ []), append-nil c) (simp append_assoc)

pub push-graph : (cs : List (ℕ × Marks)) (ls : List (List (ℕ × Entry))) (gs : List (List ℕ × List Past)) (n : List ℕ) → parts_lines cs ls (gs ++ (n, []) ∷ []) [] ≡ parts_lines cs ls gs [] ++ line_as.Graph n ∷ []
push-graph cs ls gs n = ap (λ xs. class_items cs ++ (log_items 0 ls ++ (xs ++ []))) (graph-push gs (n, [])) ∙ three (class_items cs) (log_items 0 ls) (graph_items gs) (line_as.Graph n)

pub push-past : (cs : List (ℕ × Marks)) (ls : List (List (ℕ × Entry))) (gs : List (List ℕ × List Past)) (n : List ℕ) (xs : List Past) (x : Past) → parts_lines cs ls (gs ++ (n, xs ++ x ∷ []) ∷ []) [] ≡ parts_lines cs ls (gs ++ (n, xs) ∷ []) [] ++ line_as.Past (length xs) x ∷ []
push-past cs ls gs n xs x =
    let z : 0 + length xs ≡ length xs = omega arith in
    let l = line_as.Past (length xs) x in
    let e : graph_items (gs ++ (n, xs ++ x ∷ []) ∷ []) ≡ graph_items (gs ++ (n, xs) ∷ []) ++ l ∷ [] =
    graph-push gs (n, xs ++ x ∷ []) ∙ ap (λ es. graph_items gs ++ (line_as.Graph n ∷ es)) (past-push 0 xs x ∙ ap (λ k. past_items 0 xs ++ line_as.Past k x ∷ []) z) ∙ sym (append_assoc (graph_items gs) (line_as.Graph n ∷ past_items 0 xs) (l ∷ []))
    ∙ ap (λ es. es ++ l ∷ []) (sym (graph-push gs (n, xs))) in
    ap (λ es. class_items cs ++ (log_items 0 ls ++ (es ++ []))) e ∙ three (class_items cs) (log_items 0 ls) (graph_items (gs ++ (n, xs) ∷ [])) l

pub push-total : (cs : List (ℕ × Marks)) (ls : List (List (ℕ × Entry))) (gs : List (List ℕ × List Past)) (vs : List ℕ) (t : Total) (v : ℕ) → total_place t ≡ length vs → parts_lines cs ls gs (vs ++ v ∷ []) ≡ parts_lines cs ls gs vs ++ line_as.Total t v ∷ []
push-total cs ls gs vs t v at =
    let here : slice_get all_totals (length vs) ≡ Some t = ap (slice_get all_totals) (sym at) ∙ placed t in
    let l = line_as.Total t v in
    let assoc : (a b c d : List Line) → a ++ (b ++ (c ++ (d ++ l ∷ []))) ≡ (a ++ (b ++ (c ++ d))) ++ l ∷ [] = λ a b c d. simp append_assoc in
    ap (λ es. class_items cs ++ (log_items 0 ls ++ (graph_items gs ++ es))) (total-push all_totals vs t v here) ∙ assoc (class_items cs) (log_items 0 ls) (graph_items gs) (total_items all_totals vs)
