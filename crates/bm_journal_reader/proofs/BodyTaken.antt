-- What a line makes of what is read so far.
use Rattle.std.proofs.Common.{◌≡◌, ℕ, ◌+◌, true, List, [], ◌∷◌, ◌++◌, Some, length, refl, sym, ◌∙◌, ap, arith, append-nil, length-append, ◌==◌}
use Rattle.std.proofs.lemmas.Bool.Decides.{Decides-eqb}
use Rattle.bm_class.specs.declared.watermarks.Marks.{Marks}
use Rattle.bm_journal.specs.declared.entry.Entry.{Entry}
use Rattle.bm_journal.specs.declared.past.Past.{Past}
use Rattle.bm_journal.specs.declared.total.Total.{Total}
use Rattle.bm_journal.specs.TotalNames.{total_place}
use Rattle.bm_law_text.specs.declared.line.Line.{Line}
use Rattle.bm_law_text.specs.declared.line.Line.TheVariants as line_as
use Rattle.bm_journal_reader.specs.declared.body.Part.{Part}
use Rattle.bm_journal_reader.specs.declared.body.Part.TheVariants as part
use Rattle.bm_journal_reader.specs.declared.body.Body.{Body}
use Rattle.bm_law_text.specs.Parts.{only_if}
use Rattle.bm_journal_reader.specs.Drafts.{Logging, Telling, Counting, next, open_log, open_graph, parts_lines, staged, UpTo, begun_logs, Taken}
use Rattle.bm_journal_reader.proofs.BodyLines.{push-class, push-log, push-entry, push-graph, push-past, push-total}

Ls : Type 0
Ls = List (List (ℕ × Entry))

Gs : Type 0
Gs = List (List ℕ × List Past)

-- the parts of what is read so far, and of what it becomes
pub record Step (maps : List (List ℕ)) (line : Line) (p : Part) (cs : List (ℕ × Marks)) (ls : List (List (ℕ × Entry))) (gs : List (List ℕ × List Past)) (ts : List ℕ) (q : Part) (ds : List (ℕ × Marks)) (ms : List (List (ℕ × Entry))) (hs : List (List ℕ × List Past)) (us : List ℕ) : Type 0 where
  pub stage : next (staged maps p (length ls) (length ts)) line ≡ Some (staged maps q (length ms) (length us))
  pub lines : parts_lines ds (ms ++ open_log q) (hs ++ open_graph q) us ≡ parts_lines cs (ls ++ open_log p) (gs ++ open_graph p) ts ++ line ∷ []
  pub order : UpTo q ms hs us

pub taken : (maps : List (List ℕ)) (line : Line) (old new : Body) → Step maps line old.part old.classes.items old.logs.items old.graphs.items old.totals.items new.part new.classes.items new.logs.items new.graphs.items new.totals.items → Taken maps old line new
taken maps line old new s = record { stage = s.stage; lines = s.lines; order = s.order }

same_nil : {A : Type 0} (xs : List A) → xs ≡ [] → xs ++ [] ≡ []
same_nil xs e = ap (λ ys. ys ++ []) e

alone : {A : Type 0} {x y : A} → x ∷ [] ≡ y ∷ [] → x ≡ y
alone h = cc

pub class-step : (maps : List (List ℕ)) (c : ℕ) (m : Marks) (p : Part) (cs : List (ℕ × Marks)) (ls : List (List (ℕ × Entry))) (gs : List (List ℕ × List Past)) (ts : List ℕ) (ds : List (ℕ × Marks)) → p ≡ part.Classes → UpTo p ls gs ts → ds ≡ cs ++ (c, m) ∷ [] → Step maps (line_as.Class c m) p cs ls gs ts p ds ls gs ts
class-step maps c m part.Classes cs ls gs ts ds is order e =
    let P : List (ℕ × Marks) → List (List (ℕ × Entry)) → List (List ℕ × List Past) → List ℕ → List Line = parts_lines in
    record {
      stage = refl;
      lines = (λ i. P (e i) (same_nil ls order.0 i) (same_nil gs order.1 i) (order.2 i)) ∙ push-class cs (c, m) ∙ (λ i. P cs (sym (same_nil ls order.0) i) (sym (same_nil gs order.1) i) (sym order.2 i) ++ line_as.Class c m ∷ []);
      order = order;
    }
class-step maps c m p cs ls gs ts ds is order e = absurd (cc)

pub entry-step : (maps : List (List ℕ)) (l : ℕ) (x : Entry) (p : Part) (cs : List (ℕ × Marks)) (ls : List (List (ℕ × Entry))) (gs : List (List ℕ × List Past)) (ts : List ℕ) (log : List (ℕ × Entry)) (q : Part) → open_log p ≡ log ∷ [] → UpTo p ls gs ts → open_log q ≡ (log ++ (l, x) ∷ []) ∷ [] → Step maps (line_as.Entry l x) p cs ls gs ts q cs ls gs ts
entry-step maps l x (part.Log v) cs ls gs ts log (part.Log w) is order e =
    let P : List (ℕ × Marks) → List (List (ℕ × Entry)) → List (List ℕ × List Past) → List ℕ → List Line = parts_lines in
    record {
      stage = refl;
      lines = (λ i. P cs (ls ++ e i) (same_nil gs order.0 i) (order.1 i)) ∙ push-entry cs ls log (l, x) ∙ (λ i. P cs (ls ++ sym is i) (sym (same_nil gs order.0) i) (sym order.1 i) ++ line_as.Entry l x ∷ []);
      order = order;
    }
entry-step maps l x p cs ls gs ts log q is order e = absurd (cc)

pub past-step : (maps : List (List ℕ)) (pos : ℕ) (x : Past) (p : Part) (cs : List (ℕ × Marks)) (ls : List (List (ℕ × Entry))) (gs : List (List ℕ × List Past)) (ts : List ℕ) (n : List ℕ) (xs : List Past) (q : Part) → open_graph p ≡ (n, xs) ∷ [] → pos ≡ length xs → UpTo p ls gs ts → open_graph q ≡ (n, xs ++ x ∷ []) ∷ [] → Step maps (line_as.Past pos x) p cs ls gs ts q cs ls gs ts
past-step maps pos x (part.Graph a v) cs ls gs ts n xs (part.Graph b w) is at order e =
    let P : List (ℕ × Marks) → List (List (ℕ × Entry)) → List (List ℕ × List Past) → List ℕ → List Line = parts_lines in
    let old : v.items ≡ xs = ap (λ g. g.1) (alone is) in
    let new : w.items ≡ xs ++ x ∷ [] = ap (λ g. g.1) (alone e) in
    let here : pos ≡ length v.items = at ∙ ap length (sym old) in
    let more : length v.items + 1 ≡ length w.items = omega (arith, ap length old, ap length new, length-append xs (x ∷ [])) in
    let yes : (pos == length v.items) ≡ true = (Decides-eqb pos (length v.items)).1 here in
    record {
      stage = rw yes (ap (λ k. Some (Telling maps k)) more);
      lines = (λ i. P cs (ls ++ []) (gs ++ e i) (order i)) ∙ push-past cs (ls ++ []) gs n xs x ∙ (λ i. P cs (ls ++ []) (gs ++ sym is i) (sym order i) ++ line_as.Past (length xs) x ∷ []) ∙ ap (λ k. P cs (ls ++ []) (gs ++ (a, v.items) ∷ []) ts ++ line_as.Past k x ∷ []) (sym at);
      order = order;
    }
past-step maps pos x p cs ls gs ts n xs q is at order e = absurd (cc)

-- a log begins, and what was open is closed
pub log-step : (maps : List (List ℕ)) (n begun : ℕ) (p : Part) (cs : List (ℕ × Marks)) (ls : List (List (ℕ × Entry))) (gs : List (List ℕ × List Past)) (ts : List ℕ) (q : Part) (ds : List (ℕ × Marks)) (ms : List (List (ℕ × Entry))) (hs : List (List ℕ × List Past)) (us : List ℕ) → begun_logs p (length ls) ≡ Some begun → n ≡ begun → UpTo p ls gs ts → open_log q ≡ [] ∷ [] → ds ≡ cs → ms ≡ ls ++ open_log p → hs ≡ gs ++ open_graph p → us ≡ ts → Step maps (line_as.Processor n) p cs ls gs ts q ds ms hs us
log-step maps n begun part.Classes cs ls gs ts (part.Log w) ds ms hs us is at order e d1 d2 d3 d4 =
    let P : List (ℕ × Marks) → List (List (ℕ × Entry)) → List (List ℕ × List Past) → List ℕ → List Line = parts_lines in
    let none : ls ++ [] ≡ [] = same_nil ls order.0 in
    let zero_is : begun ≡ 0 = cc in
    let m0 : ms ≡ [] = d2 ∙ none in
    let h0 : hs ≡ [] = d3 ∙ same_nil gs order.1 in
    let u0 : us ≡ [] = d4 ∙ order.2 in
    let yes : (n == 0) ≡ true = (Decides-eqb n 0).1 (at ∙ zero_is) in
    let count : 0 + 1 ≡ length ms + 1 = omega (arith, ap length m0) in
    record {
      stage = rw yes (ap (λ k. Some (Logging maps k)) count);
      lines = (λ i. P (d1 i) (m0 i ++ e i) (same_nil hs h0 i) (u0 i)) ∙ push-log cs [] ∙ (λ i. P cs (sym none i) (sym (same_nil gs order.1) i) (sym order.2 i) ++ line_as.Processor 0 ∷ []) ∙ ap (λ k. P cs (ls ++ []) (gs ++ []) ts ++ line_as.Processor k ∷ []) (sym (at ∙ zero_is));
      order = (h0, u0);
    }
log-step maps n begun (part.Log v) cs ls gs ts (part.Log w) ds ms hs us is at order e d1 d2 d3 d4 =
    let P : List (ℕ × Marks) → List (List (ℕ × Entry)) → List (List ℕ × List Past) → List ℕ → List Line = parts_lines in
    let count_is : begun ≡ length ls + 1 = cc in
    let h0 : hs ≡ [] = d3 ∙ same_nil gs order.0 in
    let u0 : us ≡ [] = d4 ∙ order.1 in
    let here : n ≡ length ls + 1 = at ∙ count_is in
    let long : length ms ≡ length ls + 1 = omega (arith, ap length d2, length-append ls (v ∷ [])) in
    let longer : length (ls ++ v ∷ []) ≡ n = omega (arith, here, length-append ls (v ∷ [])) in
    let yes : (n == length ls + 1) ≡ true = (Decides-eqb n (length ls + 1)).1 here in
    record {
      stage = rw yes (ap (λ k. Some (Logging maps (k + 1))) (sym long));
      lines = (λ i. P (d1 i) (d2 i ++ e i) (same_nil hs h0 i) (u0 i)) ∙ push-log cs (ls ++ v ∷ []) ∙ (λ i. P cs (ls ++ v ∷ []) (sym (same_nil gs order.0) i) (sym order.1 i) ++ line_as.Processor (longer i) ∷ []);
      order = (h0, u0);
    }
log-step maps n begun (part.Graph a v) cs ls gs ts (part.Log w) ds ms hs us is at order e d1 d2 d3 d4 = absurd (cc)
log-step maps n begun part.Totals cs ls gs ts (part.Log w) ds ms hs us is at order e d1 d2 d3 d4 = absurd (cc)
log-step maps n begun p cs ls gs ts q ds ms hs us is at order e d1 d2 d3 d4 = absurd (cc)

no_totals : (p : Part) (ls : List (List (ℕ × Entry))) (gs : List (List ℕ × List Past)) (ts : List ℕ) → (p ≡ part.Totals → ⊥) → UpTo p ls gs ts → ts ≡ []
no_totals part.Classes ls gs ts other order = order.2
no_totals (part.Log v) ls gs ts other order = order.1
no_totals (part.Graph a v) ls gs ts other order = order
no_totals part.Totals ls gs ts other order = absurd (other refl)

next_graph : (maps : List (List ℕ)) (n : List ℕ) (p : Part) (logs totals : ℕ) → (p ≡ part.Totals → ⊥) → next (staged maps p logs totals) (line_as.Graph n) ≡ Some (Telling maps 0)
next_graph maps n part.Classes logs totals other = refl
next_graph maps n (part.Log v) logs totals other = refl
next_graph maps n (part.Graph a v) logs totals other = refl
next_graph maps n part.Totals logs totals other = absurd (other refl)

first_total : (maps : List (List ℕ)) (t : Total) (ts : List ℕ) → total_place t ≡ length ts → ts ≡ [] → only_if (total_place t == 0) (Some (Counting maps 1)) ≡ Some (Counting maps (length ts + 1))
first_total maps t ts at none =
    let zero_is : length ts ≡ 0 = ap length none in
    let e : 1 ≡ length ts + 1 = omega arith in
    rw ((Decides-eqb (total_place t) 0).1 (at ∙ zero_is)) (ap (λ k. Some (Counting maps k)) e)

next_total : (maps : List (List ℕ)) (t : Total) (v : ℕ) (p : Part) (ls : List (List (ℕ × Entry))) (gs : List (List ℕ × List Past)) (ts : List ℕ) → total_place t ≡ length ts → UpTo p ls gs ts → next (staged maps p (length ls) (length ts)) (line_as.Total t v) ≡ Some (Counting maps (length ts + 1))
next_total maps t v part.Classes ls gs ts at order = first_total maps t ts at order.2
next_total maps t v (part.Log w) ls gs ts at order = first_total maps t ts at order.1
next_total maps t v (part.Graph a w) ls gs ts at order = first_total maps t ts at order
next_total maps t v part.Totals ls gs ts at order = rw ((Decides-eqb (total_place t) (length ts)).1 at) refl

-- a history begins
pub graph-step : (maps : List (List ℕ)) (n : List ℕ) (p : Part) (cs : List (ℕ × Marks)) (ls : List (List (ℕ × Entry))) (gs : List (List ℕ × List Past)) (ts : List ℕ) (q : Part) (ds : List (ℕ × Marks)) (ms : List (List (ℕ × Entry))) (hs : List (List ℕ × List Past)) (us : List ℕ) → (p ≡ part.Totals → ⊥) → UpTo p ls gs ts → open_graph q ≡ (n, []) ∷ [] → ds ≡ cs → ms ≡ ls ++ open_log p → hs ≡ gs ++ open_graph p → us ≡ ts → Step maps (line_as.Graph n) p cs ls gs ts q ds ms hs us
graph-step maps n p cs ls gs ts part.Classes ds ms hs us other order e d1 d2 d3 d4 = absurd (cc)
graph-step maps n p cs ls gs ts (part.Log w) ds ms hs us other order e d1 d2 d3 d4 = absurd (cc)
graph-step maps n p cs ls gs ts part.Totals ds ms hs us other order e d1 d2 d3 d4 = absurd (cc)
graph-step maps n p cs ls gs ts (part.Graph b w) ds ms hs us other order e d1 d2 d3 d4 =
    let P : List (ℕ × Marks) → List (List (ℕ × Entry)) → List (List ℕ × List Past) → List ℕ → List Line = parts_lines in
    let t0 : ts ≡ [] = no_totals p ls gs ts other order in
    let none : w.items ≡ [] = ap (λ g. g.1) (alone e) in
    record {
      stage = next_graph maps n p (length ls) (length ts) other ∙ ap (λ k. Some (Telling maps k)) (sym (ap length none));
      lines = (λ i. P (d1 i) (ap (λ xs. xs ++ []) d2 i) (d3 i ++ e i) (d4 i)) ∙ (λ i. P cs (append-nil (ls ++ open_log p) i) ((gs ++ open_graph p) ++ (n, []) ∷ []) (t0 i)) ∙ push-graph cs (ls ++ open_log p) (gs ++ open_graph p) n ∙ (λ i. P cs (ls ++ open_log p) (gs ++ open_graph p) (sym t0 i) ++ line_as.Graph n ∷ []);
      order = d4 ∙ t0;
    }

-- a total
pub total-step : (maps : List (List ℕ)) (t : Total) (v : ℕ) (p : Part) (cs : List (ℕ × Marks)) (ls : List (List (ℕ × Entry))) (gs : List (List ℕ × List Past)) (ts : List ℕ) (q : Part) (ds : List (ℕ × Marks)) (ms : List (List (ℕ × Entry))) (hs : List (List ℕ × List Past)) (us : List ℕ) → total_place t ≡ length ts → UpTo p ls gs ts → q ≡ part.Totals → ds ≡ cs → ms ≡ ls ++ open_log p → hs ≡ gs ++ open_graph p → us ≡ ts ++ v ∷ [] → Step maps (line_as.Total t v) p cs ls gs ts q ds ms hs us
total-step maps t v p cs ls gs ts part.Totals ds ms hs us at order e d1 d2 d3 d4 =
    let P : List (ℕ × Marks) → List (List (ℕ × Entry)) → List (List ℕ × List Past) → List ℕ → List Line = parts_lines in
    let long : length ts + 1 ≡ length us = omega (arith, ap length d4, length-append ts (v ∷ [])) in
    record {
      stage = next_total maps t v p ls gs ts at order ∙ ap (λ k. Some (Counting maps k)) long;
      lines = (λ i. P (d1 i) (ap (λ xs. xs ++ []) d2 i) (ap (λ xs. xs ++ []) d3 i) (d4 i)) ∙ (λ i. P cs (append-nil (ls ++ open_log p) i) (append-nil (gs ++ open_graph p) i) (ts ++ v ∷ [])) ∙ push-total cs (ls ++ open_log p) (gs ++ open_graph p) ts t v at;
      order = tt;
    }
total-step maps t v p cs ls gs ts q ds ms hs us at order e d1 d2 d3 d4 = absurd (cc)
