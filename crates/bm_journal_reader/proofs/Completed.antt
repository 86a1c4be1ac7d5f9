-- What is read so far is the beginning of some journal.
use Rattle.std.proofs.Common.{◌≡◌, ℕ, suc, ◌+◌, ◌<◌, ◌≤◌, ◌^◌, List, [], ◌∷◌, ◌++◌, length, map, refl, sym, ap, ◌∙◌, arith, subst, append_assoc, length-append}
use Rattle.bm_class.specs.declared.watermarks.Marks.{Marks}
use Rattle.bm_journal.specs.declared.entry.Entry.{Entry}
use Rattle.bm_journal.specs.declared.past.Past.{Past}
use Rattle.bm_journal.specs.declared.total.Total.{Total}
use Rattle.bm_journal.specs.declared.journal.Journal.{Journal}
use Rattle.bm_journal.specs.TotalNames.{all_totals}
use Rattle.bm_law_text.specs.declared.line.Line.{Line}
use Rattle.bm_law_text.specs.declared.line.Line.TheVariants as line_as
use Rattle.bm_law_text.specs.Fits.{Each, LineFits, LeveledFits, ClassFits, PastFits, GraphFits, JournalFits}
use Rattle.bm_law_text.specs.Lines.{class_items, entry_items, log_items, past_items, graph_items, total_items, journal_items}
use Rattle.bm_law_text.proofs.ItemsFit.{each-append}
use Rattle.bm_journal_reader.specs.declared.draft.Draft.{Draft}
use Rattle.bm_journal_reader.specs.declared.draft.Head.{Head}
use Rattle.bm_journal_reader.specs.declared.draft.Head.TheVariants as head
use Rattle.bm_journal_reader.specs.declared.body.Part.{Part}
use Rattle.bm_journal_reader.specs.declared.body.Part.TheVariants as part
use Rattle.bm_journal_reader.specs.Drafts.{stage_maps, staged, head_stage, head_lines, parts_lines, body_stage, body_lines, read_logs, read_graphs}
use Rattle.bm_journal_reader.specs.Faults.{line_content}
use Rattle.bm_journal_reader.proofs.Finishing.{left-each, right-each, whole-logs, owned-graphs}

-- ---- what its lines keep, a journal keeps

classes-keep : (m : List (List ℕ)) (xs : List (ℕ × Marks)) → Each (LineFits m) (class_items xs) → Each ClassFits xs
classes-keep m [] h = tt
classes-keep m (x ∷ xs) h = (h.0, classes-keep m xs h.1)

entries-keep : (m : List (List ℕ)) (xs : List (ℕ × Entry)) → Each (LineFits m) (entry_items xs) → Each LeveledFits xs
entries-keep m [] h = tt
entries-keep m (x ∷ xs) h = ((h.0.0, h.0.1), entries-keep m xs h.1)

logs-keep : (m : List (List ℕ)) (p : ℕ) (logs : List (List (ℕ × Entry))) → Each (LineFits m) (log_items p logs) → Each (Each LeveledFits) logs
logs-keep m p [] h = tt
logs-keep m p (log ∷ logs) h =
    (entries-keep m log (left-each (LineFits m) (entry_items log) (log_items (p + 1) logs) h.1), logs-keep m (p + 1) logs (right-each (LineFits m) (entry_items log) (log_items (p + 1) logs) h.1))

pasts-keep : (m : List (List ℕ)) (p : ℕ) (xs : List Past) → Each (LineFits m) (past_items p xs) → Each PastFits xs
pasts-keep m p [] h = tt
pasts-keep m p (x ∷ xs) h = (h.0.1, pasts-keep m (p + 1) xs h.1)

past-count : (p : ℕ) (xs : List Past) → length (past_items p xs) ≡ length xs
past-count p [] = refl
past-count p (x ∷ xs) = ap (λ n. suc n) (past-count (p + 1) xs)

graphs-keep : (m : List (List ℕ)) (gs : List (List ℕ × List Past)) → length (graph_items gs) < 2 ^ 64 → Each (LineFits m) (graph_items gs) → Each GraphFits gs
graphs-keep m [] few h = tt
graphs-keep m (g ∷ gs) few h =
    let ps = past_items 0 g.1 in
    let long : length (ps ++ graph_items gs) ≡ length ps + length (graph_items gs) = length-append ps (graph_items gs) in
    let count : length ps ≡ length g.1 = past-count 0 g.1 in
    let all : suc (length (ps ++ graph_items gs)) < 2 ^ 64 = few in
    let here : length g.1 < 2 ^ 64 = omega (arith, all, long, count) in
    let more : length (graph_items gs) < 2 ^ 64 = omega (arith, all, long) in
    ((h.0, pasts-keep m 0 g.1 (left-each (LineFits m) ps (graph_items gs) h.1), here), graphs-keep m gs more (right-each (LineFits m) ps (graph_items gs) h.1))

totals-keep : (m : List (List ℕ)) (ts : List Total) (vs : List ℕ) → length vs ≡ length ts → Each (LineFits m) (total_items ts vs) → Each (λ n. n < 2 ^ 64) vs
totals-keep m [] [] e h = tt
totals-keep m [] (v ∷ vs) e h = absurd (omega (arith, e))
totals-keep m (t ∷ ts) [] e h = tt
totals-keep m (t ∷ ts) (v ∷ vs) e h = let fewer : length vs ≡ length ts = omega (arith, e) in (h.0, totals-keep m ts vs fewer h.1)

log-count : (p : ℕ) (logs : List (List (ℕ × Entry))) → length logs ≤ length (log_items p logs)
log-count p [] = omega arith
log-count p (log ∷ logs) =
    let rest = log-count (p + 1) logs in
    let long = length-append (entry_items log) (log_items (p + 1) logs) in
    let all : suc (length logs) ≤ suc (length (entry_items log ++ log_items (p + 1) logs)) = omega (arith, rest, long) in
    all

pub journal-fits : (j : Journal) → length j.totals ≡ 19 → length (log_items 0 j.logs) < 2 ^ 64 → length (graph_items j.graphs) < 2 ^ 64 → Each (LineFits j.maps) (journal_items j) → JournalFits j
journal-fits j nineteen few-logs few-graphs h =
    let m = j.maps in
    let cs = class_items j.classes in
    let ls = log_items 0 j.logs in
    let gs = graph_items j.graphs in
    let ts = total_items all_totals j.totals in
    let body = h.1.1.1.1 in
    let behind = right-each (LineFits m) cs (ls ++ (gs ++ ts)) body in
    let last = right-each (LineFits m) ls (gs ++ ts) behind in
    let logs : length j.logs < 2 ^ 64 = omega (arith, log-count 0 j.logs, few-logs) in
    record {
      processors = h.0.0;
      pages = h.0.1;
      types = h.1.0;
      maps = h.1.1.0.0;
      scripts = h.1.1.1.0;
      classes = classes-keep m j.classes (left-each (LineFits m) cs (ls ++ (gs ++ ts)) body);
      logs = logs-keep m 0 j.logs (left-each (LineFits m) ls (gs ++ ts) behind);
      few_logs = logs;
      graphs = graphs-keep m j.graphs few-graphs (left-each (LineFits m) gs ts last);
      totals = totals-keep m all_totals j.totals nineteen (right-each (LineFits m) gs ts last);
      nineteen = nineteen;
    }

-- ---- zero for each total that isn't read

abbrev filled : List Total → List ℕ → List ℕ
filled [] vs = []
filled (t ∷ ts) [] = 0 ∷ filled ts []
filled (t ∷ ts) (v ∷ vs) = v ∷ filled ts vs

abbrev unread : List Total → List ℕ → List Line
unread [] vs = []
unread (t ∷ ts) [] = line_as.Total t 0 ∷ unread ts []
unread (t ∷ ts) (v ∷ vs) = unread ts vs

filled-count : (ts : List Total) (vs : List ℕ) → length (filled ts vs) ≡ length ts
filled-count [] vs = refl
filled-count (t ∷ ts) [] = ap (λ n. suc n) (filled-count ts [])
filled-count (t ∷ ts) (v ∷ vs) = ap (λ n. suc n) (filled-count ts vs)

none-read : (ts : List Total) → total_items ts [] ≡ []
none-read [] = refl
none-read (t ∷ ts) = refl

filled-lines : (ts : List Total) (vs : List ℕ) → total_items ts (filled ts vs) ≡ total_items ts vs ++ unread ts vs
filled-lines [] vs = refl
filled-lines (t ∷ ts) [] = ap (λ ls. line_as.Total t 0 ∷ ls) (filled-lines ts [] ∙ ap (λ ls. ls ++ unread ts []) (none-read ts))
filled-lines (t ∷ ts) (v ∷ vs) = ap (λ ls. line_as.Total t v ∷ ls) (filled-lines ts vs)

unread-fit : (m : List (List ℕ)) (ts : List Total) (vs : List ℕ) → Each (LineFits m) (unread ts vs)
unread-fit m [] vs = tt
unread-fit m (t ∷ ts) [] = let zero : 0 < 2 ^ 64 = omega arith in (zero, unread-fit m ts [])
unread-fit m (t ∷ ts) (v ∷ vs) = unread-fit m ts vs

-- ---- a whole journal begins with the lines of the heading and of parts of what is behind it

abbrev front : ℕ → ℕ → List (List ℕ) → List (List ℕ) → List (List ℕ) → List Line → List Line
front p g ns ms ss ls = line_as.Size p g ∷ line_as.Types ns ∷ line_as.Maps ms ∷ line_as.Scripts ss ∷ ls

record Whole (ms : List (List ℕ)) (ls : List Line) : Type 0 where
  journal : Journal
  fits : JournalFits journal
  maps : journal.maps ≡ ms
  more : List Line
  items : journal_items journal ≡ ls ++ more

four : (a b c d e : List Line) → a ++ (b ++ (c ++ (d ++ e))) ≡ (a ++ (b ++ (c ++ d))) ++ e
four a b c d e = simp append_assoc

whole : (p g : ℕ) (ns ms ss : List (List ℕ)) (cs : List (ℕ × Marks)) (ls : List (List (ℕ × Entry))) (gs : List (List ℕ × List Past)) (vs : List ℕ) → Each (LineFits ms) (front p g ns ms ss (parts_lines cs ls gs vs)) → length (parts_lines cs ls gs vs) < 2 ^ 64 → Whole ms (front p g ns ms ss (parts_lines cs ls gs vs))
whole p g ns ms ss cs ls gs vs fit few =
    let c = class_items cs in
    let l = log_items 0 ls in
    let h = graph_items gs in
    let t = total_items all_totals vs in
    let u = unread all_totals vs in
    let body = fit.1.1.1.1 in
    let behind = right-each (LineFits ms) c (l ++ (h ++ t)) body in
    let owned = owned-graphs ms gs (left-each (LineFits ms) h t (right-each (LineFits ms) l (h ++ t) behind)) in
    let kept = whole-logs ms 0 ls (left-each (LineFits ms) l (h ++ t) behind) in
    let j : Journal = record { processors = p; pages = g; types = ns; maps = ms; scripts = ss; classes = cs; logs = ls; graphs = gs; totals = filled all_totals vs; maps_differ = fit.1.1.0.1; owners_named = owned; units_whole = kept } in
    let items : journal_items j ≡ front p g ns ms ss (parts_lines cs ls gs vs) ++ u = ap (front p g ns ms ss) (ap (λ ts. c ++ (l ++ (h ++ ts))) (filled-lines all_totals vs) ∙ four c l h t u) in
    let fits : Each (LineFits ms) (journal_items j) = subst (Each (LineFits ms)) (sym items) (each-append (LineFits ms) (front p g ns ms ss (parts_lines cs ls gs vs)) u fit (unread-fit ms all_totals vs)) in
    let e1 = length-append c (l ++ (h ++ t)) in
    let e2 = length-append l (h ++ t) in
    let e3 = length-append h t in
    let all : length (c ++ (l ++ (h ++ t))) < 2 ^ 64 = few in
    let few-logs : length l < 2 ^ 64 = omega (arith, all, e1, e2) in
    let few-graphs : length h < 2 ^ 64 = omega (arith, all, e1, e2, e3) in
    record { journal = j; fits = journal-fits j (filled-count all_totals vs) few-logs few-graphs fits; maps = refl; more = u; items = items }

-- the journal of nothing
pub some-journal : (j : Journal) × JournalFits j
some-journal =
    let small : 0 < 2 ^ 64 = omega arith in
    let byte : 0 < 2 ^ 8 = omega arith in
    let short : 0 < 2 ^ 16 = omega arith in
    let a = whole 0 0 [] [] [] [] [] [] [] ((byte, short), (tt, ((tt, refl), (tt, tt)))) small in
    (a.journal, a.fits)

-- ---- and so with the lines that are read

-- some journal begins with these lines
pub record Begins (m : List (List ℕ)) (ls : List Line) : Type 0 where
  pub journal : Journal
  pub fits : JournalFits journal
  pub more : List Line
  pub items : journal_items journal ≡ ls ++ more
  pub said : map (line_content journal.maps) ls ≡ map (line_content m) ls

staged-maps : (maps : List (List ℕ)) (p : Part) (logs totals : ℕ) → stage_maps (staged maps p logs totals) ≡ maps
staged-maps maps part.Classes logs totals = refl
staged-maps maps (part.Log log) logs totals = refl
staged-maps maps (part.Graph name pasts) logs totals = refl
staged-maps maps part.Totals logs totals = refl

pub begins : (h : Head) (d : Draft) → Each (LineFits (stage_maps (head_stage h d.maps.items d.body))) (head_lines h d) → length (head_lines h d) < 2 ^ 64 → Begins (stage_maps (head_stage h d.maps.items d.body)) (head_lines h d)
begins head.Size d fit few =
    let small : 0 < 2 ^ 64 = omega arith in
    let byte : 0 < 2 ^ 8 = omega arith in
    let short : 0 < 2 ^ 16 = omega arith in
    let a = whole 0 0 [] [] [] [] [] [] [] ((byte, short), (tt, ((tt, refl), (tt, tt)))) small in
    record { journal = a.journal; fits = a.fits; more = front 0 0 [] [] [] [] ++ a.more; items = a.items; said = refl }
begins head.Types d fit few =
    let small : 0 < 2 ^ 64 = omega arith in
    let a = whole d.processors d.pages [] [] [] [] [] [] [] (fit.0, (tt, ((tt, refl), (tt, tt)))) small in
    record { journal = a.journal; fits = a.fits; more = line_as.Types [] ∷ line_as.Maps [] ∷ line_as.Scripts [] ∷ a.more; items = a.items; said = refl }
begins head.Maps d fit few =
    let small : 0 < 2 ^ 64 = omega arith in
    let a = whole d.processors d.pages d.types.items [] [] [] [] [] [] (fit.0, (fit.1.0, ((tt, refl), (tt, tt)))) small in
    record { journal = a.journal; fits = a.fits; more = line_as.Maps [] ∷ line_as.Scripts [] ∷ a.more; items = a.items; said = refl }
begins head.Scripts d fit few =
    let small : 0 < 2 ^ 64 = omega arith in
    let a = whole d.processors d.pages d.types.items d.maps.items [] [] [] [] [] (fit.0, (fit.1.0, (fit.1.1.0, (tt, tt)))) small in
    record { journal = a.journal; fits = a.fits; more = line_as.Scripts [] ∷ a.more; items = a.items; said = refl }
begins head.Behind d fit few =
    let b = d.body in
    let m = stage_maps (body_stage d.maps.items b) in
    let ls = head_lines head.Behind d in
    let same : m ≡ d.maps.items = staged-maps d.maps.items b.part (length b.logs.items) (length b.totals.items) in
    let all : suc (suc (suc (suc (length (body_lines b))))) < 2 ^ 64 = few in
    let fewer : length (body_lines b) < 2 ^ 64 = omega (arith, all) in
    let a = whole d.processors d.pages d.types.items d.maps.items d.scripts.items b.classes.items (read_logs b) (read_graphs b) b.totals.items (subst (λ m. Each (LineFits m) ls) same fit) fewer in
    record { journal = a.journal; fits = a.fits; more = a.more; items = a.items; said = ap (λ m. map (line_content m) ls) (a.maps ∙ sym same) }
