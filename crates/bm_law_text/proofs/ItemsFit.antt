-- Each line of a journal that keeps what its types keep fits.
use Rattle.std.proofs.Common.{ℕ, ◌+◌, ◌<◌, ◌^◌, List, [], ◌∷◌, ◌++◌, length, arith}
use Rattle.std.specs.List.{list_all}
use Rattle.std.specs.Prelude.{IsTrue}
use Rattle.bm_class.specs.declared.watermarks.Marks.{Marks}
use Rattle.bm_journal.specs.declared.entry.Entry.{Entry}
use Rattle.bm_journal.specs.declared.past.Past.{Past}
use Rattle.bm_journal.specs.declared.total.Total.{Total}
use Rattle.bm_journal.specs.declared.journal.Journal.{Journal}
use Rattle.bm_journal.specs.TotalNames.{all_totals}
use Rattle.bm_journal.specs.WellFormed.{owner_below, owners_below, is_whole_entry, is_whole_log, are_whole}
use Rattle.bm_law_text.specs.Lines.{class_items, entry_items, log_items, past_items, graph_items, total_items, journal_items}
use Rattle.bm_law_text.specs.Fits.{Each, LineFits, LeveledFits, ClassFits, PastFits, GraphFits, JournalFits}
use Rattle.bm_law_text.proofs.Clean.{both}

pub each-append : {X : Type 0} (P : X → Type 0) (xs ys : List X) → Each P xs → Each P ys → Each P (xs ++ ys)
each-append P [] ys hx hy = hy
each-append P (x ∷ xs) ys hx hy = (hx.0, each-append P xs ys hx.1 hy)

classes-fit : (m : List (List ℕ)) (xs : List (ℕ × Marks)) → Each ClassFits xs → Each (LineFits m) (class_items xs)
classes-fit m [] h = tt
classes-fit m (x ∷ xs) h = (h.0, classes-fit m xs h.1)

entries-fit : (m : List (List ℕ)) (xs : List (ℕ × Entry)) → Each LeveledFits xs → IsTrue (is_whole_log xs) → Each (LineFits m) (entry_items xs)
entries-fit m [] h w = tt
entries-fit m (x ∷ xs) h w = let ws = both (is_whole_entry x.1) (is_whole_log xs) w in ((h.0.0, h.0.1, ws.0), entries-fit m xs h.1 ws.1)

logs-fit : (m : List (List ℕ)) (p : ℕ) (logs : List (List (ℕ × Entry))) → p + length logs < 2 ^ 64 → Each (Each LeveledFits) logs → IsTrue (are_whole logs) → Each (LineFits m) (log_items p logs)
logs-fit m p [] few h w = tt
logs-fit m p (log ∷ logs) few h w =
    let ws = both (is_whole_log log) (are_whole logs) w in
    let here : p < 2 ^ 64 = omega arith in
    let more : p + 1 + length logs < 2 ^ 64 = omega arith in
    (here, each-append (LineFits m) (entry_items log) (log_items (p + 1) logs) (entries-fit m log h.0 ws.0) (logs-fit m (p + 1) logs more h.1 ws.1))

pasts-fit : (m : List (List ℕ)) (p : ℕ) (xs : List Past) → p + length xs < 2 ^ 64 → Each PastFits xs → IsTrue (list_all (λ past. owner_below (length m) past.call) xs) → Each (LineFits m) (past_items p xs)
pasts-fit m p [] few h o = tt
pasts-fit m p (x ∷ xs) few h o =
    let os = both (owner_below (length m) x.call) (list_all (λ past. owner_below (length m) past.call) xs) o in
    let here : p < 2 ^ 64 = omega arith in
    let more : p + 1 + length xs < 2 ^ 64 = omega arith in
    ((here, h.0, os.0), pasts-fit m (p + 1) xs more h.1 os.1)

graphs-fit : (m : List (List ℕ)) (gs : List (List ℕ × List Past)) → Each GraphFits gs → IsTrue (owners_below (length m) gs) → Each (LineFits m) (graph_items gs)
graphs-fit m [] h o = tt
graphs-fit m (g ∷ gs) h o =
    let os = both (list_all (λ past. owner_below (length m) past.call) g.1) (owners_below (length m) gs) o in
    let few : 0 + length g.1 < 2 ^ 64 = omega (arith, h.0.2) in
    (h.0.0, each-append (LineFits m) (past_items 0 g.1) (graph_items gs) (pasts-fit m 0 g.1 few h.0.1 os.0) (graphs-fit m gs h.1 os.1))

totals-fit : (m : List (List ℕ)) (ts : List Total) (vs : List ℕ) → Each (λ n. n < 2 ^ 64) vs → Each (LineFits m) (total_items ts vs)
totals-fit m [] vs h = tt
totals-fit m (t ∷ ts) [] h = tt
totals-fit m (t ∷ ts) (v ∷ vs) h = (h.0, totals-fit m ts vs h.1)

pub items-fit : (j : Journal) → JournalFits j → Each (LineFits j.maps) (journal_items j)
items-fit j h =
    let m = j.maps in
    let few : 0 + length j.logs < 2 ^ 64 = omega (arith, h.few_logs) in
    let ts = totals-fit m all_totals j.totals h.totals in
    let gs = each-append (LineFits m) (graph_items j.graphs) (total_items all_totals j.totals) (graphs-fit m j.graphs h.graphs j.owners_named) ts in
    let ls = each-append (LineFits m) (log_items 0 j.logs) (graph_items j.graphs ++ total_items all_totals j.totals) (logs-fit m 0 j.logs few h.logs j.units_whole) gs in
    let cs = each-append (LineFits m) (class_items j.classes) (log_items 0 j.logs ++ (graph_items j.graphs ++ total_items all_totals j.totals)) (classes-fit m j.classes h.classes) ls in
    ((h.processors, h.pages), (h.types, ((h.maps, j.maps_differ), (h.scripts, cs))))
