-- The text of a journal is cut into its lines, and these into their words.
use Rattle.std.proofs.Common.{◌≡◌, ℕ, ◌+◌, Bool, true, false, not, ◌==◌, List, [], ◌∷◌, ◌++◌, map, refl, sym, append_assoc, append-nil}
use Rattle.std.proofs.lemmas.Bool.Decides.{Decides-eqb}
use Rattle.std.specs.List.{slice_split, list_all}
use Rattle.std.specs.Prelude.{codes}
use Rattle.bm_class.specs.declared.watermarks.Marks.{Marks}
use Rattle.bm_journal.specs.declared.entry.Entry.{Entry}
use Rattle.bm_journal.specs.declared.past.Past.{Past}
use Rattle.bm_journal.specs.declared.total.Total.{Total}
use Rattle.bm_journal.specs.declared.journal.Journal.{Journal}
use Rattle.bm_journal.specs.EntryText.{Words}
use Rattle.bm_journal.specs.Line.{line, spaced}
use Rattle.bm_journal.specs.JournalText.{class_lines, entry_lines, log_lines, past_lines, graph_lines, total_lines, totals_text, journal_text, size_line}
use Rattle.bm_journal.specs.TotalNames.{all_totals}
use Rattle.bm_law_text.specs.declared.line.Line.{Line}
use Rattle.bm_law_text.specs.Lines.{line_head, line_tail, lines_text, class_items, entry_items, log_items, past_items, graph_items, total_items, body_items, journal_items}
use Rattle.bm_law_text.specs.Pieces.{pieces, words}
use Rattle.bm_law_text.specs.Fits.{Each, IsName, LineFits}
use Rattle.bm_law_text.proofs.Clean.{plain, clean, clean_words, both, line-clean}

-- ---- the text of a journal is the text of its lines

pub lines_text-append : (maps : List (List ℕ)) (xs ys : List Line) → lines_text maps (xs ++ ys) ≡ lines_text maps xs ++ lines_text maps ys
lines_text-append maps [] ys = refl
lines_text-append maps (x ∷ xs) ys = rw (lines_text-append maps xs ys) (sym (append_assoc (line (line_head x) (line_tail maps x)) (lines_text maps xs) (lines_text maps ys)))

class-lines : (maps : List (List ℕ)) (xs : List (ℕ × Marks)) → class_lines xs ≡ lines_text maps (class_items xs)
class-lines maps [] = refl
class-lines maps (x ∷ xs) = rw (class-lines maps xs) refl

entry-lines : (maps : List (List ℕ)) (xs : List (ℕ × Entry)) → entry_lines xs ≡ lines_text maps (entry_items xs)
entry-lines maps [] = refl
entry-lines maps (x ∷ xs) = rw (entry-lines maps xs) refl

log-lines : (maps : List (List ℕ)) (p : ℕ) (logs : List (List (ℕ × Entry))) → log_lines p logs ≡ lines_text maps (log_items p logs)
log-lines maps p [] = refl
log-lines maps p (log ∷ logs) = rw (lines_text-append maps (entry_items log) (log_items (p + 1) logs)) (rw (entry-lines maps log) (rw (log-lines maps (p + 1) logs) refl))

past-lines : (maps : List (List ℕ)) (p : ℕ) (xs : List Past) → past_lines maps p xs ≡ lines_text maps (past_items p xs)
past-lines maps p [] = refl
past-lines maps p (x ∷ xs) = rw (past-lines maps (p + 1) xs) refl

graph-lines : (maps : List (List ℕ)) (gs : List (List ℕ × List Past)) → graph_lines maps gs ≡ lines_text maps (graph_items gs)
graph-lines maps [] = refl
graph-lines maps (g ∷ gs) = rw (lines_text-append maps (past_items 0 g.1) (graph_items gs)) (rw (past-lines maps 0 g.1) (rw (graph-lines maps gs) refl))

total-lines : (maps : List (List ℕ)) (ts : List Total) (vs : List ℕ) → total_lines ts vs ≡ lines_text maps (total_items ts vs)
total-lines maps [] vs = refl
total-lines maps (t ∷ ts) [] = refl
total-lines maps (t ∷ ts) (v ∷ vs) = rw (total-lines maps ts vs) refl

body-lines : (j : Journal) → lines_text j.maps (body_items j) ≡ class_lines j.classes ++ (log_lines 0 j.logs ++ (graph_lines j.maps j.graphs ++ totals_text j.totals))
unfolding totals_text
body-lines j =
    let m = j.maps in
    let cs = class_items j.classes in
    let ls = log_items 0 j.logs in
    let gs = graph_items j.graphs in
    let ts = total_items all_totals j.totals in
    rw (lines_text-append m cs (ls ++ (gs ++ ts))) (rw (lines_text-append m ls (gs ++ ts)) (rw (lines_text-append m gs ts)
    (rw (class-lines m j.classes) (rw (log-lines m 0 j.logs) (rw (graph-lines m j.graphs) (rw (total-lines m all_totals j.totals) refl))))))

five : (a b c d e r : List ℕ) → (a ++ (b ++ (c ++ (d ++ e)))) ++ r ≡ a ++ (b ++ (c ++ (d ++ (e ++ r))))
five a b c d e r = simp append_assoc

pub text-lines : (j : Journal) → journal_text j ≡ lines_text j.maps (journal_items j)
unfolding journal_text totals_text
text-lines j = rw (body-lines j) (five (size_line j.processors j.pages) (line (codes "types") j.types) (line (codes "maps") j.maps) (line (codes "scripts") j.scripts) (class_lines j.classes) (log_lines 0 j.logs ++ (graph_lines j.maps j.graphs ++ total_lines all_totals j.totals)))

-- ---- cut at a byte

no_other : (b c : ℕ) → not (b == c) ≡ true → (b == c) ≡ false
no_other b c h =
    (let case : (t : Bool) → (b == c) ≡ t → not t ≡ true → (b == c) ≡ false = λ t.
    elim t as (λ t. (b == c) ≡ t → not t ≡ true → (b == c) ≡ false)
    [ true ↦ λ e h. cc | false ↦ λ e h. e ]
    in case (b == c) refl h)

cut_at : (c : ℕ) (w rest : List ℕ) → list_all (λ b. not (b == c)) w ≡ true → slice_split (λ b. b == c) (w ++ c ∷ rest) ≡ w ∷ slice_split (λ b. b == c) rest
cut_at c [] rest h = rw ((Decides-eqb c c).1 refl) refl
cut_at c (b ∷ w) rest h =
    let hs = both (not (b == c)) (list_all (λ b. not (b == c)) w) h in
    rw (no_other b c hs.0) (rw (cut_at c w rest hs.1) refl)

uncut : (c : ℕ) (w : List ℕ) → list_all (λ b. not (b == c)) w ≡ true → slice_split (λ b. b == c) w ≡ w ∷ []
uncut c [] h = refl
uncut c (b ∷ w) h =
    let hs = both (not (b == c)) (list_all (λ b. not (b == c)) w) h in
    rw (no_other b c hs.0) (rw (uncut c w hs.1) refl)

-- ---- a line is cut into its words

no_space : (w : List ℕ) → clean w ≡ true → list_all (λ b. not (b == 32)) w ≡ true
no_space [] h = refl
no_space (b ∷ w) h =
    let hs = both (plain b) (clean w) h in
    rw ((both (not (b == 32)) (not (b == 10)) hs.0).0) (no_space w hs.1)

no_feed : (w : List ℕ) → clean w ≡ true → list_all (λ b. not (b == 10)) w ≡ true
no_feed [] h = refl
no_feed (b ∷ w) h =
    let hs = both (plain b) (clean w) h in
    rw ((both (not (b == 32)) (not (b == 10)) hs.0).1) (no_feed w hs.1)

pub words-back : (w : List ℕ) (ws : Words) → clean w ≡ true → clean_words ws ≡ true → words (w ++ spaced ws) ≡ w ∷ ws
words-back w [] hw hs = rw (append-nil w) (uncut 32 w (no_space w hw))
words-back w (v ∷ ws) hw hs =
    let h = both (clean v) (clean_words ws) hs in
    rw (cut_at 32 w (v ++ spaced ws) (no_space w hw)) (rw (words-back v ws h.0 h.1) refl)

-- ---- a text is cut into its lines

-- a line without its line feed
abbrev pub content : List (List ℕ) → Line → List ℕ
content maps l = line_head l ++ spaced (line_tail maps l)

feed_append : (xs ys : List ℕ) → list_all (λ b. not (b == 10)) xs ≡ true → list_all (λ b. not (b == 10)) ys ≡ true → list_all (λ b. not (b == 10)) (xs ++ ys) ≡ true
feed_append [] ys hx hy = hy
feed_append (x ∷ xs) ys hx hy =
    let h = both (not (x == 10)) (list_all (λ b. not (b == 10)) xs) hx in
    rw h.0 (feed_append xs ys h.1 hy)

spaced_feed : (ws : Words) → clean_words ws ≡ true → list_all (λ b. not (b == 10)) (spaced ws) ≡ true
spaced_feed [] h = refl
spaced_feed (w ∷ ws) h =
    let hs = both (clean w) (clean_words ws) h in
    feed_append w (spaced ws) (no_feed w hs.0) (spaced_feed ws hs.1)

pub line-cut : (w : List ℕ) (ws : Words) (rest : List ℕ) → clean w ≡ true → clean_words ws ≡ true → pieces (line w ws ++ rest) ≡ (w ++ spaced ws) ∷ pieces rest
unfolding line
line-cut w ws rest hw hs =
    let joined : (w ++ (spaced ws ++ 10 ∷ [])) ++ rest ≡ (w ++ spaced ws) ++ 10 ∷ rest = simp append_assoc in
    rw joined (cut_at 10 (w ++ spaced ws) rest (feed_append w (spaced ws) (no_feed w hw) (spaced_feed ws hs)))

pub lines-cut : (maps : List (List ℕ)) (ls : List Line) → Each IsName maps → Each (LineFits maps) ls → pieces (lines_text maps ls) ≡ map (content maps) ls ++ [] ∷ []
lines-cut maps [] names h = refl
lines-cut maps (l ∷ ls) names h =
    let c = both (clean (line_head l)) (clean_words (line_tail maps l)) (line-clean maps l names h.0) in
    rw (line-cut (line_head l) (line_tail maps l) (lines_text maps ls) c.0 c.1) (rw (lines-cut maps ls names h.1) refl)
