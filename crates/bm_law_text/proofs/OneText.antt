-- No two journals have one text.
use Rattle.std.proofs.Common.{◌≡◌, ℕ, List, [], ◌∷◌, ◌++◌, Option, Some, None, map, refl, sym, ◌∙◌, ap}
use Rattle.std.specs.Prelude.{IsTrue, codes}
use Rattle.bm_word.specs.Number.{NumbersRoundTrip}
use Rattle.bm_journal.specs.declared.journal.Journal.{Journal}
use Rattle.bm_journal.specs.JournalText.{journal_text}
use Rattle.bm_journal.specs.WellFormed.{all_differ}
use Rattle.bm_law_text.specs.declared.line.Line.{Line}
use Rattle.bm_law_text.specs.Lines.{line_head, line_tail, body_items, journal_items}
use Rattle.bm_law_text.specs.Parts.{number}
use Rattle.bm_law_text.specs.Pieces.{pieces, words}
use Rattle.bm_law_text.specs.Reading.{line_of}
use Rattle.bm_law_text.specs.Fits.{Each, IsName, LineFits, JournalFits}
use Rattle.bm_law_text.proofs.Clean.{clean, clean_words, both, line-clean, names-clean}
use Rattle.bm_law_text.proofs.LinesBack.{line-back}
use Rattle.bm_law_text.proofs.TextBack.{text-lines, lines-cut, content, words-back}
use Rattle.bm_law_text.proofs.Gathered.{gathered, body-in}
use Rattle.bm_law_text.proofs.ItemsFit.{items-fit}
use Rattle.bm_law_text.proofs.Same.{same-journal}

-- what some pieces say, as far as they say anything
abbrev onto : Option Line → List Line → List Line
onto None ls = ls
onto (Some l) ls = l ∷ ls

abbrev said : List (List ℕ) → List (List ℕ) → List Line
said maps [] = []
said maps (p ∷ ps) = onto (line_of maps (words p)) (said maps ps)

said-back : NumbersRoundTrip → (maps : List (List ℕ)) (ls : List Line) → IsTrue (all_differ maps) → Each IsName maps → Each (LineFits maps) ls → said maps (map (content maps) ls ++ [] ∷ []) ≡ ls
unfolding number
said-back rt maps [] differ names h = refl
said-back rt maps (l ∷ ls) differ names h =
    let c = both (clean (line_head l)) (clean_words (line_tail maps l)) (line-clean maps l names h.0) in
    rw (words-back (line_head l) (line_tail maps l) c.0 c.1) (rw (line-back rt maps l differ h.0) (rw (said-back rt maps ls differ names h.1) refl))

-- the names in the third line
abbrev tail : List (List ℕ) → List (List ℕ)
tail [] = []
tail (x ∷ xs) = xs

abbrev third : List (List ℕ) → List ℕ
third (a ∷ b ∷ c ∷ ps) = c
third ps = []

abbrev maps_said : List (List ℕ) → List (List ℕ)
maps_said ps = tail (words (third ps))

pub said-text : NumbersRoundTrip → (j : Journal) → JournalFits j → said j.maps (pieces (journal_text j)) ≡ journal_items j
said-text rt j h = rw (text-lines j) (rw (lines-cut j.maps (journal_items j) h.maps (items-fit j h)) (said-back rt j.maps (journal_items j) j.maps_differ h.maps (items-fit j h)))

pub maps-text : (j : Journal) → JournalFits j → maps_said (pieces (journal_text j)) ≡ j.maps
maps-text j h = rw (text-lines j) (rw (lines-cut j.maps (journal_items j) h.maps (items-fit j h)) (rw (words-back (codes "maps") j.maps refl (names-clean j.maps h.maps)) refl))

pub one-text : NumbersRoundTrip → (j k : Journal) → JournalFits j → JournalFits k → journal_text j ≡ journal_text k → j ≡ k
one-text rt j k hj hk e =
    let maps : j.maps ≡ k.maps = sym (maps-text j hj) ∙ ap (λ t. maps_said (pieces t)) e ∙ maps-text k hk in
    let items : journal_items j ≡ journal_items k = sym (said-text rt j hj) ∙ ap (λ t. said j.maps (pieces t)) e ∙ ap (λ m. said m (pieces (journal_text k))) maps ∙ said-text rt k hk in
    let body : body_items j ≡ body_items k = cc in
    let parts = sym (body-in j hj.nineteen) ∙ ap gathered body ∙ body-in k hk.nineteen in
    same-journal j k (cc) (cc) (cc) maps (cc) (ap (λ g. g.classes) parts) (ap (λ g. g.logs) parts) (ap (λ g. g.graphs) parts) (ap (λ g. g.totals) parts)
