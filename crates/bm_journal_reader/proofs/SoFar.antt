-- Up to the line that may not come some journal's text agrees.
use Rattle.std.proofs.Common.{◌≡◌, ℕ, suc, ◌+◌, ◌<◌, ◌≤◌, ◌^◌, Bool, true, false, cond, ◌==◌, List, [], ◌∷◌, ◌++◌, Some, length, take, map, refl, sym, ap, ◌∙◌, arith, subst, append_assoc, length-append}
use Rattle.std.proofs.lemmas.List.{length-map, map-append, take-take}
use Rattle.std.specs.List.{onto_first}
use Rattle.bm_word.specs.Number.{NumbersRoundTrip}
use Rattle.bm_journal.specs.declared.journal.Journal.{Journal}
use Rattle.bm_journal.specs.JournalText.{journal_text}
use Rattle.bm_law_text.specs.declared.line.Line.{Line}
use Rattle.bm_law_text.specs.Fits.{Each, LineFits, JournalFits}
use Rattle.bm_law_text.specs.Lines.{class_items, log_items, graph_items, total_items, journal_items}
use Rattle.bm_law_text.specs.Pieces.{pieces}
use Rattle.bm_law_text.proofs.ItemsFit.{items-fit}
use Rattle.bm_law_text.proofs.TextBack.{text-lines, lines-cut}
use Rattle.bm_journal.specs.TotalNames.{all_totals}
use Rattle.bm_journal_reader.specs.declared.draft.Draft.{Draft}
use Rattle.bm_journal_reader.specs.declared.fault.JournalFault.{JournalFault}
use Rattle.bm_journal_reader.specs.declared.fault.JournalFault.TheVariants as fault
use Rattle.bm_journal_reader.specs.Drafts.{Begun, stage_maps, draft_stage, draft_lines}
use Rattle.bm_journal_reader.specs.Faults.{with_feeds, text_lines, SomeAgrees, IsFirstWrong, NamesFirst, FaultSays, first_bad, line_content, Kept, Finished}
use Rattle.bm_journal_reader.proofs.Completed.{begins, journal-fits, some-journal}
use Rattle.bm_journal_reader.proofs.Finishing.{no-one}
use Rattle.bm_journal_reader.proofs.Keeping.{some-piece}

-- ---- the first of the lines of a text

first-lines : (f : Line → List ℕ) (ls : List Line) (p : List ℕ) (ps : List (List ℕ)) → take (length ls) (with_feeds (map f ls ++ p ∷ ps)) ≡ map (λ l. f l ++ 10 ∷ []) ls
first-lines f [] p ps = refl
first-lines f (l ∷ []) p ps = refl
first-lines f (l ∷ k ∷ ls) p ps = ap (λ xs. (f l ++ 10 ∷ []) ∷ xs) (first-lines f (k ∷ ls) p ps)

some-end : (ps : List (List ℕ)) → (p : List ℕ) × (qs : List (List ℕ)) × (ps ++ [] ∷ [] ≡ p ∷ qs)
some-end [] = ([], [], refl)
some-end (p ∷ ps) = (p, ps ++ [] ∷ [], refl)

-- ---- no more lines than bytes

piece-count : (bytes : List ℕ) → length (pieces bytes) ≤ length bytes + 1
piece-count [] = omega arith
piece-count (b ∷ bytes) =
    let few = piece-count bytes in
    let some = some-piece bytes in
    let count : length (pieces bytes) ≡ suc (length some.1) = ap length some.2 in
    let case : (c : Bool) → length (cond c ([] ∷ pieces bytes) (onto_first b (pieces bytes))) ≤ length (b ∷ bytes) + 1 = λ c.
    elim c as (λ c. length (cond c ([] ∷ pieces bytes) (onto_first b (pieces bytes))) ≤ length (b ∷ bytes) + 1) [
      | true ↦ omega (arith, few)
      | false ↦ omega (arith, few, count, ap (λ ps. length (onto_first b ps)) some.2)
    ]
    in case (b == 10)

line-count : (bytes rest : List ℕ) (line : ℕ) (d : Draft) → Kept bytes rest line d → length (draft_lines d) ≤ length bytes
line-count bytes rest line d kept =
    let cs = map (line_content (stage_maps (draft_stage d))) (draft_lines d) in
    let some = some-piece rest in
    let most : length (pieces bytes) ≤ length bytes + 1 = piece-count bytes in
    let all : length (pieces bytes) ≡ length cs + length (pieces rest) = ap length kept.read ∙ length-append cs (pieces rest) in
    let last : length (pieces rest) ≡ suc (length some.1) = ap length some.2 in
    let same : length cs ≡ length (draft_lines d) = length-map (draft_lines d) (line_content (stage_maps (draft_stage d))) in
    omega (arith, most, all, last, same)

-- ---- some journal's text agrees with the lines that are read

pub so-far : (bytes rest : List ℕ) (line : ℕ) (d : Draft) → length bytes < 2 ^ 64 → Kept bytes rest line d → SomeAgrees bytes (length (draft_lines d))
so-far bytes rest line d few kept =
    let m = stage_maps (draft_stage d) in
    let ls = draft_lines d in
    let f = line_content m in
    let n = length ls in
    let fewer : n < 2 ^ 64 = omega (arith, few, line-count bytes rest line d kept) in
    let a = begins d.head d kept.fit fewer in
    let j = a.journal in
    let g = line_content j.maps in
    let here = some-piece rest in
    let there = some-end (map g a.more) in
    let left : take n (with_feeds (pieces bytes)) ≡ map (λ l. f l ++ 10 ∷ []) ls =
    ap (λ ps. take n (with_feeds ps)) (kept.read ∙ ap (λ ps. map f ls ++ ps) here.2) ∙ first-lines f ls here.0 here.1 in
    let cut : pieces (journal_text j) ≡ map f ls ++ there.0 ∷ there.1 =
    ap pieces (text-lines j) ∙ lines-cut j.maps (journal_items j) a.fits.maps (items-fit j a.fits) ∙ ap (λ xs. map g xs ++ [] ∷ []) a.items ∙ ap (λ ps. ps ++ [] ∷ []) (map-append g ls a.more)
    ∙ append_assoc (map g ls) (map g a.more) ([] ∷ []) ∙ ap (λ ps. map g ls ++ ps) there.2 ∙ ap (λ ps. ps ++ there.0 ∷ there.1) a.said in
    let right : take n (with_feeds (pieces (journal_text j))) ≡ map (λ l. f l ++ 10 ∷ []) ls = ap (λ ps. take n (with_feeds ps)) cut ∙ first-lines f ls there.0 there.1 in
    (j, a.fits, left ∙ sym right)

-- what stops a reading, with the lines that are read before it
pub says : (bytes rest : List ℕ) (line : ℕ) (d : Draft) → length bytes < 2 ^ 64 → Kept bytes rest line d → ((k : ℕ) × (line ≡ k + 1) × (first_bad Begun (pieces bytes) ≡ Some k)) → FaultSays bytes (fault.Bad line)
says bytes rest line d few kept stopped =
    let same : length (draft_lines d) ≡ stopped.0 = omega (arith, kept.count, stopped.1) in
    (stopped.0, stopped.1, stopped.2, subst (SomeAgrees bytes) same (so-far bytes rest line d few kept))

fewer-agree : (bytes : List ℕ) (n k : ℕ) → n ≤ k → SomeAgrees bytes k → SomeAgrees bytes n
fewer-agree bytes n k h some =
    let t = text_lines bytes in
    let u = text_lines (journal_text some.0) in
    (some.0, some.1, sym (take-take n k t h) ∙ ap (take n) some.2 ∙ take-take n k u h)

pub names-first : NumbersRoundTrip → (bytes : List ℕ) (f : JournalFault) → FaultSays bytes f → NamesFirst bytes f
names-first rt bytes (fault.Bad line) h = record {
  none = λ some. no-one rt bytes line h.0 h.1 h.2 some.0 some.1 some.2;
  before = λ n less. fewer-agree bytes n h.0 (let at : n ≤ h.0 = omega (arith, less, h.1) in at) h.3;
}
names-first rt bytes fault.NoMemory h = tt

-- ---- a journal that is read keeps what its types keep

pub read-fits : (bytes rest : List ℕ) (line : ℕ) (d : Draft) (j : Journal) → length bytes < 2 ^ 64 → Kept bytes rest line d → Finished d j → JournalFits j
read-fits bytes rest line d j few kept f =
    let m = stage_maps (draft_stage d) in
    let fits : Each (LineFits j.maps) (journal_items j) = subst (λ ls. Each (LineFits j.maps) ls) (sym f.items) (subst (λ m. Each (LineFits m) (draft_lines d)) (sym f.maps) kept.fit) in
    let c = class_items j.classes in
    let l = log_items 0 j.logs in
    let h = graph_items j.graphs in
    let t = total_items all_totals j.totals in
    let e1 = length-append c (l ++ (h ++ t)) in
    let e2 = length-append l (h ++ t) in
    let e3 = length-append h t in
    let same : length (journal_items j) ≡ length (draft_lines d) = ap length f.items in
    let most : length (draft_lines d) ≤ length bytes = line-count bytes rest line d kept in
    let all : suc (suc (suc (suc (length (c ++ (l ++ (h ++ t))))))) ≤ length bytes = omega (arith, same, most) in
    let few-logs : length l < 2 ^ 64 = omega (arith, few, all, e1, e2) in
    let few-graphs : length h < 2 ^ 64 = omega (arith, few, all, e1, e2, e3) in
    journal-fits j f.nineteen few-logs few-graphs fits

-- ---- of no bytes the first line is wrong

pub first-wrong-empty : NumbersRoundTrip → IsFirstWrong [] 1
first-wrong-empty rt =
    let j = some-journal in record {
      none = λ some. no-one rt [] 1 0 refl refl some.0 some.1 some.2;
      before = λ n less. (let none : n ≡ 0 = omega (arith, less) in subst (SomeAgrees []) (sym none) (j.0, j.1, refl));
    }
