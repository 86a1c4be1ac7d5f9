-- What the lines of a journal say when all are read.
use Rattle.std.proofs.Common.{◌≡◌, ℕ, suc, ◌+◌, Bool, true, false, cond, ◌&&◌, not, ◌==◌, List, [], ◌∷◌, ◌++◌, Some, None, length, map, refl, sym, ap, ◌∙◌, arith, subst, append_assoc, append-nil}
use Rattle.std.proofs.lemmas.List.Splits.{join_with_byte-slice_split}
use Rattle.std.specs.List.{list_all, join_with_byte, onto_first, position_or_len}
use Rattle.std.specs.Prelude.{IsTrue, position, nat_lt}
use Rattle.bm_word.specs.Number.{NumbersRoundTrip}
use Rattle.bm_journal.specs.declared.entry.Entry.{Entry}
use Rattle.bm_journal.specs.declared.past.Past.{Past}
use Rattle.bm_journal.specs.declared.journal.Journal.{Journal}
use Rattle.bm_journal.specs.JournalText.{journal_text}
use Rattle.bm_journal.specs.Line.{line}
use Rattle.bm_journal.specs.WellFormed.{owner_below, owners_below, is_whole_log, are_whole}
use Rattle.bm_law_text.specs.declared.line.Line.{Line}
use Rattle.bm_law_text.specs.Fits.{Each, LineFits, JournalFits}
use Rattle.bm_law_text.specs.Lines.{lines_text, class_items, entry_items, log_items, past_items, graph_items, total_items}
use Rattle.bm_law_text.specs.Pieces.{pieces}
use Rattle.bm_law_text.proofs.TextBack.{text-lines}
use Rattle.bm_journal_reader.specs.declared.draft.Draft.{Draft}
use Rattle.bm_journal_reader.specs.declared.draft.Head.TheVariants as head
use Rattle.bm_journal_reader.specs.declared.body.Part.TheVariants as part
use Rattle.bm_law_text.specs.declared.line.Line.TheVariants as line_as
use Rattle.bm_journal.specs.TotalNames.{all_totals}
use Rattle.std.proofs.lemmas.Bool.{ltb-false, eqb-true}
use Rattle.std.proofs.lemmas.Bool.Decides.{nat_tests}
use Rattle.bm_journal_reader.specs.Drafts.{Stage, Begun, stage_maps, draft_stage, draft_lines}
use Rattle.bm_journal_reader.specs.Faults.{AgreeIn, first_bad, is_done, is_nothing, line_content, plus, Kept, Finished}
use Rattle.bm_journal_reader.proofs.Refused.{no_feed}
use Rattle.bm_journal_reader.proofs.Stepping.{no-journal}

pub left-each : {X : Type 0} (P : X → Type 0) (xs ys : List X) → Each P (xs ++ ys) → Each P xs
left-each P [] ys h = tt
left-each P (x ∷ xs) ys h = (h.0, left-each P xs ys h.1)

pub right-each : {X : Type 0} (P : X → Type 0) (xs ys : List X) → Each P (xs ++ ys) → Each P ys
right-each P [] ys h = h
right-each P (x ∷ xs) ys h = right-each P xs ys h.1

whole-log : (m : List (List ℕ)) (xs : List (ℕ × Entry)) → Each (LineFits m) (entry_items xs) → IsTrue (is_whole_log xs)
whole-log m [] h = refl
whole-log m (x ∷ xs) h = rw h.0.2 (whole-log m xs h.1)

pub whole-logs : (m : List (List ℕ)) (p : ℕ) (logs : List (List (ℕ × Entry))) → Each (LineFits m) (log_items p logs) → IsTrue (are_whole logs)
whole-logs m p [] h = refl
whole-logs m p (log ∷ logs) h = rw (whole-log m log (left-each (LineFits m) (entry_items log) (log_items (p + 1) logs) h.1)) (whole-logs m (p + 1) logs (right-each (LineFits m) (entry_items log) (log_items (p + 1) logs) h.1))

owned-pasts : (m : List (List ℕ)) (p : ℕ) (xs : List Past) → Each (LineFits m) (past_items p xs) → IsTrue (list_all (λ past. owner_below (length m) past.call) xs)
owned-pasts m p [] h = refl
owned-pasts m p (x ∷ xs) h = rw h.0.2 (owned-pasts m (p + 1) xs h.1)

pub owned-graphs : (m : List (List ℕ)) (gs : List (List ℕ × List Past)) → Each (LineFits m) (graph_items gs) → IsTrue (owners_below (length m) gs)
owned-graphs m [] h = refl
owned-graphs m (g ∷ gs) h = rw (owned-pasts m 0 g.1 (left-each (LineFits m) (past_items 0 g.1) (graph_items gs) h.1)) (owned-graphs m gs (right-each (LineFits m) (past_items 0 g.1) (graph_items gs) h.1))

-- no piece has a line feed
clean-pieces : (bytes : List ℕ) → Each (λ p. no_feed p ≡ true) (pieces bytes)
clean-pieces [] = (refl, tt)
clean-pieces (b ∷ bytes) =
    let case : (c : Bool) → (b == 10) ≡ c → Each (λ p. no_feed p ≡ true) (cond c ([] ∷ pieces bytes) (onto_first b (pieces bytes))) = λ c.
    elim c as (λ c. (b == 10) ≡ c → Each (λ p. no_feed p ≡ true) (cond c ([] ∷ pieces bytes) (onto_first b (pieces bytes))))
    [ true ↦ λ e. (refl, clean-pieces bytes) | false ↦ λ e. first (pieces bytes) e (clean-pieces bytes) ]
    in case (b == 10) refl
  where
    first : (ps : List (List ℕ)) → (b == 10) ≡ false → Each (λ p. no_feed p ≡ true) ps → Each (λ p. no_feed p ≡ true) (onto_first b ps)
    first [] e h = (rw e refl, tt)
    first (p ∷ ps) e h = (rw e h.0, h.1)

pub no-one : NumbersRoundTrip → (bytes : List ℕ) (line k : ℕ) → line ≡ k + 1 → first_bad Begun (pieces bytes) ≡ Some k → (j : Journal) → JournalFits j → AgreeIn line bytes (journal_text j) → ⊥
no-one rt bytes line k e bad j fits agree =
    let s : line ≡ suc k = omega (arith, e) in
    no-journal rt bytes k j (clean-pieces bytes) bad fits (subst (λ n. AgreeIn n bytes (journal_text j)) s agree)

join-lines : (m : List (List ℕ)) (ls : List Line) → join_with_byte 10 (map (line_content m) ls ++ [] ∷ []) ≡ lines_text m ls
unfolding line
join-lines m [] = refl
join-lines m (l ∷ []) = simp (append_assoc, append-nil)
join-lines m (l ∷ k ∷ ls) = ap (λ xs. line_content m l ++ (10 ∷ xs)) (join-lines m (k ∷ ls)) ∙ simp append_assoc

pub whole-text : (bytes : List ℕ) (line : ℕ) (d : Draft) (j : Journal) → Kept bytes [] line d → Finished d j → journal_text j ≡ bytes
whole-text bytes line d j kept f =
    text-lines j ∙ ap (lines_text j.maps) f.items ∙ ap (λ m. lines_text m (draft_lines d)) f.maps ∙ sym (join-lines (stage_maps (draft_stage d)) (draft_lines d))
    ∙ ap (join_with_byte 10) (sym kept.read) ∙ join_with_byte-slice_split 10 bytes

pub finished-parts : (d : Draft) → d.head ≡ head.Behind → d.body.part ≡ part.Totals → Each (LineFits (stage_maps (draft_stage d))) (draft_lines d) → IsTrue (owners_below (length d.maps.items) d.body.graphs.items) × IsTrue (are_whole d.body.logs.items)
finished-parts d e p fit =
    let m = d.maps.items in
    let cs = class_items d.body.classes.items in
    let ls = log_items 0 d.body.logs.items in
    let gs = graph_items d.body.graphs.items in
    let ts = total_items all_totals d.body.totals.items in
    let e1 : stage_maps (draft_stage d) ≡ m = rw e (rw p refl) in
    let front : List Line → List Line = λ xs. line_as.Size d.processors d.pages ∷ line_as.Types d.types.items ∷ line_as.Maps d.maps.items ∷ line_as.Scripts d.scripts.items ∷ xs in
    let e2 : draft_lines d ≡ front (cs ++ (ls ++ (gs ++ ts))) = rw e (rw p (rw (append-nil d.body.logs.items) (rw (append-nil d.body.graphs.items) refl))) in
    let fit1 = subst (λ m. Each (LineFits m) (draft_lines d)) e1 fit in
    let fit2 = subst (Each (LineFits m)) e2 fit1 in
    let body = fit2.1.1.1.1 in
    let behind = right-each (LineFits m) cs (ls ++ (gs ++ ts)) body in
    (owned-graphs m d.body.graphs.items (left-each (LineFits m) gs ts (right-each (LineFits m) ls (gs ++ ts) behind)), whole-logs m 0 d.body.logs.items (left-each (LineFits m) ls (gs ++ ts) behind))

no-cut : (rest : List ℕ) → nat_lt (position_or_len (λ b. b == 10) rest) (length rest) ≡ false → pieces rest ≡ rest ∷ []
no-cut [] h = refl
no-cut (b ∷ rest) h =
    let n = position_or_len (λ b. b == 10) rest in
    let case : (c : Bool) → (b == 10) ≡ c → nat_lt (cond (not c) (1 + n) 0) (suc (length rest)) ≡ false → cond c ([] ∷ pieces rest) (onto_first b (pieces rest)) ≡ (b ∷ rest) ∷ [] = λ c.
    elim c as (λ c. (b == 10) ≡ c → nat_lt (cond (not c) (1 + n) 0) (suc (length rest)) ≡ false → cond c ([] ∷ pieces rest) (onto_first b (pieces rest)) ≡ (b ∷ rest) ∷ []) [
      | true ↦ λ e h. absurd (omega (arith, ltb-false 0 (suc (length rest)) h))
      | false ↦ λ e h. (let less : nat_lt n (length rest) ≡ false = grind (arith, nat_tests) in ap (onto_first b) (no-cut rest less))
    ]
    in case (b == 10) refl h

pub end-bad : (bytes rest : List ℕ) (line : ℕ) (d : Draft) → Kept bytes rest line d → position (λ b. b == 10) rest ≡ None → (is_done (draft_stage d) && is_nothing rest) ≡ false → (k : ℕ) × (line ≡ k + 1) × (first_bad Begun (pieces bytes) ≡ Some k)
end-bad bytes rest line d kept none not_done =
    let n = position_or_len (λ b. b == 10) rest in
    let none_less : nat_lt n (length rest) ≡ false = not_found (nat_lt n (length rest)) n none in
    let now : first_bad (draft_stage d) (pieces rest) ≡ Some 0 = ap (first_bad (draft_stage d)) (no-cut rest none_less) ∙ ap (λ b. cond b None (Some 0)) not_done in
    let e : line ≡ length (draft_lines d) + 0 + 1 = omega (arith, kept.count) in
    (length (draft_lines d) + 0, e, kept.bad ∙ ap (plus (length (draft_lines d))) now)
  where
    not_found : (b : Bool) (n : ℕ) → cond b (Some n) None ≡ None → b ≡ false
    not_found true n h = cc
    not_found false n h = refl

pub nothing-left : (rest : List ℕ) → length rest ≡ 0 → rest ≡ []
nothing-left [] e = refl
nothing-left (b ∷ rest) e = absurd (omega (arith, e))

pub done-none : (s : Stage) (rest : List ℕ) → is_done s ≡ false → (is_done s && is_nothing rest) ≡ false
done-none s rest e = rw e refl

pub left-none : (s : Stage) (rest : List ℕ) → (rest ≡ [] → ⊥) → (is_done s && is_nothing rest) ≡ false
left-none s [] h = absurd (h refl)
left-none s (b ∷ rest) h = and_false (is_done s)
  where
    and_false : (b : Bool) → (b && false) ≡ false
    and_false true = refl
    and_false false = refl

pub empty-no : (rest : List ℕ) (b : Bool) → b ≡ (length rest == 0) → b ≡ false → rest ≡ [] → ⊥
empty-no rest b e f g = cc (ap (λ r. length r == 0) g)

pub empty-yes : (rest : List ℕ) (b : Bool) → b ≡ (length rest == 0) → b ≡ true → rest ≡ []
empty-yes rest b e f = nothing-left rest (eqb-true (length rest) 0 (sym e ∙ f))
