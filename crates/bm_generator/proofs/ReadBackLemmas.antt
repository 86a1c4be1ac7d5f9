-- What is printed of a generated scenario reads back as it, line numbers apart.
use Rattle.std.proofs.Common.{◌≡◌, ℕ, zero, suc, ◌+◌, ◌<◌, ◌≤◌, ◌^◌, ◌/◌, Bool, true, false, ◌==◌, ◌&&◌, List, [], ◌∷◌, ◌++◌, length, refl, ap, ◌∙◌, arith, lit≤, lit<, Option, Some, None}
use Rattle.std.proofs.lemmas.Bool.Decides.{nat_tests}
use Rattle.std.proofs.Math.Nat.{mod-lt}
use Rattle.std.specs.Prelude.{nat_lt, map}
use Rattle.std.specs.Option.{is_none}
use Rattle.std.specs.List.{list_all, flat_map}
use Rattle.bm_word.specs.Word.{is_word}
use Rattle.bm_lang.specs.Keywords.{keyword_of}
use Rattle.bm_lang.specs.declared.scenario.Action.{Drop, Exchange, Lock, Unlock, PushBack, Add}
use Rattle.bm_lang.specs.declared.scenario.Statement.{Statement}
use Rattle.bm_lang.specs.Tokens.{Sort, Open, Close, Number, Reserved, Name, End, Wrong, Mark, tokens, start}
use Rattle.bm_lang.specs.Texts.{sorts}
use Rattle.bm_lang.specs.Spelling.{Word, any, on, number, script_form, spell_block, spell_script, spell_run, spell_at, spell_turns, spell_scenario}
use Rattle.bm_lang.specs.Reads.{Says}
use Rattle.bm_lang.specs.Scenarios.{ReadsButLines}
use Rattle.bm_lang.specs.Printing.{printed}
use Rattle.bm_lang.proofs.Spaced.{IsPrinted, ArePrinted, legal_printed, word_sorts, printed_tokens}
use Rattle.bm_generator.specs.declared.pieces.Piece.{Piece}
use Rattle.bm_generator.specs.declared.pieces.Piece.TheVariants as piece
use Rattle.bm_generator.specs.Draws.{drawn, next}
use Rattle.bm_generator.specs.Pieces.{picked, piece as drawn_piece, behind_piece, pieces, behind_pieces}
use Rattle.bm_generator.specs.Generated.{generated, room, x, o, g, q, t, spare, on_line, unless_null, block_of, statements, height, heights, body, script, scripts, handler, handler_line, behind_script, runs, ats, turns}
use Rattle.bm_generator.proofs.TextLemmas.{known_types, known_maps, words, words-append, block_words, fits}
use Rattle.bm_generator.proofs.Conditions.{has_conditions}

pub bool_cases : {P : Type 0} (b : Bool) → (b ≡ true → P) → (b ≡ false → P) → P
bool_cases true p r = p refl
bool_cases false p r = r refl

-- whether a word's text is its token
abbrev is_fine : Sort → Bool
is_fine Open = true
is_fine Close = true
is_fine (Number n) = nat_lt n (2 ^ 32)
is_fine (Reserved w) = true
is_fine (Name bytes) = is_word bytes && is_none (keyword_of bytes)
is_fine End = false
is_fine (Wrong why) = false

abbrev are_fine : List Word → Bool
are_fine ws = list_all (λ w. is_fine w.sort) ws

both : (a b : Bool) → a && b ≡ true → (a ≡ true) × (b ≡ true)
both true b h = (refl, h)
both false b h = cc

two : (a b : Bool) → a ≡ true → b ≡ true → a && b ≡ true
two a b h k = rw (h, k) refl

none_is : {X : Type 0} (v : Option X) → is_none v ≡ true → v ≡ None
none_is None h = refl
none_is (Some v) h = cc

fine_printed : (s : Sort) → is_fine s ≡ true → IsPrinted s
fine_printed Open h = legal_printed Open refl tt
fine_printed Close h = legal_printed Close refl tt
fine_printed (Number n) h = legal_printed (Number n) refl (let small : n < 2 ^ 32 = grind (arith, nat_tests) in small)
fine_printed (Reserved w) h = legal_printed (Reserved w) refl tt
fine_printed (Name bytes) h = let k = both (is_word bytes) (is_none (keyword_of bytes)) h in legal_printed (Name bytes) refl (k.0, none_is (keyword_of bytes) k.1)
fine_printed End h = cc
fine_printed (Wrong why) h = cc

are_printed : (ws : List Word) → are_fine ws ≡ true → ArePrinted ws
are_printed [] h = tt
are_printed (w ∷ ws) h = let k = both (is_fine w.sort) (are_fine ws) h in (fine_printed w.sort k.0, are_printed ws k.1)

fine_append : (ws vs : List Word) → are_fine ws ≡ true → are_fine vs ≡ true → are_fine (ws ++ vs) ≡ true
fine_append [] vs h k = k
fine_append (w ∷ ws) vs h k = let b = both (is_fine w.sort) (are_fine ws) h in two (is_fine w.sort) (are_fine (ws ++ vs)) b.0 (fine_append ws vs b.1 k)

-- ---- pieces

abbrev IsSmall : Piece → Type 0
IsSmall (piece.Push a b) = (nat_lt a (2 ^ 32) ≡ true) × (nat_lt b (2 ^ 32) ≡ true)
IsSmall piece.Pop = Unit {0}
IsSmall (piece.Plant k) = nat_lt k (2 ^ 32) ≡ true
IsSmall piece.Pick = Unit {0}
IsSmall (piece.Swap v) = nat_lt v (2 ^ 32) ≡ true
IsSmall piece.Yield = Unit {0}

pub below : (k s : ℕ) → 0 < k → drawn k s < k
unfolding drawn
below k s some = mod-lt (s / 2 ^ 33) some

small : (k s : ℕ) → 0 < k → k ≤ 100 → nat_lt (drawn k s) (2 ^ 32) ≡ true
small k s some few = let h = below k s some in grind (arith, nat_tests)

picked_small : (c s : ℕ) → IsSmall (picked c s)
picked_small c s =
    bool_cases (c == 0) (λ e. rw e (small 100 (next s) (lit< tt) (lit≤ tt), small 100 (next (next s)) (lit< tt) (lit≤ tt))) (λ e0.
    bool_cases (c == 1) (λ e. rw (e0, e) tt) (λ e1.
    bool_cases (c == 2) (λ e. rw (e0, e1, e) (small 50 (next s) (lit< tt) (lit≤ tt))) (λ e2.
    bool_cases (c == 3) (λ e. rw (e0, e1, e2, e) tt) (λ e3.
    bool_cases (c == 4) (λ e. rw (e0, e1, e2, e3, e) (small 100 (next s) (lit< tt) (lit≤ tt))) (λ e4. rw (e0, e1, e2, e3, e4) tt)))))

fine_piece : (l : ℕ) (p : Piece) → IsSmall p → are_fine (words (statements l p)) ≡ true
unfolding keyword_of
fine_piece l (piece.Push a b) h = rw (block_words (on_line (l + 2) (Lock q) ∷ on_line (l + 3) (PushBack q x) ∷ on_line (l + 4) Unlock ∷ []) (l + 5) (lit≤ tt), h.0, h.1) refl
fine_piece l piece.Pop h = rw (block_words (on_line (l + 4) (Drop x) ∷ []) (l + 5) (lit≤ tt)) refl
fine_piece l (piece.Plant k) h = rw (block_words (on_line (l + 2) (Lock t) ∷ on_line (l + 3) (Add t x) ∷ on_line (l + 4) Unlock ∷ []) (l + 5) (lit≤ tt), h) refl
fine_piece l piece.Pick h = rw (block_words (on_line (l + 5) (Drop g) ∷ []) (l + 6) (lit≤ tt)) refl
fine_piece l (piece.Swap v) h = rw (block_words (on_line (l + 2) (Exchange o spare (Some x)) ∷ unless_null (l + 3) o (on_line (l + 4) (Drop o) ∷ []) (l + 5) ∷ []) (l + 6) (lit≤ tt), block_words (on_line (l + 4) (Drop o) ∷ []) (l + 5) (lit≤ tt), h) refl
fine_piece l piece.Yield h = refl

fine_body : (n s l : ℕ) → are_fine (words (body l (pieces n s))) ≡ true
fine_body zero s l = refl
fine_body (suc n) s l =
    let p = drawn_piece s in
    ap are_fine (words-append (statements l p) (body (l + height p) (pieces n (behind_piece s))))
    ∙ fine_append (words (statements l p)) (words (body (l + height p) (pieces n (behind_piece s)))) (fine_piece l p (picked_small (drawn 6 (next s)) (next s))) (fine_body n (behind_piece s) (l + height p))

fine_block : (ss : List Statement) (e : ℕ) → length ss ≤ room → are_fine (words ss) ≡ true → are_fine (spell_block known_types known_maps (block_of ss e)) ≡ true
fine_block ss e le h = ap are_fine (block_words ss e le) ∙ fine_append (words ss) (on e Close ∷ []) h refl

fine_script : (n s l : ℕ) → n ≤ 2000 → are_fine (spell_block known_types known_maps (block_of (body (l + 1) (pieces n s)) (l + 1 + heights (pieces n s)))) ≡ true
fine_script n s l few = fine_block (body (l + 1) (pieces n s)) (l + 1 + heights (pieces n s)) (fits n s (l + 1) few) (fine_body n s (l + 1))

fine_turns : (n : ℕ) → are_fine (map number (turns n)) ≡ true
fine_turns zero = refl
fine_turns (suc n) = fine_turns n

-- ---- the whole

script_words : (p l n s : ℕ) → n ≤ 2000 → is_fine (Name (112 ∷ (48 + p) ∷ [])) ≡ true → are_fine (spell_script known_types known_maps (script p l (pieces n s))) ≡ true
script_words p l n s few h = two (is_fine (Name (112 ∷ (48 + p) ∷ []))) _ h (fine_script n s l few)

handler_words : (l : ℕ) → are_fine (spell_script known_types known_maps (handler l)) ≡ true
unfolding keyword_of
handler_words l = fine_block (statements (l + 1) (piece.Swap 7)) (l + 8) (lit≤ tt) (fine_piece (l + 1) (piece.Swap 7) refl)

fine_scripts : (n s : ℕ) → n ≤ 2000 → are_fine (flat_map (spell_script known_types known_maps) (scripts 4 0 n s 17)) ≡ true
unfolding keyword_of
fine_scripts n s few =
    let spell = spell_script known_types known_maps in
    let l1 = behind_script 17 (pieces n s) in
    let s1 = behind_pieces n s in
    let l2 = behind_script l1 (pieces n s1) in
    let s2 = behind_pieces n s1 in
    let l3 = behind_script l2 (pieces n s2) in
    let s3 = behind_pieces n s2 in
    let l4 = behind_script l3 (pieces n s3) in
    let s4 = behind_pieces n s3 in
    fine_append (spell (script 0 17 (pieces n s))) (flat_map spell (scripts 3 1 n s1 l1)) (script_words 0 17 n s few refl)
    (fine_append (spell (script 1 l1 (pieces n s1))) (flat_map spell (scripts 2 2 n s2 l2)) (script_words 1 l1 n s1 few refl)
    (fine_append (spell (script 2 l2 (pieces n s2))) (flat_map spell (scripts 1 3 n s3 l3)) (script_words 2 l2 n s2 few refl)
    (fine_append (spell (script 3 l3 (pieces n s3))) (flat_map spell (scripts 0 4 n s4 l4)) (script_words 3 l3 n s3 few refl)
    (fine_append (spell (handler l4)) [] (handler_words l4) refl))))

fine_behind : (n s l k : ℕ) → are_fine (flat_map (spell_run (map script_form (scripts 4 0 n s 17))) (runs l) ++ (flat_map (spell_at (map script_form (scripts 4 0 n s 17))) (ats k) ++ (spell_turns (Some (turns n)) ++ any Close ∷ []))) ≡ true
unfolding keyword_of
fine_behind n s l k = fine_append (map number (turns n) ++ any Close ∷ []) (any Close ∷ []) (fine_append (map number (turns n)) (any Close ∷ []) (fine_turns n) refl) refl

fine_scenario : (n s : ℕ) → n ≤ 2000 → are_fine (spell_scenario (generated n s)) ≡ true
unfolding keyword_of
fine_scenario n s few =
    let h = handler_line 4 n s 17 in
    let ss = map script_form (scripts 4 0 n s 17) in
    fine_append (flat_map (spell_script known_types known_maps) (scripts 4 0 n s 17)) (flat_map (spell_run ss) (runs (h + 9)) ++ (flat_map (spell_at ss) (ats (h + 13)) ++ (spell_turns (Some (turns n)) ++ any Close ∷ [])))
    (fine_scripts n s few) (fine_behind n s (h + 9) (h + 13))

says_of : (ws : List Word) (ms : List Mark) → sorts ms ≡ word_sorts ws → Says ms ws []
says_of [] [] h = refl
says_of [] (m ∷ ms) h = cc
says_of (w ∷ ws) [] h = cc
says_of (w ∷ ws) (m ∷ ms) h =
    let e : m.sort ≡ w.sort = cc in
    let r : sorts ms ≡ word_sorts ws = cc in
    (m.place, ms, ap (λ (t : Sort). let x : Mark = record { sort = t; place = m.place } in x ∷ ms) e, says_of ws ms r)

pub scenario_printed : (n s : ℕ) → n ≤ 2000 → ArePrinted (spell_scenario (generated n s))
scenario_printed n s few = are_printed (spell_scenario (generated n s)) (fine_scenario n s few)

pub reads_back : (n s : ℕ) → n ≤ 2000 → ReadsButLines (printed (spell_scenario (generated n s))) (generated n s)
reads_back n s few =
    let ws = spell_scenario (generated n s) in
    record { said = says_of (ws ++ any End ∷ []) (tokens start (printed ws)) (printed_tokens ws start (scenario_printed n s few)); conditions = has_conditions n s few }
