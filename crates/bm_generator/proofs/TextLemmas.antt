-- What is printed of the parts of a generated scenario.
use Rattle.std.proofs.Common.{◌≡◌, ℕ, zero, suc, ◌+◌, ◌-◌, ◌*◌, ◌<◌, ◌≤◌, true, List, [], ◌∷◌, ◌++◌, length, length-append, refl, sym, ap, ◌∙◌, Some, append_assoc, arith, codes, lit≤, lit<}
use Rattle.std.specs.Prelude.{map, decimal}
use Rattle.std.specs.List.{flat_map}
use Rattle.std.proofs.lemmas.List.{take_all, append-nil}
use Rattle.std.proofs.lemmas.Fmt.{decimal_digit, decimal_step}
use Rattle.std.proofs.lemmas.Grind.{flat_map-append}
use Rattle.bm_lang.specs.declared.keyword.Keyword.TheVariants as word
use Rattle.bm_lang.specs.Keywords.{keyword_text}
use Rattle.bm_lang.specs.declared.scenario.Action.{Drop, Exchange, Lock, Unlock, PushBack, Add}
use Rattle.bm_lang.specs.declared.scenario.Statement.{Statement}
use Rattle.bm_lang.specs.Tokens.{Open, Close}
use Rattle.bm_lang.specs.Names.{TypeForm, MapForm}
use Rattle.bm_lang.specs.Built.{spell_statement}
use Rattle.bm_lang.specs.Spelling.{Word, any, on, number, reserved, type_form, map_form, script_form, spell_block, spell_header, spell_type, spell_map, spell_script, spell_run, spell_at, spell_turns, spell_scenario}
use Rattle.bm_lang.specs.Printing.{printed}
use Rattle.bm_lang.proofs.Printed.{begins, printed-lines, open_line, word_before_block}
use Rattle.bm_lang.proofs.Listed.{scenario_printed}
use Rattle.bm_lang.proofs.Trees.{block_is}
use Rattle.bm_generator.specs.declared.pieces.Piece.{Piece}
use Rattle.bm_generator.specs.declared.pieces.Piece.TheVariants.{Push, Pop, Plant, Pick, Swap, Yield}
use Rattle.bm_generator.specs.Pieces.{piece, behind_piece, pieces, behind_pieces}
use Rattle.bm_generator.specs.Generated.{generated, types, maps, q, t, spare, x, o, g, on_line, unless_null, room, block_of, body, statements, height, heights, script, scripts, handler, handler_line, behind_script, runs, ats, turns}
use Rattle.bm_generator.specs.Texts.{piece_text, header_text, types_text, maps_text, script_text, scripts_text, handler_text, run_text, at_text, rounds_text, turns_text}

-- what the declarations make known
abbrev pub known_types : List TypeForm
known_types = map type_form types

abbrev pub known_maps : List MapForm
known_maps = map map_form maps

-- the words of statements
abbrev pub words : List Statement → List Word
words = flat_map (spell_statement known_types known_maps)

-- ---- draws

pub pieces_step : (n i s : ℕ) → i < n → pieces (n - i) s ≡ piece s ∷ pieces (n - (i + 1)) (behind_piece s)
pieces_step n i s lt = let e : n - i ≡ suc (n - (i + 1)) = omega arith in ap (λ k. pieces k s) e

pub behind_step : (n i s : ℕ) → i < n → behind_pieces (n - i) s ≡ behind_pieces (n - (i + 1)) (behind_piece s)
behind_step n i s lt = let e : n - i ≡ suc (n - (i + 1)) = omega arith in ap (λ k. behind_pieces k s) e

-- ---- what functions write

pub line_written : (o0 o1 o2 o3 a d t : List ℕ) → o1 ≡ o0 ++ a → o2 ≡ o1 ++ (d ++ 10 ∷ []) → o3 ≡ o2 ++ t → o3 ≡ o0 ++ (a ++ (d ++ 10 ∷ t))
line_written o0 o1 o2 o3 a d t e1 e2 e3 = rw (e3, e2, e1) (simp append_assoc)

pub job_written : (o0 o1 o2 o3 o4 o5 a d e t : List ℕ) → o1 ≡ o0 ++ a → o2 ≡ o1 ++ d → o3 ≡ o2 ++ 32 ∷ [] → o4 ≡ o3 ++ (e ++ 10 ∷ []) → o5 ≡ o4 ++ t → o5 ≡ o0 ++ (a ++ (d ++ 32 ∷ (e ++ 10 ∷ t)))
job_written o0 o1 o2 o3 o4 o5 a d e t e1 e2 e3 e4 e5 = rw (e5, e4, e3, e2, e1) (simp append_assoc)

pub lines_written : (o0 o1 o2 o3 o4 o5 a p c r t : List ℕ) → o1 ≡ o0 ++ a → o2 ≡ o1 ++ p → o3 ≡ o2 ++ c → o4 ≡ o3 ++ r → o5 ≡ o4 ++ t → o5 ≡ o0 ++ ((a ++ (p ++ c)) ++ (r ++ t))
lines_written o0 o1 o2 o3 o4 o5 a p c r t e1 e2 e3 e4 e5 = rw (e5, e4, e3, e2, e1) (simp append_assoc)

pub piece_written : (o0 o o1 : List ℕ) (n i s u : ℕ) (p : Piece) → i < n → p ≡ piece s → u ≡ behind_piece s → o1 ≡ o ++ piece_text p
    → o ++ flat_map piece_text (pieces (n - i) s) ≡ o0 → o1 ++ flat_map piece_text (pieces (n - (i + 1)) u) ≡ o0
piece_written o0 o o1 n i s u p lt ep eu e1 h =
    rw (e1, ep, eu) (append_assoc o (piece_text (piece s)) _ ∙ ap (λ ps. o ++ flat_map piece_text ps) (sym (pieces_step n i s lt)) ∙ h)

pub piece_passed : (n i s u b : ℕ) → i < n → u ≡ behind_piece s → behind_pieces (n - i) s ≡ b → behind_pieces (n - (i + 1)) u ≡ b
piece_passed n i s u b lt eu h = rw eu (sym (behind_step n i s lt) ∙ h)

pub script_written : (o0 o o1 : List ℕ) (p n s u : ℕ) → p < 4 → u ≡ behind_pieces n s → o1 ≡ o ++ script_text p (pieces n s)
    → o ++ scripts_text (4 - p) p n s ≡ o0 → o1 ++ scripts_text (4 - (p + 1)) (p + 1) n u ≡ o0
script_written o0 o o1 p n s u lt eu e1 h =
    let k : 4 - p ≡ suc (4 - (p + 1)) = omega arith in
    rw (e1, eu) (append_assoc o (script_text p (pieces n s)) _ ∙ ap (λ k. o ++ scripts_text k p n s) (sym k) ∙ h)

-- ---- numbers

d : (n : ℕ) → n < 10 → decimal n ≡ (48 + n) ∷ []
d n h = decimal_digit n h

d64 : decimal 64 ≡ 54 ∷ 52 ∷ []
d64 = decimal_step 64 (lit≤ tt) (lit< tt) ∙ ap (λ ds. ds ++ 52 ∷ []) (d 6 (lit< tt))

d100 : decimal 100 ≡ 49 ∷ 48 ∷ 48 ∷ []
d100 = decimal_step 100 (lit≤ tt) (lit< tt) ∙ ap (λ ds. ds ++ 48 ∷ []) (decimal_step 10 (lit≤ tt) (lit< tt) ∙ ap (λ ds. ds ++ 48 ∷ []) (d 1 (lit< tt)))

d200 : decimal 200 ≡ 50 ∷ 48 ∷ 48 ∷ []
d200 = decimal_step 200 (lit≤ tt) (lit< tt) ∙ ap (λ ds. ds ++ 48 ∷ []) (decimal_step 20 (lit≤ tt) (lit< tt) ∙ ap (λ ds. ds ++ 48 ∷ []) (d 2 (lit< tt)))

d0 : decimal 0 ≡ 48 ∷ []
d0 = d 0 (lit< tt)

d1 : decimal 1 ≡ 49 ∷ []
d1 = d 1 (lit< tt)

d2 : decimal 2 ≡ 50 ∷ []
d2 = d 2 (lit< tt)

d3 : decimal 3 ≡ 51 ∷ []
d3 = d 3 (lit< tt)

d4 : decimal 4 ≡ 52 ∷ []
d4 = d 4 (lit< tt)

-- ---- blocks

pub block_words : (ss : List Statement) (l : ℕ) → length ss ≤ room → spell_block known_types known_maps (block_of ss l) ≡ any Open ∷ (words ss ++ on l Close ∷ [])
block_words ss l le =
    block_is known_types known_maps _ l ∙ ap (λ (xs : List Statement). any Open ∷ (words xs ++ on l Close ∷ [])) (take_all room ss le)

pub block_text : (ss : List Statement) (l : ℕ) → length ss ≤ room → printed (spell_block known_types known_maps (block_of ss l)) ≡ 123 ∷ 10 ∷ (printed (words ss) ++ 125 ∷ 10 ∷ [])
block_text ss l le =
    ap printed (block_words ss l le) ∙ open_line (words ss ++ on l Close ∷ [])
    ∙ ap (λ (t : List ℕ). 123 ∷ 10 ∷ t) (printed-lines (words ss) (on l Close ∷ []) refl)

-- ---- pieces

-- where a piece stands makes no difference to its text
pub text_of : (l : ℕ) (p : Piece) → printed (words (statements l p)) ≡ piece_text p
text_of l (Push a b) = rw (block_words (on_line (l + 2) (Lock q) ∷ on_line (l + 3) (PushBack q x) ∷ on_line (l + 4) Unlock ∷ []) (l + 5) (lit≤ tt)) refl
text_of l Pop = rw (block_words (on_line (l + 4) (Drop x) ∷ []) (l + 5) (lit≤ tt)) refl
text_of l (Plant k) = rw (block_words (on_line (l + 2) (Lock t) ∷ on_line (l + 3) (Add t x) ∷ on_line (l + 4) Unlock ∷ []) (l + 5) (lit≤ tt)) refl
text_of l Pick = rw (block_words (on_line (l + 5) (Drop g) ∷ []) (l + 6) (lit≤ tt)) refl
text_of l (Swap v) = rw (block_words (on_line (l + 2) (Exchange o spare (Some x)) ∷ unless_null (l + 3) o (on_line (l + 4) (Drop o) ∷ []) (l + 5) ∷ []) (l + 6) (lit≤ tt), block_words (on_line (l + 4) (Drop o) ∷ []) (l + 5) (lit≤ tt)) refl
text_of l Yield = refl

pub words-append : (xs ys : List Statement) → words (xs ++ ys) ≡ words xs ++ words ys
words-append xs ys = flat_map-append _ xs ys

pub body_begins : (l : ℕ) (ps : List Piece) → begins (words (body l ps)) ≡ true
body_begins l [] = refl
body_begins l (Push a b ∷ ps) = refl
body_begins l (Pop ∷ ps) = refl
body_begins l (Plant k ∷ ps) = refl
body_begins l (Pick ∷ ps) = refl
body_begins l (Swap v ∷ ps) = refl
body_begins l (Yield ∷ ps) = refl

pub body_text : (l : ℕ) (ps : List Piece) → printed (words (body l ps)) ≡ flat_map piece_text ps
body_text l [] = refl
body_text l (p ∷ ps) =
    ap printed (words-append (statements l p) (body (l + height p) ps))
    ∙ printed-lines (words (statements l p)) (words (body (l + height p) ps)) (body_begins (l + height p) ps)
    ∙ ap (λ (t : List ℕ). t ++ printed (words (body (l + height p) ps))) (text_of l p)
    ∙ ap (λ (t : List ℕ). piece_text p ++ t) (body_text (l + height p) ps)

-- ---- scripts' lengths

pub length_statements : (l : ℕ) (p : Piece) → length (statements l p) ≤ 5
length_statements l (Push a b) = lit≤ tt
length_statements l Pop = lit≤ tt
length_statements l (Plant k) = lit≤ tt
length_statements l Pick = lit≤ tt
length_statements l (Swap v) = lit≤ tt
length_statements l Yield = lit≤ tt

pub length_body : (l : ℕ) (ps : List Piece) → length (body l ps) ≤ 5 * length ps
length_body l [] = omega arith
length_body l (p ∷ ps) = omega (arith, length-append (statements l p) (body (l + height p) ps), length_statements l p, length_body (l + height p) ps)

pub length_pieces : (n s : ℕ) → length (pieces n s) ≡ n
length_pieces zero s = refl
length_pieces (suc n) s = ap suc (length_pieces n (behind_piece s))

-- a script's statements fit its block
pub fits : (n s l : ℕ) → n ≤ 2000 → length (body l (pieces n s)) ≤ room
fits n s l few = omega (arith, length_body l (pieces n s), length_pieces n s)

-- ---- scripts

-- a script's text behind its name
abbrev front : ℕ → List ℕ → List ℕ
front p t = codes "script p" ++ (48 + p) ∷ 32 ∷ t

pub script_is : (p l n s : ℕ) → n ≤ 2000 → printed (spell_script known_types known_maps (script p l (pieces n s))) ≡ script_text p (pieces n s)
script_is p l n s few =
    let ss = body (l + 1) (pieces n s) in
    let e = l + 1 + heights (pieces n s) in
    let b = block_of ss e in
    ap (front p) (word_before_block known_types known_maps b (reserved word.Plain) refl)
    ∙ ap (λ (t : List ℕ). front p (keyword_text word.Plain ++ 32 ∷ t)) (block_text ss e (fits n s (l + 1) few))
    ∙ ap (λ (t : List ℕ). front p (keyword_text word.Plain ++ 32 ∷ 123 ∷ 10 ∷ (t ++ 125 ∷ 10 ∷ []))) (body_text (l + 1) (pieces n s))

handler_is : (l : ℕ) → printed (spell_script known_types known_maps (handler l)) ≡ handler_text
handler_is l =
    let ss = statements (l + 1) (Swap 7) in
    let b = block_of ss (l + 8) in
    ap (λ (t : List ℕ). codes "script h " ++ t) (word_before_block known_types known_maps b (reserved word.Handler) refl)
    ∙ ap (λ (t : List ℕ). codes "script h handler " ++ t) (block_text ss (l + 8) (lit≤ tt))
    ∙ ap (λ (t : List ℕ). codes "script h handler {\n" ++ (t ++ 125 ∷ 10 ∷ [])) (text_of (l + 1) (Swap 7))

pub scripts_begin : (k p n s l : ℕ) → begins (flat_map (spell_script known_types known_maps) (scripts k p n s l)) ≡ true
scripts_begin zero p n s l = refl
scripts_begin (suc k) p n s l = refl

pub scripts_are : (k p n s l : ℕ) → n ≤ 2000 → printed (flat_map (spell_script known_types known_maps) (scripts k p n s l)) ≡ scripts_text k p n s ++ handler_text
scripts_are zero p n s l few = ap printed (append-nil (spell_script known_types known_maps (handler l))) ∙ handler_is l
scripts_are (suc k) p n s l few =
    let spell = spell_script known_types known_maps in
    let first = spell (script p l (pieces n s)) in
    let more = flat_map spell (scripts k (p + 1) n (behind_pieces n s) (behind_script l (pieces n s))) in
    printed-lines first more (scripts_begin k (p + 1) n (behind_pieces n s) (behind_script l (pieces n s)))
    ∙ ap (λ (t : List ℕ). t ++ printed more) (script_is p l n s few)
    ∙ ap (λ (t : List ℕ). script_text p (pieces n s) ++ t) (scripts_are k (p + 1) n (behind_pieces n s) (behind_script l (pieces n s)) few)
    ∙ sym (append_assoc (script_text p (pieces n s)) (scripts_text k (p + 1) n (behind_pieces n s)) handler_text)

-- ---- turns

digit_before : (n m : ℕ) (ws : List Word) → n < 10 → printed (number n ∷ number m ∷ ws) ≡ (48 + n) ∷ 32 ∷ printed (number m ∷ ws)
digit_before n m ws h = ap (λ (t : List ℕ). t ++ 32 ∷ printed (number m ∷ ws)) (d n h)

rounds_are : (n : ℕ) → printed (map number (turns n)) ≡ rounds_text n
rounds_are zero = refl
rounds_are (suc zero) = rw (d0, d1, d2, d3) refl
rounds_are (suc (suc n)) =
    let more = map number (turns (suc n)) in
    digit_before 0 1 (number 2 ∷ number 3 ∷ more) (lit< tt)
    ∙ ap (λ (t : List ℕ). codes "0 " ++ t) (digit_before 1 2 (number 3 ∷ more) (lit< tt))
    ∙ ap (λ (t : List ℕ). codes "0 1 " ++ t) (digit_before 2 3 more (lit< tt))
    ∙ ap (λ (t : List ℕ). codes "0 1 2 " ++ t) (digit_before 3 0 (number 1 ∷ number 2 ∷ number 3 ∷ map number (turns n)) (lit< tt))
    ∙ ap (λ (t : List ℕ). codes "0 1 2 3 " ++ t) (rounds_are (suc n))

turns_are : (ns : List ℕ) → printed (spell_turns (Some ns)) ≡ codes "turns {\n" ++ (printed (map number ns) ++ codes "}\n")
turns_are ns =
    let m : printed (spell_turns (Some ns)) ≡ codes "turns {\n" ++ printed (map number ns ++ any Close ∷ []) = open_turns (map number ns ++ any Close ∷ []) in
    m ∙ ap (λ (t : List ℕ). codes "turns {\n" ++ t) (printed-lines (map number ns) (any Close ∷ []) refl)
  where
    open_turns : (ws : List Word) → printed (reserved word.Turns ∷ any Open ∷ ws) ≡ codes "turns {\n" ++ printed ws
    open_turns [] = refl
    open_turns (w ∷ ws) = refl

rounds_step : (n i : ℕ) → 1 ≤ i → i < n → rounds_text (n + 1 - i) ≡ codes "0 1 2 3 " ++ rounds_text (n + 1 - (i + 1))
rounds_step n i some lt =
    let e : n + 1 - i ≡ suc (suc (n - (i + 1))) = omega arith in
    let f : n + 1 - (i + 1) ≡ suc (n - (i + 1)) = omega arith in
    ap rounds_text e ∙ sym (ap (λ k. codes "0 1 2 3 " ++ rounds_text k) f)

pub round_written : (o0 o o1 : List ℕ) (n i : ℕ) → 1 ≤ i → i < n → o1 ≡ o ++ codes "0 1 2 3 " → o ++ rounds_text (n + 1 - i) ≡ o0 → o1 ++ rounds_text (n + 1 - (i + 1)) ≡ o0
round_written o0 o o1 n i some lt e1 h =
    rw e1 (append_assoc o (codes "0 1 2 3 ") _ ∙ ap (λ (t : List ℕ). o ++ t) (sym (rounds_step n i some lt)) ∙ h)

pub turns_written : (o0 o1 o o2 : List ℕ) (n i : ℕ) → n ≤ i → i ≤ n → o1 ≡ o0 ++ codes "turns {\n" → o ++ rounds_text (n + 1 - i) ≡ o1 ++ rounds_text n → o2 ≡ o ++ codes "0 1 2 3\n}\n"
    → o2 ≡ o0 ++ turns_text n
turns_written o0 o1 o o2 n i a b e1 h e2 =
    let e : n + 1 - i ≡ 1 = omega arith in
    let last : o ++ codes "0 1 2 3\n" ≡ o1 ++ rounds_text n = ap (λ k. o ++ rounds_text k) (sym e) ∙ h in
    e2 ∙ sym (append_assoc o (codes "0 1 2 3\n") (codes "}\n")) ∙ ap (λ (t : List ℕ). t ++ codes "}\n") last
    ∙ rw e1 (append_assoc (o0 ++ codes "turns {\n") (rounds_text n) (codes "}\n") ∙ append_assoc o0 (codes "turns {\n") (rounds_text n ++ codes "}\n"))

-- ---- the whole

-- the parts of a text, as the code writes them and as they are printed
grouped : (h t m sc ha r a tu c o1 o2 o3 o4 o5 : List ℕ) → o1 ≡ [] ++ (h ++ (t ++ m)) → o2 ≡ o1 ++ sc → o3 ≡ o2 ++ (ha ++ (r ++ a)) → o4 ≡ o3 ++ tu → o5 ≡ o4 ++ c
    → o5 ≡ ((((((([] ++ h) ++ t) ++ m) ++ (sc ++ ha)) ++ r) ++ a) ++ tu) ++ c
grouped h t m sc ha r a tu c o1 o2 o3 o4 o5 e1 e2 e3 e4 e5 = rw (e5, e4, e3, e2, e1) (simp append_assoc)

header_is : printed (spell_header 4 64 true) ≡ header_text
header_is = rw (d4, d64) refl

types_are : printed (flat_map spell_type types) ≡ types_text
types_are = refl

maps_are : printed (flat_map (spell_map known_types) maps) ≡ maps_text
maps_are = refl

runs_are : (l n s : ℕ) → printed (flat_map (spell_run (map script_form (scripts 4 0 n s 17))) (runs l)) ≡ run_text
runs_are l n s = rw (d0, d1, d2, d3) refl

ats_are : (l n s : ℕ) → printed (flat_map (spell_at (map script_form (scripts 4 0 n s 17))) (ats l)) ≡ at_text
ats_are l n s = rw (d0, d1, d2, d100, d200) refl

pub whole_text : (n s : ℕ) (o1 o2 o3 o4 o5 : List ℕ) → n ≤ 2000 → o1 ≡ [] ++ (header_text ++ (types_text ++ maps_text)) → o2 ≡ o1 ++ scripts_text 4 0 n s → o3 ≡ o2 ++ (handler_text ++ (run_text ++ at_text)) → o4 ≡ o3 ++ turns_text n → o5 ≡ o4 ++ 125 ∷ 10 ∷ []
    → o5 ≡ printed (spell_scenario (generated n s))
whole_text n s o1 o2 o3 o4 o5 few e1 e2 e3 e4 e5 =
    let b1 = [] ++ header_text in
    let b2 = b1 ++ types_text in
    let b3 = b2 ++ maps_text in
    let b4 = b3 ++ (scripts_text 4 0 n s ++ handler_text) in
    let b5 = b4 ++ run_text in
    let b6 = b5 ++ at_text in
    let b7 = b6 ++ turns_text n in
    grouped header_text types_text maps_text (scripts_text 4 0 n s) handler_text run_text at_text (turns_text n) (125 ∷ 10 ∷ []) o1 o2 o3 o4 o5 e1 e2 e3 e4 e5
    ∙ scenario_printed (generated n s) b1 b2 b3 b4 b5 b6 b7 (b7 ++ 125 ∷ 10 ∷ [])
    (ap (λ (t : List ℕ). [] ++ t) (sym header_is)) (ap (λ (t : List ℕ). b1 ++ t) (sym types_are)) (ap (λ (t : List ℕ). b2 ++ t) (sym maps_are))
    (ap (λ (t : List ℕ). b3 ++ t) (sym (scripts_are 4 0 n s 17 few)))
    (ap (λ (t : List ℕ). b4 ++ t) (sym (runs_are (handler_line 4 n s 17 + 9) n s)))
    (ap (λ (t : List ℕ). b5 ++ t) (sym (ats_are (handler_line 4 n s 17 + 13) n s)))
    (ap (λ (t : List ℕ). b6 ++ t) (sym (turns_are (turns n) ∙ ap (λ (t : List ℕ). codes "turns {\n" ++ (t ++ codes "}\n")) (rounds_are n)))) refl
