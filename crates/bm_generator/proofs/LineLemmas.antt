-- The lines of a generated scenario are those of its printed text.
use Rattle.std.proofs.Common.{◌≡◌, ℕ, zero, suc, ◌+◌, ◌≤◌, Bool, true, false, cond, ◌==◌, ◌&&◌, ◌||◌, List, [], ◌∷◌, ◌++◌, length, drop, refl, sym, ap, ◌∙◌, subst, append_assoc, arith, lit≤, Option, Some, None}
use Rattle.std.specs.Prelude.{map, IfSome, if◌then◌else◌}
use Rattle.std.specs.Option.{is_none}
use Rattle.std.specs.List.{list_all, flat_map}
use Rattle.std.proofs.lemmas.List.{append-nil}
use Rattle.bm_lang.specs.declared.keyword.Keyword.TheVariants as word
use Rattle.bm_lang.specs.declared.place.Place.{Place}
use Rattle.bm_lang.specs.declared.scenario.Action.{Drop, Exchange, Lock, Unlock, PushBack, Add}
use Rattle.bm_lang.specs.declared.scenario.Statement.{Statement}
use Rattle.bm_lang.specs.declared.scenario.ScriptKind.{ScriptKind}
use Rattle.bm_lang.specs.declared.scenario.ScriptKind.TheVariants.{Plain, Sleepable, Handler}
use Rattle.bm_lang.specs.Tokens.{Sort, Close, End, Open, Reserved, is_separator, sort_of, tokens, start, pieces, marks_of, after}
use Rattle.bm_lang.specs.Grammar.{is_open}
use Rattle.bm_lang.specs.Spelling.{Word, any, on, name, number, reserved, script_form, script_word, spell_header, spell_type, spell_map, spell_script, spell_run, spell_at, spell_turns, spell_scenario}
use Rattle.bm_lang.specs.Reads.{Spells, mark}
use Rattle.bm_lang.specs.Scenarios.{Reads}
use Rattle.bm_lang.specs.Printing.{printed, gap, begins_line, token_text}
use Rattle.bm_lang.proofs.Scanning.{first_piece, cut_at, moved}
use Rattle.bm_lang.proofs.TextParts.{no_run, through, clear, has_some, take_front, drop_front}
use Rattle.bm_lang.proofs.Printed.{begins}
use Rattle.bm_lang.proofs.Spaced.{ArePrinted}
use Rattle.bm_generator.specs.declared.pieces.Piece.{Piece}
use Rattle.bm_generator.specs.declared.pieces.Piece.TheVariants as piece
use Rattle.bm_generator.specs.Pieces.{pieces as drawn_pieces, behind_pieces}
use Rattle.bm_generator.specs.Generated.{generated, types, maps, room, x, o, g, q, t, spare, on_line, unless_null, block_of, statements, height, heights, body, script, scripts, handler, handler_line, behind_script, runs, ats, turns}
use Rattle.bm_generator.proofs.TextLemmas.{known_types, known_maps, words, words-append, block_words, body_begins, scripts_begin, fits}
use Rattle.bm_generator.proofs.Conditions.{has_conditions}
use Rattle.bm_generator.proofs.ReadBackLemmas.{bool_cases, scenario_printed}

-- ---- words on the lines that they name

abbrev next_line : ℕ → ℕ → ℕ
next_line l g = if g == 10 then l + 1 else l

abbrev OnLine : Option ℕ → ℕ → Type 0 → Type 0
OnLine None l P = P
OnLine (Some k) l P = (k ≡ l) × P

-- the words are printed from line l on, and each that names a line stands on it
abbrev OnLines : ℕ → List Word → Type 0
OnLines l [] = Unit {0}
OnLines l (w ∷ ws) = OnLine w.line l (OnLines (next_line l (gap w ws)) ws)

-- the line behind the words
abbrev line_behind : ℕ → List Word → ℕ
line_behind l [] = l
line_behind l (w ∷ ws) = line_behind (next_line l (gap w ws)) ws

record Lines (l : ℕ) (ws : List Word) (m : ℕ) : Type 0 where
  on_them : OnLines l ws
  behind : line_behind l ws ≡ m

first_line : (o : Option ℕ) (l : ℕ) (P : Type 0) → OnLine o l P → IfSome o (λ k. k ≡ l) × P
first_line None l P h = (tt, h)
first_line (Some k) l P h = h

then_line : (o : Option ℕ) (l : ℕ) (P Q : Type 0) → (P → Q) → OnLine o l P → OnLine o l Q
then_line None l P Q f h = f h
then_line (Some k) l P Q f h = (h.0, f h.1)

or_true : (b : Bool) → b || true ≡ true
or_true true = refl
or_true false = refl

gap_if : (b : Bool) → is_separator (cond b 10 32) ≡ true
gap_if true = refl
gap_if false = refl

gap_separates : (v : Word) (ws : List Word) → is_separator (gap v ws) ≡ true
gap_separates v [] = refl
gap_separates v (w ∷ ws) = gap_if (is_open v.sort || begins_line w)

gap_before : (v : Word) (ws : List Word) → begins ws ≡ true → gap v ws ≡ 10
gap_before v [] h = refl
gap_before v (w ∷ ws) h = rw (h, or_true (is_open v.sort)) refl

line_after : (p : Place) (b : ℕ) → (after p b).line ≡ next_line p.line b
line_after p b = bool_cases (b == 10) (λ e. rw e refl) (λ e. rw e refl)

-- printed words are spelled by their tokens, with their lines
spelled : (ws : List Word) (p : Place) → ArePrinted ws → OnLines p.line ws → Spells (marks_of (pieces p (printed ws))) (ws ++ any End ∷ []) []
spelled [] p h l = (p, [], refl, tt, refl)
spelled (w ∷ ws) p h l =
    let v = token_text w.sort in
    let b = gap w ws in
    let rest = b ∷ printed ws in
    let s = gap_separates w ws in
    let n = through v rest h.0.text (no_run b s) in
    let r = moved p (length v) in
    let one = first_piece (v ++ rest) p (clear v rest h.0.text) (has_some v rest h.0.text) ∙ ap (cut_at p (v ++ rest)) n in
    let two : pieces r rest ≡ pieces (after r b) (printed ws) = rw s refl in
    let three : marks_of (cut_at p (v ++ rest) (length v)) ≡ mark w.sort p ∷ marks_of (pieces (after r b) (printed ws)) =
    ap (λ (c : List ℕ). mark (sort_of c) p ∷ marks_of (pieces r (drop (length v) (v ++ rest)))) (take_front v rest)
    ∙ ap (λ (c : List ℕ). mark (sort_of v) p ∷ marks_of (pieces r c)) (drop_front v rest)
    ∙ ap (λ ps. mark (sort_of v) p ∷ marks_of ps) two
    ∙ ap (λ (c : Sort). mark c p ∷ marks_of (pieces (after r b) (printed ws))) h.0.sort in
    let k = first_line w.line p.line (OnLines (next_line p.line b) ws) l in
    let more = spelled ws (after r b) h.1 (subst (λ (i : ℕ). OnLines i ws) (sym (line_after r b)) k.1) in
    (p, marks_of (pieces (after r b) (printed ws)), ap marks_of one ∙ three, k.0, more)

-- words behind words
both_lines : (l m k : ℕ) (xs ws : List Word) → begins ws ≡ true → OnLines l xs → line_behind l xs ≡ m → OnLines m ws → line_behind m ws ≡ k → OnLines l (xs ++ ws) × (line_behind l (xs ++ ws) ≡ k)
both_lines l m k [] ws b a e more f = (subst (λ (i : ℕ). OnLines i ws) (sym e) more, ap (λ i. line_behind i ws) e ∙ f)
both_lines l m k (x ∷ []) ws b a e more f =
    let one : OnLine x.line l (OnLines (next_line l 10) ws) = then_line x.line l (Unit {0}) (OnLines (next_line l 10) ws) (λ _. subst (λ (i : ℕ). OnLines i ws) (sym e) more) a in
    let two : line_behind (next_line l 10) ws ≡ k = ap (λ i. line_behind i ws) e ∙ f in
    (rw (gap_before x ws b) one, ap (λ i. line_behind (next_line l i) ws) (gap_before x ws b) ∙ two)
both_lines l m k (x ∷ y ∷ xs) ws b a e more f =
    let i = next_line l (gap x (y ∷ xs)) in
    let p = first_line x.line l (OnLines i (y ∷ xs)) a in
    let r = both_lines i m k (y ∷ xs) ws b p.1 e more f in
    (then_line x.line l (OnLines i (y ∷ xs)) (OnLines i (y ∷ (xs ++ ws))) (λ _. r.0) a, r.1)

join : (l m k : ℕ) (xs ws : List Word) → begins ws ≡ true → Lines l xs m → Lines m ws k → Lines l (xs ++ ws) k
join l m k xs ws b h r = let s = both_lines l m k xs ws b h.on_them h.behind r.on_them r.behind in record { on_them = s.0; behind = s.1 }

lines_as : (l m k : ℕ) (xs ys : List Word) → Lines l xs m → xs ≡ ys → m ≡ k → Lines l ys k
lines_as l m k xs ys h e f = subst (λ (i : ℕ). Lines l ys i) f (subst (λ (ws : List Word). Lines l ws m) e h)

-- ---- pieces

piece_lines : (l : ℕ) (p : Piece) → Lines l (words (statements l p)) (l + height p)
piece_lines l (piece.Push a b) =
    rw (block_words (on_line (l + 2) (Lock q) ∷ on_line (l + 3) (PushBack q x) ∷ on_line (l + 4) Unlock ∷ []) (l + 5) (lit≤ tt))
    (record { on_them = (refl, (refl, (omega arith, (omega arith, (omega arith, (omega arith, tt)))))); behind = omega arith })
piece_lines l piece.Pop =
    rw (block_words (on_line (l + 4) (Drop x) ∷ []) (l + 5) (lit≤ tt))
    (record { on_them = (refl, (refl, (omega arith, (omega arith, (omega arith, (omega arith, tt)))))); behind = omega arith })
piece_lines l (piece.Plant k) =
    rw (block_words (on_line (l + 2) (Lock t) ∷ on_line (l + 3) (Add t x) ∷ on_line (l + 4) Unlock ∷ []) (l + 5) (lit≤ tt))
    (record { on_them = (refl, (refl, (omega arith, (omega arith, (omega arith, (omega arith, tt)))))); behind = omega arith })
piece_lines l piece.Pick =
    rw (block_words (on_line (l + 5) (Drop g) ∷ []) (l + 6) (lit≤ tt))
    (record { on_them = (refl, (refl, (omega arith, (omega arith, (omega arith, (omega arith, (omega arith, tt))))))); behind = omega arith })
piece_lines l (piece.Swap v) =
    rw (block_words (on_line (l + 2) (Exchange o spare (Some x)) ∷ unless_null (l + 3) o (on_line (l + 4) (Drop o) ∷ []) (l + 5) ∷ []) (l + 6) (lit≤ tt), block_words (on_line (l + 4) (Drop o) ∷ []) (l + 5) (lit≤ tt))
    (record { on_them = (refl, (refl, (omega arith, (omega arith, (omega arith, (omega arith, (omega arith, tt))))))); behind = omega arith })
piece_lines l piece.Yield = record { on_them = (refl, tt); behind = refl }

body_lines : (l : ℕ) (ps : List Piece) → Lines l (words (body l ps)) (l + heights ps)
body_lines l [] = record { on_them = tt; behind = omega arith }
body_lines l (p ∷ ps) =
    let r = join l (l + height p) (l + height p + heights ps) (words (statements l p)) (words (body (l + height p) ps)) (body_begins (l + height p) ps) (piece_lines l p) (body_lines (l + height p) ps) in
    lines_as l (l + height p + heights ps) (l + (height p + heights ps)) (words (statements l p) ++ words (body (l + height p) ps)) (words (body l (p ∷ ps))) r (sym (words-append (statements l p) (body (l + height p) ps))) (omega arith)

-- ---- scripts

-- a script's words around those of its statements
script_lines : (l m : ℕ) (n : List ℕ) (k : ScriptKind) (ss : List Statement) → length ss ≤ room → begins (words ss) ≡ true → Lines (l + 1) (words ss) m
    → Lines l (spell_script known_types known_maps (record { line = l; name = n; kind = k; body = block_of ss m })) (m + 1)
script_lines l m n k ss le b h =
    let last : Lines m (on m Close ∷ []) (m + 1) = record { on_them = (refl, tt); behind = refl } in
    let inner = join (l + 1) m (m + 1) (words ss) (on m Close ∷ []) refl h last in
    let front : Lines l (on l (Reserved word.Script) ∷ name n ∷ reserved (script_word k) ∷ any Open ∷ []) (l + 1) = front_lines k in
    let whole = join l (l + 1) (m + 1) (on l (Reserved word.Script) ∷ name n ∷ reserved (script_word k) ∷ any Open ∷ []) (words ss ++ on m Close ∷ []) (begins_on (words ss) b) front inner in
    lines_as l (m + 1) (m + 1) _ _ whole (ap (λ (ws : List Word). on l (Reserved word.Script) ∷ name n ∷ reserved (script_word k) ∷ ws) (sym (block_words ss m le))) refl
  where
    begins_on : (ws : List Word) → begins ws ≡ true → begins (ws ++ on m Close ∷ []) ≡ true
    begins_on [] e = refl
    begins_on (w ∷ ws) e = e

    front_lines : (k : ScriptKind) → Lines l (on l (Reserved word.Script) ∷ name n ∷ reserved (script_word k) ∷ any Open ∷ []) (l + 1)
    front_lines Plain = record { on_them = (refl, tt); behind = refl }
    front_lines Sleepable = record { on_them = (refl, tt); behind = refl }
    front_lines Handler = record { on_them = (refl, tt); behind = refl }

processor_lines : (p l n s : ℕ) → n ≤ 2000 → Lines l (spell_script known_types known_maps (script p l (drawn_pieces n s))) (behind_script l (drawn_pieces n s))
processor_lines p l n s few =
    let ps = drawn_pieces n s in
    lines_as l (l + 1 + heights ps + 1) (behind_script l ps) _ _ (script_lines l (l + 1 + heights ps) (112 ∷ (48 + p) ∷ []) Plain (body (l + 1) ps) (fits n s (l + 1) few) (body_begins (l + 1) ps) (body_lines (l + 1) ps)) refl (omega arith)

handler_lines : (l : ℕ) → Lines l (spell_script known_types known_maps (handler l)) (l + 9)
handler_lines l =
    let b = lines_as (l + 1) (l + 1 + 7) (l + 8) (words (statements (l + 1) (piece.Swap 7))) (words (statements (l + 1) (piece.Swap 7))) (piece_lines (l + 1) (piece.Swap 7)) refl (omega arith) in
    lines_as l (l + 8 + 1) (l + 9) _ _ (script_lines l (l + 8) (104 ∷ []) Handler (statements (l + 1) (piece.Swap 7)) (lit≤ tt) refl b) refl (omega arith)

scripts_lines : (k p n s l : ℕ) → n ≤ 2000 → Lines l (flat_map (spell_script known_types known_maps) (scripts k p n s l)) (handler_line k n s l + 9)
scripts_lines zero p n s l few = lines_as l (l + 9) (l + 9) _ _ (handler_lines l) (sym (append-nil (spell_script known_types known_maps (handler l)))) refl
scripts_lines (suc k) p n s l few =
    let spell = spell_script known_types known_maps in
    let m = behind_script l (drawn_pieces n s) in
    let u = behind_pieces n s in
    join l m (handler_line k n u m + 9) (spell (script p l (drawn_pieces n s))) (flat_map spell (scripts k (p + 1) n u m)) (scripts_begin k (p + 1) n u m) (processor_lines p l n s few) (scripts_lines k (p + 1) n u m few)

-- ---- the whole

-- words that name no line
lineless : (l : ℕ) (ws : List Word) → list_all (λ w. is_none w.line) ws ≡ true → OnLines l ws
lineless l [] h = tt
lineless l (w ∷ ws) h = by_line w.line (list_all (λ v. is_none v.line) ws) (OnLines (next_line l (gap w ws)) ws) (lineless (next_line l (gap w ws)) ws) h
  where
    by_line : (k : Option ℕ) (b : Bool) (P : Type 0) → (b ≡ true → P) → is_none k && b ≡ true → OnLine k l P
    by_line None b P f e = f e
    by_line (Some k) b P f e = cc

numbers_lineless : (ns : List ℕ) (ws : List Word) → list_all (λ w. is_none w.line) ws ≡ true → list_all (λ w. is_none w.line) (map number ns ++ ws) ≡ true
numbers_lineless [] ws h = h
numbers_lineless (n ∷ ns) ws h = numbers_lineless ns ws h

last_lines : (l : ℕ) (ns : List ℕ) → Lines l (spell_turns (Some ns) ++ any Close ∷ []) (line_behind l (spell_turns (Some ns) ++ any Close ∷ []))
last_lines l ns =
    let e : list_all (λ w. is_none w.line) ((map number ns ++ any Close ∷ []) ++ any Close ∷ []) ≡ true = rw (append_assoc (map number ns) (any Close ∷ []) (any Close ∷ [])) (numbers_lineless ns (any Close ∷ any Close ∷ []) refl) in
    record { on_them = lineless l (spell_turns (Some ns) ++ any Close ∷ []) e; behind = refl }

header_lines : Lines 1 (spell_header 4 64 true) 5
header_lines = record { on_them = tt; behind = refl }

types_lines : Lines 5 (flat_map spell_type types) 14
types_lines = record { on_them = (refl, (refl, (refl, tt))); behind = refl }

maps_lines : Lines 14 (flat_map (spell_map known_types) maps) 17
maps_lines = record { on_them = (refl, (refl, (refl, tt))); behind = refl }

runs_lines : (n s l : ℕ) → Lines l (flat_map (spell_run (map script_form (scripts 4 0 n s 17))) (runs l)) (l + 4)
runs_lines n s l = record { on_them = (omega arith, (omega arith, (omega arith, (omega arith, tt)))); behind = omega arith }

ats_lines : (n s l : ℕ) → Lines l (flat_map (spell_at (map script_form (scripts 4 0 n s 17))) (ats l)) (l + 2)
ats_lines n s l = record { on_them = (omega arith, (omega arith, tt)); behind = omega arith }

begins-front : (xs ys : List Word) → begins xs ≡ true → begins ys ≡ true → begins (xs ++ ys) ≡ true
begins-front [] ys h k = k
begins-front (x ∷ xs) ys h k = h

scenario_lines : (n s : ℕ) → n ≤ 2000 → OnLines 1 (spell_scenario (generated n s))
scenario_lines n s few =
    let h = handler_line 4 n s 17 in
    let ss = map script_form (scripts 4 0 n s 17) in
    let w6 = spell_turns (Some (turns n)) ++ any Close ∷ [] in
    let w5 = flat_map (spell_at ss) (ats (h + 13)) in
    let w4 = flat_map (spell_run ss) (runs (h + 9)) in
    let w3 = flat_map (spell_script known_types known_maps) (scripts 4 0 n s 17) in
    let end = line_behind (h + 13 + 2) w6 in
    let r5 = join (h + 13) (h + 13 + 2) end w5 w6 refl (ats_lines n s (h + 13)) (last_lines (h + 13 + 2) (turns n)) in
    let runs_are = lines_as (h + 9) (h + 9 + 4) (h + 13) w4 w4 (runs_lines n s (h + 9)) refl (omega arith) in
    let r4 = join (h + 9) (h + 13) end w4 (w5 ++ w6) refl runs_are r5 in
    let r3 = join 17 (h + 9) end w3 (w4 ++ (w5 ++ w6)) refl (scripts_lines 4 0 n s 17 few) r4 in
    let r2 = join 14 17 end (flat_map (spell_map known_types) maps) (w3 ++ (w4 ++ (w5 ++ w6))) (begins-front w3 (w4 ++ (w5 ++ w6)) (scripts_begin 4 0 n s 17) refl) maps_lines r3 in
    let r1 = join 5 14 end (flat_map spell_type types) (flat_map (spell_map known_types) maps ++ (w3 ++ (w4 ++ (w5 ++ w6)))) refl types_lines r2 in
    (join 1 5 end (spell_header 4 64 true) (flat_map spell_type types ++ (flat_map (spell_map known_types) maps ++ (w3 ++ (w4 ++ (w5 ++ w6))))) refl header_lines r1).on_them

pub reads_generated : (n s : ℕ) → n ≤ 2000 → Reads (printed (spell_scenario (generated n s))) (generated n s)
unfolding tokens
reads_generated n s few =
    let ws = spell_scenario (generated n s) in
    record { spelled = spelled ws start (scenario_printed n s few) (scenario_lines n s few); conditions = has_conditions n s few }
