-- A generated scenario meets the conditions on scenarios.
use Rattle.std.proofs.Common.{◌≡◌, ℕ, zero, suc, ◌+◌, ◌-◌, ◌≤◌, ◌<◌, true, false, List, [], ◌∷◌, ◌++◌, length, refl, sym, subst, lit≤, lit<, Some, None, codes}
use Rattle.std.specs.Prelude.{All, map, slice_get, IsSomeAnd}
use Rattle.std.proofs.lemmas.List.{take_all}
use Rattle.std.proofs.lemmas.List.Elements.{All-cons, All-nil}
use Rattle.bm_lang.specs.declared.scenario.Action.{Drop, Exchange, Lock, Unlock, PushBack, Add}
use Rattle.bm_lang.specs.declared.scenario.Statement.{Statement}
use Rattle.bm_lang.specs.Built.{FineStatements}
use Rattle.bm_lang.specs.declared.scenario.RunLine.{RunLine}
use Rattle.bm_lang.specs.declared.scenario.AtLine.{AtLine}
use Rattle.bm_lang.specs.declared.scenario.Node.TheVariants as node
use Rattle.bm_lang.specs.Names.{runs_as}
use Rattle.bm_lang.specs.Spelling.{script_form}
use Rattle.bm_lang.specs.Fine.{FineBlock, FineType, FineRun, FineAt, HasConditions}
use Rattle.bm_lang.proofs.Trees.{block_fine}
use Rattle.bm_generator.specs.declared.pieces.Piece.{Piece}
use Rattle.bm_generator.specs.declared.pieces.Piece.TheVariants as piece
use Rattle.bm_generator.specs.Pieces.{pieces, behind_pieces}
use Rattle.bm_generator.specs.Generated.{generated, x, o, g, q, t, spare, on_line, unless_null, block_of, room, statements, height, heights, body, scripts, handler, handler_line, run_line, behind_script, turns}
use Rattle.bm_generator.proofs.TextLemmas.{known_types, known_maps, fits}

abbrev Fine : ℕ → List Statement → Type 0
Fine d ss = FineStatements known_types known_maps d ss

block_is_fine : (d : ℕ) (ss : List Statement) (e : ℕ) → 0 < d → length ss ≤ room → Fine (d - 1) ss → FineBlock known_types known_maps d (block_of ss e)
block_is_fine d ss e some le h = block_fine known_types known_maps d _ e some (subst (λ xs. Fine (d - 1) xs) (sym (take_all room ss le)) h)

append_fine : (d : ℕ) (ss us : List Statement) → Fine d ss → Fine d us → Fine d (ss ++ us)
append_fine d [] us h k = k
append_fine d (s ∷ ss) us h k = (h.0, append_fine d ss us h.1 k)

piece_fine : (l : ℕ) (p : Piece) → Fine 15 (statements l p)
piece_fine l (piece.Push a b) =
    (refl, ((block_is_fine 15 (on_line (l + 2) (Lock q) ∷ on_line (l + 3) (PushBack q x) ∷ on_line (l + 4) Unlock ∷ []) (l + 5) (lit< tt) (lit≤ tt) (refl, (refl, (tt, tt))), tt), tt))
piece_fine l piece.Pop =
    (refl, (refl, (tt, ((block_is_fine 15 (on_line (l + 4) (Drop x) ∷ []) (l + 5) (lit< tt) (lit≤ tt) (tt, tt), tt), tt))))
piece_fine l (piece.Plant k) =
    (refl, ((block_is_fine 15 (on_line (l + 2) (Lock t) ∷ on_line (l + 3) (Add t x) ∷ on_line (l + 4) Unlock ∷ []) (l + 5) (lit< tt) (lit≤ tt) (refl, (refl, (tt, tt))), tt), tt))
piece_fine l piece.Pick =
    (refl, (refl, (refl, (tt, ((block_is_fine 15 (on_line (l + 5) (Drop g) ∷ []) (l + 6) (lit< tt) (lit≤ tt) (tt, tt), tt), tt)))))
piece_fine l (piece.Swap v) =
    let inner = block_is_fine 14 (on_line (l + 4) (Drop o) ∷ []) (l + 5) (lit< tt) (lit≤ tt) (tt, tt) in
    (refl, ((block_is_fine 15 (on_line (l + 2) (Exchange o spare (Some x)) ∷ unless_null (l + 3) o (on_line (l + 4) (Drop o) ∷ []) (l + 5) ∷ []) (l + 6) (lit< tt) (lit≤ tt) (refl, ((inner, tt), tt)), tt), tt))
piece_fine l piece.Yield = (tt, tt)

body_fine : (l : ℕ) (ps : List Piece) → Fine 15 (body l ps)
body_fine l [] = tt
body_fine l (p ∷ ps) = append_fine 15 (statements l p) (body (l + height p) ps) (piece_fine l p) (body_fine (l + height p) ps)

script_fine : (n s l : ℕ) → n ≤ 2000 → FineBlock known_types known_maps 16 (block_of (body (l + 1) (pieces n s)) (l + 1 + heights (pieces n s)))
script_fine n s l few = block_is_fine 16 _ _ (lit< tt) (fits n s (l + 1) few) (body_fine (l + 1) (pieces n s))

turns_fine : (n : ℕ) → All (λ p. p < 4) (turns n)
turns_fine zero = All-nil (λ p. p < 4)
turns_fine (suc n) =
    let P : ℕ → Type 0 = λ p. p < 4 in
    All-cons P 0 (1 ∷ 2 ∷ 3 ∷ turns n) (lit< tt) (All-cons P 1 (2 ∷ 3 ∷ turns n) (lit< tt) (All-cons P 2 (3 ∷ turns n) (lit< tt) (All-cons P 3 (turns n) (lit< tt) (turns_fine n))))

run_fine : (n s l i : ℕ) → i < 4 → IsSomeAnd (slice_get (map script_form (scripts 4 0 n s 17)) i) (λ v. runs_as false v.kind ≡ true) → FineRun 4 (map script_form (scripts 4 0 n s 17)) (run_line l i)
run_fine n s l i lt h = record { processor = lt; script = h }

at_fine : (n s : ℕ) (a : AtLine) → a.processor < 4 → 1 ≤ a.level → a.level ≤ 3 → IsSomeAnd (slice_get (map script_form (scripts 4 0 n s 17)) a.script.0) (λ v. runs_as true v.kind ≡ true) → FineAt 4 (map script_form (scripts 4 0 n s 17)) a
at_fine n s a p low high h = record { processor = p; lowest = low; highest = high; script = h }

job_fine : FineType (record { line = 5; name = codes "job"; counted = true; node = Some node.List; fields = codes "a" ∷ codes "b" ∷ []; pad = None })
job_fine = record { fresh = (refl, (refl, tt)); pad = tt; key = refl; size = refl }

node_fine : FineType (record { line = 8; name = codes "node"; counted = false; node = Some node.Tree; fields = codes "k" ∷ []; pad = None })
node_fine = record { fresh = (refl, tt); pad = tt; key = refl; size = refl }

part_fine : FineType (record { line = 11; name = codes "part"; counted = true; node = None; fields = codes "v" ∷ []; pad = None })
part_fine = record { fresh = (refl, tt); pad = tt; key = refl; size = refl }

handler_fine : (l : ℕ) → FineBlock known_types known_maps 16 (handler l).body
handler_fine l = block_is_fine 16 (statements (l + 1) (piece.Swap 7)) (l + 8) (lit< tt) (lit≤ tt) (piece_fine (l + 1) (piece.Swap 7))

pub has_conditions : (n s : ℕ) → n ≤ 2000 → HasConditions (generated n s)
has_conditions n s few =
    let h = handler_line 4 n s 17 in
    let ss = map script_form (scripts 4 0 n s 17) in
    let l1 = behind_script 17 (pieces n s) in
    let s1 = behind_pieces n s in
    let l2 = behind_script l1 (pieces n s1) in
    let s2 = behind_pieces n s1 in
    let l3 = behind_script l2 (pieces n s2) in
    let s3 = behind_pieces n s2 in
    let R : RunLine → Type 0 = FineRun 4 ss in
    let A : AtLine → Type 0 = FineAt 4 ss in
    let a1 : AtLine = record { line = h + 13; processor = 0; step = 100; level = 1; script = record { 0 = 4 } } in
    let a2 : AtLine = record { line = h + 13 + 1; processor = 1; step = 200; level = 2; script = record { 0 = 4 } } in
    record {
      processors = lit< tt;
      types = (refl, job_fine, (refl, node_fine, (refl, part_fine, tt)));
      maps = (refl, refl, (refl, refl, (refl, refl, tt)));
      scripts = (refl, script_fine n s 17 few, (refl, script_fine n s1 l1 few, (refl, script_fine n s2 l2 few, (refl, script_fine n s3 l3 few, (refl, handler_fine h, tt)))));
      runs = All-cons R (run_line (h + 9) 0) (run_line (h + 9) 1 ∷ run_line (h + 9) 2 ∷ run_line (h + 9) 3 ∷ []) (run_fine n s (h + 9) 0 (lit< tt) refl) (All-cons R (run_line (h + 9) 1) (run_line (h + 9) 2 ∷ run_line (h + 9) 3 ∷ []) (run_fine n s (h + 9) 1 (lit< tt) refl) (All-cons R (run_line (h + 9) 2) (run_line (h + 9) 3 ∷ []) (run_fine n s (h + 9) 2 (lit< tt) refl) (All-cons R (run_line (h + 9) 3) [] (run_fine n s (h + 9) 3 (lit< tt) refl) (All-nil R))));
      ats = All-cons A a1 (a2 ∷ []) (at_fine n s a1 (lit< tt) (lit≤ tt) (lit≤ tt) refl) (All-cons A a2 [] (at_fine n s a2 (lit< tt) (lit≤ tt) (lit≤ tt) refl) (All-nil A));
      turns = turns_fine n;
    }
