-- A generated scenario is within the limits.
use Rattle.std.proofs.Common.{◌≡◌, ℕ, zero, suc, ◌+◌, ◌*◌, ◌≤◌, false, List, [], ◌∷◌, length, refl, sym, ap, ap₂, ◌∙◌, arith, lit≤, Some, None, Vec, Global}
use Rattle.std.specs.Prelude.{sum_by, slice_get, nat_lt}
use Rattle.std.proofs.lemmas.Bool.Decides.{nat_tests}
use Rattle.std.proofs.lemmas.List.{take_all}
use Rattle.std.proofs.lemmas.List.Sums.{sum_by-append, sum_by-cons}
use mathlib.Core.Former.{Count}
use Rattle.bm_lang.specs.declared.scenario.Action.{Action}
use Rattle.bm_lang.specs.declared.scenario.Action.TheOpen.{Block-F}
use Rattle.bm_lang.specs.declared.scenario.Action.TheBlock.{hidden-the_row-Statement-0}
use Rattle.bm_lang.specs.declared.scenario.Block.{Block, roll-Block, rolls-Block', Row_of-Statement, end_of-Statement, more_of-Statement, items-the_row-Statement, items_hidden-the_row-Statement-0}
use Rattle.bm_lang.specs.declared.scenario.Statement.{Statement}
use Rattle.bm_lang.specs.declared.scenario.RunLine.{RunLine}
use Rattle.bm_lang.specs.declared.scenario.AtLine.{AtLine}
use Rattle.bm_lang.specs.Limits.{action_cost, block_cost, row_cost, script_cost, cost_on, statements_of, first_limit}
use Rattle.bm_lang.proofs.Costing.{costs}
use Rattle.bm_generator.specs.declared.pieces.Piece.{Piece}
use Rattle.bm_generator.specs.declared.pieces.Piece.TheVariants as piece
use Rattle.bm_generator.specs.Pieces.{pieces, behind_pieces}
use Rattle.bm_lang.specs.declared.scenario.Action.{Drop, Exchange, Lock, Unlock, PushBack, Add}
use Rattle.bm_generator.specs.Generated.{generated, x, o, g, q, t, spare, on_line, unless_null, block_of, room, statements, height, heights, body, script, scripts, handler, handler_line, run_line, behind_script, turns}
use Rattle.bm_generator.proofs.TextLemmas.{fits, length_pieces}

row_costs : (n : Count) (row : Row_of-Statement n) → row_cost row ≡ costs (items-the_row-Statement n row)
row_costs _ end_of-Statement = refl
row_costs _ (more_of-Statement line action rest) =
    let s : Statement = record { line = line; action = action } in
    ap (λ (n : ℕ). action_cost action + n) (row_costs _ rest) ∙ sym (sum_by-cons (λ (s : Statement). action_cost s.action) s (items-the_row-Statement _ rest))

block_costs : (v : Vec Statement Global) (end : ℕ) → block_cost (roll-Block (record { statements = v; end_line = end })) ≡ costs v.items
block_costs v end =
    let b : Block-F Action Block Statement = record { statements = v; end_line = end } in
    ap block_cost (rolls-Block' b) ∙ row_costs _ (hidden-the_row-Statement-0 v) ∙ ap costs (items_hidden-the_row-Statement-0 v)

block_of_cost : (ss : List Statement) (end : ℕ) → length ss ≤ room → block_cost (block_of ss end) ≡ costs ss
block_of_cost ss end le = block_costs _ end ∙ ap costs (take_all room ss le)

-- a piece costs at most six statements
piece_cost : (l : ℕ) (p : Piece) → costs (statements l p) ≤ 6
piece_cost l (piece.Push a b) = rw (block_of_cost (on_line (l + 2) (Lock q) ∷ on_line (l + 3) (PushBack q x) ∷ on_line (l + 4) Unlock ∷ []) (l + 5) (lit≤ tt)) (lit≤ tt)
piece_cost l piece.Pop = rw (block_of_cost (on_line (l + 4) (Drop x) ∷ []) (l + 5) (lit≤ tt)) (lit≤ tt)
piece_cost l (piece.Plant k) = rw (block_of_cost (on_line (l + 2) (Lock t) ∷ on_line (l + 3) (Add t x) ∷ on_line (l + 4) Unlock ∷ []) (l + 5) (lit≤ tt)) (lit≤ tt)
piece_cost l piece.Pick = rw (block_of_cost (on_line (l + 5) (Drop g) ∷ []) (l + 6) (lit≤ tt)) (lit≤ tt)
piece_cost l (piece.Swap v) = rw (block_of_cost (on_line (l + 2) (Exchange o spare (Some x)) ∷ unless_null (l + 3) o (on_line (l + 4) (Drop o) ∷ []) (l + 5) ∷ []) (l + 6) (lit≤ tt), block_of_cost (on_line (l + 4) (Drop o) ∷ []) (l + 5) (lit≤ tt)) (lit≤ tt)
piece_cost l piece.Yield = lit≤ tt

body_cost : (l : ℕ) (ps : List Piece) → costs (body l ps) ≤ 6 * length ps
body_cost l [] = omega arith
body_cost l (p ∷ ps) = omega (arith, sum_by-append (λ (s : Statement). action_cost s.action) (statements l p) (body (l + height p) ps), piece_cost l p, body_cost (l + height p) ps)

-- a line that runs a processor's script costs at most 12,010, and one that runs the handler 15
script_costs : (p l n s : ℕ) → n ≤ 2000 → script_cost (Some (script p l (pieces n s))) ≤ 12010
script_costs p l n s few =
    omega (arith, block_of_cost (body (l + 1) (pieces n s)) (l + 1 + heights (pieces n s)) (fits n s (l + 1) few), body_cost (l + 1) (pieces n s), length_pieces n s)

handler_costs : (l : ℕ) → script_cost (Some (handler l)) ≤ 16
handler_costs l = omega (arith, block_of_cost (statements (l + 1) (piece.Swap 7)) (l + 8) (lit≤ tt), piece_cost (l + 1) (piece.Swap 7))

length_turns : (n : ℕ) → length (turns n) ≡ 4 * n
length_turns zero = refl
length_turns (suc n) = omega (arith, length_turns n)

-- ---- the statements of each processor

few_turns : (n : ℕ) → n ≤ 2000 → nat_lt 100000 (length (turns n)) ≡ false
few_turns n few = let e = length_turns n in grind (arith, nat_tests)

few_statements : (a : ℕ) → a ≤ 20000 → nat_lt 20000 a ≡ false
few_statements a h = grind (arith, nat_tests)

sum4 : {X : Type 0} (h : X → ℕ) (a b c d : X) → sum_by h (a ∷ b ∷ c ∷ d ∷ []) ≡ h a + (h b + (h c + (h d + 0)))
sum4 h a b c d =
    sum_by-cons h a (b ∷ c ∷ d ∷ []) ∙ ap (λ (n : ℕ). h a + n) (sum_by-cons h b (c ∷ d ∷ []) ∙ ap (λ (n : ℕ). h b + n) (sum_by-cons h c (d ∷ []) ∙ ap (λ (n : ℕ). h c + n) (sum_by-cons h d [])))

sum2 : {X : Type 0} (h : X → ℕ) (a b : X) → sum_by h (a ∷ b ∷ []) ≡ h a + (h b + 0)
sum2 h a b = sum_by-cons h a (b ∷ []) ∙ ap (λ (n : ℕ). h a + n) (sum_by-cons h b [])

-- the scripts of a scenario, by their places
each_cost : (k p n s l i : ℕ) → n ≤ 2000 → script_cost (slice_get (scripts k p n s l) i) ≤ 12010
each_cost zero p n s l zero few = omega (arith, handler_costs l)
each_cost zero p n s l (suc i) few = lit≤ tt
each_cost (suc k) p n s l zero few = script_costs p l n s few
each_cost (suc k) p n s l (suc i) few = each_cost k (p + 1) n (behind_pieces n s) (behind_script l (pieces n s)) i few

handler_place : (n s : ℕ) → script_cost (slice_get (scripts 4 0 n s 17) 4) ≤ 16
handler_place n s = handler_costs _

-- the statements of a processor, line by line
both_sums : (n s p : ℕ) → statements_of (generated n s) p
    ≡ (cost_on p 0 (script_cost (slice_get (scripts 4 0 n s 17) 0)) + (cost_on p 1 (script_cost (slice_get (scripts 4 0 n s 17) 1)) + (cost_on p 2 (script_cost (slice_get (scripts 4 0 n s 17) 2)) + (cost_on p 3 (script_cost (slice_get (scripts 4 0 n s 17) 3)) + 0))))
    + (cost_on p 0 (script_cost (slice_get (scripts 4 0 n s 17) 4)) + (cost_on p 1 (script_cost (slice_get (scripts 4 0 n s 17) 4)) + 0))
both_sums n s p =
    let l = handler_line 4 n s 17 in
    let h : RunLine → ℕ = λ r. cost_on p r.processor (script_cost (slice_get (scripts 4 0 n s 17) r.script.0)) in
    let k : AtLine → ℕ = λ a. cost_on p a.processor (script_cost (slice_get (scripts 4 0 n s 17) a.script.0)) in
    let a1 : AtLine = record { line = l + 13; processor = 0; step = 100; level = 1; script = record { 0 = 4 } } in
    let a2 : AtLine = record { line = l + 13 + 1; processor = 1; step = 200; level = 2; script = record { 0 = 4 } } in
    ap₂ (λ (a b : ℕ). a + b) (sum4 h (run_line (l + 9) 0) (run_line (l + 9) 1) (run_line (l + 9) 2) (run_line (l + 9) 3)) (sum2 k a1 a2)

bounded : (n s p : ℕ) (a b : ℕ) → statements_of (generated n s) p ≡ a + b → a ≤ 12010 → b ≤ 16 → nat_lt 20000 (statements_of (generated n s) p) ≡ false
bounded n s p a b e h k = few_statements (statements_of (generated n s) p) (omega (arith, e))

pub within_limits : (n s : ℕ) → n ≤ 2000 → first_limit (generated n s) ≡ None
within_limits n s few =
    let ss = scripts 4 0 n s 17 in
    let cost : ℕ → ℕ = λ i. script_cost (slice_get ss i) in
    let b0 = bounded n s 0 (cost 0 + (0 + (0 + (0 + 0)))) (cost 4 + (0 + 0)) (both_sums n s 0) (omega (arith, each_cost 4 0 n s 17 0 few)) (omega (arith, handler_place n s)) in
    let b1 = bounded n s 1 (0 + (cost 1 + (0 + (0 + 0)))) (0 + (cost 4 + 0)) (both_sums n s 1) (omega (arith, each_cost 4 0 n s 17 1 few)) (omega (arith, handler_place n s)) in
    let b2 = bounded n s 2 (0 + (0 + (cost 2 + (0 + 0)))) (0 + (0 + 0)) (both_sums n s 2) (omega (arith, each_cost 4 0 n s 17 2 few)) (lit≤ tt) in
    let b3 = bounded n s 3 (0 + (0 + (0 + (cost 3 + 0)))) (0 + (0 + 0)) (both_sums n s 3) (omega (arith, each_cost 4 0 n s 17 3 few)) (lit≤ tt) in
    rw (few_turns n few, b0, b1, b2, b3) refl
