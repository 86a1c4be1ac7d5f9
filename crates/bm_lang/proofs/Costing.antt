-- What statements cost.
use Rattle.std.proofs.Common.{◌≡◌, ℕ, zero, suc, ◌+◌, ◌<◌, ◌≤◌, min, Bool, true, false, ◌||◌, List, length, take, refl, sym, ap, ◌∙◌, arith, Vec, Global}
use Rattle.std.specs.Prelude.{sum_by, nat_lt}
use Rattle.std.proofs.lemmas.List.{take_all}
use Rattle.std.proofs.lemmas.Bool.Decides.{nat_tests}
use Rattle.std.proofs.lemmas.List.Sums.{sum_by-cons}
use Rattle.bm_lang.proofs.Scanning.{bool_cases}
use mathlib.Core.Former.{Count}
use Rattle.bm_lang.specs.declared.scenario.Action.{Action}
use Rattle.bm_lang.specs.declared.scenario.Action.TheOpen.{Block-F}
use Rattle.bm_lang.specs.declared.scenario.Action.TheBlock.{hidden-the_row-Statement-0}
use Rattle.bm_lang.specs.declared.scenario.Block.{Block, out-Block, roll-Block, roll-out-Block, rolls-Block', Row_of-Statement, end_of-Statement, more_of-Statement, items-the_row-Statement, items_hidden-the_row-Statement-0}
use Rattle.bm_lang.specs.declared.scenario.Statement.{Statement}
use Rattle.bm_lang.specs.Limits.{action_cost, block_cost, row_cost, some_below}

abbrev pub costs : List Statement → ℕ
costs ss = sum_by (λ s. action_cost s.action) ss

row_costs : (n : Count) (row : Row_of-Statement n) → row_cost row ≡ costs (items-the_row-Statement n row)
row_costs _ end_of-Statement = refl
row_costs _ (more_of-Statement line action rest) =
    let s : Statement = record { line = line; action = action } in
    ap (λ (n : ℕ). action_cost action + n) (row_costs _ rest) ∙ sym (sum_by-cons (λ (s : Statement). action_cost s.action) s (items-the_row-Statement _ rest))

block_costs : (v : Vec Statement Global) (end : ℕ) → block_cost (roll-Block (record { statements = v; end_line = end })) ≡ costs v.items
block_costs v end =
    let b : Block-F Action Block Statement = record { statements = v; end_line = end } in
    ap block_cost (rolls-Block' b) ∙ row_costs _ (hidden-the_row-Statement-0 v) ∙ ap costs (items_hidden-the_row-Statement-0 v)

pub block_total : (b : Block) (vs : List Statement) (i total : ℕ) → vs ≡ (out-Block b).statements.items → length vs ≤ i → total ≡ min 20001 (costs (take i vs)) → total ≡ min 20001 (block_cost b)
block_total b vs i total e le h =
    let o = out-Block b in
    let c : block_cost b ≡ costs o.statements.items = ap block_cost (sym (roll-out-Block b)) ∙ block_costs o.statements o.end_line in
    let all : take i vs ≡ o.statements.items = take_all i vs le ∙ e in
    h ∙ ap (λ (ss : List Statement). min 20001 (costs ss)) all ∙ ap (min 20001) (sym c)

or_true : (b : Bool) → b || true ≡ true
or_true true = refl
or_true false = refl

or_first : (a b : Bool) → a ≡ true → a || b ≡ true
or_first a b h = rw h refl

or_second : (a b : Bool) → b ≡ true → a || b ≡ true
or_second a b h = rw h (or_true a)

below_of : (i n : ℕ) → nat_lt i n ≡ true → i < n
below_of i n h = grind (arith, nat_tests)

at_of : (i n : ℕ) → i < suc n → nat_lt i n ≡ false → i ≡ n
at_of i n lt h = grind (arith, nat_tests)

pub some_at : (n i : ℕ) (f : ℕ → Bool) → i < n → f i ≡ true → some_below n f ≡ true
some_at zero i f lt h = absurd (omega arith)
some_at (suc n) i f lt h =
    bool_cases (nat_lt i n)
    (λ e. let k : i < n = below_of i n e in or_second (f n) (some_below n f) (some_at n i f k h))
    (λ e. let k : i ≡ n = at_of i n lt e in or_first (f n) (some_below n f) (ap f (sym k) ∙ h))

pub many : (a b x y : ℕ) → x ≡ min 20001 a → y ≡ min 20001 b → 20001 ≤ x + y → nat_lt 20000 (a + b) ≡ true
many a b x y p q h = grind (arith, nat_tests)

pub few : (a b x y : ℕ) → x ≡ min 20001 a → y ≡ min 20001 b → x + y < 20001 → nat_lt 20000 (a + b) ≡ false
few a b x y p q h = grind (arith, nat_tests)

pub none_more : (n m : ℕ) (f : ℕ → Bool) → m ≡ suc n → some_below n f ≡ false → f n ≡ false → some_below m f ≡ false
none_more n m f e h k = rw (e, k, h) refl
