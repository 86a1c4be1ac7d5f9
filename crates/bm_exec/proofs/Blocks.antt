-- A block is its list of statements.
use Rattle.std.proofs.Common.{◌≡◌, ℕ, ◌+◌, Bool, Option, List, refl, ap}
use mathlib.Core.Path.{fun_ext}
use mathlib.Core.Former.{Count}
use Rattle.bm_lang.specs.declared.scenario.Block.{Block, Block', Row_of-Statement, end_of-Statement, more_of-Statement, items-the_row-Statement}
use Rattle.bm_lang.specs.Limits.{action_cost, block_cost, row_cost}
use Rattle.bm_law_scenario.specs.Declared.{Declared, under}
use Rattle.bm_law_scenario.specs.Held.{Names}
use Rattle.bm_law_scenario.specs.Runs.{Followed, RunsBlock, RunsRow, lock_after}
use Rattle.bm_check.specs.Blocks.{from_inside}
use Rattle.bm_check.specs.declared.name_state.HeldLock.{HeldLock}
use Rattle.bm_check.specs.Statements.{Setting}
use Rattle.bm_check.specs.Values.{Store, SafeAction, SafeBlock, SafeRow}
use Rattle.bm_exec.specs.Stores.{store_of}
use Rattle.bm_exec.specs.Lists.{block_list, Behind, RunsStatement, RunsList, SafeList}
use Rattle.bm_exec.specs.Stack.{Closes}
use Rattle.bm_exec.specs.Cost.{list_cost}

row-runs : (d : Declared) (l : ℕ) (i : Bool) (w : Option (List ℕ)) (n : Count) (row : Row_of-Statement n) → RunsRow d l i (Behind w) row ≡ RunsList d l i w (items-the_row-Statement n row)
row-runs d l i w _ end_of-Statement = refl
row-runs d l i w _ (more_of-Statement line action rest) = ap (Followed (RunsStatement d l i w action)) (row-runs (under (lock_after d.lock action) d) l i w _ rest)

pub block-runs : (d : Declared) (l : ℕ) (i : Bool) (w : Option (List ℕ)) (b : Block) → RunsBlock d l i (Behind w) b ≡ RunsList d l i w (block_list b)
block-runs d l i w (Block' shape row end_line) = row-runs d l i w _ row

row-safe : (e : Setting) (s : Store) (Q : Store → Type 0) (n : Count) (row : Row_of-Statement n) → SafeRow e s row Q ≡ SafeList e s (items-the_row-Statement n row) Q
row-safe e s Q _ end_of-Statement = refl
row-safe e s Q _ (more_of-Statement line action rest) = ap (SafeAction e s action) (fun_ext (λ r. row-safe e r Q _ rest))

pub block-safe : (e : Setting) (names : Names) (k : HeldLock) (b : Block) (Q : Store → Type 0) → SafeBlock e (store_of names k) b Q ≡ SafeList e (store_of names (from_inside k)) (block_list b) (Closes k Q)
block-safe e names k (Block' shape row end_line) Q = row-safe e (store_of names (from_inside k)) (Closes k Q) _ row

row-cost : (n : Count) (row : Row_of-Statement n) → row_cost row ≡ list_cost (items-the_row-Statement n row)
row-cost _ end_of-Statement = refl
row-cost _ (more_of-Statement line action rest) = ap (λ k. action_cost action + k) (row-cost _ rest)

pub block-cost : (b : Block) → block_cost b ≡ list_cost (block_list b)
block-cost (Block' shape row end_line) = row-cost _ row
