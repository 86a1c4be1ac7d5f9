-- How deep blocks nest. (The grammar lets sixteen stand one inside the other.)
use Rattle.std.specs.Prelude.{ℕ, zero, suc, Bool, true, false, ◌&&◌}
use Rattle.bm_lang.specs.declared.scenario.Action.{Action, If', Repeat, Section, Held-Action-If-2, None', Some'}
use Rattle.bm_lang.specs.declared.scenario.Block.{Block, Block', Row_of-Statement, end_of-Statement, more_of-Statement}

-- in a statement so many more blocks stand one inside the other, at most; a block is itself one of them
abbrev mutual
  pub action_fits : ℕ → Action → Bool
  action_fits d (If' x body otherwise) = block_fits d body && else_fits d otherwise
  action_fits d (Repeat n body) = block_fits d body
  action_fits d (Section body) = block_fits d body
  action_fits d a = true

  pub else_fits : ℕ → Held-Action-If-2 → Bool
  else_fits d None' = true
  else_fits d (Some' body) = block_fits d body

  pub block_fits : ℕ → Block → Bool
  block_fits zero (Block' shape row end_line) = false
  block_fits (suc d) (Block' shape row end_line) = row_fits d row

  pub row_fits : ℕ → {m : _} → Row_of-Statement m → Bool
  row_fits d end_of-Statement = true
  row_fits d (more_of-Statement line action rest) = action_fits d action && row_fits d rest
