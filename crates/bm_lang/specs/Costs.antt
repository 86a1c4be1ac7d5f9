-- The statements of a block that there may be.
use Rattle.std.specs.Prelude.{ℕ, Option, Some, None}
use Rattle.bm_lang.specs.declared.scenario.Block.{Block}
use Rattle.bm_lang.specs.Limits.{block_cost}

abbrev pub option_cost : Option Block → ℕ
option_cost None = 0
option_cost (Some b) = block_cost b
