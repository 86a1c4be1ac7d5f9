-- Blocks and statements as the code holds them.
use Rattle.std.specs.Prelude.{ℕ, List, [], ◌∷◌, Option, Some, None}
use Rattle.bm_lang.specs.declared.keyword.Keyword.TheVariants as word
use Rattle.bm_lang.specs.declared.scenario.Block.{Block}
use Rattle.bm_lang.specs.declared.scenario.Statement.{Statement}
use Rattle.bm_lang.specs.Names.{TypeForm, MapForm}
use Rattle.bm_lang.specs.Spelling.{Word, reserved, spell_block, spell_action}
use Rattle.bm_lang.specs.Fine.{FineBlock, FineAction}

abbrev pub spell_statement : List TypeForm → List MapForm → Statement → List Word
spell_statement types maps s = spell_action types maps s.line s.action

abbrev pub spell_option : List TypeForm → List MapForm → Option Block → List Word
spell_option types maps None = []
spell_option types maps (Some b) = reserved word.Else ∷ spell_block types maps b

abbrev pub FineStatements : List TypeForm → List MapForm → ℕ → List Statement → Type 0
FineStatements types maps d [] = Unit {0}
FineStatements types maps d (s ∷ ss) =
    FineAction types maps d s.action × FineStatements types maps d ss

abbrev pub FineOption : List TypeForm → List MapForm → ℕ → Option Block → Type 0
FineOption types maps d None = Unit {0}
FineOption types maps d (Some b) = FineBlock types maps d b
