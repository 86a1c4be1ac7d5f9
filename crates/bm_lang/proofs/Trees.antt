-- Blocks that the code builds: their words and their conditions.
use Rattle.std.proofs.Common.{◌≡◌, ℕ, ◌-◌, ◌<◌, List, [], ◌∷◌, ◌++◌, refl, sym, ap, ◌∙◌, subst, Option, Some, None, Vec, Global}
use Rattle.std.specs.List.{flat_map}
use mathlib.Core.Former.{Count}
use Rattle.bm_lang.specs.Tokens.{Open, Close}
use Rattle.bm_lang.specs.declared.scenario.Action.{Action, back-Action-If-2}
use Rattle.bm_lang.specs.declared.scenario.Action.TheOpen.{Block-F}
use Rattle.bm_lang.specs.declared.scenario.Action.TheBlock.{hidden-the_row-Statement-0}
use Rattle.bm_lang.specs.declared.scenario.Block.{Block, roll-Block, rolls-Block', Row_of-Statement, end_of-Statement, more_of-Statement, items-the_row-Statement, items_hidden-the_row-Statement-0}
use Rattle.bm_lang.specs.declared.scenario.Statement.{Statement}
use Rattle.bm_lang.specs.Names.{TypeForm, MapForm}
use Rattle.bm_lang.specs.Spelling.{any, on, spell_block, spell_row, spell_else, spell_action}
use Rattle.bm_lang.specs.Built.{spell_statement, spell_option, FineStatements, FineOption}
use Rattle.bm_lang.specs.Fine.{FineElse, FineBlock, FineRow}

pub else_is : (types : List TypeForm) (maps : List MapForm) (o : Option Block) → spell_else types maps (back-Action-If-2 o) ≡ spell_option types maps o
else_is types maps None = refl
else_is types maps (Some b) = refl

row_is : (types : List TypeForm) (maps : List MapForm) (n : Count) (row : Row_of-Statement n) → spell_row types maps row ≡ flat_map (spell_statement types maps) (items-the_row-Statement n row)
row_is types maps _ end_of-Statement = refl
row_is types maps _ (more_of-Statement line action rest) = ap (λ ws. spell_action types maps line action ++ ws) (row_is types maps _ rest)

pub block_is : (types : List TypeForm) (maps : List MapForm) (v : Vec Statement Global) (end : ℕ) → spell_block types maps (roll-Block (record { statements = v; end_line = end })) ≡ any Open ∷ (flat_map (spell_statement types maps) v.items ++ on end Close ∷ [])
block_is types maps v end =
    let b : Block-F Action Block Statement = record { statements = v; end_line = end } in
    ap (spell_block types maps) (rolls-Block' b) ∙ ap (λ ws. any Open ∷ (ws ++ on end Close ∷ [])) (row_is types maps _ (hidden-the_row-Statement-0 v) ∙ ap (flat_map (spell_statement types maps)) (items_hidden-the_row-Statement-0 v))

row_fine : (types : List TypeForm) (maps : List MapForm) (d : ℕ) (n : Count) (row : Row_of-Statement n) → FineStatements types maps d (items-the_row-Statement n row) → FineRow types maps d row
row_fine types maps d _ end_of-Statement f = tt
row_fine types maps d _ (more_of-Statement line action rest) f = (f.0, row_fine types maps d _ rest f.1)

pub block_fine : (types : List TypeForm) (maps : List MapForm) (d : ℕ) (v : Vec Statement Global) (end : ℕ) → 0 < d → FineStatements types maps (d - 1) v.items → FineBlock types maps d (roll-Block (record { statements = v; end_line = end }))
block_fine types maps d v end pos f =
    let b : Block-F Action Block Statement = record { statements = v; end_line = end } in
    let P : Block → Type 0 = λ x. FineBlock types maps d x in
    let Q : List Statement → Type 0 = λ xs. FineStatements types maps (d - 1) xs in
    subst P (sym (rolls-Block' b)) (pos, row_fine types maps (d - 1) _ (hidden-the_row-Statement-0 v) (subst Q (sym (items_hidden-the_row-Statement-0 v)) f))

pub else_fine : (types : List TypeForm) (maps : List MapForm) (d : ℕ) (o : Option Block) → FineOption types maps d o → FineElse types maps d (back-Action-If-2 o)
else_fine types maps d None f = tt
else_fine types maps d (Some b) f = f
