use Rattle.std.proofs.Common.{ℕ, ◌+◌, ◌*◌, ◌-◌, List, [], ◌∷◌, length}
use Rattle.std.specs.Prelude.{map}
use Rattle.std.specs.List.{flat_map}
use Rattle.bm_lang.specs.Left.{left}
use Rattle.bm_lang.specs.Names.{ScriptForm}
use Rattle.bm_lang.specs.Known.{knowing}
use Rattle.bm_lang.specs.Grammar.{Statements}
use Rattle.bm_lang.specs.Spelling.{type_form, map_form}
use Rattle.bm_lang.specs.Built.{FineStatements, spell_statement}
use Rattle.bm_lang.specs.Reads.{Read}
use Rattle.bm_lang.proofs.blocks.+blocks.Given as goal

abbrev pub invariant-block-loop-statements : goal.invariant-block-loop-statements
invariant-block-loop-statements l = (p : ℕ) (scripts : List ScriptForm) → Read (knowing p (map type_form l.types.items.now) (map map_form l.maps.items.now) scripts) (Statements (l.depth - 1) ∷ []) (knowing p (map type_form l.types.items.now) (map map_form l.maps.items.now) scripts) (Statements (l.depth - 1) ∷ []) (flat_map (spell_statement (map type_form l.types.items.now) (map map_form l.maps.items.now)) l.statements.items) (FineStatements (map type_form l.types.items.now) (map map_form l.maps.items.now) (l.depth - 1) l.statements.items) (left l.initial.tokens) (left l.tokens)

abbrev pub decreases-block-loop-statements : goal.decreases-block-loop-statements
decreases-block-loop-statements l = length (left l.tokens)

-- a block opens none where no more may be, and the others go down to it
abbrev pub decreases-block : goal.decreases-block
decreases-block l = 3 * l.depth

abbrev pub decreases-otherwise : goal.decreases-otherwise
decreases-otherwise l = 3 * l.depth + 1

abbrev pub decreases-action : goal.decreases-action
decreases-action l = 3 * l.depth + 2
