use Rattle.std.proofs.Common.{◌≡◌}
use Rattle.std.proofs.Common.{ℕ, [], ◌∷◌, length}
use Rattle.std.specs.Prelude.{map}
use Rattle.std.specs.List.{flat_map}
use Rattle.bm_lang.specs.Left.{left}
use Rattle.bm_lang.specs.Names.{no_draft}
use Rattle.bm_lang.specs.Known.{drafting}
use Rattle.bm_lang.specs.Grammar.{Types}
use Rattle.bm_lang.specs.Spelling.{type_form, spell_type}
use Rattle.bm_lang.specs.Fine.{FineTypes}
use Rattle.bm_lang.specs.Reads.{Read}
use Rattle.bm_lang.proofs.types.types.Given as goal

abbrev pub invariant-loop-place : goal.invariant-loop-place
invariant-loop-place l = record { read : (p : ℕ) → Read (drafting p [] no_draft) (Types ∷ []) (drafting p (map type_form l.types.items) no_draft) (Types ∷ []) (flat_map spell_type l.types.items) (FineTypes [] l.types.items) (left l.fn.tokens) (left l.tokens); same : l.names ≡ map (λ t. t.name) l.types.items }

abbrev pub decreases-loop-place : goal.decreases-loop-place
decreases-loop-place l = length (left l.tokens)
