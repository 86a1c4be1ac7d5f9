use Rattle.std.proofs.Common.{◌≡◌}
use Rattle.std.proofs.Common.{ℕ, [], ◌∷◌, length}
use Rattle.std.specs.Prelude.{map}
use Rattle.std.specs.List.{flat_map}
use Rattle.bm_lang.specs.Left.{left}
use Rattle.bm_lang.specs.Known.{knowing}
use Rattle.bm_lang.specs.Grammar.{Maps}
use Rattle.bm_lang.specs.Spelling.{type_form, map_form, spell_map}
use Rattle.bm_lang.specs.Fine.{FineMaps}
use Rattle.bm_lang.specs.Reads.{Read}
use Rattle.bm_lang.proofs.maps.maps.Given as goal

abbrev pub invariant-loop-kind : goal.invariant-loop-kind
invariant-loop-kind l = record { read : (p : ℕ) → Read (knowing p (map type_form l.types.items.now) [] []) (Maps ∷ []) (knowing p (map type_form l.types.items.now) (map map_form l.maps.items) []) (Maps ∷ []) (flat_map (spell_map (map type_form l.types.items.now)) l.maps.items) (FineMaps (map type_form l.types.items.now) [] l.maps.items) (left l.fn.tokens) (left l.tokens); same : l.names ≡ map (λ m. m.name) l.maps.items }

abbrev pub decreases-loop-kind : goal.decreases-loop-kind
decreases-loop-kind l = length (left l.tokens)
