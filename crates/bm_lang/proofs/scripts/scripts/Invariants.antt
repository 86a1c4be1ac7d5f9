use Rattle.std.proofs.Common.{◌≡◌}
use Rattle.std.proofs.Common.{ℕ, [], ◌∷◌, length}
use Rattle.std.specs.Prelude.{map}
use Rattle.std.specs.List.{flat_map}
use Rattle.bm_lang.specs.Left.{left}
use Rattle.bm_lang.specs.Known.{knowing}
use Rattle.bm_lang.specs.Grammar.{Scripts}
use Rattle.bm_lang.specs.Spelling.{type_form, map_form, script_form, spell_script}
use Rattle.bm_lang.specs.Fine.{FineScripts}
use Rattle.bm_lang.specs.Reads.{Read}
use Rattle.bm_lang.proofs.scripts.scripts.Given as goal

abbrev pub invariant-loop-place : goal.invariant-loop-place
invariant-loop-place l = record { read : (p : ℕ) → Read (knowing p (map type_form l.types.items.now) (map map_form l.maps.items.now) []) (Scripts ∷ []) (knowing p (map type_form l.types.items.now) (map map_form l.maps.items.now) (map script_form l.scripts.items)) (Scripts ∷ []) (flat_map (spell_script (map type_form l.types.items.now) (map map_form l.maps.items.now)) l.scripts.items) (FineScripts (map type_form l.types.items.now) (map map_form l.maps.items.now) [] l.scripts.items) (left l.fn.tokens) (left l.tokens); same : l.names ≡ map (λ s. s.name) l.scripts.items }

abbrev pub decreases-loop-place : goal.decreases-loop-place
decreases-loop-place l = length (left l.tokens)
