-- Fields of types.
use Rattle.std.specs.Prelude.{◌≡◌, ℕ, true, List, Some, slice_get}
use Rattle.std.specs.List.{list_any}
use Rattle.std.specs.Str.{bytes_eq}
use Rattle.bm_lang.specs.declared.scenario.TypeDeclaration.{TypeDeclaration}

-- type t is declared with a field of this name
pub record HasField (types : List TypeDeclaration) (t : ℕ) (field : List ℕ) : Type 0 where
  pub declared : TypeDeclaration
  pub found : slice_get types t ≡ Some declared
  pub named : list_any (bytes_eq field) declared.fields ≡ true
