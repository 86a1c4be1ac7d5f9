-- The classes that a scenario's types use. (kernel/bpf/memalloc.c makes a cache for each size.)
use Rattle.std.specs.Prelude.{◌≡◌, ℕ, Bool, false, List, [], ◌∷◌, map, Option, Some, None, nat_eq, slice_get}
use Rattle.std.specs.List.{list_any, filter}
use Rattle.bm_class.specs.Sizes.{class_of_size, size_of_class}
use Rattle.bm_class.specs.declared.watermarks.Marks.{Marks}
use Rattle.bm_class.specs.Watermarks.{marks_of_size}
use Rattle.bm_lang.specs.declared.scenario.TypeDeclaration.{TypeDeclaration}
use Rattle.bm_lang.specs.Names.{object_size as size_of_form}
use Rattle.bm_lang.specs.Spelling.{type_form}

-- the bytes of an object of a declared type
abbrev pub object_size : TypeDeclaration → ℕ
object_size t = size_of_form (type_form t)

-- type t is declared so, and its objects are taken from class c
pub record OfClass (types : List TypeDeclaration) (t c : ℕ) (declared : TypeDeclaration) :
    Type 0 where
  pub found : slice_get types t ≡ Some declared
  pub class : class_of_size (object_size declared) ≡ Some c

abbrev pub is_class : ℕ → Option ℕ → Bool
is_class c None = false
is_class c (Some d) = nat_eq d c

abbrev pub uses_class : ℕ → TypeDeclaration → Bool
uses_class c t = is_class c (class_of_size (object_size t))

-- the classes that some type uses, ascending
abbrev pub opened_classes : List TypeDeclaration → List ℕ
opened_classes types =
    filter (λ c. list_any (uses_class c) types) (0 ∷ 1 ∷ 2 ∷ 3 ∷ 4 ∷ 5 ∷ 6 ∷ 7 ∷ 8 ∷ 9 ∷ 10 ∷ [])

-- each with its watermarks
abbrev pub opened : List TypeDeclaration → List (ℕ × Marks)
opened types = map (λ c. (c, marks_of_size (size_of_class c))) (opened_classes types)
