-- Worked declarations, whose classes and names are computed.
use Rattle.std.specs.Prelude.{ℕ, List, [], ◌∷◌, Option, Some, None, codes, false}
use Rattle.bm_lang.specs.declared.scenario.MapDeclaration.{MapDeclaration}
use Rattle.bm_lang.specs.declared.scenario.MapKind.{MapKind}
use Rattle.bm_lang.specs.declared.scenario.MapKind.TheVariants as kind
use Rattle.bm_lang.specs.declared.scenario.TypeDeclaration.{TypeDeclaration}

-- a type by its name, its fields and its pad
abbrev pub plain_type : List ℕ → List (List ℕ) → Option ℕ → TypeDeclaration
plain_type name fields pad =
    record { line = 1; name = name; counted = false; node = None; fields = fields; pad = pad }

-- one field; two fields; three; and one with a pad
abbrev pub item : TypeDeclaration
item = plain_type (codes "item") (codes "a" ∷ []) None

abbrev pub pair : TypeDeclaration
pair = plain_type (codes "pair") (codes "a" ∷ codes "b" ∷ []) None

abbrev pub page : TypeDeclaration
page = plain_type (codes "page") (codes "a" ∷ []) (Some 4080)

-- a slot, a list and a tree
abbrev pub map_of : MapKind → List ℕ → MapDeclaration
map_of kind name = record { line = 1; kind = kind; name = name; type_id = record { 0 = 0 } }

abbrev pub three_maps : List MapDeclaration
three_maps =
    map_of kind.List (codes "q") ∷ map_of kind.Slot (codes "spare") ∷ map_of kind.Tree (codes "t")
    ∷ []
