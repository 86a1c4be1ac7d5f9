use Rattle.std.proofs.Common.{◌≡◌, ◌++◌, take}
use Rattle.std.specs.Prelude.{map}
use Rattle.std.specs.List.{flat_map}
use Rattle.bm_lang.specs.Spelling.{type_form, spell_map}
use Rattle.bm_lang.specs.Printing.{printed}
use Rattle.bm_lang.proofs.listing.put_maps.Given as goal

abbrev pub invariant-loop-declaration : goal.invariant-loop-declaration
invariant-loop-declaration l = l.out.items ≡ l.initial.out.items ++ printed (flat_map (spell_map (map type_form l.types)) (take l.declaration-index l.maps))
