use Rattle.std.proofs.Common.{◌≡◌, ◌++◌, take}
use Rattle.std.specs.Prelude.{map}
use Rattle.std.specs.List.{flat_map}
use Rattle.bm_lang.specs.Spelling.{type_form, map_form, spell_script}
use Rattle.bm_lang.specs.Printing.{printed}
use Rattle.bm_lang.proofs.listing.put_scripts.Given as goal

abbrev pub invariant-loop-script : goal.invariant-loop-script
invariant-loop-script l = l.out.items ≡ l.initial.out.items ++ printed (flat_map (spell_script (map type_form l.types) (map map_form l.maps)) (take l.script-index l.scripts))
