use Rattle.std.proofs.Common.{◌≡◌, ◌++◌, take}
use Rattle.std.specs.Prelude.{map}
use Rattle.std.specs.List.{flat_map}
use Rattle.bm_lang.specs.Spelling.{type_form, map_form}
use Rattle.bm_lang.specs.Built.{spell_statement}
use Rattle.bm_lang.specs.Printing.{printed}
use Rattle.bm_lang.proofs.printing.+printing.Given as goal

abbrev pub invariant-put_block-loop-statement : goal.invariant-put_block-loop-statement
invariant-put_block-loop-statement l = l.out.items ≡ l.initial.out.items ++ printed (flat_map (spell_statement (map type_form l.types) (map map_form l.maps)) (take l.statement-index l.statement-items))
