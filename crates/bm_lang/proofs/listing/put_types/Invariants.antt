use Rattle.std.proofs.Common.{◌≡◌, ◌++◌, take}
use Rattle.std.specs.List.{flat_map}
use Rattle.bm_lang.specs.Spelling.{spell_type}
use Rattle.bm_lang.specs.Printing.{printed}
use Rattle.bm_lang.proofs.listing.put_types.Given as goal

abbrev pub invariant-loop-declaration : goal.invariant-loop-declaration
invariant-loop-declaration l = l.out.items ≡ l.initial.out.items ++ printed (flat_map spell_type (take l.declaration-index l.types))
