use Rattle.std.proofs.Common.{◌≡◌, ◌++◌, take}
use Rattle.std.specs.Prelude.{map}
use Rattle.std.specs.List.{flat_map}
use Rattle.bm_lang.specs.Spelling.{script_form, spell_at}
use Rattle.bm_lang.specs.Printing.{printed}
use Rattle.bm_lang.proofs.listing.put_ats.Given as goal

abbrev pub invariant-loop-at : goal.invariant-loop-at
invariant-loop-at l = l.out.items ≡ l.initial.out.items ++ printed (flat_map (spell_at (map script_form l.scripts)) (take l.at-index l.ats))
