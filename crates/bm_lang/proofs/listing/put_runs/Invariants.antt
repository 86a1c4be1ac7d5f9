use Rattle.std.proofs.Common.{◌≡◌, ◌++◌, take}
use Rattle.std.specs.Prelude.{map}
use Rattle.std.specs.List.{flat_map}
use Rattle.bm_lang.specs.Spelling.{script_form, spell_run}
use Rattle.bm_lang.specs.Printing.{printed}
use Rattle.bm_lang.proofs.listing.put_runs.Given as goal

abbrev pub invariant-loop-run : goal.invariant-loop-run
invariant-loop-run l = l.out.items ≡ l.initial.out.items ++ printed (flat_map (spell_run (map script_form l.scripts)) (take l.run-index l.runs))
