use Rattle.std.proofs.Common.{List, [], ◌∷◌, length}
use Rattle.std.specs.Prelude.{map, All}
use Rattle.std.specs.List.{flat_map}
use Rattle.bm_lang.specs.Left.{left}
use Rattle.bm_lang.specs.Names.{TypeForm, MapForm}
use Rattle.bm_lang.specs.Known.{knowing}
use Rattle.bm_lang.specs.Grammar.{Runs}
use Rattle.bm_lang.specs.Spelling.{script_form, spell_run}
use Rattle.bm_lang.specs.Fine.{FineRun}
use Rattle.bm_lang.specs.Reads.{Read}
use Rattle.bm_lang.proofs.lines.runs.Given as goal

abbrev pub invariant-loop-place : goal.invariant-loop-place
invariant-loop-place l = (types : List TypeForm) (maps : List MapForm) → Read (knowing l.processors types maps (map script_form l.scripts.items.now)) (Runs ∷ []) (knowing l.processors types maps (map script_form l.scripts.items.now)) (Runs ∷ []) (flat_map (spell_run (map script_form l.scripts.items.now)) l.runs.items) (All (FineRun l.processors (map script_form l.scripts.items.now)) l.runs.items) (left l.fn.tokens) (left l.tokens)

abbrev pub decreases-loop-place : goal.decreases-loop-place
decreases-loop-place l = length (left l.tokens)
