use Rattle.std.proofs.Common.{◌<◌, List, [], ◌∷◌, length}
use Rattle.std.specs.Prelude.{map, All}
use Rattle.bm_lang.specs.Left.{left}
use Rattle.bm_lang.specs.Names.{TypeForm, MapForm, ScriptForm}
use Rattle.bm_lang.specs.Known.{knowing}
use Rattle.bm_lang.specs.Grammar.{TurnNumbers}
use Rattle.bm_lang.specs.Spelling.{number}
use Rattle.bm_lang.specs.Reads.{Read}
use Rattle.bm_lang.proofs.lines.turn_numbers.Given as goal

abbrev pub invariant-loop-processor : goal.invariant-loop-processor
invariant-loop-processor l = (types : List TypeForm) (maps : List MapForm) (scripts : List ScriptForm) → Read (knowing l.processors types maps scripts) (TurnNumbers ∷ []) (knowing l.processors types maps scripts) (TurnNumbers ∷ []) (map number l.turns.items) (All (λ n. n < l.processors) l.turns.items) (left l.fn.tokens) (left l.tokens)

abbrev pub decreases-loop-processor : goal.decreases-loop-processor
decreases-loop-processor l = length (left l.tokens)
