use Rattle.std.proofs.Common.{◌≡◌, ◌-◌, [], ◌∷◌, length}
use Rattle.std.specs.Prelude.{map}
use Rattle.bm_lang.specs.Left.{left}
use Rattle.bm_lang.specs.Names.{Names}
use Rattle.bm_lang.specs.Grammar.{Values}
use Rattle.bm_lang.specs.Spelling.{number}
use Rattle.bm_lang.specs.Reads.{Read}
use Rattle.bm_lang.proofs.statements.values.Given as goal

abbrev pub invariant-loop : goal.invariant-loop
invariant-loop l = (names : Names) → Read names (Values l.count ∷ []) names (Values (l.count - l.counter) ∷ []) (map number l.values.items) (length l.values.items ≡ l.counter) (left l.fn.tokens) (left l.tokens)
