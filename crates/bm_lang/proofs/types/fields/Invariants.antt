use Rattle.std.proofs.Common.{◌≡◌}
use Rattle.std.proofs.Common.{ℕ, Bool, List, [], ◌∷◌, length, Option}
use Rattle.std.specs.Prelude.{map}
use Rattle.bm_lang.specs.declared.scenario.Node.{Node}
use Rattle.bm_lang.specs.Left.{left}
use Rattle.bm_lang.specs.Names.{TypeForm}
use Rattle.bm_lang.specs.Known.{drafting, form}
use Rattle.bm_lang.specs.Grammar.{Fields}
use Rattle.bm_lang.specs.Spelling.{name}
use Rattle.bm_lang.specs.Fine.{Fresh}
use Rattle.bm_lang.specs.Reads.{Read}
use Rattle.bm_lang.proofs.types.fields.Given as goal

abbrev pub invariant-loop-field : goal.invariant-loop-field
invariant-loop-field l = record { read : (p : ℕ) (types : List TypeForm) (n : List ℕ) (c : Bool) (d : Option Node) → Read (drafting p types (form n c d [] 0)) (Fields ∷ []) (drafting p types (form n c d l.fields.items 0)) (Fields ∷ []) (map name l.fields.items) (Fresh [] l.fields.items) (left l.fn.tokens) (left l.tokens); same : l.names ≡ l.fields.items }

abbrev pub decreases-loop-field : goal.decreases-loop-field
decreases-loop-field l = length (left l.tokens)
