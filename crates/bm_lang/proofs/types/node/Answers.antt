use Rattle.std.proofs.Common.{[], None, refl}
use Rattle.bm_lang.specs.Known.{drafting, form}
use Rattle.bm_lang.specs.Grammar.{NodeOfType}
use Rattle.bm_lang.specs.Reads.{begins_node}
use Rattle.bm_lang.proofs.Steps.{one, absent, node_passed, node_known}
use Rattle.bm_lang.proofs.types.node.Goals as goal

pub returns-in-Some : goal.returns-in-Some
returns-in-Some c = λ p types n c'. one _ _ NodeOfType _ _ _ _ c.in-Some.ensures (rw node_known refl) tt

pub returns-in-None : goal.returns-in-None
returns-in-None c = λ p types n c'. absent _ NodeOfType begins_node _ _ (node_passed (drafting p types (form n c' None [] 0))) c.in-None.ensures
