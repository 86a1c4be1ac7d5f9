use Rattle.bm_law_order.specs.Tie.{whatever}
use Rattle.bm_law_order.proofs.TiesLead.{tied-leads}
use Rattle.bm_law_order.proofs.laws.tie_law.Goals as goal

pub returns : goal.returns
returns c = λ p l since log start now t h. tied-leads whatever p l since log start now t h
