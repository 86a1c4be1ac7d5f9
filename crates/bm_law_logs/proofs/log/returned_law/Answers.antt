use Rattle.bm_law_logs.proofs.ReturnedLog.{returned-log}
use Rattle.bm_law_logs.proofs.log.returned_law.Goals as goal

pub returns : goal.returns
returns c = λ s p log last h d i l. returned-log s p log last h d i l
