use Rattle.bm_tool.proofs.Causes.{cause_of_left, renamed}
use Rattle.bm_tool.proofs.top.run.Goals as goal

pub returns-clause-cause : goal.returns-clause-cause
returns-clause-cause g c =
    cause_of_left c.serve.result _ c.as_slice.result.now _ _ (renamed _ _ _ c.as_slice.ensures.value c.in_ok-bytes.ensures.all) c.serve.ensures.cause
