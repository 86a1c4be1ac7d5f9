use Rattle.std.proofs.Common.{◌≡◌, ◌∙◌, None, rules}
use Rattle.bm_lang.specs.Limits.{first_limit}
use Rattle.bm_tool.proofs.Causes.{rejected, as_given}
use Rattle.bm_tool.proofs.prepare.prepare.Goals as goal

pub returns-in-Err-clause-cause : goal.returns-in-Err-clause-cause
returns-in-Err-clause-cause c =
    let s = c.in_ok-scenario.scenario in
    let within : first_limit s ≡ None = search rules in
    rejected c.args.bytes.now s c.rejection.result c.requires c.in_ok-scenario.ensures.reads within (as_given s c.parts.result.now c.rejection.result (c.parts.ensures.value ∙ c.in-Err.ensures.given_back) c.rejection.ensures)
