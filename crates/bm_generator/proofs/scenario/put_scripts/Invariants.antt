use Rattle.std.proofs.Common.{◌≡◌, ◌-◌, ◌++◌}
use Rattle.bm_generator.specs.Texts.{scripts_text}
use Rattle.bm_generator.proofs.scenario.put_scripts.Given as goal

abbrev pub invariant-loop-processor : goal.invariant-loop-processor
invariant-loop-processor l = l.out.items ++ scripts_text (4 - l.processor) l.processor l.count l.draws.state ≡ l.initial.out.items ++ scripts_text 4 0 l.count l.initial.draws.state
