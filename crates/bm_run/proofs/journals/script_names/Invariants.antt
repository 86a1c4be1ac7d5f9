use Rattle.std.proofs.Common.{◌≡◌, map, take}
use Rattle.bm_lang.specs.declared.scenario.Script.{Script}
use Rattle.bm_run.proofs.journals.script_names.Given as goal

abbrev pub invariant-loop-script : goal.invariant-loop-script
invariant-loop-script l = l.names.items ≡ map (λ (s : Script). s.name) (take l.script-index l.scripts)
