use Rattle.std.proofs.Common.{◌≡◌, map, take}
use Rattle.bm_lang.specs.declared.scenario.TypeDeclaration.{TypeDeclaration}
use Rattle.bm_run.proofs.journals.type_names.Given as goal

abbrev pub invariant-loop-declared : goal.invariant-loop-declared
invariant-loop-declared l = l.names.items ≡ map (λ (t : TypeDeclaration). t.name) (take l.declared-index l.types)
