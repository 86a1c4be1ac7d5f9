use Rattle.std.proofs.Common.{◌≡◌, map, take}
use Rattle.bm_lang.specs.declared.scenario.MapDeclaration.{MapDeclaration}
use Rattle.bm_run.proofs.journals.map_names.Given as goal

abbrev pub invariant-loop-declared : goal.invariant-loop-declared
invariant-loop-declared l = l.names.items ≡ map (λ (m : MapDeclaration). m.name) (take l.declared-index l.maps)
