use Rattle.std.proofs.Common.{◌≡◌, map, take, Some}
use Rattle.bm_class.specs.Sizes.{class_of_size}
use Rattle.bm_lang.specs.declared.scenario.TypeDeclaration.{TypeDeclaration}
use Rattle.bm_law_scenario.specs.Opened.{object_size}
use Rattle.bm_run.proofs.classes.type_classes.Given as goal

abbrev pub invariant-loop-declared : goal.invariant-loop-declared
invariant-loop-declared l = map Some l.classes.items ≡ map (λ (t : TypeDeclaration). class_of_size (object_size t)) (take l.declared-index l.types)
