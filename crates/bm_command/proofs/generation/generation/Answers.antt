use Rattle.std.proofs.Common.{arith}
use Rattle.std.proofs.lemmas.Bool.{ltb-true, ltb-false}
use Rattle.bm_command.proofs.GenLemmas.{other_length}
use Rattle.bm_command.proofs.generation.generation.Goals as goal
use Rattle.bm_command.proofs.generation.generation.Goals.{in_default-via-then-rest-lt2, in_default-via-else-rest-lt2+else-rest-lt3+else-rest-lt4}

pub returns-in_default : goal.returns-in_default
returns-in_default c = elim c.in_default.branch [
  | in_default-via-then-rest-lt2 w ↦ other_length c.args.rest.now (λ two. omega (arith, ltb-true)) (λ three. omega (arith, ltb-true))
  | in_default-via-else-rest-lt2+else-rest-lt3+else-rest-lt4 w ↦ other_length c.args.rest.now (λ two. omega (arith, ltb-false)) (λ three. omega (arith, ltb-false))
]
