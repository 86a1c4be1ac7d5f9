use Rattle.std.proofs.Common.{refl}
use Rattle.bm_check.proofs.law.worked_statements.Goals as goal

pub returns : goal.returns
returns c = record {
  bound = refl;
  unbound = refl;
  null = refl;
  bound_twice = refl;
  no_lock = refl;
  second_lock = refl;
  under_lock = refl;
  handler = refl;
}
