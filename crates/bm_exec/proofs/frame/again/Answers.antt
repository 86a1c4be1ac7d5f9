use Rattle.std.proofs.Common.{arith, refl}
use Rattle.bm_exec.proofs.frame.again.Goals as goal

pub returns-clause-again : goal.returns-clause-again
returns-clause-again c = record {
  less = _;
  block = c.in_ok-body.body;
  repeats = (let some = c.if-ended-eq0.false in omega (arith, some));
  body = c.in_ok-body.was;
  rest_is = c.statements_of.ensures;
  repeats_is = refl;
  body_is = c.in_ok-body.was;
  leaves_is = refl;
  lock_is = refl;
}
