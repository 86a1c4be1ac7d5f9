use Rattle.std.proofs.Common.{arith}
use Rattle.std.proofs.lemmas.Bool.Decides.{nat_tests}
use Rattle.bm_lang.proofs.Printed.{no_values_gap, some_values_gap}
use Rattle.bm_lang.proofs.printing.byte_before.Goals as goal

pub returns-then-is_empty : goal.returns-then-is_empty
returns-then-is_empty c = λ n. no_values_gap n c.args.values.now (grind (arith, nat_tests, c.if-is_empty.ensures))

pub returns-else-is_empty : goal.returns-else-is_empty
returns-else-is_empty c = λ n. some_values_gap n c.args.values.now (grind (arith, nat_tests, c.if-is_empty.ensures))
