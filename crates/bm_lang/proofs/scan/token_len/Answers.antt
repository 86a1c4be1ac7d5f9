use Rattle.std.proofs.Common.{arith}
use Rattle.bm_lang.proofs.Scanning.{run_length-bound}
use Rattle.bm_lang.proofs.scan.token_len.Goals as goal

pub returns-else-len-eq0-clause-in_range : goal.returns-else-len-eq0-clause-in_range
returns-else-len-eq0-clause-in_range c = omega (arith, c.run_len-len.ensures, run_length-bound c.args.bytes.now)
