use Rattle.std.proofs.Common.{arith, ◌∙◌}
use Rattle.bm_word.proofs.Digits.{goes_over, all_read}
use Rattle.bm_word.proofs.number.digits_value.Goals as goal

pub returns-in_err-checked_mul : goal.returns-in_err-checked_mul
returns-in_err-checked_mul c = c.from_residual.ensures ∙ goes_over c.args.bytes.now c.loop-byte.number c.loop-byte.byte-index c.loop-byte-test.true c.loop-byte.invariant.value (omega (arith, c.in_err-checked_mul.ensures))

pub returns-in_err-number : goal.returns-in_err-number
returns-in_err-number c = c.from_residual-in_err-number.ensures ∙ goes_over c.args.bytes.now c.loop-byte.number c.loop-byte.byte-index c.loop-byte-test.true c.loop-byte.invariant.value (omega (arith, c.in_err-number.ensures))

pub returns : goal.returns
returns c = all_read c.args.bytes.now c.loop-byte.number c.loop-byte.byte-index (omega arith) c.loop-byte.invariant.value (omega arith)
