use Rattle.std.proofs.Common.{◌≡◌, ◌==◌, ◌%◌, true, false, [], refl, rules, arith}
use Rattle.std.proofs.lemmas.Bool.Decides.{nat_tests}
use Rattle.bm_lang.specs.declared.fault.BadKind.TheVariants as kind
use Rattle.bm_lang.specs.Grammar.{PadBytes}
use Rattle.bm_lang.proofs.Steps.{reading, fails_here, one}
use Rattle.bm_lang.proofs.types.pad_bytes.Goals as goal

pub returns-in_err-bytes : goal.returns-in_err-bytes
returns-in_err-bytes c = λ p types n c' d fs. search (rules, reading)

pub returns-then-bytes-ne0 : goal.returns-then-bytes-ne0
returns-then-bytes-ne0 c = λ p types n c' d fs. let e : (c.in_ok-bytes.bytes % 8 == 0) ≡ false = grind (arith, nat_tests) in fails_here _ _ _ _ PadBytes [] kind.Range _ c.in_ok-bytes.ensures (rw e refl) c.fault.ensures

pub returns : goal.returns
returns c = λ p types n c' d fs. let e : (c.in_ok-bytes.bytes % 8 == 0) ≡ true = grind (arith, nat_tests) in one _ _ PadBytes _ _ _ _ c.in_ok-bytes.ensures (rw e refl) e
