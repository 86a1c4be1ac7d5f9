use Rattle.std.proofs.Common.{◌≡◌, true, false, [], refl, rules, arith}
use Rattle.std.specs.Prelude.{nat_lt}
use Rattle.std.proofs.lemmas.Bool.Decides.{nat_tests}
use Rattle.bm_lang.specs.declared.fault.BadKind.TheVariants as kind
use Rattle.bm_lang.specs.Known.{knowing}
use Rattle.bm_lang.specs.Grammar.{Processor}
use Rattle.bm_lang.proofs.Steps.{reading, fails_here, one}
use Rattle.bm_lang.proofs.lines.processor.Goals as goal

pub returns-in_err-processor : goal.returns-in_err-processor
returns-in_err-processor c = λ types maps scripts. search (rules, reading)

pub returns-then-processor-processors : goal.returns-then-processor-processors
returns-then-processor-processors c = λ types maps scripts. let e : nat_lt c.in_ok-processor.processor c.args.processors ≡ false = grind (arith, nat_tests) in fails_here _ _ _ (knowing c.args.processors types maps scripts) Processor [] kind.Range _ c.in_ok-processor.ensures (rw e refl) c.fault.ensures

pub returns : goal.returns
returns c = λ types maps scripts. let e : nat_lt c.in_ok-processor.processor c.args.processors ≡ true = grind (arith, nat_tests) in one _ _ Processor _ _ _ _ c.in_ok-processor.ensures (rw e refl) (omega arith)
