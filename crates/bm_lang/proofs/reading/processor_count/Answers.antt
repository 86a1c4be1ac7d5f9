use Rattle.std.proofs.Common.{◌≡◌, true, false, [], refl, rules, arith}
use Rattle.std.specs.Prelude.{nat_lt}
use Rattle.std.proofs.lemmas.Bool.Decides.{nat_tests}
use Rattle.bm_lang.specs.declared.fault.BadKind.TheVariants as kind
use Rattle.bm_lang.specs.Names.{no_names}
use Rattle.bm_lang.specs.Grammar.{ProcessorCount}
use Rattle.bm_lang.proofs.Steps.{reading, fails_here, one}
use Rattle.bm_lang.proofs.reading.processor_count.Goals as goal

pub returns-in_err-processors : goal.returns-in_err-processors
returns-in_err-processors c = search (rules, reading)

pub returns-then-processors-eq0 : goal.returns-then-processors-eq0
returns-then-processors-eq0 c = let e : nat_lt 0 c.in_ok-processors.processors ≡ false = grind (arith, nat_tests) in fails_here _ _ _ no_names ProcessorCount [] kind.Range _ c.in_ok-processors.ensures (rw e refl) c.fault.ensures

pub returns : goal.returns
returns c = let e : nat_lt 0 c.in_ok-processors.processors ≡ true = grind (arith, nat_tests, c.if-processors-eq0.false) in one _ _ ProcessorCount _ _ _ _ c.in_ok-processors.ensures (rw e refl) (omega (arith, c.if-processors-eq0.false))
