use Rattle.std.proofs.Common.{◌≡◌, ◌&&◌, true, false, [], refl, rules, arith}
use Rattle.std.specs.Prelude.{nat_le}
use Rattle.std.proofs.lemmas.Bool.Decides.{nat_tests}
use Rattle.bm_lang.specs.declared.fault.BadKind.TheVariants as kind
use Rattle.bm_lang.specs.Grammar.{Level}
use Rattle.bm_lang.proofs.Steps.{reading, fails_here, one}
use Rattle.bm_lang.proofs.lines.level.Goals as goal

pub returns-in_err-level : goal.returns-in_err-level
returns-in_err-level c = λ names. search (rules, reading)

pub returns-then-level-lt1 : goal.returns-then-level-lt1
returns-then-level-lt1 c = λ names. let e : nat_le 1 c.in_ok-level.level && nat_le c.in_ok-level.level 3 ≡ false = grind (arith, nat_tests) in fails_here _ _ _ names Level [] kind.Range _ c.in_ok-level.ensures (rw e refl) c.fault.ensures

pub returns : goal.returns
returns c = λ names. let e : nat_le 1 c.in_ok-level.level && nat_le c.in_ok-level.level 3 ≡ true = grind (arith, nat_tests) in one names names Level _ _ _ _ c.in_ok-level.ensures (rw e refl) (omega arith, omega arith)
