use Rattle.std.proofs.Common.{◌≡◌, ℕ, Option, None, replicate, ap, ◌∙◌, arith}
use Rattle.bm_world.specs.declared.wait.Wait.{Wait}
use Rattle.bm_world.proofs.waiting.fill.Goals as goal

pub returns : goal.returns
returns c =
    let none : Option Wait = None in
    let all : c.loop-number._number ≡ 65536 = omega (arith, c.loop-number.auto._number-end, c.loop-number-test.false) in
    c.loop-number.invariant.items ∙ ap (λ (k : ℕ). replicate k none) all
