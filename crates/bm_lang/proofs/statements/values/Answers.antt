use Rattle.std.proofs.Common.{◌≡◌, suc, ◌-◌, ◌+◌, refl, arith}
use Rattle.std.specs.Prelude.{map}
use Rattle.std.proofs.lemmas.List.{append-nil}
use Rattle.bm_lang.specs.Spelling.{number}
use Rattle.bm_lang.proofs.Pushes.{map-push}
use Rattle.bm_lang.proofs.Steps.{failed, fails_going, as_read, going}
use Rattle.std.proofs.Common.{length-append}
use Rattle.bm_lang.proofs.Stating.{one_value, last_value, missing_value, first_value}
use Rattle.bm_lang.proofs.statements.values.Goals as goal

pub returns-in_err-value : goal.returns-in_err-value
returns-in_err-value c = let k : c.args.count - c.loop.counter ≡ suc (c.args.count - (c.loop.counter + 1)) = omega arith in λ names. failed _ _ _ _ _ _ _ _ _ c.from_residual.ensures.1 (fails_going _ (c.loop.invariant names) (missing_value _ _ _ _ names _ _ k c.in_err-value.ensures))

pub loop-preserved : goal.loop-preserved
loop-preserved c = let k : c.args.count - c.loop.counter ≡ suc (c.args.count - (c.loop.counter + 1)) = omega arith in λ names. rw (c.in_ok-push.ensures.items, map-push) (going (c.loop.invariant names) (one_value names _ _ c.in_ok-value.value.0 _ _ _ k c.in_ok-value.ensures) (λ f u. rw length-append (omega (arith, f))))

pub loop-init : goal.loop-init
loop-init c = let k : c.args.count - 0 ≡ c.args.count = omega arith in λ names. rw c.new-values.ensures.items (as_read (first_value names _ _ _ k) refl (λ u. refl))

pub returns : goal.returns
returns c = let k : c.args.count - c.loop.counter ≡ 0 = omega arith in λ names. as_read (going (c.loop.invariant names) (last_value names _ _ k) (λ f u. f)) (append-nil (map number c.loop.values.items)) (λ f. omega (arith, f))
