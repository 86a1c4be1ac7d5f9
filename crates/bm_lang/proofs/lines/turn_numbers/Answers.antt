use Rattle.std.proofs.Common.{◌≡◌, ◌<◌, true, false, [], ◌∷◌, refl, arith}
use Rattle.std.specs.Prelude.{map, nat_lt}
use Rattle.std.proofs.lemmas.Bool.Decides.{nat_tests}
use Rattle.std.proofs.lemmas.List.{append-nil}
use Rattle.bm_lang.specs.declared.fault.BadKind.TheVariants as kind
use Rattle.bm_lang.specs.Known.{knowing}
use Rattle.bm_lang.specs.Grammar.{TurnNumbers, is_number}
use Rattle.bm_lang.specs.Spelling.{number}
use Rattle.bm_lang.proofs.Pushes.{map-push, All-push}
use Rattle.bm_lang.proofs.Steps.{fails_here, fails_going, as_read, going, absent, read_shift, read_nothing, number_passed}
use Rattle.bm_lang.proofs.lines.turn_numbers.Goals as goal

pub returns-then-processor-processors : goal.returns-then-processor-processors
returns-then-processor-processors c = λ types maps scripts. let e : nat_lt c.in-Some.processor c.args.processors ≡ false = grind (arith, nat_tests) in fails_going _ (c.loop-processor.invariant types maps scripts) (fails_here _ _ _ (knowing c.args.processors types maps scripts) TurnNumbers [] kind.Range _ c.in-Some.ensures (rw e refl) c.fault.ensures)

pub loop-processor-smaller : goal.loop-processor-smaller
loop-processor-smaller c = rw c.in-Some.ensures (omega arith)

pub loop-processor-preserved : goal.loop-processor-preserved
loop-processor-preserved c = λ types maps scripts. let e : nat_lt c.in-Some.processor c.args.processors ≡ true = grind (arith, nat_tests) in rw (c.in_ok-push.ensures.items, map-push) (going (c.loop-processor.invariant types maps scripts) (read_shift _ _ _ TurnNumbers (TurnNumbers ∷ []) [] (TurnNumbers ∷ []) _ (number c.in-Some.processor) [] _ _ _ _ _ c.in-Some.ensures (rw e refl) refl tt (read_nothing _ _ _ _ refl) (λ u. u)) (λ f u. All-push (λ n. n < c.args.processors) c.loop-processor.turns.items c.in-Some.processor f (omega arith)))

pub loop-processor-init : goal.loop-processor-init
loop-processor-init c = λ types maps scripts. rw c.new-turns.ensures.items (as_read (read_nothing _ _ _ _ refl) refl (λ u k d lt. absurd (omega arith)))

pub returns : goal.returns
returns c = λ types maps scripts. as_read (going (c.loop-processor.invariant types maps scripts) (absent _ TurnNumbers is_number _ _ (λ t h. number_passed t _ h) c.in_default.ensures) (λ f u. f)) (append-nil (map number c.loop-processor.turns.items)) (λ f. f)
