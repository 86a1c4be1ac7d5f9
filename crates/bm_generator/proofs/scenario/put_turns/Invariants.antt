use Rattle.std.proofs.Common.{◌≡◌, ◌-◌, ◌+◌, ◌++◌}
use Rattle.bm_generator.specs.Texts.{rounds_text}
use Rattle.bm_generator.proofs.scenario.put_turns.Given as goal

abbrev pub invariant-loop : goal.invariant-loop
invariant-loop l = l.out.items ++ rounds_text (l.count + 1 - l.counter) ≡ l.initial.out.items ++ rounds_text l.count
