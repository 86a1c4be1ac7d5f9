use Rattle.std.proofs.Common.{◌≡◌, ◌*◌, length, take}
use Rattle.bm_grace.specs.PlainState.{in_turn}
use Rattle.bm_grace.proofs.domain.words_in_turn.Given as goal

abbrev pub invariant-loop-i : goal.invariant-loop-i
invariant-loop-i l =
    (l.words.items ≡ in_turn (take l.i l.plain) (take l.i l.tracing)) × (length l.words.items ≡ 2 * l.i)
