use Rattle.std.proofs.Common.{◌≡◌, ◌≤◌, replicate, vec_len, vec_capacity}
use Rattle.bm_obj.specs.WorldState.{opening_word}
use Rattle.bm_obj.proofs.one_world.opening_words.Given as goal

abbrev pub invariant-loop-slot : goal.invariant-loop-slot
invariant-loop-slot l = record { words : l.words.items ≡ replicate l._slot opening_word; number : vec_len l.words ≡ l._slot; room : l.count ≤ vec_capacity l.words }
