use Rattle.std.proofs.Common.{◌≡◌, ◌≤◌, length, map, take, vec_capacity}
use Rattle.bm_cache.specs.Tokens.{number_of}
use Rattle.bm_closing.proofs.inbox.write_numbers.Given as goal

abbrev pub invariant-loop-unit : goal.invariant-loop-unit
invariant-loop-unit l = (l.numbers.items ≡ map number_of (take l.unit-index l.unit-items)) × (length l.unit-items ≤ vec_capacity l.numbers)
