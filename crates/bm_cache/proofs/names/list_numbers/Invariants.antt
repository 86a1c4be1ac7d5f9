use Rattle.std.proofs.Common.{◌≡◌, map, take}
use Rattle.bm_cache.specs.Tokens.{number_of}
use Rattle.bm_cache.proofs.names.list_numbers.Given as goal

abbrev pub invariant-loop-unit : goal.invariant-loop-unit
invariant-loop-unit l = l.numbers.items ≡ map number_of (take l.unit-index l.unit-items)
