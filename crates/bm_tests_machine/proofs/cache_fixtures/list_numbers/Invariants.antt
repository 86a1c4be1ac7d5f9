use Rattle.std.proofs.Common.{◌≡◌, map, take}
use Rattle.bm_cache.specs.Tokens.{number_of}
use Rattle.bm_tests_machine.proofs.cache_fixtures.list_numbers.Given as goal

abbrev pub invariant-loop-unit : goal.invariant-loop-unit
invariant-loop-unit g l = l.numbers.items ≡ map number_of (take l.unit-index l.unit-items)
