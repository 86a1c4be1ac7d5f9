use Rattle.std.proofs.Common.{◌≡◌, ◌<◌, ◌^◌, drop}
use Rattle.bm_word.specs.Number.{number_behind}
use Rattle.bm_word.proofs.number.digits_value.Given as goal

-- the number so far, and the digits that are left
abbrev pub invariant-loop-byte : goal.invariant-loop-byte
invariant-loop-byte l = record { fits : l.number < 2 ^ 64; value : number_behind l.number (drop l.byte-index l.bytes) ≡ number_behind 0 l.bytes }
