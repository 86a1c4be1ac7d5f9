-- What a read does. The bytes left are told where they are known, as over memory; std's words say what happens to
-- them, and told bytes stay told.
use Rattle.std.specs.Prelude.{◌≡◌, ⊤, ℕ, ◌≤◌, List, take}
use Rattle.std.specs.Io.KnownBytes.{Consumes, Keeps, IsAtEnd}
use Rattle.std.specs.declared.option.Option.{Option}
use Rattle.bm_text.specs.declared.input.Read.{Read}
use Rattle.bm_text.specs.declared.input.Read.TheVariants.{Got, End, Failed}
use Rattle.bm_text.specs.Faults.{Rose}

-- a read gives at least one byte, and no more than there is room for
abbrev pub ReadsWithin : Read → ℕ → Type 0
ReadsWithin (Got n) room = (1 ≤ n) × (n ≤ room)
ReadsWithin End room = ⊤
ReadsWithin Failed room = ⊤

-- a read takes the bytes that it gives off the front of those left; the end comes only where nothing is left; a failed
-- read takes nothing
abbrev pub ReadTakes : Option (List ℕ) → Option (List ℕ) → Read → List ℕ → Type 0
ReadTakes old new (Got n) into = Consumes old new (take n into)
ReadTakes old new End into = Keeps old new × IsAtEnd new
ReadTakes old new Failed into = Keeps old new

-- the count of faults rises at a failed read, and at no other
abbrev pub ReadFaults : ℕ → ℕ → Read → Type 0
ReadFaults before after (Got n) = after ≡ before
ReadFaults before after End = after ≡ before
ReadFaults before after Failed = Rose before after
