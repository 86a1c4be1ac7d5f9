-- What a write and a flush do. The bytes written are told where they are known, as over memory.
use Rattle.std.specs.Prelude.{◌≡◌, ⊤, ℕ, ◌≤◌, List, take, length, None, Some}
use Rattle.std.specs.Io.KnownBytes.{Appends, Keeps}
use Rattle.std.specs.declared.option.Option.{Option}
use Rattle.bm_text.specs.declared.output.Wrote.{Wrote}
use Rattle.bm_text.specs.declared.output.Wrote.TheVariants.{Took, Failed}
use Rattle.bm_text.specs.declared.output.Flushed.{Flushed}
use Rattle.bm_text.specs.declared.output.Flushed.TheVariants.{Done, Failed as FlushFailed}
use Rattle.bm_text.specs.Faults.{Rose}

-- a write takes at least one byte, and no more than it is given
abbrev pub WritesWithin : Wrote → ℕ → Type 0
WritesWithin (Took n) given = (1 ≤ n) × (n ≤ given)
WritesWithin Failed given = ⊤

-- a write appends the bytes that it takes, which are the first of those given; a failed write appends nothing
abbrev pub WriteAdds : Option (List ℕ) → Option (List ℕ) → Wrote → List ℕ → Type 0
WriteAdds old new (Took n) bytes = Appends old new (take n bytes)
WriteAdds old new Failed bytes = Keeps old new

-- the count of faults rises at a failed write, and at no other
abbrev pub WriteFaults : ℕ → ℕ → Wrote → Type 0
WriteFaults before after (Took n) = after ≡ before
WriteFaults before after Failed = Rose before after

-- all that was written is flushed, where the count of flushed bytes is told
abbrev pub AllFlushed : Option ℕ → Option (List ℕ) → Option ℕ → Type 0
AllFlushed None written flushed = ⊤
AllFlushed (Some before) None flushed = ⊤
AllFlushed (Some before) (Some written) flushed = flushed ≡ Some (length written)

-- a flush that was done flushes all that was written; a failed one leaves the count of flushed bytes as it was
abbrev pub FlushSets : Option ℕ → Option (List ℕ) → Option ℕ → Flushed → Type 0
FlushSets before written after Done = AllFlushed before written after
FlushSets before written after FlushFailed = after ≡ before

-- the count of faults rises at a failed flush, and at no other
abbrev pub FlushFaults : ℕ → ℕ → Flushed → Type 0
FlushFaults before after Done = after ≡ before
FlushFaults before after FlushFailed = Rose before after
