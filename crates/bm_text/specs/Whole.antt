-- What happens to the bytes left while a whole source is read.
use Rattle.std.specs.Prelude.{◌≡◌, ℕ, List, ◌++◌, length}
use Rattle.std.specs.Io.KnownBytes.{Consumes}
use Rattle.std.specs.declared.option.Option.{Option}

-- some of the bytes left were taken off their front, and told bytes are still told
abbrev pub TakesSome : Option (List ℕ) → Option (List ℕ) → Type 0
TakesSome old new = (taken : List ℕ) × Consumes old new taken

-- that, and it was so many bytes
abbrev pub TakesCount : Option (List ℕ) → Option (List ℕ) → ℕ → Type 0
TakesCount old new count = (taken : List ℕ) × Consumes old new taken × (length taken ≡ count)

-- the bytes taken were appended to a list
abbrev pub TakesInto : Option (List ℕ) → Option (List ℕ) → List ℕ → List ℕ → Type 0
TakesInto old new before after =
    (taken : List ℕ) × Consumes old new taken × (after ≡ before ++ taken)
