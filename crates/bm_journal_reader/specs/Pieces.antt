-- What slices hold.
use Rattle.std.specs.Prelude.{ℕ, List, map}
use denote.Ref.{Bor}
use Rattle.bm_journal.specs.EntryText.{Words}

-- the texts of slices
abbrev pub texts : List (Bor (List ℕ)) → Words
texts slices = map (λ s. s.now) slices
