-- Names put one after the other.
use Rattle.std.specs.Prelude.{◌≡◌, ℕ, Bool, true, false, List, [], ◌∷◌, ◌++◌, Option, Some, None}
use Rattle.std.specs.List.{list_any}
use Rattle.std.specs.Str.{bytes_eq}
use Rattle.bm_journal.specs.WellFormed.{all_differ}

-- a name that differs from all is put behind them, and another changes nothing
abbrev pub Puts : Bool → List (List ℕ) → List ℕ → List (List ℕ) → Type 0
Puts true names name after = (list_any (bytes_eq name) names ≡ false) × (after ≡ names ++ name ∷ [])
Puts false names name after = list_any (bytes_eq name) names ≡ true

-- names that differ are kept, and no others
abbrev pub Differ : List (List ℕ) → Option (List (List ℕ)) → Type 0
Differ names (Some kept) = (kept ≡ names) × (all_differ names ≡ true)
Differ names None = all_differ names ≡ false
