-- Parts of a poll. (This project's own.)
use Rattle.std.specs.Prelude.{◌≡◌, ◌<◌, ℕ, Bool, true, false, List, [], ◌∷◌, length, Some}
use Rattle.bm_journal.specs.declared.ids.Domain.{Domain}
use Rattle.bm_journal.specs.declared.units.Units.TheVariants.{Whole}
use Rattle.bm_journal.specs.declared.entry.Entry.{Entry}
use Rattle.bm_journal.specs.declared.entry.Entry.TheVariants as entry
use Rattle.bm_page.specs.declared.units.Seal.{Seal}
use Rattle.bm_cache.specs.Tokens.{Token}
use Rattle.bm_law.specs.Phrases.{AddPhrase}
use Rattle.bm_law.specs.SweepPhrases.{Finishes, PollPhrase}

-- a period of a domain ends
abbrev pub Ends : Domain → List Entry → Type 0
Ends d own = (e : Entry) × (own ≡ e ∷ []) × Finishes d e

-- a poll that sees this number
abbrev pub Sees : ℕ → Domain → ℕ → List Entry → Type 0
Sees c d number own = (poll : PollPhrase c d own) × (poll.seen ≡ number)

-- a parcel of some units, or none
abbrev pub GetsParcel : ℕ → Bool → List Entry → Type 0
GetsParcel c true own =
    (units : List ℕ) × (0 < length units) × (own ≡ entry.Receive c (Whole units) ∷ [])
GetsParcel c false own = own ≡ entry.Receive c (Whole []) ∷ []

-- the first of these units is added to Free
abbrev pub AddsFirst : ℕ → List ℕ → List Entry → Type 0
AddsFirst c [] own = ⊥
AddsFirst c (u ∷ us) own = AddPhrase c u own

-- a unit with this seal
abbrev pub sealed : Seal → Token → Token
sealed x u = record u { seal = Some x }
