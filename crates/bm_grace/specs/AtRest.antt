-- When all processors on one thread are at rest. (This project's own.)
use Rattle.std.specs.Prelude.{◌≡◌, ◌⊎◌, ℕ, ◌%◌, ◌<◌, Option, None, IfSome, List, slice_index, if◌then◌else◌}
use Rattle.std.proofs.Common.{ap}
use Rattle.bm_journal.specs.declared.ids.Domain.{Domain}
use Rattle.bm_journal.specs.declared.ids.Domain.TheVariants.{Plain, Tracing}
use Rattle.bm_grace.specs.Kept.{parity}
use Rattle.bm_grace.specs.Known.{side}
use Rattle.bm_grace.specs.PlainState.{DomainState, PlainState, domain_in, is_processor, known_in, side_in}

-- The section words of the first n processors are even, so none of these is inside of a section.
abbrev pub AreEven : ℕ → List ℕ → Type 0
AreEven n words = (i : ℕ) → i < n → slice_index words i % 2 ≡ 0

-- No section of either domain is open. The domain has this number, and nobody a period of it in progress where it is even.
pub record IsAtRest (state : PlainState) (domain : Domain) (number : ℕ) : Type 0 where
  pub plain : AreEven state.processors state.plain.words
  pub tracing : AreEven state.processors state.tracing.words
  pub number_is : (domain_in domain state).number ≡ number
  pub no_driver : number % 2 ≡ 0 → (domain_in domain state).driver ≡ None

-- A side has the period that is in progress, if one is: its number is the domain's where that is odd, and else 0.
abbrev pub IsSole : ℕ → ℕ → Type 0
IsSole own number = ((number % 2 ≡ 0) × (own ≡ 0)) ⊎ ((number % 2 ≡ 1) × (own ≡ number))

-- A period in progress of this domain is that of one of n processors, and the number is odd exactly where one is.
pub record IsDriven (n : ℕ) (here : DomainState) : Type 0 where
  pub parity_is : here.number % 2 ≡ parity here.driver
  pub few : IfSome here.driver (λ p. p < n)

-- what nobody has in progress, this side hasn't
no-driver :
    (here : DomainState) (processor : ℕ) → here.driver ≡ None → (side_in processor here).number ≡ 0
no-driver here processor none =
    ap (λ (o : Option ℕ). if is_processor processor o then here.number else 0) none

pub idle-at-rest :
    (g : PlainState) (d : Domain) (n : ℕ) → IsAtRest g d n → n % 2 ≡ 0
    → (side d (known_in g)).number ≡ 0
idle-at-rest g Plain n rest even = no-driver g.plain g.processor (rest.no_driver even)
idle-at-rest g Tracing n rest even = no-driver g.tracing g.processor (rest.no_driver even)
