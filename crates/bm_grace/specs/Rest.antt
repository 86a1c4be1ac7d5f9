-- What calls do where all is at rest: no section is open on any processor, and nobody but this side calls. (This project's
-- own: a processor that has the machine to itself.)
use Rattle.std.specs.Prelude.{◌≢◌, ℕ}
use Rattle.bm_journal.specs.declared.ids.Domain.{Domain}

-- Where all is at rest, a call leaves it so, and both numbers as they were.
abbrev pub StaysAtRest : {W : Type 0} → (W → Domain → ℕ → Type 0) → W → W → Type 0
StaysAtRest rest before now = (d : Domain) (n : ℕ) → rest before d n → rest now d n

-- .. and the number of this domain goes from one to another, and the other domain's stays as it was
pub record MovesNumber {W : Type 0} (rest : W → Domain → ℕ → Type 0) (domain : Domain) (from to : ℕ)
    (before now : W) : Type 0 where
  pub moves : rest before domain from → rest now domain to
  pub other : (d : Domain) (n : ℕ) → d ≢ domain → rest before d n → rest now d n
