-- What holds of each generated scenario.
use Rattle.std.specs.Prelude.{◌≡◌, ℕ, ◌≤◌, List, None, length}
use Rattle.bm_lang.specs.Limits.{first_limit}
use Rattle.bm_lang.specs.Spelling.{spell_scenario}
use Rattle.bm_lang.specs.Printing.{printed}
use Rattle.bm_lang.specs.declared.scenario.Parts.{Parts}
use Rattle.bm_lang.specs.Scenarios.{Reads, ReadsButLines}
use Rattle.bm_check.specs.Scripts.{AllAccepted}
use Rattle.bm_generator.specs.Generated.{generated}

-- the text of a generated scenario
abbrev pub text_of : ℕ → ℕ → List ℕ
text_of count start = printed (spell_scenario (generated count start))

-- it exceeds no limit, all its scripts are accepted, and its printed text reads as it, line numbers apart
pub record GeneratedLaw (count start : ℕ) : Type 0 where
  pub within_limits : first_limit (generated count start) ≡ None
  pub accepted : AllAccepted (generated count start)
  pub read_back : ReadsButLines (text_of count start) (generated count start)

-- .. for every count up to 2,000 and every start
abbrev pub AllGenerated : Type 0
AllGenerated = (count start : ℕ) → count ≤ 2000 → GeneratedLaw count start

-- The text of a generated scenario is within the greatest input, and reads as it, with its lines; whatever it reads as exceeds no
-- limit and has accepted scripts alone.
pub record ServedLaw (count start : ℕ) : Type 0 where
  pub short : length (text_of count start) ≤ 1048576
  pub has_reading : Reads (text_of count start) (generated count start)
  pub within_limits : (s : Parts) → Reads (text_of count start) s → first_limit s ≡ None
  pub accepted : (s : Parts) → Reads (text_of count start) s → AllAccepted s

-- .. for every count up to 2,000 and every start
abbrev pub AllServed : Type 0
AllServed = (count start : ℕ) → count ≤ 2000 → ServedLaw count start
