-- What is read of a generated scenario's text.
use Rattle.std.proofs.Common.{◌≡◌, ℕ, ◌≤◌, None}
use Rattle.bm_lang.specs.declared.scenario.Parts.{Parts}
use Rattle.bm_lang.specs.Limits.{first_limit}
use Rattle.bm_lang.specs.Scenarios.{Reads}
use Rattle.bm_lang.specs.Spelling.{spell_scenario}
use Rattle.bm_lang.specs.Printing.{printed}
use Rattle.bm_lang.proofs.Complete.{without_lines}
use Rattle.bm_check.specs.Scripts.{AllAccepted}
use Rattle.bm_generator.specs.Generated.{generated}
use Rattle.bm_generator.specs.Laws.{ServedLaw}
use Rattle.bm_generator.proofs.ReadBackLemmas.{reads_back}
use Rattle.bm_generator.proofs.WordSorts.{both_say}
use Rattle.bm_generator.proofs.AlikeParts.{like_generated}
use Rattle.bm_generator.proofs.LineLemmas.{reads_generated}
use Rattle.bm_generator.proofs.SizeLemmas.{text_short}

read_of : (n start : ℕ) → n ≤ 2000 → (s : Parts) → Reads (printed (spell_scenario (generated n start))) s → (first_limit s ≡ None) × AllAccepted s
read_of n start few s h =
    let bytes = printed (spell_scenario (generated n start)) in
    like_generated n start few s h.conditions (both_say bytes s (generated n start) (without_lines bytes s h) (reads_back n start few))

pub served : (n start : ℕ) → n ≤ 2000 → ServedLaw n start
served n start few = record {
  short = text_short n start few;
  has_reading = reads_generated n start few;
  within_limits = λ s h. (read_of n start few s h).0;
  accepted = λ s h. (read_of n start few s h).1;
}
