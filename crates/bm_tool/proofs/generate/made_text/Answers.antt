use Rattle.std.proofs.Common.{◌≡◌, ℕ, List, subst}
use Rattle.bm_lang.specs.Printing.{printed}
use Rattle.bm_lang.specs.Spelling.{spell_scenario}
use Rattle.bm_generator.specs.Generated.{generated}
use Rattle.bm_tool.specs.Outcome.{generated_text}
use Rattle.bm_tool.proofs.generate.made_text.Goals as goal

-- the text for the count's number is that for the count
made_of : (text : List ℕ) (n count start : ℕ) → n ≡ count → text ≡ printed (spell_scenario (generated n start)) → text ≡ generated_text count start
unfolding generated_text
made_of text n count start e h = subst (λ (n : ℕ). text ≡ printed (spell_scenario (generated n start))) e h

pub returns-clause-text : goal.returns-clause-text
returns-clause-text c = made_of _ _ _ _ c.number.ensures.same c.in_ok-text.ensures
