use Rattle.bm_generator.specs.Generated.{generated}
use Rattle.bm_tool.specs.Outcome.{generated_text}
use Rattle.bm_tool.proofs.generate.generated_texts_are_servable.Goals as goal

pub returns : goal.returns
unfolding generated_text
returns c count start le =
    let law = c.generated_texts_are_accepted.ensures count start le in record {
      within = law.short;
      reading = generated count start;
      reads = law.has_reading;
      limits = law.within_limits;
      accepted = law.accepted;
    }
