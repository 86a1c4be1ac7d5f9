use Rattle.bm_law_order.proofs.Stories.{story-reads}
use Rattle.bm_law_order.proofs.laws.story_law.Goals as goal

pub returns-clause-leads : goal.returns-clause-leads
returns-clause-leads c = λ p story s f h. (story-reads p story s f h).leads

pub returns-clause-steady : goal.returns-clause-steady
returns-clause-steady c = λ p story s f h. (story-reads p story s f h).steady
