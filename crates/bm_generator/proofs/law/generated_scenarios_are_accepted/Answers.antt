use Rattle.bm_generator.proofs.Acceptance.{all_accepted}
use Rattle.bm_generator.proofs.LimitLemmas.{within_limits}
use Rattle.bm_generator.proofs.ReadBackLemmas.{reads_back}
use Rattle.bm_generator.proofs.law.generated_scenarios_are_accepted.Goals as goal

pub returns : goal.returns
returns c = λ count start few. record { within_limits = within_limits count start few; accepted = all_accepted count start few; read_back = reads_back count start few }
