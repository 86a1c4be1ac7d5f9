use Rattle.bm_world.specs.LivingState.{lives_of}
use Rattle.bm_tests_world.proofs.slot_tests.exchange_once.Goals as goal

pub exchange-found-requires-clause-lives : goal.exchange-found-requires-clause-lives
exchange-found-requires-clause-lives g c = c.held.ensures (lives_of c.args.world.now.slots) c.requires.first c.requires.second
