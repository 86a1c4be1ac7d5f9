use Rattle.bm_world.specs.LivingState.{lives_of}
use Rattle.bm_tests_world.proofs.graph_tests.push_once.Goals as goal

pub push-requires-clause-lives : goal.push-requires-clause-lives
push-requires-clause-lives g c = (c.pick-object.ensures (lives_of c.args.world.now.slots) c.requires.first c.requires.second).living

pub push-requires-clause-keyed : goal.push-requires-clause-keyed
push-requires-clause-keyed g c ordered = (c.pick-object.ensures (lives_of c.args.world.now.slots) c.requires.first c.requires.second).keyed
