use Rattle.bm_tests_world.specs.Playing.{IsPlaying}
use Rattle.bm_tests_world.proofs.graph_tests.two_objects_go_through_a_list_and_a_tree.Given as goal

abbrev pub invariant-loop-case : goal.invariant-loop-case
invariant-loop-case g l = IsPlaying l.world l.first l.second
