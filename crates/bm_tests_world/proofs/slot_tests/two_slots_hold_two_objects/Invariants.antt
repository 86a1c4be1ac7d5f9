use Rattle.bm_tests_world.proofs.Begun.{TwoLive}
use Rattle.bm_tests_world.proofs.slot_tests.two_slots_hold_two_objects.Given as goal

abbrev pub invariant-loop-case : goal.invariant-loop-case
invariant-loop-case g l = TwoLive l.world l.first l.second
