use Rattle.bm_tests_machine.proofs.desk_tests.works_twice.Goals as goal

pub work-requires-2-clause-stands : goal.work-requires-2-clause-stands
work-requires-2-clause-stands g c = c.work.ensures.back c.is_done.ensures
