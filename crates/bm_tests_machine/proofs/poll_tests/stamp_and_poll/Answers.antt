use Rattle.bm_tests_machine.proofs.poll_tests.stamp_and_poll.Goals as goal

pub poll-seen-requires-clause-batch : goal.poll-seen-requires-clause-batch
poll-seen-requires-clause-batch g c m = absurd (c.requires.free m)
